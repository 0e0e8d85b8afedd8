-- The runs of old bytes, told byte by byte from the lowest on. Which bytes are old is given: nothing here knows of a bank.
-- Assumes nothing.
use Rattle.std.specs.Prelude.{Bool, cond, List, [], ◌∷◌, ◌++◌, ℕ, zero, suc, ◌+◌, ◌-◌, eqb}
use Rattle.bank.specs.declared.stretch.Stretch.{Stretch}

-- how many old bytes stand right before index k, one behind the other
unfoldable pub open_at : (ℕ → Bool) → ℕ → ℕ
open_at old zero = 0
open_at old (suc k) = cond (old k) (open_at old k + 1) 0

-- n bytes right before index k are a run, if there are any
unfoldable pub run_before : ℕ → ℕ → List Stretch
run_before k n = cond (eqb n 0) [] (record { offset = k - n; length = n } ∷ [])

-- the one that goes on up to index k
abbrev pub open_run : (ℕ → Bool) → ℕ → List Stretch
open_run old k = run_before k (open_at old k)

-- the runs of which the byte behind the last one lies before index k, lowest first: a run goes on until a byte is not old
unfoldable pub runs_at : (ℕ → Bool) → ℕ → List Stretch
runs_at old zero = []
runs_at old (suc k) = cond (old k) (runs_at old k) (runs_at old k ++ open_run old k)

-- as the list has them: "by offset and length"
unfoldable pub flat : List Stretch → List ℕ
flat [] = []
flat (r ∷ runs) = r.offset ∷ r.length ∷ flat runs
