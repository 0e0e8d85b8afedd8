-- Runs and sectors worked out by hand: what the definitions make of a few old bytes.
-- Assumes nothing.
use mathlib.Core.Path.{◌≡◌, refl}
use mathlib.Core.Bool.{Bool, false, ◌||◌}
use mathlib.Core.List.{List, [], ◌∷◌}
use Prim.Native.Nat.{ℕ}
use lib.Dec.{eqb}
use Rattle.clean.specs.Clean.{cleared_from}
use Rattle.clean.specs.Runs.{open_at, run_before, runs_at, flat}
use Rattle.clean.specs.Sectors.{held_at, numbers_at}

-- the old bytes by their indices
unfoldable pub among : List ℕ → ℕ → Bool
among [] k = false
among (i ∷ is) k = eqb k i || among is k

-- an 0xFF parts two runs, one byte is a run, and so is what ends with the bank, here of 8 bytes
pub three_runs : flat (runs_at (among (0 ∷ 2 ∷ 3 ∷ 7 ∷ [])) 9) ≡ 0 ∷ 1 ∷ 2 ∷ 2 ∷ 7 ∷ 1 ∷ []
unfolding among runs_at open_at run_before flat
three_runs = refl

pub all_old : flat (runs_at (among (0 ∷ 1 ∷ 2 ∷ 3 ∷ [])) 5) ≡ 0 ∷ 4 ∷ []
unfolding among runs_at open_at run_before flat
all_old = refl

pub none_old : flat (runs_at (among []) 9) ≡ []
unfolding among runs_at open_at run_before flat
none_old = refl

-- a run over the end of a sector is one, and both sectors hold of it; the third holds none
abbrev pub over : ℕ → Bool
over = among (511 ∷ 512 ∷ [])

pub one_run : flat (runs_at over 515) ≡ 511 ∷ 2 ∷ []
unfolding among runs_at open_at run_before flat
one_run = refl

pub two_sectors : numbers_at (held_at over 515) 3 ≡ 1 ∷ 2 ∷ []
unfolding among held_at numbers_at
two_sectors = refl

-- what is old becomes 0xFF, and what is not stays, 0xFF or not
pub some_cleared : cleared_from (among (1 ∷ 2 ∷ [])) 0 (5 ∷ 6 ∷ 7 ∷ 8 ∷ 0xFF ∷ []) ≡ 5 ∷ 0xFF ∷ 0xFF ∷ 8 ∷ 0xFF ∷ []
unfolding among cleared_from
some_cleared = refl
