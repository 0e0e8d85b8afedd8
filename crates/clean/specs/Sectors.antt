-- The sectors that hold old bytes. Which bytes are old is given.
-- Assumes nothing.
use Rattle.std.specs.Prelude.{Bool, true, false, ◌&&◌, cond, List, [], ◌∷◌, ◌++◌, ℕ, zero, suc, ◌/◌, eqb}
use Rattle.layout.specs.Layout.{sector_size}

-- whether one of the first k bytes is old and lies in the sector behind the first s
unfoldable pub held_at : (ℕ → Bool) → ℕ → ℕ → Bool
held_at old zero s = false
held_at old (suc k) s = cond (old k && eqb (k / sector_size) s) true (held_at old k s)

-- the numbers, counted from 1, of those among the first m sectors that have a mark, ascending
unfoldable pub numbers_at : (ℕ → Bool) → ℕ → List ℕ
numbers_at marked zero = []
numbers_at marked (suc m) = numbers_at marked m ++ cond (marked m) (suc m ∷ []) []
