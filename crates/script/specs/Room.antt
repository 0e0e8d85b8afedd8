-- A room of bytes, the first of which are lent.
-- Assumes nothing.
use Rattle.std.specs.Prelude.{◌≡◌, cond, List, ℕ, leb, Option, Some, None, min, take, replicate}
use Rattle.script.specs.declared.room.Room.{Room}

-- each byte is that one
abbrev pub filled_with : (n : ℕ) → ℕ → ℕ → Room n
filled_with n byte lent = record { bytes = replicate n byte; lent = lent }

abbrev pub IsFilled : (n : ℕ) → ℕ → ℕ → Room n → Type 0
IsFilled n byte lent r = r ≡ filled_with n byte lent

-- what is lent of it; all of it, should more be. A caller's proof does not know how long the room's array is, so that the part ends within it is said too
pub record IsPart (n : ℕ) (room : Room n) (r : List ℕ) : Type 0 where
  pub part : r ≡ take room.lent room.bytes
  pub within : r ≡ take (min room.lent n) room.bytes

-- so much is lent where there is room for it, else as much as before
pub record IsLend (n : ℕ) (before : Room n) (count : ℕ) (after : Room n) (r : Option (Unit {0})) : Type 0 where
  pub told : r ≡ cond (leb count n) (Some tt) None
  pub stands : after ≡ cond (leb count n) (record before { lent = count }) before
