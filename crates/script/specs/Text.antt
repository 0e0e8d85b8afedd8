-- The fields of a line (docs/BOARD.md, docs/REQUESTS.md).
-- Assumes nothing.
use Rattle.std.specs.Prelude.{◌≡◌, Bool, false, cond, List, ℕ, suc, ◌-◌, eqb, length, take, drop, get_or, ◌==◌}
use Rattle.std.specs.List.{position_or_len}

-- the place of the first blank, or the end
abbrev pub blank_at : List ℕ → ℕ
blank_at text = position_or_len (λ b. b == 0x20) text

abbrev pub IsFirst : List ℕ → List ℕ → Type 0
IsFirst text r = r ≡ take (blank_at text) text

abbrev pub IsRest : List ℕ → List ℕ → Type 0
IsRest text r = r ≡ drop (suc (blank_at text)) text

abbrev pub IsEndsInBlank : List ℕ → Bool → Type 0
IsEndsInBlank text r = r ≡ cond (eqb (length text) 0) false (eqb (get_or text (length text - 1) 0) 0x20)
