-- Bytes as hex digits in upper case (02 §2; docs/REQUESTS.md).
-- Assumes nothing.
use Rattle.std.specs.Prelude.{ℕ, ◌/◌, List, [], ◌∷◌}
use Rattle.digits.specs.Digit.{digit_of}

-- the two digits of each byte, the higher first
unfoldable pub digits_spelt : List ℕ → List ℕ
digits_spelt [] = []
digits_spelt (b ∷ bytes) = digit_of (b / 16) ∷ digit_of b ∷ digits_spelt bytes
