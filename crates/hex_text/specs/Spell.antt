-- What digits spell (01, 'Hex text': "Digits in either case").
-- Assumes nothing.
use Rattle.std.specs.Prelude.{ℕ, ◌+◌, ◌*◌, cond, ◌&&◌, List, [], ◌∷◌, drop}
use Rattle.digits.specs.Digit.{value_of, is_digit}

-- the byte that two digits spell; 256 where they are none
unfoldable pub byte_of : ℕ → ℕ → ℕ
byte_of a b = cond (is_digit a && is_digit b) (value_of a * 16 + value_of b) 256

-- the bytes that digits spell, two by two; a last one alone spells none
unfoldable pub digit_bytes : List ℕ → List ℕ
digit_bytes [] = []
digit_bytes (a ∷ []) = 256 ∷ []
digit_bytes (a ∷ b ∷ digits) = byte_of a b ∷ digit_bytes digits

-- those of a line, behind its first byte
abbrev pub line_bytes : List ℕ → List ℕ
line_bytes line = digit_bytes (drop 1 line)
