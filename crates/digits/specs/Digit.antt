-- Hex digits (01, 'Hex text': "Digits in either case").
-- Assumes nothing.
use Rattle.std.specs.Prelude.{◌≡◌, ℕ, ◌+◌, ◌-◌, ◌%◌, Bool, cond, ◌&&◌, nat_le, nat_lt}

-- the value of a digit, 0 to 9, A to F or a to f; 16 for what is none
unfoldable pub value_of : ℕ → ℕ
value_of c =
    cond (nat_le 0x30 c && nat_le c 0x39) (c - 0x30)
    (cond (nat_le 0x41 c && nat_le c 0x46) (c - 0x41 + 10)
    (cond (nat_le 0x61 c && nat_le c 0x66) (c - 0x61 + 10) 16))

unfoldable pub is_digit : ℕ → Bool
is_digit c = nat_lt (value_of c) 16

-- the digit of a value, in upper case (02, §2: "upper-case digits"); of a value above 15 that of its last place
unfoldable pub digit_of : ℕ → ℕ
digit_of v = cond (nat_lt (v % 16) 10) (0x30 + v % 16) (0x41 + (v % 16 - 10))

abbrev pub IsValue : ℕ → ℕ → Type 0
IsValue byte r = r ≡ value_of byte

abbrev pub IsDigit : ℕ → ℕ → Type 0
IsDigit value r = r ≡ digit_of value
