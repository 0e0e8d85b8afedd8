-- What a field spells in digits, and the digits that are printed of bytes (docs/BOARD.md, docs/REQUESTS.md).
-- Assumes nothing.
use Rattle.std.specs.Prelude.{◌≡◌, Bool, ◌&&◌, cond, ℕ, ◌+◌, ◌*◌, ◌/◌, ◌%◌, eqb, ltb, leb, Option, Some, None, length, get_or}
use Rattle.std.specs.List.{list_all}
use mathlib.Core.List.{List, [], ◌∷◌, foldl}
use Rattle.buffer.specs.Place.{front_of}
use Rattle.digits.specs.Digit.{value_of}
use Rattle.layout.specs.declared.Bank.{Bank}
use Rattle.layout.specs.declared.Bank.TheVariants.{Zero, One}
use Rattle.digits.specs.Spelt.{digits_spelt}

-- ---- numbers

-- each byte is a digit of the base
abbrev pub all_digits : ℕ → List ℕ → Bool
all_digits base text = list_all (λ b. ltb (value_of b) base) text

-- one digit more behind a number
abbrev pub with_digit : ℕ → ℕ → ℕ → ℕ
with_digit base number digit = number * base + value_of digit

-- the number that the digits are, the first of the highest worth
unfoldable pub number_in : ℕ → List ℕ → ℕ
number_in base text = foldl (with_digit base) 0 text

-- 32 bits hold it, or it is none
abbrev pub within32 : ℕ → Option ℕ
within32 number = cond (leb number 0xFFFFFFFF) (Some number) None

abbrev pub said_in : ℕ → List ℕ → Option ℕ
said_in base text = cond (all_digits base text) (within32 (number_in base text)) None

-- of exactly so many hex digits
abbrev pub hex_in : List ℕ → ℕ → Option ℕ
hex_in text digits = cond (eqb (length text) digits) (said_in 16 text) None

-- of one to so many decimal digits
abbrev pub decimal_in : List ℕ → ℕ → Option ℕ
decimal_in text most = cond (eqb (length text) 0) None (cond (ltb most (length text)) None (said_in 10 text))

abbrev pub IsHex : List ℕ → ℕ → Option ℕ → Type 0
IsHex text digits r = r ≡ hex_in text digits

abbrev pub IsDecimal : List ℕ → ℕ → Option ℕ → Type 0
IsDecimal text most r = r ≡ decimal_in text most

-- ---- bytes

-- each two hex digits are a byte, the first its higher half
unfoldable pub bytes_in : List ℕ → List ℕ
bytes_in [] = []
bytes_in (b ∷ []) = []
bytes_in (high ∷ low ∷ text) = (value_of high * 16 + value_of low) ∷ bytes_in text

-- one byte of two digits
abbrev pub byte_in : List ℕ → Option ℕ
byte_in text =
    cond (eqb (length text) 2 && all_digits 16 text) (Some (value_of (get_or text 0 0) * 16 + value_of (get_or text 1 0))) None

abbrev pub IsByte : List ℕ → Option ℕ → Type 0
IsByte text r = r ≡ byte_in text

-- some bytes, each by two digits, and no more than there is room for
abbrev pub spells_bytes : List ℕ → ℕ → Bool
spells_bytes text room =
    ltb 0 (length text) && eqb (length text % 2) 0 && leb (length text / 2) room && all_digits 16 text

-- one byte, and which
abbrev pub is_byte : List ℕ → ℕ → Bool
is_byte text b = eqb (length text) 1 && eqb (get_or text 0 0) b

-- no byte is written "-"
abbrev pub is_dash : List ℕ → Bool
is_dash text = is_byte text 0x2D

-- how many bytes, at the front of what was lent; `None` where none are spelt, and it is as it was
pub record IsBytes (text before after : List ℕ) (r : Option ℕ) : Type 0 where
  pub counted : r ≡ cond (spells_bytes text (length before)) (Some (length (bytes_in text))) (cond (is_dash text) (Some 0) None)
  pub stands : after ≡ cond (spells_bytes text (length before)) (front_of before (bytes_in text)) before

-- ---- a bank

-- a bank is written by its number
abbrev pub bank_in : List ℕ → Option Bank
bank_in text = cond (is_byte text 0x30) (Some Zero) (cond (is_byte text 0x31) (Some One) None)

abbrev pub IsBank : List ℕ → Option Bank → Type 0
IsBank text r = r ≡ bank_in text

-- ---- printed

-- how many digits, at the front of what was lent; none where they have no room
pub record IsSpell (bytes before after : List ℕ) (r : ℕ) : Type 0 where
  pub counted : r ≡ cond (leb (length (digits_spelt bytes)) (length before)) (length (digits_spelt bytes)) 0
  pub stands : after ≡ front_of before (digits_spelt bytes)
