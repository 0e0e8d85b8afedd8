-- Lines that have H1, and places of the first byte that does not belong, computed by the definitions.
-- Assumes nothing.
use Rattle.std.proofs.Common.{◌≡◌, ℕ, List, [], ◌∷◌, ◌++◌, replicate, refl}
use Rattle.buffer.specs.Total.{total}
use Rattle.layout.specs.declared.Bank.TheVariants.{Zero}
use Rattle.layout.specs.Layout.{good_n}
use Rattle.lines.specs.Line.{lines}
use Rattle.hex_text.specs.declared.fault.Kind.TheVariants.{H1, H2}
use Rattle.std.specs.Prelude.{Err}
use Rattle.hex_text.specs.declared.read.ReadError.TheVariants.{Line}
use Rattle.digits.specs.Digit.{value_of, is_digit}
use Rattle.hex_text.specs.Spell.{byte_of, digit_bytes}
use Rattle.hex_text.specs.Record.{Broken, digits_in, digits_whole, record_of, found_of}
use Rattle.hex_text.specs.Read.{Reading, read_lines, text_read}

-- for bank 0 of one sector
unfoldable pub on1 : List ℕ → Reading
on1 text = text_read text Zero 1 (replicate 512 0)

-- a blank line
pub blank_line : (on1 (0x0A ∷ [])).answer ≡ Err (Line (record { kind = H1; line = 1; byte = 1 }))
unfolding on1 text_read good_n read_lines lines found_of record_of
blank_line = refl

-- a line that stops early, in each way that it may end (02 §1)
abbrev stopped : List ℕ
stopped = 0x3A ∷ 48 ∷ 48 ∷ []

abbrev At4 : List ℕ → Type 0
At4 text = (on1 text).answer ≡ Err (Line (record { kind = H1; line = 1; byte = 4 }))

pub before_lf : At4 (stopped ++ (0x0A ∷ []))
unfolding on1 text_read good_n read_lines lines found_of record_of digits_whole digits_in byte_of is_digit value_of
before_lf = refl

pub before_cr_lf : At4 (stopped ++ (0x0D ∷ 0x0A ∷ []))
unfolding on1 text_read good_n read_lines lines found_of record_of digits_whole digits_in byte_of is_digit value_of
before_cr_lf = refl

pub at_the_end : At4 stopped
unfolding on1 text_read good_n read_lines lines found_of record_of digits_whole digits_in byte_of is_digit value_of
at_the_end = refl

-- what can't belong behind the end record: a CR that no LF follows, and the first of the bytes past the counted length
abbrev end : List ℕ
end = 0x3A ∷ 48 ∷ 48 ∷ 48 ∷ 48 ∷ 48 ∷ 48 ∷ 48 ∷ 49 ∷ 70 ∷ 70 ∷ []

pub cr_behind : record_of (end ++ (0x0D ∷ [])) ≡ Broken 12
unfolding record_of digits_whole digits_in digit_bytes byte_of is_digit value_of
cr_behind = refl

pub digits_behind : record_of (end ++ (48 ∷ 48 ∷ 71 ∷ [])) ≡ Broken 12
unfolding record_of digits_whole digits_in digit_bytes byte_of is_digit value_of
digits_behind = refl

-- `:020000041000EA` with another last digit
pub other_sum : (on1 (0x3A ∷ 48 ∷ 50 ∷ 48 ∷ 48 ∷ 48 ∷ 48 ∷ 48 ∷ 52 ∷ 49 ∷ 48 ∷ 48 ∷ 48 ∷ 69 ∷ 66 ∷ [])).answer
    ≡ Err (Line (record { kind = H2; line = 1; byte = 14 }))
unfolding on1 text_read good_n read_lines lines found_of record_of digits_whole digits_in digit_bytes byte_of is_digit value_of total
other_sum = refl
