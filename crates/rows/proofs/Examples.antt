-- The text of one sector in bank 1 whose first byte is 0 and all others 0xFF, worked out by hand.
-- Assumes nothing.
use Rattle.std.proofs.Common.{◌≡◌, ℕ, List, [], ◌∷◌, ◌++◌, replicate, refl}
use Rattle.buffer.specs.Compare.{blank_of}
use Rattle.buffer.specs.Number.{bytes_of}
use Rattle.buffer.specs.Total.{total}
use Rattle.digits.specs.Digit.{digit_of}
use Rattle.digits.specs.Spelt.{digits_spelt}
use Rattle.layout.specs.declared.Bank.TheVariants.{One}
use Rattle.rows.specs.Record.{record_body, record_checksum, record_line}
use Rattle.rows.specs.Text.{row_of, told_before, upper_text, row_text, rows_text, text_of}

unfoldable pub one_byte : List ℕ
one_byte = 0 ∷ replicate 511 0xFF

-- :020000041400E6
abbrev half : List ℕ
half =
    0x3A ∷ 0x30 ∷ 0x32 ∷ 0x30 ∷ 0x30 ∷ 0x30 ∷ 0x30 ∷ 0x30 ∷ 0x34 ∷ 0x31 ∷ 0x34 ∷ 0x30 ∷ 0x30 ∷ 0x45 ∷ 0x36 ∷ 0x0D ∷
    0x0A ∷ []

-- :100A000000FFFFFFFFFFFFFFFFFFFFFFFFFFFFFFF5
abbrev row : List ℕ
row =
    0x3A ∷ 0x31 ∷ 0x30 ∷ 0x30 ∷ 0x41 ∷ 0x30 ∷ 0x30 ∷ 0x30 ∷ 0x30 ∷ 0x30 ∷ 0x30 ∷ 0x46 ∷ 0x46 ∷ 0x46 ∷ 0x46 ∷ 0x46 ∷
    0x46 ∷ 0x46 ∷ 0x46 ∷ 0x46 ∷ 0x46 ∷ 0x46 ∷ 0x46 ∷ 0x46 ∷ 0x46 ∷ 0x46 ∷ 0x46 ∷ 0x46 ∷ 0x46 ∷ 0x46 ∷ 0x46 ∷ 0x46 ∷
    0x46 ∷ 0x46 ∷ 0x46 ∷ 0x46 ∷ 0x46 ∷ 0x46 ∷ 0x46 ∷ 0x46 ∷ 0x46 ∷ 0x46 ∷ 0x35 ∷ 0x0D ∷ 0x0A ∷ []

-- :00000001FF
abbrev end : List ℕ
end =
    0x3A ∷ 0x30 ∷ 0x30 ∷ 0x30 ∷ 0x30 ∷ 0x30 ∷ 0x30 ∷ 0x30 ∷ 0x31 ∷ 0x46 ∷ 0x46 ∷ 0x0D ∷ 0x0A ∷ []

pub one_byte_text : text_of one_byte One ≡ half ++ row ++ end
unfolding one_byte text_of rows_text row_text told_before upper_text row_of blank_of record_line record_body record_checksum total digits_spelt digit_of bytes_of
one_byte_text = refl
