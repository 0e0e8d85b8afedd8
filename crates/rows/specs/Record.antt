-- A record as a line of hex text (01, 'Hex text'; 02 §2, "upper-case digits, CR LF").
-- Assumes nothing.
use Rattle.std.specs.Prelude.{ℕ, ◌-◌, ◌%◌, List, [], ◌∷◌, ◌++◌, length}
use Rattle.buffer.specs.Number.{bytes_of}
use Rattle.buffer.specs.Total.{total}
use Rattle.digits.specs.Spelt.{digits_spelt}

-- count, address (2), type, data; of an address the lower half is told
unfoldable pub record_body : ℕ → ℕ → List ℕ → List ℕ
record_body address type bytes = length bytes ∷ bytes_of 2 address ++ type ∷ bytes

-- the byte with which they "add to 0 modulo 256"
unfoldable pub record_checksum : List ℕ → ℕ
record_checksum body = (256 - total body % 256) % 256

abbrev pub record_bytes : ℕ → ℕ → List ℕ → List ℕ
record_bytes address type bytes = record_body address type bytes ++ record_checksum (record_body address type bytes) ∷ []

-- the line: a colon, the record's bytes as digits, CR LF
unfoldable pub record_line : ℕ → ℕ → List ℕ → List ℕ
record_line address type bytes = 0x3A ∷ digits_spelt (record_bytes address type bytes) ++ 0x0D ∷ 0x0A ∷ []

-- its length beside the digits of the data: colon, CR LF, and two digits for each of five bytes
abbrev pub beside_data : ℕ
beside_data = 13
