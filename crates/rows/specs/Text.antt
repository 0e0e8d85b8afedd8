-- The hex text of an image (02 §2), and what comes back of it.
-- Assumes nothing.
use Rattle.std.specs.Prelude.{◌≡◌, ℕ, zero, suc, ◌+◌, ◌*◌, ◌/◌, cond, ◌&&◌, List, [], ◌++◌, length, take, drop, ◌==◌, nat_le, Option, Some, None}
use Rattle.buffer.specs.Compare.{blank_of}
use Rattle.buffer.specs.Number.{bytes_of}
use Rattle.buffer.specs.Place.{front_of}
use Rattle.layout.specs.declared.Bank.{Bank}
use Rattle.layout.specs.Layout.{whole_length, start_of}
use Rattle.layout.specs.Said.{Said, number, value, code}
use Rattle.rows.specs.Record.{record_line}

-- ROWS "of 16 bytes, aligned from the bank's start", which has the address `base`: row k, its address and that address's upper half
abbrev pub row_size : ℕ
row_size = 16

unfoldable pub row_of : List ℕ → ℕ → List ℕ
row_of image k = take row_size (drop (k * row_size) image)

abbrev pub row_address : ℕ → ℕ → ℕ
row_address base k = base + k * row_size

abbrev pub row_upper : ℕ → ℕ → ℕ
row_upper base k = row_address base k / 65536

-- THEIR LINES: type 00, 04 and 01
abbrev pub data_line : List ℕ → ℕ → ℕ → List ℕ
data_line image base k = record_line (row_address base k) 0 (row_of image k)

abbrev pub upper_line : ℕ → List ℕ
upper_line upper = record_line 0 4 (bytes_of 2 upper)

abbrev pub end_line : List ℕ
end_line = record_line 0 1 []

-- "only rows with a byte other than 0xFF" have a line, so the upper half told last behind the first k is that of the last of these. Before the first it
-- is the reader's own, 0 (01, "The upper half is 0 until a type 04 record"), which no row of a bank has: proofs/Laws.antt, `upper_some`
unfoldable pub told_before : List ℕ → ℕ → ℕ → ℕ
told_before image base zero = 0
told_before image base (suc k) = cond (blank_of (row_of image k)) (told_before image base k) (row_upper base k)

-- "a type 04 record" tells an upper half unless it was told last
unfoldable pub upper_text : ℕ → ℕ → List ℕ
upper_text told upper = cond (upper == told) [] (upper_line upper)

-- row k: nothing if it is blank; else its line, its upper half told before
unfoldable pub row_text : List ℕ → ℕ → ℕ → List ℕ
row_text image base k =
    cond (blank_of (row_of image k)) []
    (upper_text (told_before image base k) (row_upper base k) ++ data_line image base k)

-- the first k, lowest first
unfoldable pub rows_text : List ℕ → ℕ → ℕ → List ℕ
rows_text image base zero = []
rows_text image base (suc k) = rows_text image base k ++ row_text image base k

-- all of them
abbrev pub all_rows : List ℕ → ℕ → List ℕ
all_rows image base = rows_text image base (length image / row_size)

-- THE TEXT, "then the end record"
unfoldable pub text_of : List ℕ → Bank → List ℕ
text_of image bank = all_rows image (start_of bank) ++ end_line

-- the longest, that of a bank of 491 sectors without a blank row: proofs/Longest.antt
abbrev pub longest_text : ℕ
longest_text = 707121

-- WHAT COMES BACK: 2 "for image length or an output buffer too short for the whole text", and else how long the text is
unfoldable pub length_of : List ℕ → Bank → Option ℕ
length_of image bank = cond (whole_length (length image)) (Some (length (text_of image bank))) None

unfoldable pub written_of : List ℕ → Bank → ℕ → Option ℕ
written_of image bank room =
    cond (whole_length (length image) && nat_le (length (text_of image bank)) room) (Some (length (text_of image bank))) None

-- "nothing written" then; else the text at the front, and the rest keeps its bytes
abbrev pub buffer_after : Option ℕ → List ℕ → List ℕ → List ℕ
buffer_after None before text = before
buffer_after (Some size) before text = front_of before text

-- in the paper's numbers
abbrev pub written_said : Option ℕ → Said
written_said None = number 2
written_said (Some size) = value size

abbrev pub IsWrittenNumber : Option ℕ → ℕ → Type 0
IsWrittenNumber written r = r ≡ code (written_said written)

unfoldable pub length_says : List ℕ → Bank → Said
length_says image bank = cond (whole_length (length image)) (value (length (text_of image bank))) (number 2)

unfoldable pub write_says : List ℕ → Bank → ℕ → Said
write_says image bank room =
    cond (whole_length (length image)) (cond (nat_le (length (text_of image bank)) room) (value (length (text_of image bank))) (number 2)) (number 2)

pub record IsLength (image : List ℕ) (bank : Bank) (r : Option ℕ) : Type 0 where
  pub answered : r ≡ length_of image bank
  pub says : written_said r ≡ length_says image bank

pub record IsWrite (image : List ℕ) (bank : Bank) (before : List ℕ) (r : Option ℕ) (after : List ℕ) : Type 0 where
  pub answered : r ≡ written_of image bank (length before)
  pub says : written_said r ≡ write_says image bank (length before)
  pub stands : after ≡ buffer_after (written_of image bank (length before)) before (text_of image bank)
