-- What is asked of a writer of hex text, whatever it is, and of what is read of its texts (02 §2).
-- Assumes nothing.
use Rattle.std.specs.Prelude.{◌≡◌, true, false, cond, List, [], ◌++◌, ℕ, zero, suc, ◌*◌, ◌/◌, ◌≤◌, ◌<◌, length, take, drop, Option, Some}
use Rattle.buffer.specs.Compare.{blank_of}
use Rattle.buffer.specs.Number.{byte_at}
use Rattle.buffer.specs.Place.{place_of, front_of}
use Rattle.flash.specs.Sector.{blanks}
use Rattle.layout.specs.declared.Bank.{Bank}
use Rattle.layout.specs.declared.Bank.TheVariants.{Zero, One}
use Rattle.layout.specs.Layout.{sector_size, whole_length, start_of}
use Rattle.layout.specs.Said.{number, value, accepted}
use Rattle.hex_text.specs.Read.{Reading, answer_said}
use Rattle.rows.specs.Text.{row_size, row_of, row_upper, data_line, upper_line, end_line, all_rows, text_of, longest_text, written_of, buffer_after, written_said}
use Rattle.demands.specs.Texts.{TextReader}

-- what a writer gives back, and the buffer then
pub record WrittenOut : Type 0 where
  pub answer : Option ℕ
  pub buffer : List ℕ

abbrev pub wrote : Option ℕ → List ℕ → WrittenOut
wrote answer buffer = record { answer = answer; buffer = buffer }

-- image, bank, buffer
abbrev pub TextWriter : Type 0
TextWriter = List ℕ → Bank → List ℕ → WrittenOut

-- what comes of an image is said in the paper's numbers
pub record WriteRight (image : List ℕ) (bank : Bank) (before : List ℕ) (o : WrittenOut) : Type 0 where
  -- 2 "for image length or an output buffer too short for the whole text, nothing written"
  pub bad_length : whole_length (length image) ≡ false → written_said o.answer ≡ number 2
  pub too_short : whole_length (length image) ≡ true → length before < length (text_of image bank) → written_said o.answer ≡ number 2
  pub stays : (m : ℕ) → written_said o.answer ≡ number m → o.buffer ≡ before
  -- and else how long the text is; it stands at the front, and the rest keeps its bytes
  pub told : whole_length (length image) ≡ true → length (text_of image bank) ≤ length before → written_said o.answer ≡ value (length (text_of image bank))
  pub text : (size : ℕ) → written_said o.answer ≡ value size → take size o.buffer ≡ text_of image bank
  pub rest : (size : ℕ) → written_said o.answer ≡ value size → drop size o.buffer ≡ drop size before

abbrev pub MeetsWriter : TextWriter → Type 0
MeetsWriter write = (image : List ℕ) (bank : Bank) (before : List ℕ) → WriteRight image bank before (write image bank before)

-- of one that tells the length alone: 2, or the text's, and 707,121 bytes at most
pub record LengthRight (image : List ℕ) (bank : Bank) (r : Option ℕ) : Type 0 where
  pub bad_length : whole_length (length image) ≡ false → written_said r ≡ number 2
  pub told : whole_length (length image) ≡ true → written_said r ≡ value (length (text_of image bank))
  pub most : (size : ℕ) → written_said r ≡ value size → size ≤ longest_text

abbrev pub MeetsLength : (List ℕ → Bank → Option ℕ) → Type 0
MeetsLength tell = (image : List ℕ) (bank : Bank) → LengthRight image bank (tell image bank)

-- so a caller can lend enough
abbrev pub Enough : (List ℕ → Bank → Option ℕ) → TextWriter → Type 0
Enough tell write =
    (image : List ℕ) (bank : Bank) (before : List ℕ) (size : ℕ) → written_said (tell image bank) ≡ value size → size ≤ length before
    → written_said (write image bank before).answer ≡ value size

-- THE TEXT READ AGAIN, for the same bank and N, into an image of its length

abbrev pub text_by : TextWriter → List ℕ → Bank → List ℕ → ℕ → List ℕ
text_by write image bank before size = take size (write image bank before).buffer

abbrev pub read_by : TextReader → List ℕ → Bank → List ℕ → Reading
read_by read text bank into = read text bank (length into / sector_size) into

-- what the machine's types say of an image
abbrev pub AreBytes : List ℕ → Type 0
AreBytes image = (i : ℕ) → byte_at image i < 256

-- a text that was written is accepted and "gives the same image for every image", and the text of what was read is the text again
pub record ComesBack (write : TextWriter) (read : TextReader) (image : List ℕ) (bank : Bank) (before into : List ℕ) (size : ℕ) : Type 0 where
  pub accepts : answer_said (read_by read (text_by write image bank before size) bank into).answer ≡ accepted
  pub same : (read_by read (text_by write image bank before size) bank into).image ≡ image
  pub again : write (read_by read (text_by write image bank before size) bank into).image bank before ≡ write image bank before

abbrev pub RoundTrip : TextWriter → TextReader → Type 0
RoundTrip write read =
    (image : List ℕ) (bank : Bank) (before into : List ℕ) (size : ℕ) → AreBytes image → length into ≡ length image
    → written_said (write image bank before).answer ≡ value size → ComesBack write read image bank before into size

-- "equal texts mean equal images for the same bank and N", whatever the buffers were
abbrev pub TextsTell : TextWriter → Type 0
TextsTell write =
    (image other : List ℕ) (bank : Bank) (before buffer : List ℕ) (size long : ℕ) → AreBytes image → AreBytes other → length image ≡ length other
    → written_said (write image bank before).answer ≡ value size → written_said (write other bank buffer).answer ≡ value long
    → text_by write image bank before size ≡ text_by write other bank buffer long → image ≡ other

-- the writer of the contracts
abbrev pub text_writer : TextWriter
text_writer image bank before =
    wrote (written_of image bank (length before)) (buffer_after (written_of image bank (length before)) before (text_of image bank))

-- one that drops row k: of two images that differ in that row alone, where it is not blank, it makes the same
abbrev pub DropsRow : ℕ → TextWriter → Type 0
DropsRow k write =
    (image other : List ℕ) (bank : Bank) (before : List ℕ) → length image ≡ length other → suc k * row_size ≤ length image
    → blank_of (row_of image k) ≡ false → blank_of (row_of other k) ≡ false → ((i : ℕ) → (i / row_size ≡ k → ⊥) → byte_at image i ≡ byte_at other i)
    → write image bank before ≡ write other bank before

-- one of them: it takes the row for a blank one
abbrev pub row_dropper : ℕ → TextWriter
row_dropper k image bank before = text_writer (place_of image (k * row_size) (blanks row_size)) bank before

-- one that forgets where the bank starts: it makes the same of an image for either bank
abbrev pub ForgetsStart : TextWriter → Type 0
ForgetsStart write = (image before : List ℕ) → write image Zero before ≡ write image One before

-- one of them: its rows' addresses count from 0
abbrev pub start_forgetter : TextWriter
start_forgetter image bank before = wrote (Some (length (all_rows image 0 ++ end_line))) (front_of before (all_rows image 0 ++ end_line))

-- the lines of the first k rows alone
unfoldable pub row_lines : List ℕ → ℕ → ℕ → List ℕ
row_lines image base zero = []
row_lines image base (suc k) = row_lines image base k ++ cond (blank_of (row_of image k)) [] (data_line image base k)

abbrev pub all_lines : List ℕ → Bank → List ℕ
all_lines image bank = row_lines image (start_of bank) (length image / row_size)

-- one that tells the first upper half alone: of two images whose first rows are not blank and whose rows have the same lines it makes the same
abbrev pub TellsOnce : TextWriter → Type 0
TellsOnce write =
    (image other : List ℕ) (bank : Bank) (before : List ℕ) → length image ≡ length other → blank_of (row_of image 0) ≡ false → blank_of (row_of other 0) ≡ false
    → all_lines image bank ≡ all_lines other bank → write image bank before ≡ write other bank before

-- one of them
abbrev pub once_told : List ℕ → Bank → List ℕ
once_told image bank = upper_line (row_upper (start_of bank) 0) ++ all_lines image bank ++ end_line

abbrev pub half_forgetter : TextWriter
half_forgetter image bank before = wrote (Some (length (once_told image bank))) (front_of before (once_told image bank))
