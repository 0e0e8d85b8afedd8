-- A text read into the image of a bank (01, 'Hex text'), and what comes back.
-- Assumes nothing.
use Rattle.std.specs.Prelude.{◌≡◌, ℕ, ◌+◌, ◌-◌, ◌*◌, true, false, cond, List, [], ◌∷◌, length, replicate, ◌==◌, Result, Ok, Err}
use Rattle.std.proofs.lemmas.List.Edits.{sets}
use Rattle.layout.specs.declared.Bank.{Bank}
use Rattle.layout.specs.Layout.{sector_size, good_n, start_of}
use Rattle.layout.specs.Said.{Said, number, fault, accepted, code}
use Rattle.lines.specs.Line.{lines}
use Rattle.hex_text.specs.declared.fault.Kind.{Kind}
use Rattle.hex_text.specs.declared.fault.Fault.{Fault}
use Rattle.hex_text.specs.declared.fault.Kind.TheVariants.{H1, H2, H3, H4, H5, H6}
use Rattle.hex_text.specs.declared.record.State.{State}
use Rattle.hex_text.specs.declared.record.Found.{Found}
use Rattle.hex_text.specs.declared.record.Found.TheVariants.{Data, Upper, End, Other}
use Rattle.hex_text.specs.declared.fault.Refusal.{Refusal}
use Rattle.hex_text.specs.declared.read.ReadError.{ReadError}
use Rattle.hex_text.specs.declared.read.ReadError.TheVariants.{BadN, BadLength, Line}
use Rattle.hex_text.specs.Spell.{line_bytes}
use Rattle.hex_text.specs.Record.{record_data, found_of}

-- WHAT A LINE CHANGES: the upper half, the end of the data, whether the end record was seen
abbrev pub state_after : Found → State → State
state_after (Data start n) s = record { upper = s.upper; last = start + n; over = s.over }
state_after (Upper u) s = record { upper = u; last = s.last; over = s.over }
state_after End s = record { upper = s.upper; last = s.last; over = true }
state_after Other s = s

-- and the image: the data go to their addresses
abbrev pub image_after : ℕ → List ℕ → Found → List ℕ → List ℕ
image_after base line (Data start n) image = sets image (start - base) (record_data n (line_bytes line))
image_after base line (Upper u) image = image
image_after base line End image = image
image_after base line Other image = image

-- LINE AFTER LINE: what comes of them, and the image by then
pub record LinesRead : Type 0 where
  pub outcome : Result (Unit {0}) Refusal
  pub image : List ℕ

abbrev pub stopped_at : Fault → ℕ → List ℕ → LinesRead
stopped_at f line image = record { outcome = Err (record { kind = f.0; line = line; byte = f.1 }); image = image }

-- behind the last line: no end record, told with the number "one past the last" and byte 1
abbrev pub after_last : State → ℕ → Result (Unit {0}) Refusal
after_last s line = cond s.over (Ok tt) (Err (record { kind = H6; line = line; byte = 1 }))

abbrev pub goes : Result Found Fault → (Fault → LinesRead) → (Found → LinesRead) → LinesRead
goes (Err f) stop on = stop f
goes (Ok d) stop on = on d

-- from line number k on, up to the first fault
unfoldable pub read_lines : ℕ → ℕ → State → ℕ → List ℕ → List (List ℕ) → LinesRead
read_lines base size s k image [] = record { outcome = after_last s k; image = image }
read_lines base size s k image (l ∷ ls) =
    goes (found_of base size s l) (λ f. stopped_at f k image)
    (λ d. read_lines base size (state_after d s) (k + 1) (image_after base l d image) ls)

-- the upper half is 0 at first
abbrev pub at_start : State
at_start = record { upper = 0; last = 0; over = false }

-- THE TEXT
pub record Reading : Type 0 where
  pub answer : Result (Unit {0}) ReadError
  pub image : List ℕ

-- a text that is refused leaves nothing but 0xFF
abbrev pub reading_of : ℕ → Result (Unit {0}) Refusal → List ℕ → Reading
reading_of size (Err r) image = record { answer = Err (Line r); image = replicate size 0xFF }
reading_of size (Ok done) image = record { answer = Ok done; image = image }

-- the lines of a text for a bank of n sectors, whose image is all 0xFF at first
abbrev pub lines_read : List ℕ → Bank → ℕ → LinesRead
lines_read text bank n = read_lines (start_of bank) (sector_size * n) at_start 1 (replicate (sector_size * n) 0xFF) (lines text)

-- "Hex reader: 3, 2, then the H faults"; the first two leave the image as it was
unfoldable pub text_read : List ℕ → Bank → ℕ → List ℕ → Reading
text_read text bank n image =
    cond (good_n n)
    (cond (length image == sector_size * n)
    (reading_of (sector_size * n) (lines_read text bank n).outcome (lines_read text bank n).image)
    (record { answer = Err BadLength; image = image }))
    (record { answer = Err BadN; image = image })

-- THE PAPER'S NUMBERS: of each fault, and of each answer
abbrev pub kind_number : Kind → ℕ
kind_number H1 = 1
kind_number H2 = 2
kind_number H3 = 3
kind_number H4 = 4
kind_number H5 = 5
kind_number H6 = 6

abbrev pub IsKindNumber : Kind → ℕ → Type 0
IsKindNumber kind r = r ≡ kind_number kind

abbrev pub answer_said : Result (Unit {0}) ReadError → Said
answer_said (Err BadN) = number 3
answer_said (Err BadLength) = number 2
answer_said (Err (Line r)) = fault (kind_number r.kind) r.line r.byte
answer_said (Ok done) = accepted

abbrev pub IsAnswerNumber : Result (Unit {0}) ReadError → ℕ → Type 0
IsAnswerNumber answer r = r ≡ code (answer_said answer)

-- what is said of a text, in their order: 3, 2, then the fault of the first faulty line
abbrev pub lines_say : Result (Unit {0}) Refusal → Said
lines_say (Err r) = fault (kind_number r.kind) r.line r.byte
lines_say (Ok done) = accepted

unfoldable pub read_says : List ℕ → Bank → ℕ → List ℕ → Said
read_says text bank n image =
    cond (good_n n)
    (cond (length image == sector_size * n) (lines_say (lines_read text bank n).outcome) (number 2))
    (number 3)

pub record IsRead (text : List ℕ) (bank : Bank) (n : ℕ) (before after : List ℕ) (r : Result (Unit {0}) ReadError) : Type 0 where
  pub answer : r ≡ (text_read text bank n before).answer
  pub said : answer_said r ≡ read_says text bank n before
  pub image : after ≡ (text_read text bank n before).image
