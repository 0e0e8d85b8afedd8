-- The same by positions in a line, as the code goes; proofs/ ties these to the records of the lines.
-- Assumes nothing.
use Rattle.std.specs.Prelude.{◌≡◌, ℕ, zero, suc, ◌+◌, ◌%◌, ◌<◌, Bool, true, cond, ◌&&◌, List, [], ◌∷◌, length, nat_lt, slice_index, Option, Some, None, Result, Ok, Err}
use Rattle.std.proofs.lemmas.List.Edits.{sets}
use Rattle.buffer.specs.Total.{total}
use Rattle.hex_text.specs.declared.fault.Fault.{Fault}
use Rattle.hex_text.specs.declared.record.State.{State}
use Rattle.hex_text.specs.declared.record.Found.{Found}
use Rattle.hex_text.specs.declared.record.Found.TheVariants.{Data}
use Rattle.hex_text.specs.declared.fault.Refusal.{Refusal}
use Rattle.digits.specs.Digit.{is_digit}
use Rattle.hex_text.specs.Spell.{byte_of, line_bytes}
use Rattle.hex_text.specs.Record.{Spelled, Whole, Broken, record_data, record_of, found_of}
use Rattle.hex_text.specs.Read.{state_after, image_after, LinesRead}

-- DIGITS. Whether two stand at i, and the byte that they spell
abbrev pub pair_at : List ℕ → ℕ → Bool
pair_at t i = is_digit (slice_index t i) && is_digit (slice_index t (i + 1))

abbrev pub pair_byte : List ℕ → ℕ → ℕ
pair_byte t i = byte_of (slice_index t i) (slice_index t (i + 1))

-- what k pairs of digits from p on spell
unfoldable pub bytes_at : List ℕ → ℕ → ℕ → List ℕ
bytes_at t p zero = []
bytes_at t p (suc k) = pair_byte t p ∷ bytes_at t (p + 2) k

unfoldable pub all_bytes : List ℕ → Bool
all_bytes [] = true
all_bytes (b ∷ bs) = nat_lt b 256 && all_bytes bs

-- the sum modulo 256, from s on; none where one is no byte
unfoldable pub check_from : ℕ → List ℕ → Option ℕ
check_from s bs = cond (all_bytes bs) (Some ((s + total bs) % 256)) None

-- their sum, and the bytes at the front of what was lent where all are bytes
pub record SpelledAt (bytes before after : List ℕ) (r : Option ℕ) : Type 0 where
  pub sum : r ≡ check_from 0 bytes
  pub put : (s : ℕ) → r ≡ Some s → after ≡ sets before 0 bytes

-- RECORDS. The sum of a record's bytes modulo 256; none where the line is none
abbrev pub sum_of : Spelled → Option ℕ
sum_of (Whole r) = Some (total r % 256)
sum_of (Broken place) = None

-- that of a line, and its record's bytes at the front of what was lent
pub record Summed (line before after : List ℕ) (r : Option ℕ) : Type 0 where
  pub sum : r ≡ sum_of (record_of line)
  pub put : (bytes : List ℕ) → record_of line ≡ Whole bytes → after ≡ sets before 0 bytes

-- where a line that is no record goes wrong
abbrev pub Placed : List ℕ → ℕ → Type 0
Placed line r = (place : ℕ) → record_of line ≡ Broken place → r ≡ place

-- what a line says; where it has data, they lie in the record
pub record Looked (line : List ℕ) (base size : ℕ) (s : State) (held : List ℕ) (r : Result Found Fault) : Type 0 where
  pub is : r ≡ found_of base size s line
  pub holds : (start n : ℕ) → r ≡ Ok (Data start n) → record_data n held ≡ record_data n (line_bytes line)

pub record LookFits (base size : ℕ) : Type 0 where
  pub base_small : base < 4294967296
  pub size_small : size < 4294967296

-- A LINE TAKEN
abbrev pub step_by : Result Found Fault → State → Result State Fault
step_by (Err f) s = Err f
step_by (Ok d) s = Ok (state_after d s)

abbrev pub image_by : ℕ → List ℕ → Result Found Fault → List ℕ → List ℕ
image_by base line (Err f) image = image
image_by base line (Ok d) image = image_after base line d image

pub record Took (base : ℕ) (s : State) (line before after : List ℕ) (r : Result State Fault) : Type 0 where
  pub is : r ≡ step_by (found_of base (length before) s line) s
  pub image : after ≡ image_by base line (found_of base (length before) s line) before

-- what the lines come to
pub record Came (d : LinesRead) (r : Result (Unit {0}) Refusal) (image : List ℕ) : Type 0 where
  pub outcome : r ≡ d.outcome
  pub image_is : image ≡ d.image
