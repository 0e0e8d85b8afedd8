-- A night for bank 0 hears the responses of slots, one after another, for a caller in C (02 §4).
-- Assumes nothing.
use Rattle.std.specs.Prelude.{ℕ, zero, suc, ◌≡◌, cond, List, length, Result, Ok, Err}
use Rattle.layout.specs.declared.Bank.TheVariants.{Zero}
use Rattle.night.specs.declared.record.Called.{Called}
use Rattle.night.specs.declared.record.Next.{Next}
use Rattle.night.specs.declared.record.Next.TheVariants.{NotBegun, Send, Finished, GaveUp}
use Rattle.night.specs.declared.record.Night.{Night}
use Rattle.night.specs.declared.record.Refusal.{Refusal}
use Rattle.night.specs.Call.{Heard, heard_in, start_of, step_of, buffer_by}
use Rattle.night.specs.Record.{refusal_number}
use Rattle.exports.specs.Slots.{slot_count, datagram_at, slots_good}

-- how long the request is, or the refusal's number; what is neither has a number that is none of these
abbrev pub next_code : Result Next Refusal → ℕ
next_code (Err why) = refusal_number why
next_code (Ok NotBegun) = 21
next_code (Ok (Send name size)) = size
next_code (Ok Finished) = 0
next_code (Ok (GaveUp name why)) = 20

-- the record, what the last call told, and the buffer behind it
pub record Stood : Type 0 where
  pub night : Night
  pub told : ℕ
  pub buffer : List ℕ

abbrev pub stood : Night → ℕ → List ℕ → Stood
stood night told buffer = record { night = night; told = told; buffer = buffer }

abbrev pub called_by : List ℕ → List ℕ → Called → Stood
called_by image before c = stood c.night (next_code c.next) (buffer_by image before c)

-- one response more, with the buffer as the call before left it
abbrev pub heard_next : List ℕ → List ℕ → Stood → Stood
heard_next image datagram s = called_by image s.buffer (step_of s.night (heard_in (Heard datagram)) image (length s.buffer))

-- the responses of the first k slots
unfoldable pub heard_of : List ℕ → List ℕ → Stood → ℕ → Stood
heard_of image slots s zero = s
heard_of image slots s (suc k) = heard_next image (datagram_at slots k) (heard_of image slots s k)

-- the start, and all responses behind it
abbrev pub night_heard : List ℕ → ℕ → ℕ → List ℕ → List ℕ → Stood
night_heard image n tries slots buffer =
    heard_of image slots (called_by image buffer (start_of image Zero n tries (length buffer))) (slot_count slots)

-- 2, and nothing changes, where a slot says more than it has room for
pub record IsNightSlots (image : List ℕ) (n tries : ℕ) (slots before : List ℕ) (r : ℕ) (after : List ℕ) : Type 0 where
  pub given : r ≡ cond (slots_good slots (slot_count slots)) (night_heard image n tries slots before).told 2
  pub stands : after ≡ cond (slots_good slots (slot_count slots)) (night_heard image n tries slots before).buffer before
