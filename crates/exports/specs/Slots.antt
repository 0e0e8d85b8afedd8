-- A new client takes the datagrams of slots, each from its own address, one after another, for a caller in C (01, 'The client, step by step'; 02 §5).
-- Assumes nothing.
use Rattle.std.specs.Prelude.{Ok, Err, ℕ, zero, suc, ◌+◌, ◌*◌, ◌/◌, ◌≡◌, Bool, true, ◌&&◌, cond, eqb, leb, length, take, drop}
use mathlib.Core.List.{List, [], ◌∷◌, ◌++◌, foldl}
use Rattle.buffer.specs.Number.{number_at}
use Rattle.buffer.specs.Place.{front_of}
use Rattle.layout.specs.declared.Bank.TheVariants.{Zero}
use Rattle.layout.specs.Pair.{banks}
use Rattle.exchange.specs.Answer.{Reply, reply_bytes, refusal_number}
use Rattle.client.specs.declared.record.Client.{Client}
use Rattle.client.specs.Host.{new_of, initiate_of}
use Rattle.client.specs.Step.{Carried}
use Rattle.calls.specs.Call.{Call, Board, board, after_steps, came_of_steps}

-- ---- slots: a datagram's length in two bytes, then room for the longest request; what is behind the last whole slot is not looked at

abbrev pub slot_room : ℕ
slot_room = 519

abbrev pub slot_size : ℕ
slot_size = 2 + slot_room

abbrev pub slot_count : List ℕ → ℕ
slot_count slots = length slots / slot_size

-- the length that slot k says, and its datagram
abbrev pub size_at : List ℕ → ℕ → ℕ
size_at slots k = number_at 2 slots (k * slot_size)

abbrev pub datagram_at : List ℕ → ℕ → List ℕ
datagram_at slots k = take (size_at slots k) (drop (k * slot_size + 2) slots)

-- whether none of the first k slots says more than it has room for
unfoldable pub slots_good : List ℕ → ℕ → Bool
slots_good slots zero = true
slots_good slots (suc k) = slots_good slots k && leb (size_at slots k) slot_room

-- ---- addresses: one for each slot, in the same order

abbrev pub address_size : ℕ
address_size = 16

abbrev pub address_at : List ℕ → ℕ → List ℕ
address_at addresses k = take address_size (drop (k * address_size) addresses)

-- whether k slots can be taken: none says more than it has room for, and then each has its address and nothing stands behind the last. The slots
-- come first, which cannot be told: both give 2
unfoldable pub all_good : List ℕ → List ℕ → ℕ → Bool
all_good slots addresses k = slots_good slots k && eqb (length addresses) (k * address_size)

-- the calls of the first k slots, each with these marks, its own address and this buffer
unfoldable pub calls_of : List ℕ → List ℕ → List ℕ → List ℕ → ℕ → List Call
calls_of slots marks addresses buffer zero = []
calls_of slots marks addresses buffer (suc k) =
    calls_of slots marks addresses buffer k
    ++ (record { datagram = datagram_at slots k; address = address_at addresses k; marks = marks; buffer = buffer } ∷ [])

-- ---- what is left of calls

-- how long an answer is, or the paper's number where there is none
abbrev pub given_of : Reply → ℕ → ℕ
given_of (Err why) told = refusal_number why
given_of (Ok answer) told = told

-- what is given of the last answer, client and banks, and the buffer
pub record Run : Type 0 where
  pub given : ℕ
  pub kept_at_last : Board
  pub buffer : List ℕ

abbrev pub ran : ℕ → Board → List ℕ → Run
ran given k buffer = record { given = given; kept_at_last = k; buffer = buffer }

abbrev pub last_given : ℕ → Carried → ℕ
last_given before r = given_of r.answer r.told

-- one buffer is lent again and again: "An answer fills the front", and then the next one does
abbrev pub said_next : List ℕ → Carried → List ℕ
said_next buffer r = front_of buffer (reply_bytes r.answer)

unfoldable pub run_of : List ℕ → Board → List Call → Run
run_of buffer k calls =
    ran (foldl last_given 0 (came_of_steps k calls)) (after_steps k calls) (foldl said_next buffer (came_of_steps k calls))

-- ---- all slots

-- a client of bank 0 that was initiated
abbrev pub fresh : ℕ → Client
fresh n = (initiate_of (new_of n Zero 0 0 0).client).client

abbrev pub at_first : ℕ → List ℕ → List ℕ → Board
at_first n bank0 bank1 = board (fresh n) (banks bank0 bank1)

-- 2, and nothing changes, where not all slots can be taken; that is looked at before N, since no client is made then
unfoldable pub slots_taken : ℕ → List ℕ → List ℕ → List ℕ → List ℕ → List ℕ → List ℕ → Run
slots_taken n slots bank0 bank1 marks addresses buffer =
    cond (all_good slots addresses (slot_count slots))
    (run_of buffer (at_first n bank0 bank1) (calls_of slots marks addresses buffer (slot_count slots)))
    (ran 2 (at_first n bank0 bank1) buffer)

pub record IsTakeSlots (n : ℕ) (slots bank0 bank1 marks addresses buffer : List ℕ) (r : ℕ) (left0 left1 said : List ℕ) : Type 0 where
  pub given : r ≡ (slots_taken n slots bank0 bank1 marks addresses buffer).given
  pub bank_zero : left0 ≡ (slots_taken n slots bank0 bank1 marks addresses buffer).kept_at_last.pair.bank0
  pub bank_one : left1 ≡ (slots_taken n slots bank0 bank1 marks addresses buffer).kept_at_last.pair.bank1
  pub buffer_left : said ≡ (slots_taken n slots bank0 bank1 marks addresses buffer).buffer
