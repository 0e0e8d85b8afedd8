-- What is asked of one that cleans banks, whatever it is (02 §7): said of the bytes of bank and lists alone. Last comes the one of the contract.
-- Assumes nothing.
use Rattle.std.specs.Prelude.{◌≡◌, true, false, List, ◌⊎◌, ℕ, ◌+◌, ◌*◌, ◌/◌, ◌≤◌, ◌<◌, length, get_or, drop}
use Rattle.buffer.specs.Number.{byte_at}
use Rattle.layout.specs.Layout.{sector_size, whole_length}
use Rattle.layout.specs.Said.{number}
use Rattle.bank.specs.declared.stretch.Stretch.{Stretch}
use Rattle.bank.specs.Meaning.{KeptInside, Outside}
use Rattle.bank.specs.Stretch.{stop_of}
use Rattle.clean.specs.Clean.{Cleaned, done_with, runs_of, sectors_of, clean_of, bank_after, list_after, cleaned_said}
use Rattle.clean.specs.Runs.{flat}

-- ---- what is to be listed

-- a byte "other than 0xFF outside table and bodies"
pub record OldByte (b : List ℕ) (k : ℕ) : Type 0 where
  pub outside : Outside b k
  pub other : byte_at b k ≡ 0xFF → ⊥

-- run i of a list, "by offset and length", and that it has the byte at index k
abbrev pub run_in : List ℕ → ℕ → Stretch
run_in runs i = record { offset = get_or runs (2 * i) 0; length = get_or runs (2 * i + 1) 0 }

pub record Has (r : Stretch) (k : ℕ) : Type 0 where
  pub from : r.offset ≤ k
  pub before : k < stop_of r

-- one of the first n
pub record InRun (runs : List ℕ) (n k : ℕ) : Type 0 where
  pub place : ℕ
  pub below : place < n
  pub has : Has (run_in runs place) k

-- the first n of a list are the runs of a bank: none is empty, "lowest first, no two runs touching", and they have its old bytes and no others
pub record AreRuns (b runs : List ℕ) (n : ℕ) : Type 0 where
  pub some : (i : ℕ) → i < n → 1 ≤ (run_in runs i).length
  pub apart : (i : ℕ) → i + 1 < n → stop_of (run_in runs i) < (run_in runs (i + 1)).offset
  pub are_old : (i k : ℕ) → i < n → Has (run_in runs i) k → OldByte b k
  pub all_old : (k : ℕ) → OldByte b k → InRun runs n k

-- the number of the sector that has the byte at index k, counted from 1
abbrev pub sector_number : ℕ → ℕ
sector_number k = k / sector_size + 1

-- a number that is among the first m of a list
pub record Listed (sectors : List ℕ) (m number : ℕ) : Type 0 where
  pub place : ℕ
  pub below : place < m
  pub is : get_or sectors place 0 ≡ number

-- an old byte that a sector holds
pub record HoldsOld (b : List ℕ) (number : ℕ) : Type 0 where
  pub index : ℕ
  pub is_old : OldByte b index
  pub in_it : sector_number index ≡ number

-- the first m of a list are "the numbers of the sectors that held such bytes, ascending"
pub record AreSectors (b sectors : List ℕ) (m : ℕ) : Type 0 where
  pub ascending : (j : ℕ) → j + 1 < m → get_or sectors j 0 < get_or sectors (j + 1) 0
  pub held : (j : ℕ) → j < m → HoldsOld b (get_or sectors j 0)
  pub all_held : (k : ℕ) → OldByte b k → Listed sectors m (sector_number k)

-- ---- what is asked

-- what one gives back, and bank and lists then
pub record CleanedOut : Type 0 where
  pub answer : Cleaned
  pub bank : List ℕ
  pub runs : List ℕ
  pub sectors : List ℕ

abbrev pub cleaned : Cleaned → List ℕ → List ℕ → List ℕ → CleanedOut
cleaned answer bank runs sectors = record { answer = answer; bank = bank; runs = runs; sectors = sectors }

-- bank, list of runs, list of sectors
abbrev pub Cleaner : Type 0
Cleaner = List ℕ → List ℕ → List ℕ → CleanedOut

-- "a list has no room for all its entries", a run taking two numbers; what its entries are is known without any list that was lent
pub record TooMany (b runs sectors : List ℕ) : Type 0 where
  pub all_runs : List ℕ
  pub n : ℕ
  pub are_runs : AreRuns b all_runs n
  pub all_sectors : List ℕ
  pub m : ℕ
  pub are_sectors : AreSectors b all_sectors m
  pub no_room : (length runs / 2 < n) ⊎ (length sectors < m)

-- what is so where so many runs and sectors are told
pub record DoneRight (b runs sectors : List ℕ) (o : CleanedOut) (n m : ℕ) : Type 0 where
  pub are_runs : AreRuns b o.runs n
  pub are_sectors : AreSectors b o.sectors m
  -- "sets these to 0xFF", and all else is as before
  pub same_length : length o.bank ≡ length b
  pub cleared : (k : ℕ) → OldByte b k → byte_at o.bank k ≡ 0xFF
  pub stays : (k : ℕ) → (OldByte b k → ⊥) → byte_at o.bank k ≡ byte_at b k
  -- "The rest of each list keeps what it held"
  pub runs_room : n ≤ length runs / 2
  pub runs_rest : drop (2 * n) o.runs ≡ drop (2 * n) runs
  pub sectors_room : m ≤ length sectors
  pub sectors_rest : drop m o.sectors ≡ drop m sectors

pub record IsDone (answer : Cleaned) : Type 0 where
  pub runs : ℕ
  pub sectors : ℕ
  pub is : answer ≡ done_with runs sectors

pub record CleanRight (b runs sectors : List ℕ) (o : CleanedOut) : Type 0 where
  -- "Refusals, in this order"
  pub bad_length : whole_length (length b) ≡ false → cleaned_said o.answer ≡ number 2
  pub faulty : whole_length (length b) ≡ true → (KeptInside b → ⊥) → cleaned_said o.answer ≡ number 9
  pub no_room : whole_length (length b) ≡ true → KeptInside b → TooMany b runs sectors → cleaned_said o.answer ≡ number 10
  -- "bank and lists untouched in each"
  pub untouched : (x : ℕ) → cleaned_said o.answer ≡ number x → (o.bank ≡ b) × (o.runs ≡ runs) × (o.sectors ≡ sectors)
  -- and else it is done
  pub taken : whole_length (length b) ≡ true → KeptInside b → (TooMany b runs sectors → ⊥) → IsDone o.answer
  pub done : (n m : ℕ) → o.answer ≡ done_with n m → DoneRight b runs sectors o n m

abbrev pub MeetsCleaner : Cleaner → Type 0
MeetsCleaner clean = (b runs sectors : List ℕ) → CleanRight b runs sectors (clean b runs sectors)

-- the one of the contract
abbrev pub cleaner : Cleaner
cleaner b runs sectors =
    let r : Cleaned = clean_of b (length runs) (length sectors) in
    cleaned r (bank_after r b) (list_after r runs (flat (runs_of b))) (list_after r sectors (sectors_of b))
