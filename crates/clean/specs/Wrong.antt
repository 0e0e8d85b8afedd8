-- Cleaners that are not as asked (02 §7), each kind by one misdeed: for some bank and some lists it says that it is done, and there does what it must not.
-- So none that is as asked ever does what a kind does that is shut out. Behind each kind stands one that is of it.
-- Assumes nothing.
use Rattle.std.specs.Prelude.{◌≡◌, true, cond, List, ℕ, ◌/◌, ◌<◌, Ok, Err, leb, length, get_or}
use Rattle.buffer.specs.Number.{byte_at}
use Rattle.layout.specs.Layout.{sector_size}
use Rattle.bank.specs.Dropped.{dropped_of}
use Rattle.bank.specs.Meaning.{Outside}
use Rattle.clean.specs.declared.Refusal.TheVariants.{NoRoom}
use Rattle.clean.specs.Clean.{Cleaned, done_with, runs_of, clean_of, bank_after, list_after}
use Rattle.clean.specs.Meaning.{OldByte, InRun, Listed, HoldsOld, CleanedOut, Cleaner, cleaner}
use Rattle.clean.specs.Promises.{Differs}
use Rattle.clean.specs.Runs.{flat}
use Rattle.clean.specs.Sectors.{numbers_at}

-- a bank and lists for which it says that it is done
pub record SaysDone (clean : Cleaner) : Type 0 where
  pub b : List ℕ
  pub runs : List ℕ
  pub sectors : List ℕ
  pub n : ℕ
  pub m : ℕ
  pub done : (clean b runs sectors).answer ≡ done_with n m

-- what it gives there
abbrev pub given : {clean : Cleaner} → SaysDone clean → CleanedOut
given {clean} at = clean at.b at.runs at.sectors

-- ---- the bank

-- an old byte stays as it was, whatever is done to the table
pub record LeavesOld (clean : Cleaner) : Type 0 where
  pub at : SaysDone clean
  pub k : ℕ
  pub is_old : OldByte at.b k
  pub stays : byte_at (given at).bank k ≡ byte_at at.b k

-- a byte of table or bodies becomes another one
pub record ChangesInside (clean : Cleaner) : Type 0 where
  pub at : SaysDone clean
  pub k : ℕ
  pub inside : Outside at.b k → ⊥
  pub differs : Differs at.b (given at) k

-- 'erased means unlisted', of both kinds: it takes the last entry off the table, and leaves what lies outside
abbrev pub bank_dropped : Cleaned → List ℕ → List ℕ
bank_dropped (Err refusal) b = b
bank_dropped (Ok done) b = dropped_of b

abbrev pub entry_dropper : Cleaner
entry_dropper b runs sectors =
    let o : CleanedOut = cleaner b runs sectors in
    record { answer = o.answer; bank = bank_dropped o.answer b; runs = o.runs; sectors = o.sectors }

-- ---- what is not listed

-- no run that is listed has an old byte
pub record HidesByte (clean : Cleaner) : Type 0 where
  pub at : SaysDone clean
  pub k : ℕ
  pub is_old : OldByte at.b k
  pub hidden : InRun (given at).runs at.n k → ⊥

-- sector s held an old byte, and is not listed
pub record HidesSector (clean : Cleaner) : Type 0 where
  pub at : SaysDone clean
  pub s : ℕ
  pub held : HoldsOld at.b s
  pub hidden : Listed (given at).sectors at.m s → ⊥

-- of both kinds: it clears, and lists nothing
abbrev pub untold : Cleaned → Cleaned
untold (Err refusal) = Err refusal
untold (Ok done) = done_with 0 0

abbrev pub silent : Cleaner
silent b runs sectors =
    let o : CleanedOut = cleaner b runs sectors in
    record { answer = untold o.answer; bank = o.bank; runs = runs; sectors = sectors }

-- ---- what is listed and was not cleared

-- a number is listed, and of no sector that held an old byte
pub record ListsUncleared (clean : Cleaner) : Type 0 where
  pub at : SaysDone clean
  pub place : ℕ
  pub below : place < at.m
  pub not_held : HoldsOld at.b (get_or (given at).sectors place 0) → ⊥

-- it lists all sectors of the bank
abbrev pub all_of : List ℕ → List ℕ
all_of b = numbers_at (λ (s : ℕ). true) (length b / sector_size)

abbrev pub told_all : Cleaned → List ℕ → List ℕ → Cleaned
told_all (Err refusal) sectors all = Err refusal
told_all (Ok done) sectors all = cond (leb (length all) (length sectors)) (done_with done.runs (length all)) (Err NoRoom)

abbrev pub all_lister : Cleaner
all_lister b runs sectors =
    let r : Cleaned = told_all (clean_of b (length runs) (length sectors)) sectors (all_of b) in
    record { answer = r; bank = bank_after r b; runs = list_after r runs (flat (runs_of b)); sectors = list_after r sectors (all_of b) }
