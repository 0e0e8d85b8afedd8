-- What follows for every cleaner that is as asked, claim by claim (02 §7).
-- Assumes nothing.
use Rattle.std.specs.Prelude.{◌≡◌, true, false, List, ℕ, ◌*◌, ◌≤◌, ◌<◌, length, get_or}
use Rattle.buffer.specs.Number.{byte_at}
use Rattle.layout.specs.Layout.{most_sectors, whole_length}
use Rattle.layout.specs.Said.{number, result}
use Rattle.bank.specs.Meaning.{KeptInside, Outside, Kept}
use Rattle.bank.specs.Said.{check_says}
use Rattle.clean.specs.Clean.{done_with, most_runs, cleaned_said}
use Rattle.clean.specs.Meaning.{run_in, Has, InRun, sector_number, Listed, CleanedOut, Cleaner, TooMany}

-- the byte at index k is another one than before
abbrev pub Differs : List ℕ → CleanedOut → ℕ → Type 0
Differs b o k = byte_at o.bank k ≡ byte_at b k → ⊥

-- it lies in one of the n runs that are listed and in no other, was other than 0xFF, and is 0xFF
pub record Changed (b : List ℕ) (o : CleanedOut) (n k : ℕ) : Type 0 where
  pub in_run : InRun o.runs n k
  pub no_other : (i : ℕ) → i < n → Has (run_in o.runs i) k → i ≡ in_run.place
  pub was : byte_at b k ≡ 0xFF → ⊥
  pub is : byte_at o.bank k ≡ 0xFF

-- a byte of this sector is another one than before
pub record ChangedIn (b : List ℕ) (o : CleanedOut) (number : ℕ) : Type 0 where
  pub index : ℕ
  pub in_it : sector_number index ≡ number
  pub differs : Differs b o index

-- where n runs and m sectors are told
pub record Promised (b : List ℕ) (o : CleanedOut) (n m : ℕ) : Type 0 where
  -- "Afterwards the bank is sound, table and bodies are as before"
  pub sound : Kept o.bank
  pub inside : (k : ℕ) → (Outside b k → ⊥) → byte_at o.bank k ≡ byte_at b k
  -- "lists each run it cleared", and nothing else
  pub changed : (k : ℕ) → Differs b o k → Changed b o n k
  pub listed : (i k : ℕ) → i < n → Has (run_in o.runs i) k → (byte_at b k ≡ 0xFF → ⊥) × (byte_at o.bank k ≡ 0xFF)
  -- "the sectors that held such bytes": those of which a byte is another one
  pub sector_listed : (j : ℕ) → j < m → ChangedIn b o (get_or o.sectors j 0)
  pub sector_changed : (k : ℕ) → Differs b o k → Listed o.sectors m (sector_number k)

-- nothing is listed, and nothing changes
abbrev pub nothing_listed : List ℕ → List ℕ → List ℕ → CleanedOut
nothing_listed b runs sectors = record { answer = done_with 0 0; bank = b; runs = runs; sectors = sectors }

pub record Promises (clean : Cleaner) : Type 0 where
  pub promised : (b runs sectors : List ℕ) (n m : ℕ) → (clean b runs sectors).answer ≡ done_with n m → Promised b (clean b runs sectors) n m
  -- "cleaning again lists nothing", whatever lists are lent, empty ones too
  pub again :
      (b runs sectors : List ℕ) (n m : ℕ) → (clean b runs sectors).answer ≡ done_with n m → (runs' sectors' : List ℕ)
      → clean (clean b runs sectors).bank runs' sectors' ≡ nothing_listed (clean b runs sectors).bank runs' sectors'
  -- a fault in the gaps alone is never refused 9, any other always is; 9 and 10 are given for a bank's length only, 2 for no such length, and
  -- 10 where nothing but a list is at fault
  pub gaps_alone : (b runs sectors : List ℕ) → KeptInside b → cleaned_said (clean b runs sectors).answer ≡ number 9 → ⊥
  pub other_fault :
      (b runs sectors : List ℕ) → whole_length (length b) ≡ true → (KeptInside b → ⊥) → cleaned_said (clean b runs sectors).answer ≡ number 9
  pub two_length : (b runs sectors : List ℕ) → cleaned_said (clean b runs sectors).answer ≡ number 2 → whole_length (length b) ≡ false
  pub nine_whole : (b runs sectors : List ℕ) → cleaned_said (clean b runs sectors).answer ≡ number 9 → whole_length (length b) ≡ true
  pub ten_whole : (b runs sectors : List ℕ) → cleaned_said (clean b runs sectors).answer ≡ number 10 → whole_length (length b) ≡ true
  pub ten_list :
      (b runs sectors : List ℕ) → cleaned_said (clean b runs sectors).answer ≡ number 10 → KeptInside b × TooMany b runs sectors
  -- so one who lends that much is never refused it
  pub enough :
      (b runs sectors : List ℕ) → 2 * most_runs ≤ length runs → most_sectors ≤ length sectors → cleaned_said (clean b runs sectors).answer ≡ number 10 → ⊥
  -- the check says sound before, of a bank's length, exactly if nothing is listed, and always after
  pub sound_none : (b runs sectors : List ℕ) → check_says b ≡ result 0x06 → clean b runs sectors ≡ nothing_listed b runs sectors
  pub none_sound : (b runs sectors : List ℕ) → (clean b runs sectors).answer ≡ done_with 0 0 → check_says b ≡ result 0x06
  pub sound_after :
      (b runs sectors : List ℕ) (n m : ℕ) → (clean b runs sectors).answer ≡ done_with n m → check_says (clean b runs sectors).bank ≡ result 0x06
