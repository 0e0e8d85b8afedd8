-- A bank cleaned (02 §7): what comes back of it, and what bank and lists then are.
-- Assumes nothing.
use Rattle.std.specs.Prelude.{◌≡◌, Bool, ◌&&◌, cond, List, [], ◌∷◌, ℕ, ◌+◌, ◌*◌, ◌/◌, Result, Ok, Err, leb, length}
use Rattle.buffer.specs.Place.{front_of}
use Rattle.layout.specs.Layout.{sector_size, most_sectors, whole_length}
use Rattle.layout.specs.Said.{Said, number, accepted}
use Rattle.bank.specs.declared.stretch.Stretch.{Stretch}
use Rattle.bank.specs.Sound.{contents_good}
use Rattle.bank.specs.declared.check.Fault.{Fault}
use Rattle.bank.specs.declared.check.Fault.TheVariants as fault
use Rattle.clean.specs.declared.Counts.{Counts}
use Rattle.clean.specs.declared.Refusal.{Refusal}
use Rattle.clean.specs.declared.Refusal.TheVariants.{BadLength, Faulty, NoRoom}
use Rattle.clean.specs.Old.{old}
use Rattle.clean.specs.Runs.{runs_at, flat}
use Rattle.clean.specs.Sectors.{held_at, numbers_at}

-- THE LISTS: "each run"; the index behind the last byte has none, so that a run that ends there is told too
unfoldable pub runs_of : List ℕ → List Stretch
runs_of b = runs_at (old b) (length b + 1)

-- as many as no bank has more of: proofs/Meaning.antt, `runs_most`
abbrev pub most_runs : ℕ
most_runs = sector_size * most_sectors / 2

-- "the numbers of the sectors that held such bytes, ascending"
unfoldable pub sectors_of : List ℕ → List ℕ
sectors_of b = numbers_at (held_at (old b) (length b)) (length b / sector_size)

-- THE BANK: "sets these to 0xFF"; the first of the bytes has index k
unfoldable pub cleared_from : (ℕ → Bool) → ℕ → List ℕ → List ℕ
cleared_from old k [] = []
cleared_from old k (x ∷ bytes) = cond (old k) 0xFF x ∷ cleared_from old (k + 1) bytes

unfoldable pub cleared_of : List ℕ → List ℕ
cleared_of b = cleared_from (old b) 0 b

-- WHAT COMES BACK: so many of each are listed, or it is refused
abbrev pub Cleaned : Type 0
Cleaned = Result Counts Refusal

abbrev pub counts : ℕ → ℕ → Counts
counts runs sectors = record { runs = runs; sectors = sectors }

abbrev pub done_with : ℕ → ℕ → Cleaned
done_with runs sectors = Ok (counts runs sectors)

-- by what the check of the contents found
abbrev pub refusal_of : Fault → Refusal
refusal_of fault.BadLength = BadLength
refusal_of fault.Unsound = Faulty

abbrev pub IsRefusalOf : Fault → Refusal → Type 0
IsRefusalOf fault r = r ≡ refusal_of fault

-- by the paper's numbers
abbrev pub refusal_number : Refusal → ℕ
refusal_number BadLength = 2
refusal_number Faulty = 9
refusal_number NoRoom = 10

abbrev pub IsCleanNumber : Refusal → ℕ → Type 0
IsCleanNumber refusal r = r ≡ refusal_number refusal

-- Whether each list has "room for all its entries"; a run takes two numbers
unfoldable pub has_room : List ℕ → ℕ → ℕ → Bool
has_room b runs sectors = leb (length (runs_of b)) (runs / 2) && leb (length (sectors_of b)) sectors

-- "Refusals, in this order"
unfoldable pub clean_of : List ℕ → ℕ → ℕ → Cleaned
clean_of b runs sectors =
    cond (whole_length (length b))
    (cond (contents_good b) (cond (has_room b runs sectors) (done_with (length (runs_of b)) (length (sectors_of b))) (Err NoRoom)) (Err Faulty))
    (Err BadLength)

-- "bank and lists untouched in each"; else the entries at the front, and "the rest of each list keeps what it held"
abbrev pub bank_after : Cleaned → List ℕ → List ℕ
bank_after (Err refusal) b = b
bank_after (Ok done) b = cleared_of b

abbrev pub list_after : Cleaned → List ℕ → List ℕ → List ℕ
list_after (Err refusal) before entries = before
list_after (Ok done) before entries = front_of before entries

-- in the paper's numbers
abbrev pub cleaned_said : Cleaned → Said
cleaned_said (Err refusal) = number (refusal_number refusal)
cleaned_said (Ok done) = accepted

unfoldable pub clean_says : List ℕ → ℕ → ℕ → Said
clean_says b runs sectors =
    cond (whole_length (length b)) (cond (contents_good b) (cond (has_room b runs sectors) accepted (number 10)) (number 9)) (number 2)

pub record IsClean (b runs sectors : List ℕ) (r : Cleaned) (bank' runs' sectors' : List ℕ) : Type 0 where
  pub answered : r ≡ clean_of b (length runs) (length sectors)
  pub says : cleaned_said r ≡ clean_says b (length runs) (length sectors)
  pub bank_then : bank' ≡ bank_after (clean_of b (length runs) (length sectors)) b
  pub runs_then : runs' ≡ list_after (clean_of b (length runs) (length sectors)) runs (flat (runs_of b))
  pub sectors_then : sectors' ≡ list_after (clean_of b (length runs) (length sectors)) sectors (sectors_of b)
