-- What is told to C of a bank that is cleaned: the number by which 02 §7 refuses it, or 0, and how many runs and sectors are listed.
-- Assumes nothing.
use Rattle.std.specs.Prelude.{ℕ, ◌≡◌, Bool, cond, List, [], ◌∷◌, Ok, Err, leb, length}
use Rattle.buffer.specs.Place.{front_of}
use Rattle.layout.specs.Said.{code}
use Rattle.clean.specs.declared.Counts.{Counts}
use Rattle.clean.specs.Clean.{Cleaned, counts, runs_of, sectors_of, clean_of, clean_says, bank_after, list_after}
use Rattle.clean.specs.Runs.{flat}

-- how many of each, none where it is refused
abbrev pub told_of : Cleaned → Counts
told_of (Err refusal) = counts 0 0
told_of (Ok done) = done

abbrev pub counts_of : Cleaned → List ℕ
counts_of r = (told_of r).runs ∷ (told_of r).sectors ∷ []

-- whether there is room for the two; if not, the bank is not looked at
abbrev pub room_for_counts : List ℕ → Bool
room_for_counts told = leb 2 (length told)

pub record IsCleanNumbers (b runs sectors told : List ℕ) (r : ℕ) (bank' runs' sectors' told' : List ℕ) : Type 0 where
  pub number_is : r ≡ cond (room_for_counts told) (code (clean_says b (length runs) (length sectors))) 2
  pub bank_is : bank' ≡ cond (room_for_counts told) (bank_after (clean_of b (length runs) (length sectors)) b) b
  pub runs_is : runs' ≡ cond (room_for_counts told) (list_after (clean_of b (length runs) (length sectors)) runs (flat (runs_of b))) runs
  pub sectors_is : sectors' ≡ cond (room_for_counts told) (list_after (clean_of b (length runs) (length sectors)) sectors (sectors_of b)) sectors
  pub told_is : told' ≡ front_of told (counts_of (clean_of b (length runs) (length sectors)))
