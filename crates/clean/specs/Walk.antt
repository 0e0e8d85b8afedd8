-- The runs and sectors by positions, as the code goes over the gaps of a bank.
-- Assumes nothing.
use Rattle.std.specs.Prelude.{◌≡◌, Bool, true, false, not, List, ◌++◌, ℕ, ◌+◌, ◌*◌, ◌/◌, ◌≤◌, ◌<◌, min, eqb, length, get_or, take, drop, replicate}
use Rattle.std.proofs.lemmas.List.Edits.{sets}
use Rattle.layout.specs.Layout.{sector_size, most_sectors, whole_length}
use Rattle.bank.specs.declared.gaps.Gap.{Gap}
use Rattle.bank.specs.Gaps.{GapsAt, Gapped, outside}
use Rattle.clean.specs.declared.count.Seen.{Seen}
use Rattle.clean.specs.declared.list.Progress.{Progress}
use Rattle.clean.specs.Old.{old}
use Rattle.clean.specs.Runs.{open_at, open_run, runs_at, flat}
use Rattle.clean.specs.Sectors.{held_at}

-- a bank of some length with good contents, and its gaps
pub record GoodBank (b : List ℕ) (gaps : List Gap) : Type 0 where
  pub whole : whole_length (length b) ≡ true
  pub gapped : Gapped b
  pub are : GapsAt b gaps

-- all that lies from index `from` to before index `to` is of the bank, and outside
pub record AllOutside (b : List ℕ) (from to : ℕ) : Type 0 where
  pub forward : from ≤ to
  pub within : to ≤ length b
  pub is_outside : (k : ℕ) → from ≤ k → k < to → outside b k ≡ true

-- as many bytes as a piece of a gap has at most
abbrev pub piece_size : ℕ
piece_size = 128

-- a piece: outside, of one sector, and short
pub record Piece (b : List ℕ) (from to : ℕ) : Type 0 where
  pub all_outside : AllOutside b from to
  pub one_sector : to ≤ (from / sector_size + 1) * sector_size
  pub short : to ≤ from + piece_size

-- where the piece from `at` on ends, in a gap that ends at `to`
abbrev pub piece_end : ℕ → ℕ → ℕ
piece_end at to = min to ((at / piece_size + 1) * piece_size)

-- how many runs the first k bytes have, the last perhaps one that goes on
abbrev pub met : (ℕ → Bool) → ℕ → ℕ
met old k = length (runs_at old k ++ open_run old k)

-- whether it may
abbrev pub goes : (ℕ → Bool) → ℕ → Bool
goes old k = not (eqb (open_at old k) 0)

-- what they have shown: these, and whether sector s holds an old one
unfoldable pub seen_at : (ℕ → Bool) → ℕ → ℕ → Seen
seen_at old k s =
    record { runs = met old k; last = goes old k; held = held_at old k s }

-- the mark of a sector, counted from 0
abbrev pub mark_in : List Bool → ℕ → Bool
mark_in marks s = get_or marks s false

-- none has one
unfoldable pub no_marks : List Bool
no_marks = replicate most_sectors false

-- the sectors' marks behind the first k bytes
pub record MarksAt (old : ℕ → Bool) (k : ℕ) (marks : List Bool) : Type 0 where
  pub room : length marks ≡ most_sectors
  pub marked : (s : ℕ) → s < most_sectors → mark_in marks s ≡ held_at old k s

-- a gap lies ahead, and no run goes on into it; so many end before it
pub record AtGap (b : List ℕ) (gap : Gap) (runs : ℕ) : Type 0 where
  pub whole : whole_length (length b) ≡ true
  pub all_outside : AllOutside b gap.start gap.end
  pub no_run : open_at (old b) gap.start ≡ 0
  pub so_many : runs ≡ length (runs_at (old b) gap.start)

-- how many runs are listed behind the first k bytes, and how many bytes the one has that may go on
pub record Reached (old : ℕ → Bool) (k : ℕ) (listed : Progress) : Type 0 where
  pub so_many : listed.runs ≡ length (runs_at old k)
  pub going : listed.length ≡ open_at old k

-- a list in which the runs of the first `from` bytes stood in front has those of the first `to` there, and else what it held
pub record ListsOn (old : ℕ → Bool) (from to : ℕ) (before after : List ℕ) : Type 0 where
  pub same_length : length after ≡ length before
  pub listed : (list : List ℕ) → before ≡ sets list 0 (flat (runs_at old from)) → after ≡ sets list 0 (flat (runs_at old to))

-- the same behind a gap, with the run that ends there
pub record ListsGap (old : ℕ → Bool) (gap : Gap) (before after : List ℕ) : Type 0 where
  pub same_length : length after ≡ length before
  pub listed :
      (list : List ℕ) → before ≡ sets list 0 (flat (runs_at old gap.start)) → after ≡ sets list 0 (flat (runs_at old gap.end ++ open_run old gap.end))

-- without a mark, no byte of a piece is old
abbrev pub MarkTells : (ℕ → Bool) → ℕ → ℕ → Bool → Type 0
MarkTells old from to mark = mark ≡ false → (k : ℕ) → from ≤ k → k < to → old k ≡ false

-- n bytes from index `from` on are 0xFF, and the others as they were
abbrev pub blanked : List ℕ → ℕ → ℕ → List ℕ
blanked bytes from n = take from bytes ++ (replicate n 0xFF ++ drop (from + n) bytes)
