-- What comes of a bank, case by case.
-- Assumes nothing.
use mathlib.Core.Path.{◌≡◌, refl, sym, ap, ◌∙◌}
use mathlib.Core.Bool.{Bool, true, false, ◌&&◌}
use mathlib.Core.List.{List}
use Prim.Native.Nat.{ℕ, ◌*◌, ◌/◌, ◌≤◌, ◌<◌}
use native.Mathlib.Omega.{arith}
use Rattle.std.specs.Prelude.{Err}
use lib.Dec.{leb}
use lib.ListN.{length, take, length-replicate, get_or-replicate}
use lib.Seq.{sets, length-sets, length-take-le, get_or-take}
use borrow.Author.Tests.{leb-true}
use Rattle.buffer.proofs.Bools.{and_left, and_right}
use Rattle.buffer.proofs.Places.{front_fits, sets_front}
use Rattle.buffer.specs.Place.{front_of}
use Rattle.layout.specs.Layout.{sector_size, most_sectors, whole_length}
use Rattle.bank.specs.declared.gaps.Gap.{Gap}
use Rattle.bank.specs.Gaps.{IsGaps}
use Rattle.bank.specs.declared.check.Fault.{Fault}
use Rattle.bank.specs.declared.check.Fault.TheVariants as fault
use Rattle.bank.specs.Sound.{contents_good, contents_of}
use Rattle.bank.proofs.Cases.{faulty_is, no_bank_is}
use Rattle.bank.proofs.Gapped.{gapped, gaps-at}
use Rattle.clean.specs.declared.Refusal.TheVariants.{NoRoom}
use Rattle.clean.specs.Clean.{Cleaned, refusal_of, done_with, runs_of, sectors_of, cleared_of, has_room, clean_of, bank_after, list_after, cleaned_said, clean_says, IsClean}
use Rattle.clean.specs.Old.{old}
use Rattle.clean.specs.Runs.{flat}
use Rattle.clean.specs.Sectors.{held_at, numbers_at}
use Rattle.clean.specs.Walk.{GoodBank, MarksAt, mark_in, no_marks}
use Rattle.clean.specs.Meaning.{AreRuns}
use Rattle.clean.proofs.Meaning.{runs_are as runs_are_there}
use Rattle.clean.proofs.Putting.{flat_length}
use Rattle.clean.proofs.Sectors.{numbers_same}
use Rattle.clean.proofs.Walking.{whole_small}

-- WHAT THE PASSES RUN ON: the gaps that were found, no marks at first, and at last those of the sectors that are listed
pub good_bank : (b : List ℕ) (gaps : List Gap) → IsGaps b gaps → whole_length (length b) ≡ true → contents_good b ≡ true → GoodBank b gaps
good_bank b gaps is w c = record { whole = w; gapped = gapped b w c; are = gaps-at b gaps is }

pub marks_none : (f : ℕ → Bool) {marks : List Bool} → marks ≡ no_marks → MarksAt f 0 marks
unfolding no_marks held_at
marks_none f e =
    record {
      room = ap length e ∙ length-replicate most_sectors false;
      marked = λ s h. ap (λ (marks : List Bool). mark_in marks s) e ∙ get_or-replicate most_sectors s false false h;
    }

module _ (b : List ℕ) (w : whole_length (length b) ≡ true) {marks : List Bool} (m : MarksAt (old b) (length b) marks) where
  pub sectors_room : length b / sector_size ≤ length marks
  sectors_room = let s = whole_small (length b) w in omega (arith, s.1, m.room)

  -- those of its sectors
  held_length : length (take (length b / sector_size) marks) ≡ length b / sector_size
  held_length = length-take-le (length b / sector_size) marks sectors_room

  pub sectors_small : length (take (length b / sector_size) marks) < 65535
  sectors_small = let s = whole_small (length b) w in omega (arith, s.1, held_length)

  pub sectors_are : numbers_at (mark_in (take (length b / sector_size) marks)) (length (take (length b / sector_size) marks)) ≡ sectors_of b
  unfolding sectors_of
  sectors_are =
      rw held_length
      (numbers_same (mark_in (take (length b / sector_size) marks)) (held_at (old b) (length b)) (length b / sector_size)
      (λ s h. get_or-take (length b / sector_size) marks s false h ∙ m.marked s (let l = sectors_room in omega (arith, m.room))))

-- WHAT COMES BACK, and what it says
clean_is :
    (b runs sectors : List ℕ) {r : Cleaned} {bank' runs' sectors' : List ℕ} → r ≡ clean_of b (length runs) (length sectors)
    → clean_says b (length runs) (length sectors) ≡ cleaned_said r → bank' ≡ bank_after r b → runs' ≡ list_after r runs (flat (runs_of b))
    → sectors' ≡ list_after r sectors (sectors_of b) → IsClean b runs sectors r bank' runs' sectors'
clean_is b runs sectors e s p q t =
    record {
      answered = e;
      says = sym s;
      bank_then = p ∙ ap (λ (r : Cleaned). bank_after r b) e;
      runs_then = q ∙ ap (λ (r : Cleaned). list_after r runs (flat (runs_of b))) e;
      sectors_then = t ∙ ap (λ (r : Cleaned). list_after r sectors (sectors_of b)) e;
    }

module _ (b runs sectors : List ℕ) where
  -- by a fault that the check of the contents found
  pub clean_refused : (fault : Fault) → contents_of b ≡ Err fault → IsClean b runs sectors (Err (refusal_of fault)) b runs sectors
  unfolding clean_of clean_says
  clean_refused fault.BadLength e =
      let w = no_bank_is b (contents_of b) refl e in
      clean_is b runs sectors (rw w) (rw w) refl refl refl
  clean_refused fault.Unsound e =
      let f = faulty_is b (contents_of b) refl e in
      clean_is b runs sectors (rw (f.0, f.1)) (rw (f.0, f.1)) refl refl refl

  module _ (w : whole_length (length b) ≡ true) where
    -- r is whether there is room for the n runs and m sectors that were counted
    module _
        (c : contents_good b ≡ true) {n m : ℕ} {r : Bool} (runs-told : n ≡ length (runs_of b)) (sectors-told : m ≡ length (sectors_of b))
        (room : r ≡ (leb n (length runs / 2) && leb m (length sectors)))
      where
        room-is : has_room b (length runs) (length sectors) ≡ r
        unfolding has_room
        room-is = sym (room ∙ rw (runs-told, sectors-told))

        pub clean-full : r ≡ false → IsClean b runs sectors (Err NoRoom) b runs sectors
        unfolding clean_of clean_says
        clean-full f = let e = room-is ∙ f in clean_is b runs sectors (rw (w, c, e)) (rw (w, c, e)) refl refl refl

        module _ (t : r ≡ true) where
          pub runs_fit : length (runs_of b) ≤ length runs / 2
          runs_fit = rw (← runs-told) (leb-true _ _ (and_left (leb n (length runs / 2)) _ (sym room ∙ t)))

          pub sectors-fit : length (sectors_of b) ≤ length sectors
          sectors-fit = rw (← sectors-told) (leb-true _ _ (and_right (leb n (length runs / 2)) _ (sym room ∙ t)))

          numbers_fit : length (flat (runs_of b)) ≤ length runs
          numbers_fit = let f = runs_fit in let l = flat_length (runs_of b) in omega arith

          -- what the list holds
          pub listed-front : {runs' : List ℕ} → runs' ≡ sets runs 0 (flat (runs_of b)) → runs' ≡ front_of runs (flat (runs_of b))
          listed-front e = e ∙ sets_front runs (flat (runs_of b)) numbers_fit

          -- in it are the runs of the bank, so that they can be blanked by it
          pub listed-runs : {runs' : List ℕ} → runs' ≡ sets runs 0 (flat (runs_of b)) → AreRuns b runs' n × (2 * n ≤ length runs')
          listed-runs e =
              let f = listed-front e ∙ front_fits runs (flat (runs_of b)) numbers_fit in
              let l = ap length e ∙ length-sets runs 0 (flat (runs_of b)) in
              let k = runs_fit in
              (rw (f, runs-told) (runs_are_there b _), rw runs-told (omega arith))

          pub clean-done :
              {bank' runs' sectors' : List ℕ} → bank' ≡ cleared_of b → runs' ≡ sets runs 0 (flat (runs_of b))
              → sectors' ≡ sets sectors 0 (sectors_of b) → IsClean b runs sectors (done_with n m) bank' runs' sectors'
          unfolding clean_of clean_says
          clean-done p q s =
              let e = room-is ∙ t in
              clean_is b runs sectors (rw (w, c, e, runs-told, sectors-told)) (rw (w, c, e)) p (listed-front q)
              (s ∙ sets_front sectors (sectors_of b) sectors-fit)
