-- One that leaves an old byte, one that changes table or bodies, one that hides a byte or a sector, and one that lists a sector it did not clear are shut out.
-- Assumes nothing.
use mathlib.Core.Path.{◌≡◌, refl, sym, ap, ◌∙◌}
use mathlib.Core.Bool.{Bool, true, false}
use mathlib.Core.List.{List, [], ◌∷◌}
use Prim.Native.Nat.{ℕ, suc, ◌+◌, ◌-◌, ◌*◌, ◌<◌}
use native.Mathlib.Omega.{arith}
use lib.Dec.{eqb}
use lib.ListN.{length, get_or, replicate, length-replicate, get_or-replicate}
use borrow.Author.Tests.{le-leb, eqb-true, eqb-false}
use Rattle.buffer.specs.Number.{byte_at}
use Rattle.buffer.proofs.Places.{front_fits}
use Rattle.layout.specs.Layout.{sector_size, good_n, whole_length}
use Rattle.bank.proofs.Dropped.{dropped_outside, dropped_inside}
use Rattle.bank.proofs.Small.{small_end, small, small_length, small_byte, small_inside, small_outside, outside_small}
use Rattle.clean.specs.Clean.{done_with, most_runs}
use Rattle.clean.specs.Meaning.{OldByte, Cleaner, IsDone, MeetsCleaner, cleaner}
use Rattle.clean.specs.Sectors.{numbers_at}
use Rattle.clean.specs.Wrong.{SaysDone, LeavesOld, ChangesInside, entry_dropper, HidesByte, HidesSector, untold, silent, ListsUncleared, all_of, all_lister}
use Rattle.clean.proofs.Meaning.{runs_most, sectors_most, room, cleaner_meets}

-- SHUT OUT
module _ (clean : Cleaner) where
  pub no_leaver : LeavesOld clean → MeetsCleaner clean → ⊥
  no_leaver w meets = w.is_old.other (sym w.stays ∙ ((meets _ _ _).done _ _ w.at.done).cleared _ w.is_old)

  pub no_changer : ChangesInside clean → MeetsCleaner clean → ⊥
  no_changer w meets = w.differs (((meets _ _ _).done _ _ w.at.done).stays _ (λ o. w.inside o.outside))

  pub no_hider : HidesByte clean → MeetsCleaner clean → ⊥
  no_hider w meets = w.hidden (((meets _ _ _).done _ _ w.at.done).are_runs.all_old _ w.is_old)

  pub no_sector_hider : HidesSector clean → MeetsCleaner clean → ⊥
  no_sector_hider w meets =
      w.hidden (rw w.held.in_it at (((meets _ _ _).done _ _ w.at.done).are_sectors.all_held _ w.held.is_old))

  pub no_overlister : ListsUncleared clean → MeetsCleaner clean → ⊥
  no_overlister w meets = w.not_held (((meets _ _ _).done _ _ w.at.done).are_sectors.held _ w.below)

-- A BANK of two sectors, with a 0 right behind its body and 0xFF behind that
abbrev blanks : ℕ
blanks = 2 * sector_size - (small_end + 1)

blank : List ℕ
blank = replicate blanks 0xFF

filler : List ℕ
filler = 0 ∷ blank

bank : List ℕ
bank = small filler

bank_length : length bank ≡ 2 * sector_size
unfolding bank filler blank
bank_length = omega (arith, small_length filler, length-replicate {A = ℕ} blanks 0xFF)

bank_whole : whole_length (length bank) ≡ true
unfolding whole_length good_n
bank_whole = rw bank_length

bank_old : OldByte bank small_end
unfolding bank filler
bank_old =
    record { outside = small_outside filler small_end (omega arith) (omega (arith, bank_length)); other = λ e. omega (arith, small_byte filler 0) }

bank_blank : (i : ℕ) → i < blanks → byte_at bank (small_end + suc i) ≡ 0xFF
unfolding bank filler blank
bank_blank i h = small_byte filler (suc i) ∙ get_or-replicate blanks i 0xFF 0 h

bank_else : (k : ℕ) → OldByte bank k → k ≡ small_end
unfolding bank
bank_else k o = by (eqb k small_end) refl
  where
    by : (t : Bool) → eqb k small_end ≡ t → k ≡ small_end
    by true e = eqb-true _ _ e
    by false e =
        let l = outside_small filler k o.outside in
        let n = eqb-false k small_end e in
        let i : ℕ = k - (small_end + 1) in
        let q : small_end + suc i ≡ k = omega arith in
        absurd (o.other (rw q at (bank_blank i (omega (arith, bank_length, o.outside.within)))))

-- and a list that is long enough for runs and sectors
roomy : List ℕ
roomy = replicate (2 * most_runs) 0

roomy_length : length roomy ≡ 2 * most_runs
unfolding roomy
roomy_length = length-replicate {A = ℕ} (2 * most_runs) 0

is_done : IsDone (cleaner bank roomy roomy).answer
unfolding bank
is_done =
    (cleaner_meets bank roomy roomy).taken bank_whole (small_inside filler)
    (room bank roomy roomy bank_whole (omega (arith, runs_most bank bank_whole, roomy_length)) (omega (arith, sectors_most bank bank_whole, roomy_length)))

-- ONE OF EACH KIND
abbrev dropper_done : SaysDone entry_dropper
dropper_done = record { b = bank; runs = roomy; sectors = roomy; n = is_done.runs; m = is_done.sectors; done = is_done.is }

pub leaves_old : LeavesOld entry_dropper
leaves_old =
    record {
      at = dropper_done;
      k = small_end;
      is_old = bank_old;
      stays = rw is_done.is (dropped_outside bank small_end bank_old.outside);
    }

pub changes_inside : ChangesInside entry_dropper
unfolding bank
changes_inside =
    let d = dropped_inside bank (small_inside filler) in
    record {
      at = dropper_done;
      k = d.index;
      inside = d.inside;
      differs = rw is_done.is d.differs;
    }

abbrev silent_done : SaysDone silent
silent_done = record { b = bank; runs = roomy; sectors = roomy; n = 0; m = 0; done = ap untold is_done.is }

pub hides_byte : HidesByte silent
hides_byte =
    record {
      at = silent_done;
      k = small_end;
      is_old = bank_old;
      hidden = λ p. omega (arith, p.below);
    }

pub hides_sector : HidesSector silent
hides_sector =
    record {
      at = silent_done;
      s = 1;
      held = record { index = small_end; is_old = bank_old; in_it = refl };
      hidden = λ p. omega (arith, p.below);
    }

-- the second sector
pub lists_uncleared : ListsUncleared all_lister
unfolding numbers_at
lists_uncleared =
    let all : all_of bank ≡ 1 ∷ 2 ∷ [] = rw bank_length in
    let done : (all_lister bank roomy roomy).answer ≡ done_with is_done.runs 2 = rw (is_done.is, all, le-leb 2 (length roomy) (omega (arith, roomy_length))) in
    let two : get_or (all_lister bank roomy roomy).sectors 1 0 ≡ 2 =
    rw (done, all, front_fits roomy (1 ∷ 2 ∷ []) (omega (arith, roomy_length))) in
    record {
      at = record { b = bank; runs = roomy; sectors = roomy; n = is_done.runs; m = 2; done = done };
      place = 1;
      below = omega arith;
      not_held = λ h. omega (arith, two, bank_else h.index h.is_old, h.in_it);
    }
