-- The lists of the contract are the runs and the sectors of the bank, and one that does as the contract says is as asked.
-- Assumes nothing.
use mathlib.Core.Path.{◌≡◌, refl, sym, ap, ◌∙◌}
use mathlib.Core.Bool.{Bool, true, false, ◌&&◌, cond}
use mathlib.Core.List.{List, [], ◌++◌, append-nil}
use mathlib.Core.Logic.{◌⊎◌, inl, inr, ⊎_elim}
use Prim.Native.Nat.{ℕ, ◌+◌, ◌-◌, ◌/◌, ◌≤◌, ◌<◌}
use native.Mathlib.Decide.{dec_lt}
use native.Mathlib.Omega.{arith}
use lib.Dec.{leb, ltb}
use lib.ListN.{length, get_or, get_or-append, get_or-eq_default}
use borrow.Author.Tests.{ne_eqb, eqb-true, eqb-false, not-true, not-false, leb-true, leb-false, lt-ltb}
use Rattle.buffer.specs.Number.{byte_at}
use Rattle.buffer.specs.Place.{front_of}
use Rattle.buffer.proofs.Bools.{and_left, and_right, and_false, not_so, no_way}
use Rattle.buffer.proofs.Places.{front_fits, front_drop}
use Rattle.layout.specs.Layout.{sector_size, most_sectors, whole_length}
use Rattle.layout.proofs.Layouts.{whole_sectors}
use Rattle.bank.specs.declared.stretch.Stretch.{Stretch}
use Rattle.bank.specs.Gaps.{outside}
use Rattle.bank.specs.Meaning.{KeptInside}
use Rattle.bank.specs.Sound.{contents_good}
use Rattle.bank.specs.Stretch.{holders}
use Rattle.bank.proofs.Meaning.{kept_inside, inside_back}
use Rattle.bank.proofs.Outside.{outside_is, is_outside}
use Rattle.std.specs.Prelude.{Err}
use Rattle.clean.specs.declared.Counts.{Counts}
use Rattle.clean.specs.declared.Refusal.TheVariants.{BadLength, Faulty, NoRoom}
use Rattle.clean.specs.Clean.{Cleaned, counts, done_with, runs_of, most_runs, sectors_of, cleared_of, has_room, clean_of, IsClean}
use Rattle.clean.specs.Meaning.{OldByte, run_in, AreRuns, AreSectors}
use Rattle.clean.specs.Meaning.{TooMany, DoneRight, CleanRight, MeetsCleaner, cleaned, cleaner}
use Rattle.clean.specs.Old.{old}
use Rattle.clean.specs.Runs.{open_at, flat}
use Rattle.clean.specs.Sectors.{held_at}
use Rattle.clean.proofs.Gaps.{old_past}
use Rattle.clean.proofs.Putting.{flat_length}
use Rattle.clean.proofs.Runs.{runs-not, met_half}
use Rattle.clean.proofs.Sectors.{numbers_few}
use Rattle.clean.proofs.Walking.{whole_small}
use Rattle.clean.proofs.Listing.{run_at, Ordered, flat_run, run_holds, holds_run, held_ended, runs_ordered}
use Rattle.clean.proofs.Listing.{held_by, by_held, Numbers, numbers, cleared_length, cleared_byte}
use Rattle.clean.proofs.Unique.{runs_many, sectors_many}

-- WHICH BYTES ARE OLD, both ways
module _ (b : List ℕ) (k : ℕ) where
  pub old_byte : old b k ≡ true → OldByte b k
  unfolding old
  old_byte e =
      record {
        outside = outside_is b k (and_left (outside b k) _ e);
        other = eqb-false _ _ (not-true _ (and_right (outside b k) _ e));
      }

  pub byte_old : OldByte b k → old b k ≡ true
  unfolding old
  byte_old o = rw (is_outside b k o.outside, ne_eqb _ _ o.other)

  -- outside, what is not old is 0xFF
  pub else_blank : outside b k ≡ true → old b k ≡ false → byte_at b k ≡ 0xFF
  unfolding old
  else_blank o e = eqb-true _ _ (not-false _ (rw o at e))

-- THE RUNS: a byte is in one of them, or in none
module _ (b : List ℕ) where
  in_runs : (k : ℕ) → holders k (runs_of b) ≡ cond (old b k) 1 0
  unfolding runs_of
  in_runs k = held_ended (old b) k (length b) (old_past b (length b) (omega arith)) ∙ by (old b k) refl
    where
      by : (t : Bool) → old b k ≡ t → cond {A = ℕ} (ltb k (length b) && t) 1 0 ≡ cond t 1 0
      by true e = rw (lt-ltb k (length b) (old_byte b k e).outside.within)
      by false e = rw (and_false (ltb k (length b)))

  ordered : Ordered (runs_of b) (length b + 1 - open_at (old b) (length b + 1))
  unfolding runs_of
  ordered = runs_ordered (old b) (length b + 1)

  pub runs_most : whole_length (length b) ≡ true → length (runs_of b) ≤ most_runs
  unfolding runs_of
  runs_most w =
      let s = whole_small (length b) w in
      let h = met_half (old b) (length b) in
      rw (runs-not (old b) (length b) (old_past b (length b) (omega arith))) (omega (arith, s.1))

  -- whatever stands behind them in the list
  pub runs_are : (rest : List ℕ) → AreRuns b (flat (runs_of b) ++ rest) (length (runs_of b))
  runs_are rest =
      record {
        some = λ i h. omega (arith, ordered.some i h, size i h);
        apart = λ i h. let l : i < length (runs_of b) = omega arith in omega (arith, ordered.apart i h, start i l, size i l, start (i + 1) h);
        are_old = λ i k h p. old_byte b k (by k (old b k) refl (rw (in_runs k) at (run_holds k (runs_of b) i h (rw (at i h) at p))));
        all_old = λ k o.
            let p = holds_run k (runs_of b) (rw (in_runs k, byte_old b k o) (omega arith)) in
            record { place = p.place; below = p.below; has = rw (at p.place p.below) p.has };
      }
    where
      at : (i : ℕ) → i < length (runs_of b) → run_in (flat (runs_of b) ++ rest) i ≡ run_at (runs_of b) i
      at i h = flat_run (runs_of b) rest i h

      start : (i : ℕ) → i < length (runs_of b) → (run_in (flat (runs_of b) ++ rest) i).offset ≡ (run_at (runs_of b) i).offset
      start i h = ap (λ (r : Stretch). r.offset) (at i h)

      size : (i : ℕ) → i < length (runs_of b) → (run_in (flat (runs_of b) ++ rest) i).length ≡ (run_at (runs_of b) i).length
      size i h = ap (λ (r : Stretch). r.length) (at i h)

      by : (k : ℕ) (t : Bool) → old b k ≡ t → 1 ≤ cond t 1 0 → old b k ≡ true
      by k true e l = e
      by k false e l = absurd (omega arith)

  runs_alone : AreRuns b (flat (runs_of b)) (length (runs_of b))
  runs_alone = rw (append-nil (flat (runs_of b))) at (runs_are [])

-- THE SECTORS
module _ (b : List ℕ) (w : whole_length (length b) ≡ true) where
  listed : Numbers (held_at (old b) (length b)) (length b / sector_size) (sectors_of b)
  unfolding sectors_of
  listed = numbers (held_at (old b) (length b)) (length b / sector_size)

  pub sectors_most : length (sectors_of b) ≤ most_sectors
  unfolding sectors_of
  sectors_most =
      let s = whole_small (length b) w in
      let f = numbers_few (held_at (old b) (length b)) (length b / sector_size) in
      omega (arith, s.1)

  pub sectors_are : (rest : List ℕ) → AreSectors b (sectors_of b ++ rest) (length (sectors_of b))
  sectors_are rest =
      record {
        ascending = λ j h. rw (at j (omega arith), at (j + 1) h) (listed.ascending j h);
        held = λ j h.
            let p = held_by (old b) (get_or (sectors_of b) j 0 - 1) (length b) (listed.marks j h) in
            record {
              index = p.index;
              is_old = old_byte b p.index p.is_old;
              in_it = rw (at j h) (omega (arith, p.in_it, listed.low j h));
            };
        all_held = λ k o.
            let s : k / sector_size < length b / sector_size = omega (arith, whole_sectors (length b) w, o.outside.within) in
            let h = by_held (old b) (k / sector_size) (length b) (record { index = k; below = o.outside.within; is_old = byte_old b k o; in_it = refl }) in
            let p = listed.all (k / sector_size) s h in
            record { place = p.place; below = p.below; is = at p.place p.below ∙ p.is };
      }
    where
      at : (j : ℕ) → j < length (sectors_of b) → get_or (sectors_of b ++ rest) j 0 ≡ get_or (sectors_of b) j 0
      at j h = get_or-append (sectors_of b) rest 0 j h

  sectors_alone : AreSectors b (sectors_of b) (length (sectors_of b))
  sectors_alone = rw (append-nil (sectors_of b)) at (sectors_are [])

-- THE BANK
module _ (b : List ℕ) where
  pub length_cleared : length (cleared_of b) ≡ length b
  unfolding cleared_of
  length_cleared = cleared_length (old b) 0 b

  pub byte_cleared : (k : ℕ) → byte_at (cleared_of b) k ≡ cond (old b k) 0xFF (byte_at b k)
  unfolding cleared_of
  byte_cleared k = by (dec_lt k (length b))
    where
      by : Dec (k < length b) → byte_at (cleared_of b) k ≡ cond (old b k) 0xFF (byte_at b k)
      by (yes d) = let e : 0 + k ≡ k = omega arith in cleared_byte (old b) 0 b k d ∙ rw e
      by (no d) =
          rw (not_so (old b k) (λ e. omega (arith, (old_byte b k e).outside.within)))
          (get_or-eq_default (cleared_of b) 0 (omega (arith, length_cleared)) ∙ sym (get_or-eq_default b 0 (omega arith)))

-- WHAT COMES BACK, by the three tests
module _ (b runs sectors : List ℕ) where
  abbrev n : ℕ
  n = length (runs_of b)

  abbrev m : ℕ
  m = length (sectors_of b)

  -- a list that is too short, and that none is
  short : whole_length (length b) ≡ true → (length runs / 2 < n) ⊎ (length sectors < m) → TooMany b runs sectors
  short w s =
      record {
        all_runs = flat (runs_of b);
        n = n;
        are_runs = runs_alone b;
        all_sectors = sectors_of b;
        m = m;
        are_sectors = sectors_alone b w;
        no_room = s;
      }

  pub room : whole_length (length b) ≡ true → n ≤ length runs / 2 → m ≤ length sectors → TooMany b runs sectors → ⊥
  room w h l t =
      let p = runs_many (runs_alone b) t.are_runs in
      let q = sectors_many (sectors_alone b w) t.are_sectors in
      ⊎_elim (λ s. omega arith) (λ s. omega arith) t.no_room

  -- so it is known which
  pub room_known : whole_length (length b) ≡ true → Dec (TooMany b runs sectors)
  room_known w = by (dec_lt (length runs / 2) n) (dec_lt (length sectors) m)
    where
      by : Dec (length runs / 2 < n) → Dec (length sectors < m) → Dec (TooMany b runs sectors)
      by (yes d) e = yes (short w (inl d))
      by (no d) (yes e) = yes (short w (inr e))
      by (no d) (no e) = no (room w (omega arith) (omega arith))

  data Way : Type 0 where
    bad_length :
        whole_length (length b) ≡ false → cleaner b runs sectors ≡ record { answer = Err BadLength; bank = b; runs = runs; sectors = sectors } → Way
    faulty :
        whole_length (length b) ≡ true → (KeptInside b → ⊥)
        → cleaner b runs sectors ≡ record { answer = Err Faulty; bank = b; runs = runs; sectors = sectors } → Way
    no_room :
        whole_length (length b) ≡ true → KeptInside b → TooMany b runs sectors
        → cleaner b runs sectors ≡ record { answer = Err NoRoom; bank = b; runs = runs; sectors = sectors } → Way
    done :
        whole_length (length b) ≡ true → KeptInside b → n ≤ length runs / 2 → m ≤ length sectors
        → cleaner b runs sectors
        ≡ record { answer = done_with n m; bank = cleared_of b; runs = front_of runs (flat (runs_of b)); sectors = front_of sectors (sectors_of b) }
        → Way

  way : Way
  unfolding clean_of has_room
  way = by (whole_length (length b)) (contents_good b) (leb n (length runs / 2)) (leb m (length sectors)) refl refl refl refl
    where
      by :
          (w g h l : Bool) → whole_length (length b) ≡ w → contents_good b ≡ g → leb n (length runs / 2) ≡ h → leb m (length sectors) ≡ l → Way
      by false g h l a c d e = bad_length a (rw a)
      by true false h l a c d e = faulty a (λ k. let z = sym c ∙ inside_back b k in no_way (cc)) (rw (a, c))
      by true true false l a c d e = no_room a (kept_inside b c) (short a (inl (leb-false _ _ d))) (rw (a, c, d))
      by true true true false a c d e = no_room a (kept_inside b c) (short a (inr (leb-false _ _ e))) (rw (a, c, d, e))
      by true true true true a c d e = done a (kept_inside b c) (leb-true _ _ d) (leb-true _ _ e) (rw (a, c, d, e))

  module _ (w : whole_length (length b) ≡ true) (h : n ≤ length runs / 2) (l : m ≤ length sectors) where
    done-right :
        DoneRight b runs sectors
        (record { answer = done_with n m; bank = cleared_of b; runs = front_of runs (flat (runs_of b)); sectors = front_of sectors (sectors_of b) }) n m
    done-right =
        let long : length (flat (runs_of b)) ≤ length runs = omega (arith, flat_length (runs_of b)) in
        record {
          are_runs = rw (front_fits runs (flat (runs_of b)) long) (runs_are b _);
          are_sectors = rw (front_fits sectors (sectors_of b) l) (sectors_are b w _);
          same_length = length_cleared b;
          cleared = λ k o. byte_cleared b k ∙ rw (byte_old b k o);
          stays = λ k f. byte_cleared b k ∙ rw (not_so (old b k) (λ e. f (old_byte b k e)));
          runs_room = h;
          runs_rest = rw (flat_length (runs_of b)) at (front_drop runs (flat (runs_of b)) long);
          sectors_room = l;
          sectors_rest = front_drop sectors (sectors_of b) l;
        }

  clean_right : CleanRight b runs sectors (cleaner b runs sectors)
  clean_right = by way
    where
      by : Way → CleanRight b runs sectors (cleaner b runs sectors)
      by (bad_length w e) =
          rw e
          (record {
            bad_length = λ _. refl;
            faulty = λ v. let z = sym w ∙ v in no_way (cc);
            no_room = λ v. let z = sym w ∙ v in no_way (cc);
            untouched = λ x q. (refl, refl, refl);
            taken = λ v. let z = sym w ∙ v in no_way (cc);
            done = λ n m q. no_way (cc);
          })
      by (faulty w f e) =
          rw e
          (record {
            bad_length = λ v. let z = sym w ∙ v in no_way (cc);
            faulty = λ _ _. refl;
            no_room = λ v k. absurd (f k);
            untouched = λ x q. (refl, refl, refl);
            taken = λ v k. absurd (f k);
            done = λ n m q. no_way (cc);
          })
      by (no_room w k t e) =
          rw e
          (record {
            bad_length = λ v. let z = sym w ∙ v in no_way (cc);
            faulty = λ v f. absurd (f k);
            no_room = λ _ _ _. refl;
            untouched = λ x q. (refl, refl, refl);
            taken = λ v k f. absurd (f t);
            done = λ n m q. no_way (cc);
          })
      by (done w k h l e) =
          rw e
          (record {
            bad_length = λ v. let z = sym w ∙ v in no_way (cc);
            faulty = λ v f. absurd (f k);
            no_room = λ v k t. absurd (room w h l t);
            untouched = λ x q. no_way (cc);
            taken = λ v k f. record { runs = n; sectors = m; is = refl };
            done = λ i j q.
                let s : counts n m ≡ counts i j = cc in
                let p = ap (λ (c : Counts). c.runs) s in
                let r = ap (λ (c : Counts). c.sectors) s in
                rw (sym p, sym r) (done-right w h l);
          })

pub cleaner_meets : MeetsCleaner cleaner
cleaner_meets b runs sectors = clean_right b runs sectors

-- what meets the contract is that, and so as asked
pub contract_is :
    {b runs sectors : List ℕ} {r : Cleaned} {bank' runs' sectors' : List ℕ} → IsClean b runs sectors r bank' runs' sectors'
    → cleaner b runs sectors ≡ cleaned r bank' runs' sectors'
contract_is c =
    λ d. cleaned (sym c.answered d) (sym c.bank_then d) (sym c.runs_then d) (sym c.sectors_then d)

pub contract_right :
    (b runs sectors : List ℕ) {r : Cleaned} {bank' runs' sectors' : List ℕ} → IsClean b runs sectors r bank' runs' sectors'
    → CleanRight b runs sectors (cleaned r bank' runs' sectors')
contract_right b runs sectors c = rw (contract_is c) at (cleaner_meets b runs sectors)
