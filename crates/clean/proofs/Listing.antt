-- What the lists hold, whatever is said to be old: the runs, the sectors and the bytes that are cleared.
-- Assumes nothing.
use mathlib.Core.Path.{◌≡◌, refl, sym, ap, ◌∙◌}
use mathlib.Core.Bool.{Bool, true, false, ◌&&◌, cond}
use mathlib.Core.List.{List, [], ◌∷◌, ◌++◌, append-nil}
use Prim.Native.Nat.{ℕ, zero, suc, ◌+◌, ◌-◌, ◌*◌, ◌/◌, ◌≤◌, ◌<◌}
use native.Mathlib.Decide.{dec_lt}
use native.Mathlib.Numerals.{add-one}
use native.Mathlib.Omega.{arith}
use lib.Dec.{eqb, leb, ltb}
use lib.ListN.{length, get_or, length-append, get_or-append}
use lib.Seq.{get_or_at}
use borrow.Author.Tests.{eq-eqb, eqb-true, eqb-false, leb-true, ltb-true, lt-ltb, le-ltb, le-leb, lt-leb}
use Rattle.buffer.specs.Number.{byte_at}
use Rattle.buffer.proofs.Bools.{and_left, and_right, and_both, and_false, no_way}
use Rattle.layout.specs.Layout.{sector_size}
use Rattle.bank.specs.declared.stretch.Stretch.{Stretch}
use Rattle.bank.specs.Stretch.{stop_of, holds, holders}
use Rattle.bank.proofs.Stretches.{holds_in}
use Rattle.clean.specs.Clean.{cleared_from}
use Rattle.clean.specs.Meaning.{run_in, Has, Listed}
use Rattle.clean.specs.Runs.{open_at, run_before, open_run, runs_at, flat}
use Rattle.clean.specs.Sectors.{held_at, numbers_at}
use Rattle.clean.proofs.Runs.{run_none, run_some, open-old, runs-old, open-not, runs-not}

-- where a list has no run
abbrev pub no_run : Stretch
no_run = record { offset = 0; length = 0 }

abbrev pub run_at : List Stretch → ℕ → Stretch
run_at rs i = get_or rs i no_run

-- THE LIST OF NUMBERS: two of each run
pub flat_run : (rs : List Stretch) (rest : List ℕ) (i : ℕ) → i < length rs → run_in (flat rs ++ rest) i ≡ run_at rs i
unfolding flat
flat_run [] rest i h = absurd (omega arith)
flat_run (r ∷ rs) rest zero h = refl
flat_run (r ∷ rs) rest (suc i) h =
    let e : 2 * suc i ≡ suc (suc (2 * i)) = omega arith in
    let f : suc (suc (2 * i)) + 1 ≡ suc (suc (2 * i + 1)) = omega arith in
    rw (e, f) (flat_run rs rest i (omega arith))

-- A BYTE IN RUNS: in one of them if any holds it
module _ (k : ℕ) where
  holds_has : (r : Stretch) → holds k r ≡ true → Has r k
  unfolding holds
  holds_has r e = record { from = leb-true _ _ (and_left (leb r.offset k) _ e); before = ltb-true _ _ (and_right (leb r.offset k) _ e) }

  holders_append : (rs ss : List Stretch) → holders k (rs ++ ss) ≡ holders k rs + holders k ss
  unfolding holders
  holders_append [] ss = omega arith
  holders_append (r ∷ rs) ss = by (holds k r) (holders_append rs ss)
    where
      by :
          (t : Bool) → holders k (rs ++ ss) ≡ holders k rs + holders k ss
          → cond t (holders k (rs ++ ss) + 1) (holders k (rs ++ ss)) ≡ cond t (holders k rs + 1) (holders k rs) + holders k ss
      by true e = omega arith
      by false e = e

  pub run_holds : (rs : List Stretch) (i : ℕ) → i < length rs → Has (run_at rs i) k → 1 ≤ holders k rs
  unfolding holders
  run_holds [] i l h = absurd (omega arith)
  run_holds (r ∷ rs) zero l h = rw (holds_in k r h.from h.before) (omega arith)
  run_holds (r ∷ rs) (suc i) l h = by (holds k r) (run_holds rs i (omega arith) h)
    where
      by : (t : Bool) → 1 ≤ holders k rs → 1 ≤ cond t (holders k rs + 1) (holders k rs)
      by true e = omega arith
      by false e = e

  -- which one
  pub record Holder (rs : List Stretch) : Type 0 where
    pub place : ℕ
    pub below : place < length rs
    pub has : Has (run_at rs place) k

  pub holds_run : (rs : List Stretch) → 1 ≤ holders k rs → Holder rs
  unfolding holders
  holds_run [] l = absurd (omega arith)
  holds_run (r ∷ rs) l = by (holds k r) refl l (holds_run rs)
    where
      by : (t : Bool) → holds k r ≡ t → 1 ≤ cond t (holders k rs + 1) (holders k rs) → (1 ≤ holders k rs → Holder rs) → Holder (r ∷ rs)
      by true e m f = record { place = 0; below = omega arith; has = holds_has r e }
      by false e m f = let h = f m in record { place = suc h.place; below = omega (arith, h.below); has = h.has }

-- n bytes right before index m hold those and no others
before_holds : (k m n : ℕ) → n ≤ m → holders k (run_before m n) ≡ cond (leb (m - n) k && ltb k m) 1 0
unfolding run_before holders holds
before_holds k m n l = by (eqb n 0) refl (dec_lt k m)
  where
    by :
        (t : Bool) → eqb n 0 ≡ t → Dec (k < m)
        → holders k (cond t [] (record { offset = m - n; length = n } ∷ [])) ≡ cond (leb (m - n) k && ltb k m) 1 0
    by true e (yes d) = let z = eqb-true n 0 e in rw (lt-leb (m - n) k (omega arith))
    by true e (no d) = rw (le-ltb k m (omega arith), and_false (leb (m - n) k))
    by false e d = let s : m - n + n ≡ m = omega arith in rw s

-- THE RUNS
module _ (old : ℕ → Bool) where
  open_few : (m : ℕ) → open_at old m ≤ m
  unfolding open_at
  open_few zero = omega arith
  open_few (suc m) = by (old m) (open_few m)
    where
      by : (t : Bool) → open_at old m ≤ m → cond t (open_at old m + 1) 0 ≤ suc m
      by true l = omega arith
      by false l = omega arith

  -- the byte at index k, with those before index m told
  module _ (k : ℕ) where
    abbrev Once : ℕ → Type 0
    Once m = holders k (runs_at old m ++ open_run old m) ≡ cond (ltb k m && old k) 1 0

    once-first : Once 0
    unfolding runs_at open_at run_before holders
    once-first = rw (le-ltb k 0 (omega arith))

    parted : (m : ℕ) → holders k (runs_at old m ++ open_run old m) ≡ holders k (runs_at old m) + cond (leb (m - open_at old m) k && ltb k m) 1 0
    parted m = rw (holders_append k (runs_at old m) (open_run old m), before_holds k m (open_at old m) (open_few m))

    once-old : (m : ℕ) → old m ≡ true → Once m → Once (m + 1)
    once-old m o e =
        let s : m + 1 - (open_at old m + 1) ≡ m - open_at old m = omega arith in
        rw (parted (m + 1), runs-old old m o, open-old old m o, s) (by (dec_lt k m) (dec_lt m k) (sym (parted m) ∙ e))
      where
        few : open_at old m ≤ m
        few = open_few m

        by :
            Dec (k < m) → Dec (m < k) → holders k (runs_at old m) + cond (leb (m - open_at old m) k && ltb k m) 1 0 ≡ cond (ltb k m && old k) 1 0
            → holders k (runs_at old m) + cond (leb (m - open_at old m) k && ltb k (m + 1)) 1 0 ≡ cond (ltb k (m + 1) && old k) 1 0
        by (yes d) g e = rw (lt-ltb k (m + 1) (omega arith)) (rw (lt-ltb k m d) at e)
        by (no d) (yes g) e = rw (le-ltb k (m + 1) (omega arith)) (rw (le-ltb k m (omega arith)) at e)
        by (no d) (no g) e =
            let h : k ≡ m = omega arith in
            let n = rw (le-ltb k m (omega arith), and_false (leb (m - open_at old m) k)) at e in
            rw (lt-ltb k (m + 1) (omega arith), le-leb (m - open_at old m) k (omega arith), ap old h ∙ o) (omega arith)

    once-not : (m : ℕ) → old m ≡ false → Once m → Once (m + 1)
    once-not m o e =
        rw (runs-not old m o, run_none old (m + 1) (open-not old m o), append-nil (runs_at old m ++ open_run old m)) (e ∙ by (dec_lt k m) (dec_lt m k))
      where
        by : Dec (k < m) → Dec (m < k) → cond {A = ℕ} (ltb k m && old k) 1 0 ≡ cond (ltb k (m + 1) && old k) 1 0
        by (yes d) g = rw (lt-ltb k (m + 1) (omega arith), lt-ltb k m d)
        by (no d) (yes g) = rw (le-ltb k (m + 1) (omega arith), le-ltb k m (omega arith))
        by (no d) (no g) =
            let h : k ≡ m = omega arith in
            rw (le-ltb k m (omega arith), ap old h ∙ o, and_false (ltb k (m + 1)))

  -- each byte before index m lies in one run if it is old, and in none if it is not
  pub held_once : (k m : ℕ) → holders k (runs_at old m ++ open_run old m) ≡ cond (ltb k m && old k) 1 0
  held_once k zero = once-first k
  held_once k (suc m) = rw (sym (add-one m)) (by (old m) refl (held_once k m))
    where
      by : (t : Bool) → old m ≡ t → Once k m → Once k (m + 1)
      by true o e = once-old k m o e
      by false o e = once-not k m o e

  -- and where the last one is at its end
  pub held_ended : (k m : ℕ) → old m ≡ false → holders k (runs_at old (m + 1)) ≡ cond (ltb k m && old k) 1 0
  held_ended k m o = rw (runs-not old m o) (held_once k m)

-- one more at the end of a list
module _ {A : Type 0} (l : List A) (x : A) where
  one_length : length (l ++ x ∷ []) ≡ length l + 1
  one_length = length-append l (x ∷ [])

  module _ (d : A) (i : ℕ) where
    one-before : i < length l → get_or (l ++ x ∷ []) i d ≡ get_or l i d
    one-before h = get_or-append l (x ∷ []) d i h

    one_last : i ≡ length l → get_or (l ++ x ∷ []) i d ≡ x
    one_last h = get_or_at l x [] d i (sym h)

-- LOWEST FIRST: none is empty, none touches the next, and all end before index `at`
pub record Ordered (rs : List Stretch) (at : ℕ) : Type 0 where
  pub some : (i : ℕ) → i < length rs → 1 ≤ (run_at rs i).length
  pub apart : (i : ℕ) → i + 1 < length rs → stop_of (run_at rs i) < (run_at rs (i + 1)).offset
  pub ends : (i : ℕ) → i < length rs → stop_of (run_at rs i) < at

ordered_later : (rs : List Stretch) (at to : ℕ) → at ≤ to → Ordered rs at → Ordered rs to
ordered_later rs at to l o = record { some = o.some; apart = o.apart; ends = λ i h. omega (arith, o.ends i h) }

-- one more behind them
module _ (rs : List Stretch) (at : ℕ) (o : Ordered rs at) (r : Stretch) (l : at ≤ r.offset) (s : 1 ≤ r.length) where
  ordered_more : Ordered (rs ++ r ∷ []) (stop_of r + 1)
  ordered_more =
      record {
        some = λ i h. some i h (dec_lt i (length rs));
        apart = λ i h. apart i h (dec_lt (i + 1) (length rs));
        ends = λ i h. ends i h (dec_lt i (length rs));
      }
    where
      some : (i : ℕ) → i < length (rs ++ r ∷ []) → Dec (i < length rs) → 1 ≤ (run_at (rs ++ r ∷ []) i).length
      some i h (yes d) = rw (one-before rs r no_run i d) (o.some i d)
      some i h (no d) = rw (one_last rs r no_run i (omega (arith, one_length rs r))) s

      apart :
          (i : ℕ) → i + 1 < length (rs ++ r ∷ []) → Dec (i + 1 < length rs)
          → stop_of (run_at (rs ++ r ∷ []) i) < (run_at (rs ++ r ∷ []) (i + 1)).offset
      apart i h (yes d) = rw (one-before rs r no_run i (omega arith), one-before rs r no_run (i + 1) d) (o.apart i d)
      apart i h (no d) =
          let n = one_length rs r in
          let b : i < length rs = omega arith in
          rw (one-before rs r no_run i b, one_last rs r no_run (i + 1) (omega arith)) (omega (arith, o.ends i b))

      ends : (i : ℕ) → i < length (rs ++ r ∷ []) → Dec (i < length rs) → stop_of (run_at (rs ++ r ∷ []) i) < stop_of r + 1
      ends i h (yes d) = rw (one-before rs r no_run i d) (omega (arith, o.ends i d))
      ends i h (no d) = rw (one_last rs r no_run i (omega (arith, one_length rs r))) (omega arith)

ordered_none : (old : ℕ → Bool) (at : ℕ) → Ordered (runs_at old 0) at
unfolding runs_at
ordered_none old at = record { some = λ i h. absurd (omega arith); apart = λ i h. absurd (omega arith); ends = λ i h. absurd (omega arith) }

pub runs_ordered : (old : ℕ → Bool) (m : ℕ) → Ordered (runs_at old m) (m - open_at old m)
runs_ordered old zero = ordered_none old _
runs_ordered old (suc m) = rw (sym (add-one m)) (by (old m) refl (eqb (open_at old m) 0) refl (runs_ordered old m))
  where
    by :
        (t : Bool) → old m ≡ t → (z : Bool) → eqb (open_at old m) 0 ≡ z → Ordered (runs_at old m) (m - open_at old m)
        → Ordered (runs_at old (m + 1)) (m + 1 - open_at old (m + 1))
    by true o z e h =
        let s : m + 1 - (open_at old m + 1) ≡ m - open_at old m = omega arith in
        rw (runs-old old m o, open-old old m o, s) h
    by false o true e h =
        let n = eqb-true (open_at old m) 0 e in
        rw (runs-not old m o, run_none old m n, append-nil (runs_at old m), open-not old m o) (ordered_later _ _ _ (omega arith) h)
    by false o false e h =
        let few = open_few old m in
        let n = eqb-false (open_at old m) 0 e in
        rw (runs-not old m o, run_some old m n, open-not old m o)
        (ordered_later _ _ _ (omega arith)
        (ordered_more (runs_at old m) _ h (record { offset = m - open_at old m; length = open_at old m }) (omega arith) (omega arith)))

-- THE SECTORS: sector s is held if one of the first k bytes is old and lies in it
pub record HeldBy (old : ℕ → Bool) (k s : ℕ) : Type 0 where
  pub index : ℕ
  pub below : index < k
  pub is_old : old index ≡ true
  pub in_it : index / sector_size ≡ s

module _ (old : ℕ → Bool) (s : ℕ) where
  pub held_by : (k : ℕ) → held_at old k s ≡ true → HeldBy old k s
  unfolding held_at
  held_by zero e = no_way (cc)
  held_by (suc k) e = by (old k && eqb (k / sector_size) s) refl e (held_by k)
    where
      by :
          (t : Bool) → (old k && eqb (k / sector_size) s) ≡ t → cond t true (held_at old k s) ≡ true → (held_at old k s ≡ true → HeldBy old k s)
          → HeldBy old (suc k) s
      by true t e f =
          record { index = k; below = omega arith; is_old = and_left (old k) _ t; in_it = eqb-true _ _ (and_right (old k) _ t) }
      by false t e f = let h = f e in record { index = h.index; below = omega (arith, h.below); is_old = h.is_old; in_it = h.in_it }

  pub by_held : (k : ℕ) → HeldBy old k s → held_at old k s ≡ true
  unfolding held_at
  by_held zero h = absurd (omega (arith, h.below))
  by_held (suc k) h = by (old k && eqb (k / sector_size) s) refl (dec_lt h.index k) (by_held k)
    where
      by :
          (t : Bool) → (old k && eqb (k / sector_size) s) ≡ t → Dec (h.index < k) → (HeldBy old k s → held_at old k s ≡ true)
          → cond t true (held_at old k s) ≡ true
      by true t d f = refl
      by false t (yes d) f = f (record { index = h.index; below = d; is_old = h.is_old; in_it = h.in_it })
      by false t (no d) f =
          let e : h.index ≡ k = omega (arith, h.below) in
          let z = sym t ∙ and_both (old k) (eqb (k / sector_size) s) (rw e at h.is_old) (eq-eqb _ _ (rw e at h.in_it)) in
          no_way (cc)

-- the numbers of those that have a mark, ascending, and none of another
pub record Numbers (marked : ℕ → Bool) (m : ℕ) (l : List ℕ) : Type 0 where
  pub ascending : (j : ℕ) → j + 1 < length l → get_or l j 0 < get_or l (j + 1) 0
  pub low : (j : ℕ) → j < length l → 1 ≤ get_or l j 0
  pub high : (j : ℕ) → j < length l → get_or l j 0 ≤ m
  pub marks : (j : ℕ) → j < length l → marked (get_or l j 0 - 1) ≡ true
  pub all : (s : ℕ) → s < m → marked s ≡ true → Listed l (length l) (s + 1)

module _ (marked : ℕ → Bool) where
  numbers_none : Numbers marked 0 (numbers_at marked 0)
  unfolding numbers_at
  numbers_none =
      record {
        ascending = λ j h. absurd (omega arith);
        low = λ j h. absurd (omega arith);
        high = λ j h. absurd (omega arith);
        marks = λ j h. absurd (omega arith);
        all = λ s h. absurd (omega arith);
      }

  module _ (m : ℕ) (l : List ℕ) (n : Numbers marked m l) where
    -- a sector without one
    numbers_same : marked m ≡ false → Numbers marked (m + 1) l
    numbers_same e =
        record {
          ascending = n.ascending;
          low = n.low;
          high = λ j h. omega (arith, n.high j h);
          marks = n.marks;
          all = λ s h t. all s h t (dec_lt s m);
        }
      where
        all : (s : ℕ) → s < m + 1 → marked s ≡ true → Dec (s < m) → Listed l (length l) (s + 1)
        all s h t (yes d) = n.all s d t
        all s h t (no d) =
            let q : s ≡ m = omega arith in
            let z = sym e ∙ rw q at t in
            no_way (cc)

    -- and with one
    module _ (e : marked m ≡ true) where
      numbers_more : Numbers marked (m + 1) (l ++ suc m ∷ [])
      numbers_more =
          record {
            ascending = λ j h. ascending j h (dec_lt (j + 1) (length l));
            low = λ j h. low j h (dec_lt j (length l));
            high = λ j h. high j h (dec_lt j (length l));
            marks = λ j h. marks j h (dec_lt j (length l));
            all = λ s h t. all s h t (dec_lt s m);
          }
        where
          ascending :
              (j : ℕ) → j + 1 < length (l ++ suc m ∷ []) → Dec (j + 1 < length l) → get_or (l ++ suc m ∷ []) j 0 < get_or (l ++ suc m ∷ []) (j + 1) 0
          ascending j h (yes d) = rw (one-before l (suc m) 0 j (omega arith), one-before l (suc m) 0 (j + 1) d) (n.ascending j d)
          ascending j h (no d) =
              let c = one_length l (suc m) in
              let b : j < length l = omega arith in
              rw (one-before l (suc m) 0 j b, one_last l (suc m) 0 (j + 1) (omega arith)) (omega (arith, n.high j b))

          low : (j : ℕ) → j < length (l ++ suc m ∷ []) → Dec (j < length l) → 1 ≤ get_or (l ++ suc m ∷ []) j 0
          low j h (yes d) = rw (one-before l (suc m) 0 j d) (n.low j d)
          low j h (no d) = rw (one_last l (suc m) 0 j (omega (arith, one_length l (suc m)))) (omega arith)

          high : (j : ℕ) → j < length (l ++ suc m ∷ []) → Dec (j < length l) → get_or (l ++ suc m ∷ []) j 0 ≤ m + 1
          high j h (yes d) = rw (one-before l (suc m) 0 j d) (omega (arith, n.high j d))
          high j h (no d) = rw (one_last l (suc m) 0 j (omega (arith, one_length l (suc m)))) (omega arith)

          marks : (j : ℕ) → j < length (l ++ suc m ∷ []) → Dec (j < length l) → marked (get_or (l ++ suc m ∷ []) j 0 - 1) ≡ true
          marks j h (yes d) = rw (one-before l (suc m) 0 j d) (n.marks j d)
          marks j h (no d) =
              let q : suc m - 1 ≡ m = omega arith in
              rw (one_last l (suc m) 0 j (omega (arith, one_length l (suc m))), q) e

          all : (s : ℕ) → s < m + 1 → marked s ≡ true → Dec (s < m) → Listed (l ++ suc m ∷ []) (length (l ++ suc m ∷ [])) (s + 1)
          all s h t (yes d) =
              let p = n.all s d t in
              record { place = p.place; below = omega (arith, one_length l (suc m), p.below); is = one-before l (suc m) 0 p.place p.below ∙ p.is }
          all s h t (no d) = record { place = length l; below = omega (arith, one_length l (suc m)); is = one_last l (suc m) 0 (length l) refl ∙ omega arith }

  numbers_suc : (m : ℕ) → numbers_at marked (m + 1) ≡ numbers_at marked m ++ cond (marked m) (suc m ∷ []) []
  unfolding numbers_at
  numbers_suc m = rw (add-one m)

  pub numbers : (m : ℕ) → Numbers marked m (numbers_at marked m)
  numbers zero = numbers_none
  numbers (suc m) = rw (sym (add-one m), numbers_suc m) (by (marked m) refl (numbers m))
    where
      by :
          (t : Bool) → marked m ≡ t → Numbers marked m (numbers_at marked m)
          → Numbers marked (m + 1) (numbers_at marked m ++ cond t (suc m ∷ []) [])
      by true e n = numbers_more m (numbers_at marked m) n e
      by false e n = rw (append-nil (numbers_at marked m)) (numbers_same m (numbers_at marked m) n e)

-- THE BYTES
module _ (old : ℕ → Bool) where
  pub cleared_length : (at : ℕ) (bytes : List ℕ) → length (cleared_from old at bytes) ≡ length bytes
  unfolding cleared_from
  cleared_length at [] = refl
  cleared_length at (x ∷ bytes) = ap suc (cleared_length (at + 1) bytes)

  pub cleared_byte :
      (at : ℕ) (bytes : List ℕ) (k : ℕ) → k < length bytes → byte_at (cleared_from old at bytes) k ≡ cond (old (at + k)) 0xFF (byte_at bytes k)
  unfolding cleared_from
  cleared_byte at [] k h = absurd (omega arith)
  cleared_byte at (x ∷ bytes) zero h = let e : at + 0 ≡ at = omega arith in rw e
  cleared_byte at (x ∷ bytes) (suc k) h = let e : at + suc k ≡ at + 1 + k = omega arith in rw e (cleared_byte (at + 1) bytes k (omega arith))
