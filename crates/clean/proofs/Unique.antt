-- What is to be listed of a bank is one list: two that are its runs have as many and the same, and so for its sectors.
-- Assumes nothing.
use mathlib.Core.Path.{◌≡◌, sym, ◌∙◌}
use mathlib.Core.List.{List}
use Prim.Native.Nat.{ℕ, zero, suc, ◌+◌, ◌-◌, ◌≤◌, ◌<◌}
use native.Mathlib.Decide.{dec_lt}
use native.Mathlib.Omega.{arith}
use lib.ListN.{get_or}
use Rattle.bank.specs.Stretch.{stop_of}
use Rattle.clean.specs.Meaning.{run_in, Has, InRun, AreRuns, AreSectors}

-- NUMBERS THAT ASCEND, the first n of them
abbrev Ascending : (ℕ → ℕ) → ℕ → Type 0
Ascending f n = (i : ℕ) → i + 1 < n → f i < f (i + 1)

module _ (f : ℕ → ℕ) (n : ℕ) (a : Ascending f n) where
  further : (d i : ℕ) → i + suc d < n → f i < f (i + suc d)
  further zero i h = a i h
  further (suc d) i h =
      let e : i + suc (suc d) ≡ i + suc d + 1 = omega arith in
      rw e (omega (arith, further d i (omega arith), a (i + suc d) (omega arith)))

  later : (i j : ℕ) → i < j → j < n → f i < f j
  later i j l h =
      let e : i + suc (j - (i + 1)) ≡ j = omega arith in
      rw e at (further (j - (i + 1)) i (omega arith))

-- a number that is among the first m
record Among (g : ℕ → ℕ) (m v : ℕ) : Type 0 where
  place : ℕ
  below : place < m
  is : g place ≡ v

-- where each of one is among the other, up to where they are the same
module _ (f : ℕ → ℕ) (n : ℕ) (g : ℕ → ℕ) (m : ℕ) (a : Ascending f n) (b : Ascending g m) where
  next_same : (i : ℕ) → i < n → ((j : ℕ) → j < i → f j ≡ g j) → Among g m (f i) → (i < m) × (g i ≤ f i)
  next_same i h s p = by (dec_lt p.place i) (dec_lt i p.place)
    where
      by : Dec (p.place < i) → Dec (i < p.place) → (i < m) × (g i ≤ f i)
      by (yes d) e = absurd (omega (arith, later f n a p.place i d h, s p.place d, p.is))
      by (no d) (yes e) = (omega (arith, p.below), omega (arith, later g m b i p.place e p.below, p.is))
      by (no d) (no e) =
          let q : p.place ≡ i = omega arith in
          (omega (arith, p.below), omega (arith, rw q at p.is))

module _
    (f : ℕ → ℕ) (n : ℕ) (g : ℕ → ℕ) (m : ℕ) (a : Ascending f n) (b : Ascending g m)
    (into : (i : ℕ) → i < n → Among g m (f i)) (back : (i : ℕ) → i < m → Among f n (g i)) where
  record SameAt (i : ℕ) : Type 0 where
    there : i < n → i < m
    here : i < m → i < n
    equal : i < n → f i ≡ g i

  same_before : (k i : ℕ) → i < k → SameAt i
  same_before zero i h = absurd (omega arith)
  same_before (suc k) i h = by (dec_lt i k) (same_before k)
    where
      by : Dec (i < k) → ((j : ℕ) → j < k → SameAt j) → SameAt i
      by (yes d) s = s i d
      by (no d) s =
          let one : i < n → (i < m) × (g i ≤ f i) =
          λ l. next_same f n g m a b i l (λ j e. (s j (omega arith)).equal (omega arith)) (into i l) in
          let other : i < m → (i < n) × (f i ≤ g i) =
          λ l. next_same g m f n b a i l (λ j e. let t = s j (omega arith) in sym (t.equal (t.here (omega arith)))) (back i l) in
          record {
            there = λ l. (one l).0;
            here = λ l. (other l).0;
            equal = λ l. omega (arith, (one l).1, (other (one l).0).1);
          }

  same_many : n ≡ m
  same_many = by (dec_lt n m) (dec_lt m n)
    where
      by : Dec (n < m) → Dec (m < n) → n ≡ m
      by (yes d) e = absurd (omega (arith, (same_before (n + 1) n (omega arith)).here d))
      by (no d) (yes e) = absurd (omega (arith, (same_before (m + 1) m (omega arith)).there e))
      by (no d) (no e) = omega arith

  same_each : (i : ℕ) → i < n → f i ≡ g i
  same_each i h = (same_before (i + 1) i (omega arith)).equal h

-- THE RUNS
abbrev start_in : List ℕ → ℕ → ℕ
start_in runs i = (run_in runs i).offset

abbrev stop_in : List ℕ → ℕ → ℕ
stop_in runs i = stop_of (run_in runs i)

module _ {b runs : List ℕ} {n : ℕ} (r : AreRuns b runs n) where
  starts_ascend : Ascending (start_in runs) n
  starts_ascend i h = omega (arith, r.apart i h)

  stop_before : (i j : ℕ) → i < j → j < n → stop_in runs i < start_in runs j
  stop_before i j l h = by (dec_lt (i + 1) j)
    where
      by : Dec (i + 1 < j) → stop_in runs i < start_in runs j
      by (yes d) = omega (arith, r.apart i (omega arith), later (start_in runs) n starts_ascend (i + 1) j d h)
      by (no d) = let e : i + 1 ≡ j = omega arith in rw e at (r.apart i (omega arith))

  -- a byte is in one of them alone
  pub one_run : (i j k : ℕ) → i < n → j < n → Has (run_in runs i) k → Has (run_in runs j) k → i ≡ j
  one_run i j k h l p q = by (dec_lt i j) (dec_lt j i)
    where
      by : Dec (i < j) → Dec (j < i) → i ≡ j
      by (yes d) e = absurd (omega (arith, stop_before i j d l, p.before, q.from))
      by (no d) (yes e) = absurd (omega (arith, stop_before j i e h, q.before, p.from))
      by (no d) (no e) = omega arith

  -- right before and right behind one, there is none
  none_before : (i k : ℕ) → i < n → k + 1 ≡ start_in runs i → InRun runs n k → ⊥
  none_before i k h e p = by (dec_lt p.place i) (dec_lt i p.place)
    where
      by : Dec (p.place < i) → Dec (i < p.place) → ⊥
      by (yes d) c = omega (arith, stop_before p.place i d h, p.has.before)
      by (no d) (yes c) = omega (arith, stop_before i p.place c p.below, p.has.from)
      by (no d) (no c) = let q : p.place ≡ i = omega arith in omega (arith, rw q at p.has.from)

  none_behind : (i : ℕ) → i < n → InRun runs n (stop_in runs i) → ⊥
  none_behind i h p = by (dec_lt p.place i) (dec_lt i p.place)
    where
      by : Dec (p.place < i) → Dec (i < p.place) → ⊥
      by (yes d) c = omega (arith, stop_before p.place i d h, p.has.before)
      by (no d) (yes c) = omega (arith, stop_before i p.place c p.below, p.has.from)
      by (no d) (no c) = let q : p.place ≡ i = omega arith in omega (arith, rw q at p.has.before)

module _ {b runs others : List ℕ} {n m : ℕ} (r : AreRuns b runs n) (s : AreRuns b others m) where
  -- each starts where one of the others starts
  start_among : (i : ℕ) → i < n → Among (start_in others) m (start_in runs i)
  start_among i h = by (dec_lt (start_in others p.place) (start_in runs i))
    where
      p : InRun others m (start_in runs i)
      p = s.all_old _ (r.are_old i _ h (record { from = omega arith; before = omega (arith, r.some i h) }))

      by : Dec (start_in others p.place < start_in runs i) → Among (start_in others) m (start_in runs i)
      by (yes d) =
          let k : ℕ = start_in runs i - 1 in
          let old = s.are_old p.place k p.below (record { from = omega arith; before = omega (arith, p.has.before) }) in
          absurd (none_before r i k h (omega arith) (r.all_old k old))
      by (no d) = record { place = p.place; below = p.below; is = omega (arith, p.has.from) }

  -- and where one starts with it, that ends no later
  stop_least : (i : ℕ) → i < n → i < m → start_in runs i ≡ start_in others i → stop_in others i ≤ stop_in runs i
  stop_least i h l e = by (dec_lt (stop_in runs i) (stop_in others i))
    where
      by : Dec (stop_in runs i < stop_in others i) → stop_in others i ≤ stop_in runs i
      by (yes d) =
          let old = s.are_old i (stop_in runs i) l (record { from = omega arith; before = d }) in
          absurd (none_behind r i h (r.all_old (stop_in runs i) old))
      by (no d) = omega arith

module _ {b runs others : List ℕ} {n m : ℕ} (r : AreRuns b runs n) (s : AreRuns b others m) where
  pub runs_many : n ≡ m
  runs_many = same_many (start_in runs) n (start_in others) m (starts_ascend r) (starts_ascend s) (start_among r s) (start_among s r)

  pub runs_same : (i : ℕ) → i < n → run_in runs i ≡ run_in others i
  runs_same i h =
      let l : i < m = omega (arith, runs_many) in
      let e = same_each (start_in runs) n (start_in others) m (starts_ascend r) (starts_ascend s) (start_among r s) (start_among s r) i h in
      let z : (run_in runs i).length ≡ (run_in others i).length = omega (arith, stop_least r s i h l e, stop_least s r i l h (sym e)) in
      λ d. record { offset = e d; length = z d }

-- THE SECTORS
module _ {b sectors others : List ℕ} {n m : ℕ} (r : AreSectors b sectors n) (s : AreSectors b others m) where
  number_among : (j : ℕ) → j < n → Among (λ i. get_or others i 0) m (get_or sectors j 0)
  number_among j h =
      let o = r.held j h in
      let p = s.all_held o.index o.is_old in
      record { place = p.place; below = p.below; is = p.is ∙ o.in_it }

module _ {b sectors others : List ℕ} {n m : ℕ} (r : AreSectors b sectors n) (s : AreSectors b others m) where
  pub sectors_many : n ≡ m
  sectors_many = same_many (λ i. get_or sectors i 0) n (λ i. get_or others i 0) m r.ascending s.ascending (number_among r s) (number_among s r)

  pub sectors_same : (j : ℕ) → j < n → get_or sectors j 0 ≡ get_or others j 0
  sectors_same j h =
      same_each (λ i. get_or sectors i 0) n (λ i. get_or others i 0) m r.ascending s.ascending (number_among r s) (number_among s r) j h
