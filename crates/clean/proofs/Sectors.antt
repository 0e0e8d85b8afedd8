-- The sectors that hold old bytes, one byte and one sector after another.
-- Assumes nothing.
use mathlib.Core.Path.{◌≡◌, refl, sym, ◌∙◌}
use mathlib.Core.Bool.{Bool, true, false, ◌&&◌, ◌||◌, cond}
use mathlib.Core.List.{List, [], ◌∷◌, ◌++◌}
use Prim.Native.Nat.{ℕ, zero, suc, ◌+◌, ◌-◌, ◌/◌, ◌≤◌, ◌<◌}
use native.Mathlib.Numerals.{add-one}
use native.Mathlib.Omega.{arith}
use native.Mathlib.Decide.{dec_lt}
use lib.Dec.{eqb}
use lib.ListN.{length, take, length-append}
use lib.Seq.{take_all}
use Rattle.std.specs.Prelude.{filter, count_by}
use Rattle.std.proofs.lemmas.List.Sums.{length-filter}
use Rattle.std.proofs.lemmas.List.Filters.{length-filter_more}
use borrow.Author.Tests.{eq-eqb, ne_eqb}
use Rattle.buffer.proofs.Bools.{and_false, no_way}
use Rattle.layout.specs.Layout.{sector_size}
use Rattle.clean.specs.Sectors.{held_at, numbers_at}
use Rattle.clean.specs.Walk.{mark_in}

module _ (old : ℕ → Bool) (k s : ℕ) where
  pub held_here : k / sector_size ≡ s → (t : Bool) → old k ≡ t → held_at old (k + 1) s ≡ (held_at old k s || t)
  unfolding held_at
  held_here e true o = rw (add-one k, o, eq-eqb _ _ e) (or-true (held_at old k s))
    where
      or-true : (h : Bool) → true ≡ (h || true)
      or-true true = refl
      or-true false = refl
  held_here e false o = rw (add-one k, o) (or-false (held_at old k s))
    where
      or-false : (h : Bool) → h ≡ (h || false)
      or-false true = refl
      or-false false = refl

  held_there : (k / sector_size ≡ s → ⊥) → held_at old (k + 1) s ≡ held_at old k s
  unfolding held_at
  held_there n = rw (add-one k, ne_eqb _ _ n, and_false (old k))

  held_not : old k ≡ false → held_at old (k + 1) s ≡ held_at old k s
  unfolding held_at
  held_not o = rw (add-one k, o)

-- BYTES OF OTHER SECTORS, and bytes that are not old, from index k on
module _ (old : ℕ → Bool) (s : ℕ) where
  add_nothing : (k n : ℕ) → ((j : ℕ) → k ≤ j → j < k + n → held_at old (j + 1) s ≡ held_at old j s) → held_at old (k + n) s ≡ held_at old k s
  add_nothing k zero f = let e : k + zero ≡ k = omega arith in rw e
  add_nothing k (suc n) f =
      let e : k + suc n ≡ k + n + 1 = omega arith in
      rw e (f (k + n) (omega arith) (omega arith) ∙ add_nothing k n (λ j l h. f j l (omega arith)))

  module _ {k m : ℕ} (h : k ≤ m) where
    held_same : ((j : ℕ) → k ≤ j → j < m → held_at old (j + 1) s ≡ held_at old j s) → held_at old m s ≡ held_at old k s
    held_same f = let e : k + (m - k) ≡ m = omega arith in rw e at (add_nothing k (m - k) (λ j l g. f j l (omega arith)))

    pub held-elsewhere : ((j : ℕ) → k ≤ j → j < m → j / sector_size ≡ s → ⊥) → held_at old m s ≡ held_at old k s
    held-elsewhere f = held_same (λ j l g. held_there old j s (f j l g))

    pub held-quiet : ((j : ℕ) → k ≤ j → j < m → old j ≡ false) → held_at old m s ≡ held_at old k s
    held-quiet q = held_same (λ j l g. held_not old j s (q j l g))

-- A SECTOR THAT HOLDS NONE
pub held_none : (old : ℕ → Bool) (s n : ℕ) → held_at old n s ≡ false → (k : ℕ) → k < n → k / sector_size ≡ s → old k ≡ false
unfolding held_at
held_none old s zero e k h q = absurd (omega arith)
held_none old s (suc n) e k h q =
    by (old n && eqb (n / sector_size) s) (old k) refl refl e (dec_lt k n) (λ f l. held_none old s n f k l q)
  where
    by :
        (t o : Bool) → (old n && eqb (n / sector_size) s) ≡ t → old k ≡ o → cond t true (held_at old n s) ≡ false → Dec (k < n)
        → (held_at old n s ≡ false → k < n → old k ≡ false) → old k ≡ false
    by true o t p f d ih = no_way (cc)
    by false false t p f d ih = p
    by false true t p f (yes l) ih = ih f l
    by false true t p f (no l) ih =
        let is : k ≡ n = omega arith in
        let here : old n ≡ true = rw is at p in
        let found : (old n && eqb (n / sector_size) s) ≡ true = rw (here, eq-eqb (n / sector_size) s (rw is at q)) in
        let z = sym t ∙ found in
        no_way (cc)

-- THE NUMBERS, one sector after another
module _ (marked : ℕ → Bool) where
  pub numbers_next : (m : ℕ) → numbers_at marked (m + 1) ≡ numbers_at marked m ++ cond (marked m) ((m + 1) ∷ []) []
  unfolding numbers_at
  numbers_next m = rw (add-one m)

  pub numbers_none : numbers_at marked 0 ≡ []
  unfolding numbers_at
  numbers_none = refl

  pub numbers_more : (m : ℕ) → length (numbers_at marked (m + 1)) ≡ length (numbers_at marked m) + cond (marked m) 1 0
  numbers_more m = rw (numbers_next m) (length-append (numbers_at marked m) _ ∙ by (marked m))
    where
      by : (t : Bool) → length (numbers_at marked m) + length (cond t ((m + 1) ∷ []) []) ≡ length (numbers_at marked m) + cond t 1 0
      by true = refl
      by false = refl

  pub numbers_few : (m : ℕ) → length (numbers_at marked m) ≤ m
  numbers_few zero = rw numbers_none (omega arith)
  numbers_few (suc m) = by (marked m) refl (numbers_few m)
    where
      by : (t : Bool) → marked m ≡ t → length (numbers_at marked m) ≤ m → length (numbers_at marked (suc m)) ≤ suc m
      by true e h = let n = rw e at (numbers_more m) in rw (sym (add-one m)) (omega arith)
      by false e h = let n = rw e at (numbers_more m) in rw (sym (add-one m)) (omega arith)

  numbers_grow : (k n : ℕ) → length (numbers_at marked k) ≤ length (numbers_at marked (k + n))
  numbers_grow k zero = let e : k + zero ≡ k = omega arith in rw e (omega arith)
  numbers_grow k (suc n) =
      let e : k + suc n ≡ k + n + 1 = omega arith in
      let g = numbers_grow k n in
      let m = numbers_more (k + n) in
      rw e (omega arith)

  pub numbers_on : {k m : ℕ} → k ≤ m → length (numbers_at marked k) ≤ length (numbers_at marked m)
  numbers_on {k} {m} h = let e : k + (m - k) ≡ m = omega arith in rw e at (numbers_grow k (m - k))

-- by the marks alone
pub numbers_same : (a b : ℕ → Bool) (m : ℕ) → ((s : ℕ) → s < m → a s ≡ b s) → numbers_at a m ≡ numbers_at b m
unfolding numbers_at
numbers_same a b zero f = refl
numbers_same a b (suc m) f = rw (numbers_same a b m (λ s h. f s (omega arith)), f m (omega arith))

-- and as many as there are marks
numbers_front :
    (marks : List Bool) (k : ℕ) → k ≤ length marks → length (filter (λ (mark : Bool). mark) (take k marks)) ≡ length (numbers_at (mark_in marks) k)
numbers_front marks zero h = rw (numbers_none (mark_in marks)) refl
numbers_front marks (suc k) h =
    rw (sym (add-one k), length-filter_more (λ (mark : Bool). mark) marks k false (omega arith), numbers_front marks k (omega arith))
    (sym (numbers_more (mark_in marks) k))

pub numbers_marked : (marks : List Bool) → count_by (λ (mark : Bool). mark) marks ≡ length (numbers_at (mark_in marks) (length marks))
numbers_marked marks =
    sym (length-filter (λ (mark : Bool). mark) marks) ∙ rw (take_all (length marks) marks (omega arith)) at (numbers_front marks (length marks) (omega arith))
