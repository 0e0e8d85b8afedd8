-- The runs, one byte after another: what a byte adds, and what bytes that are not old leave as it was.
-- Assumes nothing.
use mathlib.Core.Path.{◌≡◌, refl, sym, ◌∙◌}
use mathlib.Core.Bool.{Bool, true, false, not, ◌&&◌, cond}
use mathlib.Core.List.{[], ◌∷◌, ◌++◌, append-nil}
use Prim.Native.Nat.{ℕ, zero, suc, ◌+◌, ◌-◌, ◌*◌, ◌≤◌, ◌<◌}
use native.Mathlib.Numerals.{add-one}
use native.Mathlib.Omega.{arith}
use lib.Dec.{eqb}
use lib.ListN.{length, length-append}
use borrow.Author.Tests.{eq-eqb, ne_eqb, eqb-true, eqb-false}
use Rattle.clean.specs.Runs.{open_at, run_before, open_run, runs_at}
use Rattle.clean.specs.Walk.{met, goes}

-- n bytes before index k
module _ (k n : ℕ) where
  pub before_none : n ≡ 0 → run_before k n ≡ []
  unfolding run_before
  before_none e = rw (eq-eqb _ _ e)

  pub before_some : (n ≡ 0 → ⊥) → run_before k n ≡ record { offset = k - n; length = n } ∷ []
  unfolding run_before
  before_some f = rw (ne_eqb _ _ f)

module _ (old : ℕ → Bool) (k : ℕ) where
  -- the run before index k
  pub run_none : open_at old k ≡ 0 → open_run old k ≡ []
  run_none = before_none k (open_at old k)

  pub run_some : (open_at old k ≡ 0 → ⊥) → open_run old k ≡ record { offset = k - open_at old k; length = open_at old k } ∷ []
  run_some = before_some k (open_at old k)

  -- an old byte
  module _ (o : old k ≡ true) where
    pub open-old : open_at old (k + 1) ≡ open_at old k + 1
    unfolding open_at
    open-old = rw (add-one k, o)

    pub runs-old : runs_at old (k + 1) ≡ runs_at old k
    unfolding runs_at
    runs-old = rw (add-one k, o)

  -- another
  module _ (o : old k ≡ false) where
    pub open-not : open_at old (k + 1) ≡ 0
    unfolding open_at
    open-not = rw (add-one k, o)

    pub runs-not : runs_at old (k + 1) ≡ runs_at old k ++ open_run old k
    unfolding runs_at
    runs-not = rw (add-one k, o)

-- how many there are, with the one that may go on
module _ (old : ℕ → Bool) where
  met_first : met old 0 ≡ 0
  unfolding runs_at open_at run_before
  met_first = refl

  module _ (k : ℕ) where
    pub met-none : open_at old k ≡ 0 → met old k ≡ length (runs_at old k)
    met-none e = rw (run_none old k e, append-nil (runs_at old k))

    pub goes_none : open_at old k ≡ 0 → goes old k ≡ false
    goes_none e = rw (eq-eqb _ _ e)

    met_some : (open_at old k ≡ 0 → ⊥) → met old k ≡ length (runs_at old k) + 1
    met_some n = rw (run_some old k n) (length-append (runs_at old k) _)

    pub goes-next : (t : Bool) → old k ≡ t → goes old (k + 1) ≡ t
    goes-next true o = rw (open-old old k o, ne_eqb (open_at old k + 1) 0 (λ e. omega arith))
    goes-next false o = rw (open-not old k o)

    met-old : old k ≡ true → met old (k + 1) ≡ length (runs_at old k) + 1
    met-old o = rw (run_some old (k + 1) (λ e. let f = open-old old k o in omega arith), runs-old old k o) (length-append (runs_at old k) _)

    pub met_next : (t : Bool) → old k ≡ t → met old (k + 1) ≡ met old k + cond (t && not (goes old k)) 1 0
    met_next true o = by (eqb (open_at old k) 0) refl (met-old o)
      where
        by : (e : Bool) → eqb (open_at old k) 0 ≡ e → met old (k + 1) ≡ length (runs_at old k) + 1 → met old (k + 1) ≡ met old k + cond (not (not e)) 1 0
        by true e l = let m = met-none (eqb-true _ _ e) in omega arith
        by false e l = let m = met_some (eqb-false _ _ e) in omega arith
    met_next false o = rw (run_none old (k + 1) (open-not old k o), append-nil (runs_at old (k + 1)), runs-not old k o) (omega arith)

  -- no two touch, so there are no more than every second byte begins
  met_few : (k : ℕ) → 2 * met old k ≤ k + cond (goes old k) 1 0
  met_few zero = let m = met_first in omega arith
  met_few (suc k) = by (old k) (goes old k) refl refl (met_few k)
    where
      by : (t g : Bool) → old k ≡ t → goes old k ≡ g → 2 * met old k ≤ k + cond g 1 0 → 2 * met old (suc k) ≤ suc k + cond (goes old (suc k)) 1 0
      by true true o e l = let m = rw e at (met_next k true o) in rw (sym (add-one k), goes-next k true o) (omega arith)
      by true false o e l = let m = rw e at (met_next k true o) in rw (sym (add-one k), goes-next k true o) (omega arith)
      by false true o e l = let m = met_next k false o in rw (sym (add-one k), goes-next k false o) (omega arith)
      by false false o e l = let m = met_next k false o in rw (sym (add-one k), goes-next k false o) (omega arith)

  pub met_half : (k : ℕ) → 2 * met old k ≤ k + 1
  met_half k = by (goes old k) (met_few k)
    where
      by : (g : Bool) → 2 * met old k ≤ k + cond g 1 0 → 2 * met old k ≤ k + 1
      by true l = l
      by false l = omega arith

-- BYTES THAT ARE NOT OLD, from index k to before index m: a run before them ends there, and nothing else comes of them
abbrev pub Quiet : (ℕ → Bool) → ℕ → ℕ → Type 0
Quiet old k m = (j : ℕ) → k ≤ j → j < m → old j ≡ false

module _ (old : ℕ → Bool) (k : ℕ) where
  quiet_one : (n : ℕ) → Quiet old k (k + suc n) → open_at old (k + suc n) ≡ 0
  quiet_one n q = let e : k + suc n ≡ k + n + 1 = omega arith in rw e (open-not old (k + n) (q (k + n) (omega arith) (omega arith)))

  quiet_all : (n : ℕ) → Quiet old k (k + suc n) → runs_at old (k + suc n) ≡ runs_at old k ++ open_run old k
  quiet_all zero q = runs-not old k (q k (omega arith) (omega arith))
  quiet_all (suc n) q =
      let e : k + suc (suc n) ≡ k + suc n + 1 = omega arith in
      let so_far : Quiet old k (k + suc n) = λ j l h. q j l (omega arith) in
      rw (e, runs-not old (k + suc n) (q (k + suc n) (omega arith) (omega arith)), run_none old (k + suc n) (quiet_one n so_far))
      (append-nil (runs_at old (k + suc n)) ∙ quiet_all n so_far)

  module _ {m : ℕ} (h : k < m) (q : Quiet old k m) where
    many : k + suc (m - k - 1) ≡ m
    many = omega arith

    pub quiet-open : open_at old m ≡ 0
    quiet-open = rw many at (quiet_one (m - k - 1) (rw (← many) at q))

    pub quiet-runs : runs_at old m ≡ runs_at old k ++ open_run old k
    quiet-runs = rw many at (quiet_all (m - k - 1) (rw (← many) at q))

-- and from the first byte on
module _ (old : ℕ → Bool) where
  pub none_open : (n : ℕ) → Quiet old 0 n → open_at old n ≡ 0
  unfolding open_at
  none_open zero q = refl
  none_open (suc n) q = rw (q n (omega arith) (omega arith))

  pub none_runs : (n : ℕ) → Quiet old 0 n → runs_at old n ≡ []
  unfolding runs_at
  none_runs zero q = refl
  none_runs (suc n) q =
      let so_far : Quiet old 0 n = λ j l h. q j l (omega arith) in
      rw (q n (omega arith) (omega arith), run_none old n (none_open n so_far)) (append-nil (runs_at old n) ∙ none_runs n so_far)

-- NO RUN IS LONGER than what lies before its end, and further on there are no fewer
pub open_small : (old : ℕ → Bool) (k : ℕ) → open_at old k ≤ k
unfolding open_at
open_small old zero = omega arith
open_small old (suc k) = by (old k) (open_small old k)
  where
    by : (t : Bool) → open_at old k ≤ k → cond t (open_at old k + 1) 0 ≤ suc k
    by true h = omega arith
    by false h = omega arith

met_grow : (old : ℕ → Bool) (k n : ℕ) → met old k ≤ met old (k + n)
met_grow old k zero = let e : k + zero ≡ k = omega arith in rw e (omega arith)
met_grow old k (suc n) =
    let e : k + suc n ≡ k + n + 1 = omega arith in
    let m = met_next old (k + n) (old (k + n)) refl in
    let g = met_grow old k n in
    rw e (omega arith)

pub met_on : (old : ℕ → Bool) {k m : ℕ} → k ≤ m → met old k ≤ met old m
met_on old {k} {m} h = let e : k + (m - k) ≡ m = omega arith in rw e at (met_grow old k (m - k))
