-- Pairs of digits, the bytes that they spell, and sums of such bytes, by their positions in a line.
-- Assumes nothing.
use Rattle.std.proofs.Common.{◌≡◌, ℕ, zero, suc, ◌+◌, ◌-◌, ◌*◌, ◌%◌, ◌<◌, ◌≤◌, Bool, true, false, cond, ◌&&◌, List, ◌∷◌, get_or, set, sym, refl, ◌∙◌, add-zero, add_assoc, add-one, arith, ltb-true, le-ltb, lt-ltb}
use lib.Seq.{sets}
use Rattle.std.specs.Prelude.{Some, None}
use Rattle.buffer.specs.Total.{total}
use Rattle.buffer.proofs.Bools.{and_left, and_right}
use Rattle.digits.specs.Digit.{value_of, is_digit}
use Rattle.hex_text.specs.Spell.{byte_of}
use Rattle.hex_text.specs.Places.{pair_at, pair_byte, bytes_at, all_bytes, check_from}

-- ---- two digits

module _ (a b : ℕ) where
  pub pair_none : (is_digit a && is_digit b) ≡ false → byte_of a b ≡ 256
  unfolding byte_of
  pair_none e = rw e

  module _ (e : (is_digit a && is_digit b) ≡ true) where
    pub first_small : value_of a < 16
    unfolding is_digit
    first_small = ltb-true (value_of a) 16 (and_left (is_digit a) (is_digit b) e)

    pub second-small : value_of b < 16
    unfolding is_digit
    second-small = ltb-true (value_of b) 16 (and_right (is_digit a) (is_digit b) e)

    pub spelled : byte_of a b ≡ value_of a * 16 + value_of b
    unfolding byte_of
    spelled = rw e

    pub pair_is : value_of a % 16 * 16 + value_of b % 16 ≡ byte_of a b
    pair_is = let p = first_small in let q = second-small in let s = spelled in omega arith

    pub pair_small : byte_of a b < 256
    pair_small = let p = first_small in let q = second-small in let s = spelled in omega arith

  pub two_digits : value_of a < 16 → value_of b < 16 → (is_digit a && is_digit b) ≡ true
  unfolding is_digit
  two_digits p q = rw (lt-ltb (value_of a) 16 p, lt-ltb (value_of b) 16 q)

  pub pair_so : byte_of a b < 256 → (is_digit a && is_digit b) ≡ true
  pair_so h = by (is_digit a && is_digit b) refl
    where
      by : (c : Bool) → (is_digit a && is_digit b) ≡ c → (is_digit a && is_digit b) ≡ true
      by true e = e
      by false e = let z = pair_none e in absurd (omega arith)

-- ---- the bytes from a position on, one more at a time

bytes_one : (t : List ℕ) (p k : ℕ) → 0 < k → bytes_at t p k ≡ pair_byte t p ∷ bytes_at t (p + 2) (k - 1)
unfolding bytes_at
bytes_one t p zero h = absurd (omega arith)
bytes_one t p (suc k) h = let e : suc k - 1 ≡ k = omega arith in rw e

check_goes :
    (s : ℕ) (t : List ℕ) (p k : ℕ) → 0 < k → pair_byte t p < 256
    → check_from s (bytes_at t p k) ≡ check_from (s + pair_byte t p) (bytes_at t (p + 2) (k - 1))
unfolding check_from total all_bytes
check_goes s t p k h b = rw (bytes_one t p k h) (simp (lt-ltb _ _ b, add_assoc))

check_stops : (s : ℕ) (t : List ℕ) (p k : ℕ) → 0 < k → 256 ≤ pair_byte t p → check_from s (bytes_at t p k) ≡ None
unfolding check_from all_bytes
check_stops s t p k h b = rw (bytes_one t p k h) (simp (le-ltb _ _ b))

pub check_ends : (s : ℕ) (t : List ℕ) (p : ℕ) → check_from s (bytes_at t p 0) ≡ Some (s % 256)
unfolding check_from total all_bytes bytes_at
check_ends s t p = rw add-zero

check_mod : (s : ℕ) (bs : List ℕ) → check_from (s % 256) bs ≡ check_from s bs
unfolding check_from
check_mod s bs = let e : (s % 256 + total bs) % 256 ≡ (s + total bs) % 256 = omega arith in rw e

-- one pair more of the sum, whether or not it is one
pub check_step :
    (good g : Bool) (s b : ℕ) (t : List ℕ) (p k : ℕ) → 0 < k → g ≡ pair_at t p → (pair_at t p ≡ true → b ≡ pair_byte t p)
    → cond good (check_from s (bytes_at t p k)) None ≡ cond (good && g) (check_from ((s + b) % 256) (bytes_at t (p + 2) (k - 1))) None
check_step false g s b t p k h e f = refl
check_step true false s b t p k h e f = check_stops s t p k h (rw (pair_none (get_or t p 0) (get_or t (p + 1) 0) (sym e)) (omega arith))
check_step true true s b t p k h e f =
    let i = f (sym e) in
    check_goes s t p k h (pair_small (get_or t p 0) (get_or t (p + 1) 0) (sym e))
    ∙ rw (sym i) (sym (check_mod (s + b) (bytes_at t (p + 2) (k - 1))))

-- one byte more is stored
sets_one :
    (l : List ℕ) (a : ℕ) (t : List ℕ) (p k : ℕ) → 0 < k
    → sets l a (bytes_at t p k) ≡ sets (set l a (pair_byte t p)) (a + 1) (bytes_at t (p + 2) (k - 1))
sets_one l a t p k h = rw (add-one a, bytes_one t p k h)

pub sets_none : (l : List ℕ) (a : ℕ) (t : List ℕ) (p : ℕ) → sets l a (bytes_at t p 0) ≡ l
unfolding bytes_at
sets_none l a t p = refl

-- one pair more is stored, and where all were bytes so far it is one too
pub sets_step :
    (good g : Bool) (all l : List ℕ) (a b : ℕ) (t : List ℕ) (p k : ℕ) → 0 < k → g ≡ pair_at t p → (pair_at t p ≡ true → b ≡ pair_byte t p)
    → (good ≡ true → all ≡ sets l a (bytes_at t p k)) → (good && g) ≡ true → all ≡ sets (set l a b) (a + 1) (bytes_at t (p + 2) (k - 1))
sets_step good g all l a b t p k h e f so z =
    let i = f (sym e ∙ and_right good g z) in so (and_left good g z) ∙ rw i (sets_one l a t p k h)
