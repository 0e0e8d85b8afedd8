-- The value of a digit by its range and by the counts that the code makes of it; value and digit undo each other.
-- Assumes nothing.
use Rattle.std.proofs.Common.{◌≡◌, ℕ, ◌+◌, ◌-◌, ◌*◌, ◌/◌, ◌%◌, ◌^◌, ◌<◌, ◌≤◌, true, false, ◌&&◌, ltb, leb, ◌⊎◌, sym, ap, ◌∙◌, ⊎_elim, eq-or-lt_of_le, arith, ltb-false, ltb-true, le-ltb, lt-ltb, le-leb, leb-true}
use lib.Bits.{bit_and, and_block, and_high, and_mask}
use borrow.Author.Tests.{lt-leb}
use Rattle.buffer.proofs.Bools.{and_left, and_right, and_false, split, not_so}
use Rattle.digits.specs.Digit.{value_of, digit_of}

-- ---- the ranges

-- a number between two others, by the joined test, and one that is not
in_range : (a b c : ℕ) → (leb a c && leb c b) ≡ true → (a ≤ c) × (c ≤ b)
in_range a b c e = (leb-true a c (and_left (leb a c) (leb c b) e), leb-true c b (and_right (leb a c) (leb c b) e))

outside : (a b c : ℕ) → ((a ≤ c) × (c ≤ b) → ⊥) → (leb a c && leb c b) ≡ false
outside a b c h = not_so (leb a c && leb c b) (λ t. h (in_range a b c t))

value_of_number : (c : ℕ) → 0x30 ≤ c → c ≤ 0x39 → value_of c ≡ c - 0x30
unfolding value_of
value_of_number c h k = rw (le-leb _ _ h, le-leb _ _ k)

value_of_upper : (c : ℕ) → 0x41 ≤ c → c ≤ 0x46 → value_of c ≡ c - 0x41 + 10
unfolding value_of
value_of_upper c h k = rw (lt-leb c 0x39 (omega arith), and_false, le-leb _ _ h, le-leb _ _ k)

value_of_lower : (c : ℕ) → 0x61 ≤ c → c ≤ 0x66 → value_of c ≡ c - 0x61 + 10
unfolding value_of
value_of_lower c h k = rw (lt-leb c 0x39 (omega arith), and_false, lt-leb c 0x46 (omega arith), and_false, le-leb _ _ h, le-leb _ _ k)

-- ---- the counts, as the code makes them

-- with the bit cleared in which the cases differ
caseless : (x : ℕ) → x < 256 → bit_and x 0xDF ≡ x / 64 * 64 + x % 32
caseless x h =
    let parts : x ≡ x / 32 * 2 ^ 5 + x % 32 = omega arith in
    let high : bit_and (x / 32) 6 ≡ x / 32 / 2 % 4 * 2 = and_high (x / 32) 2 1 in
    let low : bit_and (x % 32) 31 ≡ x % 32 % 32 = and_mask (x % 32) 5 in
    ap (λ (y : ℕ). bit_and y 0xDF) parts ∙ and_block 5 (x / 32) 6 (x % 32) 31 (omega arith) (omega arith) ∙ omega (arith, high, low)

-- of a byte c: n counts it from 0 on, as a number
module _ (c n : ℕ) (fits : n < 256) (counts : (n + 0x30) % 256 ≡ c) where
  pub number_is : n < 10 → n ≡ value_of c
  number_is h = sym (value_of_number c (omega arith) (omega arith) ∙ omega arith)

  no_number : 10 ≤ n → (leb 0x30 c && leb c 0x39) ≡ false
  no_number h = outside 0x30 0x39 c (λ i. omega arith)

-- of a byte c: x is one less, and l counts x, with the bit cleared, from 10 on, as a letter
module _ (c x l : ℕ) (under : x < 256) (fits : l < 256) (one_less : (x + 1) % 256 ≡ c) (counts : (l + (0x40 - 10)) % 256 ≡ bit_and x 0xDF) where
  counted : (l + (0x40 - 10)) % 256 ≡ x / 64 * 64 + x % 32
  counted = counts ∙ caseless x under

  -- by whether x is 0x40 to 0x5F, for upper case, or 0x60 to 0x7F
  pub letter_is : l < 16 → l ≡ value_of c
  letter_is h =
      let e = counted in
      ⊎_elim (λ upper. sym (value_of_upper c (omega arith) (omega arith) ∙ omega arith))
      (λ lower. sym (value_of_lower c (omega arith) (omega arith) ∙ omega arith))
      (eq-or-lt_of_le {n = 2} {m = x / 32} (omega arith))

  no_upper : 16 ≤ l → (leb 0x41 c && leb c 0x46) ≡ false
  no_upper h = outside 0x41 0x46 c (λ i. omega (arith, counted))

  no_lower : 16 ≤ l → (leb 0x61 c && leb c 0x66) ≡ false
  no_lower h = outside 0x61 0x66 c (λ i. omega (arith, counted))

  pub none_is : (n : ℕ) → n < 256 → (n + 0x30) % 256 ≡ c → 10 ≤ n → 16 ≤ l → 16 ≡ value_of c
  unfolding value_of
  none_is n f e h k = rw (no_number c n f e h, no_upper k, no_lower k)

-- ---- value and digit

-- the value of the digit of a value is that value's last place: it itself below 16
pub value_of_digit : (v : ℕ) → value_of (digit_of v) ≡ v % 16
unfolding digit_of
value_of_digit v =
    split (λ (c : ℕ). value_of c ≡ v % 16) (ltb (v % 16) 10)
    (λ e. let h = ltb-true (v % 16) 10 e in value_of_number (0x30 + v % 16) (omega arith) (omega arith) ∙ omega arith)
    (λ e. let h = ltb-false (v % 16) 10 e in value_of_upper (0x41 + (v % 16 - 10)) (omega arith) (omega arith) ∙ omega arith)

-- a digit in upper case
abbrev pub UpperCase : ℕ → Type 0
UpperCase c = ((0x30 ≤ c) × (c ≤ 0x39)) ⊎ ((0x41 ≤ c) × (c ≤ 0x46))

-- the digit of its value is it again
pub digit_of_value : (c : ℕ) → UpperCase c → digit_of (value_of c) ≡ c
unfolding digit_of
digit_of_value c =
    ⊎_elim
    (λ h.
    let e = value_of_number c h.0 h.1 in
    let low : (c - 0x30) % 16 ≡ c - 0x30 = omega arith in
    rw (e, low, lt-ltb (c - 0x30) 10 (omega arith)) (omega arith))
    (λ h.
    let e = value_of_upper c h.0 h.1 in
    let low : (c - 0x41 + 10) % 16 ≡ c - 0x41 + 10 = omega arith in
    rw (e, low, le-ltb (c - 0x41 + 10) 10 (omega arith)) (omega arith))
