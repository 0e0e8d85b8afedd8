-- Digits read and written, one more at a time.
-- Assumes nothing.
use mathlib.Core.Path.{◌≡◌, refl, sym, ap, ◌∙◌}
use mathlib.Core.List.{List, [], ◌∷◌, foldl}
use Prim.Native.Nat.{ℕ, suc, ◌+◌, ◌*◌, ◌/◌, ◌<◌, ◌≤◌}
use native.Mathlib.Nat.{mul-le-mul_left}
use native.Mathlib.Numerals.{add-one}
use native.Mathlib.Omega.{arith}
use lib.ListN.{length, get_or, set, drop, length-drop}
use lib.Seq.{drop-cons, sets, sets-eq}
use borrow.Author.Tests.{le-leb, lt-leb}
use Rattle.std.specs.Prelude.{Some, None}
use Rattle.buffer.specs.Place.{front_of}
use Rattle.buffer.proofs.Fold.{fold_done}
use Rattle.buffer.proofs.Places.{place_fits, place_front, front_short}
use Rattle.digits.specs.Digit.{value_of}
use Rattle.digits.specs.Spelt.{digits_spelt}
use Rattle.digits.proofs.Spelt.{length_digits, spell_done}
use Rattle.script.specs.Spelt.{with_digit, number_in, within32, bytes_in, IsSpell}

-- ---- a number

pub held_small : (n : ℕ) → n ≤ 0xFFFFFFFF → Some n ≡ within32 n
held_small n h = rw (le-leb n 0xFFFFFFFF h)

held_large : (n : ℕ) → 0xFFFFFFFF < n → None ≡ within32 n
held_large n h = rw (lt-leb n 0xFFFFFFFF h)

-- what is too large stays so
grows : (base : ℕ) → 0 < base → (n : ℕ) (text : List ℕ) → n ≤ foldl (with_digit base) n text
grows base h n [] = omega arith
grows base h n (b ∷ text) =
    let one : 1 ≤ base = omega arith in
    let m : n * 1 ≤ n * base = mul-le-mul_left n one in
    let g = grows base h (n * base + value_of b) text in
    omega arith

module _ (base : ℕ) (text : List ℕ) (n i : ℕ) (e : foldl (with_digit base) n (drop i text) ≡ number_in base text) where
  pub number_large : 0 < base → 0xFFFFFFFF < n → None ≡ within32 (number_in base text)
  number_large p h = let g = grows base p n (drop i text) in held_large (number_in base text) (omega (arith, e))

  pub number_small : length text ≤ i → n ≤ 0xFFFFFFFF → Some n ≡ within32 (number_in base text)
  number_small d h = held_small n h ∙ ap within32 (sym (fold_done (with_digit base) text n i d) ∙ e)

-- ---- bytes, each of two digits

pair_next :
    (text : List ℕ) (p : ℕ) → p + 1 < length text
    → bytes_in (drop p text) ≡ (value_of (get_or text p 0) * 16 + value_of (get_or text (p + 1) 0)) ∷ bytes_in (drop (p + 2) text)
unfolding bytes_in
pair_next text p h =
    let a : p < length text = omega arith in
    let b : suc p < length text = omega arith in
    let q : p + 2 ≡ suc (suc p) = omega arith in
    rw (q, add-one p, drop-cons text p 0 a, drop-cons text (suc p) 0 b)

bytes_none : (text : List ℕ) → length text ≤ 1 → bytes_in text ≡ []
unfolding bytes_in
bytes_none [] h = refl
bytes_none (b ∷ []) h = refl
bytes_none (b ∷ c ∷ text) h = absurd (omega arith)

pub length_bytes : (text : List ℕ) → length (bytes_in text) ≡ length text / 2
unfolding bytes_in
length_bytes [] = omega arith
length_bytes (b ∷ []) = omega arith
length_bytes (b ∷ c ∷ text) = let r = length_bytes text in omega arith

module _ (text into : List ℕ) (i : ℕ) where
  pub put_more :
      (v : ℕ) → 2 * i + 1 < length text → v ≡ value_of (get_or text (2 * i) 0) * 16 + value_of (get_or text (2 * i + 1) 0)
      → sets (set into i v) (i + 1) (bytes_in (drop (2 * (i + 1)) text)) ≡ sets into i (bytes_in (drop (2 * i) text))
  put_more v h e =
      let q : 2 * (i + 1) ≡ 2 * i + 2 = omega arith in
      rw (q, pair_next text (2 * i) h, e, add-one i)

  pub put_done : length text / 2 ≤ i → sets into i (bytes_in (drop (2 * i) text)) ≡ into
  put_done h =
      let l : length (drop (2 * i) text) ≤ 1 = simp length-drop (omega arith) in
      rw (bytes_none (drop (2 * i) text) l)

-- ---- stored from the front on

pub front_is : (before bytes : List ℕ) → length bytes ≤ length before → sets before 0 bytes ≡ front_of before bytes
front_is before bytes h =
    let k : 0 + length bytes ≤ length before = omega arith in
    sets-eq bytes before 0 k ∙ sym (place_fits before 0 bytes k) ∙ place_front before bytes

-- ---- what is said of the digits of bytes

module _ (bytes before : List ℕ) where
  pub spelt_none : length before / 2 < length bytes → IsSpell bytes before before 0
  spelt_none h =
      let l = length_digits bytes in
      let k : length before < length (digits_spelt bytes) = omega arith in
      record { counted = rw (lt-leb _ _ k); stands = sym (front_short before (digits_spelt bytes) k) }

  pub spelt_all :
      (after : List ℕ) (i : ℕ) → length bytes ≤ length before / 2 → i ≡ length bytes
      → sets after (2 * i) (digits_spelt (drop i bytes)) ≡ sets before 0 (digits_spelt bytes) → IsSpell bytes before after (2 * i)
  spelt_all after i h n e =
      let l = length_digits bytes in
      let k : length (digits_spelt bytes) ≤ length before = omega arith in
      let m : 2 * i ≡ length (digits_spelt bytes) = omega arith in
      record {
        counted = rw (le-leb _ _ k) m;
        stands = sym (spell_done bytes after i (2 * i) (omega arith)) ∙ e ∙ front_is before (digits_spelt bytes) k;
      }
