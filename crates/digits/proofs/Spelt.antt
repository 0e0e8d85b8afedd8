-- Bytes as digits: how many they are, and one byte more of those that are left.
-- Assumes nothing.
use Rattle.std.proofs.Common.{◌≡◌, ℕ, suc, ◌+◌, ◌*◌, ◌/◌, ◌<◌, ◌≤◌, List, [], ◌∷◌, ◌++◌, length, get_or, drop, set, refl, add-one, arith, drop_of_length-le, drop-cons}
use lib.Seq.{sets}
use Rattle.digits.specs.Digit.{digit_of}
use Rattle.digits.specs.Spelt.{digits_spelt}

pub length_digits : (bytes : List ℕ) → length (digits_spelt bytes) ≡ 2 * length bytes
unfolding digits_spelt
length_digits [] = omega arith
length_digits (b ∷ bytes) = let r = length_digits bytes in omega arith

pub digits_append : (a b : List ℕ) → digits_spelt (a ++ b) ≡ digits_spelt a ++ digits_spelt b
unfolding digits_spelt
digits_append [] b = refl
digits_append (x ∷ a) b = rw (digits_append a b)

-- those of the bytes from i on, stored from p on
module _ (bytes into : List ℕ) (i p : ℕ) where
  pub spell_more :
      (a b : ℕ) → i < length bytes → a ≡ digit_of (get_or bytes i 0 / 16) → b ≡ digit_of (get_or bytes i 0)
      → sets (set (set into p a) (p + 1) b) (p + 2) (digits_spelt (drop (i + 1) bytes)) ≡ sets into p (digits_spelt (drop i bytes))
  unfolding digits_spelt
  spell_more a b h d e =
      let q : p + 2 ≡ suc (suc p) = omega arith in
      rw (q, d, e, add-one p, add-one i, drop-cons bytes i 0 h)

  pub spell_done : length bytes ≤ i → sets into p (digits_spelt (drop i bytes)) ≡ into
  unfolding digits_spelt
  spell_done h = rw (drop_of_length-le bytes h)
