-- What a call lends of the banks, and what comes back: the front of each, and behind it what was there.
-- Assumes nothing.
use mathlib.Core.Path.{◌≡◌, refl, sym, ap, ◌∙◌}
use mathlib.Core.List.{List, ◌++◌}
use Prim.Native.Nat.{ℕ, ◌≤◌, min}
use native.Mathlib.Decide.{dec_le}
use native.Mathlib.Omega.{arith}
use lib.ListN.{length, take, drop, length-take, take-append-drop}
use lib.Seq.{length-take-le, take_all}
use Rattle.layout.specs.declared.Bank.{Bank}
use Rattle.layout.specs.declared.Bank.TheVariants.{Zero, One}
use Rattle.layout.specs.Pair.{Banks, banks, bank_in, with_bank}
use Rattle.demands.specs.Board.{lent_of, back_in}

-- what is lent of a bank is its front, as long as it is
pub front_of : (l : ℕ) (bank : List ℕ) → take l bank ≡ take (length (take l bank)) bank
front_of l bank = by (dec_le l (length bank))
  where
    by : Dec (l ≤ length bank) → take l bank ≡ take (length (take l bank)) bank
    by (yes h) = ap (λ (i : ℕ). take i bank) (sym (length-take-le l bank h))
    by (no h) =
        let e : take l bank ≡ bank = take_all l bank (omega arith) in
        e ∙ sym (take_all (length (take l bank)) bank (omega (arith, ap length e)))

pub front_short : (l : ℕ) (bank : List ℕ) → length (take l bank) ≤ length bank
front_short l bank = omega (arith, length-take l bank)

pub front_alike : (l : ℕ) (a b : List ℕ) → length a ≡ length b → length (take l a) ≡ length (take l b)
front_alike l a b e = length-take l a ∙ ap (min l) e ∙ sym (length-take l b)

module _ (lent : Bank → ℕ) (pair : Banks) where
  pub lent_in : (x : Bank) → bank_in x (lent_of lent pair) ≡ take (lent x) (bank_in x pair)
  lent_in Zero = refl
  lent_in One = refl

  -- one of them came back as another, and what lay behind it lies behind it still
  pub back_with : (x : Bank) (front : List ℕ) → back_in lent pair (with_bank x front (lent_of lent pair)) ≡ with_bank x (front ++ drop (lent x) (bank_in x pair)) pair
  back_with Zero front = ap (banks (front ++ drop (lent Zero) pair.bank0)) (take-append-drop (lent One) pair.bank1)
  back_with One front = ap (λ (l : List ℕ). banks l (front ++ drop (lent One) pair.bank1)) (take-append-drop (lent Zero) pair.bank0)

  -- a bank whose front came back as it was lent
  pub whole_again : (x : Bank) → bank_in x (lent_of lent pair) ++ drop (lent x) (bank_in x pair) ≡ bank_in x pair
  whole_again x = ap (λ (l : List ℕ). l ++ drop (lent x) (bank_in x pair)) (lent_in x) ∙ take-append-drop (lent x) (bank_in x pair)
