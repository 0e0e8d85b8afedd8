-- Where a line goes wrong as the code finds it: the digits due and found behind the colon, and the place case by case.
-- Assumes nothing.
use Rattle.std.proofs.Common.{◌≡◌, ℕ, zero, suc, ◌+◌, ◌<◌, ◌≤◌, Bool, true, false, cond, List, [], ◌∷◌, length, get_or, take, drop, refl, arith, eq-eqb, ne_eqb}
use Rattle.std.specs.List.{prefix_len}
use lib.ListN.{get_or-eq_default}
use Rattle.buffer.proofs.Bools.{and_false, no_way}
use Rattle.digits.specs.Digit.{value_of, is_digit}
use Rattle.hex_text.specs.Spell.{digit_bytes}
use Rattle.hex_text.specs.Record.{Whole, Broken, digits_in, digits_due, digits_whole, record_of}
use Rattle.hex_text.specs.Places.{pair_at, Placed}
use Rattle.hex_text.proofs.Pairs.{pair_none, pair_small}
use Rattle.hex_text.proofs.Records.{run}

-- past the end stands no digit
pub none_past : (l : List ℕ) (at : ℕ) → length l ≤ at → is_digit (get_or l at 0) ≡ false
unfolding is_digit value_of
none_past l at h = rw (get_or-eq_default l 0 {n = at} h)

-- THE DIGITS DUE: more than there can be, where no two spell the count

module _ (l : List ℕ) where
  pub due_none : pair_at l 0 ≡ false → digits_due l ≡ 522
  due_none e = let s = pair_none (get_or l 0 0) (get_or l 1 0) e in omega arith

  pub due_short : length l < 2 → digits_due l ≡ 522
  due_short h = due_none (rw (none_past l 1 (omega arith)) (and_false (is_digit (get_or l 0 0))))

-- THE DIGITS FOUND: those before the first, of as many as are due, that is none

pub found_so : (due : ℕ) (l : List ℕ) → prefix_len is_digit (take due l) ≡ digits_in due l
unfolding digits_in
found_so zero l = refl
found_so (suc due) [] = refl
found_so (suc due) (c ∷ l) = by (is_digit c) (found_so due l)
  where
    by : (b : Bool) → prefix_len is_digit (take due l) ≡ digits_in due l
        → cond b (1 + prefix_len is_digit (take due l)) 0 ≡ cond b (suc (digits_in due l)) 0
    by true e = omega arith
    by false e = refl

due_few : (l : List ℕ) → digits_due l ≤ 522
due_few l = by (pair_at l 0) refl
  where
    by : (b : Bool) → pair_at l 0 ≡ b → digits_due l ≤ 522
    by true e = let s = pair_small (get_or l 0 0) (get_or l 1 0) e in omega arith
    by false e = omega (arith, due_none l e)

pub found_small : (l : List ℕ) → digits_in (digits_due l) l ≤ 522
found_small l = omega (arith, (run (digits_due l) l).within, due_few l)

-- THE PLACE

pub placed_first : (line : List ℕ) → (get_or line 0 0 ≡ 0x3A → ⊥) → Placed line 1
unfolding record_of
placed_first [] n place e = cc
placed_first (c ∷ ds) n place e = let f : Broken 1 ≡ Broken place = rw (ne_eqb c 0x3A n) at e in cc

pub placed_empty : (line : List ℕ) → length line ≡ 0 → Placed line 1
placed_empty line h = placed_first line (λ e. let z = get_or-eq_default line 0 {n = 0} (omega arith) in omega arith)

pub placed_behind :
    (line : List ℕ) → get_or line 0 0 ≡ 0x3A → {n : ℕ} → n ≡ digits_in (digits_due (drop 1 line)) (drop 1 line) → Placed line (n + 2)
unfolding record_of
placed_behind [] colon d place e = absurd (omega arith)
placed_behind (c ∷ ds) colon {n} d place e = by (digits_whole ds) refl
  where
    by : (w : Bool) → digits_whole ds ≡ w → n + 2 ≡ place
    by true w = let f : Whole (digit_bytes ds) ≡ Broken place = rw (eq-eqb c 0x3A colon, w) at e in no_way (cc)
    by false w =
        let f : Broken (digits_in (digits_due ds) ds + 2) ≡ Broken place = rw (eq-eqb c 0x3A colon, w) at e in
        let g : digits_in (digits_due ds) ds + 2 ≡ place = cc in
        omega arith
