-- Where a line that is no record goes wrong: the place that the definition finds, from left to right, is that of the first byte that can't belong or
-- one past the end of a line that stops early, and there is no other.
-- Assumes nothing.
use Rattle.std.proofs.Common.{◌≡◌, ℕ, zero, suc, ◌+◌, ◌-◌, ◌*◌, ◌<◌, ◌≤◌, Bool, true, false, eqb, List, [], ◌∷◌, ◌++◌, length, get_or, take, drop, replicate, sym, refl, ap, ◌∙◌, append_assoc, le_of_suc-le-suc, not-suc-le-zero, arith, length-append, take-append-drop, length-take-le, take_all, get_or-take, take-take, eqb-true}
use native.Mathlib.Decide.{dec_lt}
use lib.ListN.{length-replicate, get_or-replicate}
use lib.ListN.{get_or-eq_default, get_or-append}
use borrow.Author.Tests.{eqb-false}
use Rattle.digits.specs.Digit.{value_of}
use Rattle.hex_text.specs.Spell.{digit_bytes}
use Rattle.hex_text.specs.Record.{Broken, digits_in, digits_due, digits_whole, record_of}
use Rattle.hex_text.specs.Meaning.{line_count, IsRecord, Begins, FirstWrong, cannot_belong, stops_early}
use Rattle.hex_text.proofs.Records.{Run, run, due_is, whole_record}

-- WHAT A RECORD BEGINS WITH

begins_take : (n : ℕ) (l : List ℕ) → Begins l → Begins (take n l)
begins_take n l b =
    record { rest = drop n l ++ b.rest; whole = rw (sym (append_assoc (take n l) (drop n l) b.rest), take-append-drop n l) b.whole }

begins_shorter : (m n : ℕ) (l : List ℕ) → m ≤ n → Begins (take n l) → Begins (take m l)
begins_shorter m n l h b = rw (take-take m n l h) at (begins_take m (take n l) b)

-- it has the colon, then digits alone, and no more of them than are counted
module _ {front : List ℕ} (b : Begins front) where
  begins_colon : 0 < length front → get_or front 0 0 ≡ 0x3A
  begins_colon h = sym (get_or-append front b.rest 0 0 h) ∙ b.whole.colon

  begins_digit : (i : ℕ) → 1 ≤ i → i < length front → value_of (get_or front i 0) < 16
  begins_digit i l h =
      rw (get_or-append front b.rest 0 i h) at (b.whole.digits i l (let e = length-append front b.rest in omega arith))

  begins_counted : 3 ≤ length front → length front ≤ 2 * (line_count front + 5) + 1
  begins_counted h =
      let one = get_or-append front b.rest 0 1 (omega arith) in
      let two = get_or-append front b.rest 0 2 (omega arith) in
      let e = length-append front b.rest in
      let counted = rw (one, two) at b.whole.counted in
      omega arith

-- and whatever has these begins one: zeros complete it
filled : (l : List ℕ) (m i : ℕ) → i < length l + m → get_or (l ++ replicate m 48) i 0 ≡ get_or l i 48
filled [] m i h = get_or-replicate m i 48 0 (omega arith)
filled (x ∷ l) m zero h = refl
filled (x ∷ l) m (suc i) h = filled l m i (omega arith)

there : (l : List ℕ) (i : ℕ) → i < length l → get_or l i 48 ≡ get_or l i 0
there [] i h = absurd (not-suc-le-zero h)
there (x ∷ l) zero h = refl
there (x ∷ l) (suc i) h = there l i (le_of_suc-le-suc h)

zero_digit : value_of 48 < 16
unfolding value_of
zero_digit = omega arith

-- the count, where a digit that isn't there is a zero
abbrev count_filled : List ℕ → ℕ
count_filled front = value_of (get_or front 1 48) * 16 + value_of (get_or front 2 48)

module _
    (front : List ℕ) (colon : get_or front 0 0 ≡ 0x3A) (digits : (i : ℕ) → 1 ≤ i → i < length front → value_of (get_or front i 0) < 16)
    (few : length front ≤ 2 * (count_filled front + 5) + 1) where
  abbrev zeros : ℕ
  zeros = 2 * (count_filled front + 5) + 1 - length front

  abbrev whole : List ℕ
  whole = front ++ replicate zeros 48

  whole_length : length whole ≡ 2 * (count_filled front + 5) + 1
  whole_length = let e = length-append front (replicate zeros 48) in let z = length-replicate {A = ℕ} zeros 48 in omega arith

  some : 0 < length front
  some = by (dec_lt 0 (length front))
    where
      by : Dec (0 < length front) → 0 < length front
      by (yes h) = h
      by (no h) = let e = get_or-eq_default front 0 {n = 0} (omega arith) in absurd (omega arith)

  digit_filled : (i : ℕ) → 1 ≤ i → value_of (get_or front i 48) < 16
  digit_filled i l = by (dec_lt i (length front))
    where
      by : Dec (i < length front) → value_of (get_or front i 48) < 16
      by (yes h) = rw (there front i h) (digits i l h)
      by (no h) = rw (get_or-eq_default front 48 {n = i} (omega arith)) zero_digit

  begins_so : Begins front
  begins_so =
      let one = filled front zeros 1 (omega arith) in
      let two = filled front zeros 2 (omega arith) in
      record {
        rest = replicate zeros 48;
        whole =
            record {
              colon = get_or-append front (replicate zeros 48) 0 0 some ∙ colon;
              digits = λ i l h. rw (filled front zeros i (let e = whole_length in omega arith)) (digit_filled i l);
              counted = rw (one, two) whole_length;
            };
      }

begins_none : Begins []
begins_none = begins_take 0 (0x3A ∷ []) (begins_so (0x3A ∷ []) refl (λ i l h. absurd (omega arith)) (omega arith))

-- THE PLACE behind a colon

module _ (ds : List ℕ) where
  abbrev line : List ℕ
  line = 0x3A ∷ ds

  abbrev found : ℕ
  found = digits_in (digits_due ds) ds

  r : Run (digits_due ds) ds found
  r = run (digits_due ds) ds

  -- two that were found spell the count
  counted : 2 ≤ found → digits_due ds ≡ 2 * (value_of (get_or ds 0 0) * 16 + value_of (get_or ds 1 0) + 5)
  counted h = due_is ds (r.digits 0 (omega arith)) (r.digits 1 (omega arith))

  front_begins : Begins (take (found + 1) line)
  front_begins =
      begins_so (take (found + 1) line) (get_or-take (found + 1) line 0 0 (omega arith)) digits (by (dec_lt found 2))
    where
      long : length (take (found + 1) line) ≡ found + 1
      long = length-take-le (found + 1) line (omega (arith, r.inside))

      digits : (i : ℕ) → 1 ≤ i → i < length (take (found + 1) line) → value_of (get_or (take (found + 1) line) i 0) < 16
      digits zero l h = absurd (not-suc-le-zero l)
      digits (suc i) l h = rw (get_or-take (found + 1) line (suc i) 0 (omega (arith, long))) (r.digits i (omega (arith, long)))

      by : Dec (found < 2) → length (take (found + 1) line) ≤ 2 * (count_filled (take (found + 1) line) + 5) + 1
      by (yes h) = omega (arith, long)
      by (no h) =
          let one = get_or-take (found + 1) line 1 48 (omega arith) ∙ there ds 0 (omega (arith, r.inside)) in
          let two = get_or-take (found + 1) line 2 48 (omega arith) ∙ there ds 1 (omega (arith, r.inside)) in
          rw (one, two) (omega (arith, long, counted (omega arith), r.within))

  -- and the byte behind them can't belong
  module _ (more : found < length ds) (b : Begins (take (found + 1 + 1) line)) where
    long : length (take (found + 1 + 1) line) ≡ found + 1 + 1
    long = length-take-le (found + 1 + 1) line (omega arith)

    digit : value_of (get_or ds found 0) < 16
    digit =
        let e : found + 1 ≡ suc found = omega arith in
        rw (get_or-take (found + 1 + 1) line (found + 1) 0 (omega arith), e) at (begins_digit b (found + 1) (omega arith) (omega (arith, long)))

    not-with-it : ⊥
    not-with-it = by (dec_lt found (digits_due ds))
      where
        by : Dec (found < digits_due ds) → ⊥
        by (yes h) = r.stops h more digit
        by (no h) =
            let one = get_or-take (found + 1 + 1) line 1 0 (omega arith) in
            let two = get_or-take (found + 1 + 1) line 2 0 (omega arith) in
            let few = rw (one, two) at (begins_counted b (omega (arith, long))) in
            omega (arith, long, few, counted (omega arith), r.within)

  colon_wrong : FirstWrong line (found + 2)
  colon_wrong = by (dec_lt found (length ds))
    where
      by : Dec (found < length ds) → FirstWrong line (found + 2)
      by (yes h) =
          let e : found + 1 + 1 ≡ found + 2 = omega arith in
          let w : FirstWrong line (found + 1 + 1) = cannot_belong (found + 1) (omega arith) front_begins (not-with-it h) in
          rw e at w
      by (no h) =
          let e : length line + 1 ≡ found + 2 = omega (arith, r.inside) in
          let w : FirstWrong line (length line + 1) = stops_early (rw (take_all (found + 1) line (omega arith)) at front_begins) in
          rw e at w

-- ANY LINE that is no record

pub record GoesWrong (line : List ℕ) : Type 0 where
  pub place : ℕ
  pub is : record_of line ≡ Broken place
  pub wrong : FirstWrong line place

pub goes_wrong : (line : List ℕ) → (IsRecord line → ⊥) → GoesWrong line
unfolding record_of
goes_wrong [] n = record { place = 1; is = refl; wrong = stops_early begins_none }
goes_wrong (c ∷ ds) n = by (eqb c 0x3A) (digits_whole ds) refl refl
  where
    by : (x y : Bool) → eqb c 0x3A ≡ x → digits_whole ds ≡ y → GoesWrong (c ∷ ds)
    by false y e f =
        record {
          place = 1;
          is = rw e;
          wrong = cannot_belong 0 (omega arith) begins_none (λ b. eqb-false c 0x3A e (begins_colon b (omega arith)));
        }
    by true true e f = absurd (n (whole_record (c ∷ ds) (digit_bytes ds) (rw (e, f))).0)
    by true false e f =
        record { place = digits_in (digits_due ds) ds + 2; is = rw (e, f); wrong = rw (sym (eqb-true c 0x3A e)) at (colon_wrong ds) }

-- it goes wrong at one place
pub wrong_once : {line : List ℕ} {a b : ℕ} → FirstWrong line a → FirstWrong line b → a ≡ b
wrong_once {line} (cannot_belong i h x y) (cannot_belong j k v w) = by (dec_lt i j) (dec_lt j i)
  where
    by : Dec (i < j) → Dec (j < i) → i + 1 ≡ j + 1
    by (yes l) m = absurd (y (begins_shorter (i + 1) j line (omega arith) v))
    by (no l) (yes m) = absurd (w (begins_shorter (j + 1) i line (omega arith) x))
    by (no l) (no m) = omega arith
wrong_once {line} (cannot_belong i h x y) (stops_early b) = absurd (y (begins_take (i + 1) line b))
wrong_once {line} (stops_early b) (cannot_belong i h x y) = absurd (y (begins_take (i + 1) line b))
wrong_once (stops_early b) (stops_early c) = refl

-- so that is the place which the definition finds
pub wrong_broken : (line : List ℕ) → (IsRecord line → ⊥) → {byte : ℕ} → FirstWrong line byte → record_of line ≡ Broken byte
wrong_broken line n w = let g = goes_wrong line n in g.is ∙ ap Broken (wrong_once g.wrong w)
