-- A line and its record: digit by digit as it is said, from left to right as the definition reads it, and by the code's tests.
-- Assumes nothing.
use Rattle.std.proofs.Common.{◌≡◌, ℕ, zero, suc, ◌+◌, ◌*◌, ◌/◌, ◌%◌, ◌<◌, ◌≤◌, Bool, true, false, cond, eqb, ltb, List, [], ◌∷◌, ◌++◌, length, get_or, take, drop, sym, refl, ap, ◌∙◌, le_of_suc-le-suc, not-suc-le-zero, zero-add, add-one, arith, Some, None, length-drop, drop_of_length-le, drop-cons, take_at, ltb-true, lt-ltb, eq-eqb, eqb-true}
use native.Mathlib.Decide.{dec_lt}
use lib.ListN.{get_or-append}
use lib.Seq.{take-append-le, drop-append-le, sets, sets-eq}
use borrow.Author.Tests.{eqb-false}
use Rattle.buffer.specs.Total.{total}
use Rattle.buffer.proofs.Bools.{and_left, and_right, and_both, no_way}
use Rattle.digits.specs.Digit.{value_of, is_digit}
use Rattle.hex_text.specs.Spell.{byte_of, digit_bytes, line_bytes}
use Rattle.hex_text.specs.Record.{Spelled, Whole, Broken, digits_in, record_count, record_data, digits_due, digits_whole, record_of}
use Rattle.hex_text.specs.Meaning.{spells, line_count, IsRecord}
use Rattle.hex_text.specs.Places.{pair_byte, bytes_at, all_bytes, check_from, sum_of, Summed}
use Rattle.hex_text.proofs.Pairs.{first_small, second-small, spelled, pair_small, two_digits, pair_so}

-- DIGITS IN A ROW

digit_is : (c : ℕ) → is_digit c ≡ true → value_of c < 16
unfolding is_digit
digit_is c e = ltb-true (value_of c) 16 e

not_digit : (c : ℕ) → is_digit c ≡ false → value_of c < 16 → ⊥
unfolding is_digit
not_digit c e v = let z = sym e ∙ lt-ltb (value_of c) 16 v in no_way (cc)

-- those found of as many as are due: up to the end, to what is none, or all
pub record Run (due : ℕ) (l : List ℕ) (n : ℕ) : Type 0 where
  pub within : n ≤ due
  pub inside : n ≤ length l
  pub digits : (i : ℕ) → i < n → value_of (get_or l i 0) < 16
  pub stops : n < due → n < length l → value_of (get_or l n 0) < 16 → ⊥

one_more :
    (c : ℕ) (l : List ℕ) (n : ℕ) → value_of c < 16 → ((i : ℕ) → i < n → value_of (get_or l i 0) < 16)
    → (i : ℕ) → i < suc n → value_of (get_or (c ∷ l) i 0) < 16
one_more c l n v f zero h = v
one_more c l n v f (suc i) h = f i (le_of_suc-le-suc h)

pub run : (due : ℕ) (l : List ℕ) → Run due l (digits_in due l)
unfolding digits_in
run zero l =
    record { within = omega arith; inside = omega arith; digits = λ i h. absurd (not-suc-le-zero h); stops = λ h. absurd (not-suc-le-zero h) }
run (suc due) [] =
    record { within = omega arith; inside = omega arith; digits = λ i h. absurd (not-suc-le-zero h); stops = λ d h. absurd (not-suc-le-zero h) }
run (suc due) (c ∷ l) = by (is_digit c) refl (run due l)
  where
    by : (b : Bool) → is_digit c ≡ b → Run due l (digits_in due l) → Run (suc due) (c ∷ l) (cond b (suc (digits_in due l)) 0)
    by false e r =
        record { within = omega arith; inside = omega arith; digits = λ i h. absurd (not-suc-le-zero h); stops = λ d h v. not_digit c e v }
    by true e r =
        record {
          within = omega (arith, r.within);
          inside = omega (arith, r.inside);
          digits = one_more c l (digits_in due l) (digit_is c e) r.digits;
          stops = λ d h. r.stops (le_of_suc-le-suc d) (le_of_suc-le-suc h);
        }

-- digits alone are all found
digits_found : (n : ℕ) (ds : List ℕ) → n ≤ length ds → ((i : ℕ) → i < n → value_of (get_or ds i 0) < 16) → digits_in n ds ≡ n
digits_found n ds h f = by (dec_lt (digits_in n ds) n)
  where
    by : Dec (digits_in n ds < n) → digits_in n ds ≡ n
    by (yes l) = absurd ((run n ds).stops l (omega arith) (f (digits_in n ds) l))
    by (no l) = omega (arith, (run n ds).within)

-- one byte in front of them
behind :
    (c : ℕ) (ds : List ℕ) → ((i : ℕ) → i < length ds → value_of (get_or ds i 0) < 16)
    → (i : ℕ) → 1 ≤ i → i < length (c ∷ ds) → value_of (get_or (c ∷ ds) i 0) < 16
behind c ds f zero l h = absurd (not-suc-le-zero l)
behind c ds f (suc i) l h = f i (le_of_suc-le-suc h)

-- THE BYTES OF A LINE, BY POSITION

bytes_length : (t : List ℕ) (p k : ℕ) → length (bytes_at t p k) ≡ k
unfolding bytes_at
bytes_length t p zero = refl
bytes_length t p (suc k) = ap suc (bytes_length t (p + 2) k)

bytes_drop : (t : List ℕ) (p k : ℕ) → length t ≡ p + 2 * k → digit_bytes (drop p t) ≡ bytes_at t p k
unfolding digit_bytes bytes_at
bytes_drop t p zero h = rw (drop_of_length-le t {i = p} (omega arith))
bytes_drop t p (suc k) h =
    let a = drop-cons t p 0 (omega arith) in
    let b = drop-cons t (suc p) 0 (omega arith) in
    let e : suc (suc p) ≡ p + 2 = omega arith in
    rw (a, b, add-one p, e) (ap (λ (l : List ℕ). byte_of (get_or t p 0) (get_or t (suc p) 0) ∷ l) (bytes_drop t (p + 2) k (omega arith)))

pub bytes_at_lem : (t : List ℕ) (p k j : ℕ) → j < k → get_or (bytes_at t p k) j 0 ≡ pair_byte t (2 * j + p)
unfolding bytes_at
bytes_at_lem t p zero j h = absurd (not-suc-le-zero h)
bytes_at_lem t p (suc k) zero h = let e : 2 * zero + p ≡ p = omega arith in rw e
bytes_at_lem t p (suc k) (suc j) h =
    let e : 2 * suc j + p ≡ 2 * j + (p + 2) = omega arith in rw e (bytes_at_lem t (p + 2) k j (le_of_suc-le-suc h))

-- digits alone spell bytes
all_bytes_lem : (t : List ℕ) (p k : ℕ) → ((i : ℕ) → p ≤ i → i < p + 2 * k → value_of (get_or t i 0) < 16) → all_bytes (bytes_at t p k) ≡ true
unfolding all_bytes bytes_at
all_bytes_lem t p zero f = refl
all_bytes_lem t p (suc k) f =
    let two = two_digits (get_or t p 0) (get_or t (p + 1) 0) (f p (omega arith) (omega arith)) (f (p + 1) (omega arith) (omega arith)) in
    and_both (ltb (pair_byte t p) 256) (all_bytes (bytes_at t (p + 2) k)) (lt-ltb (pair_byte t p) 256 (pair_small _ _ two))
    (all_bytes_lem t (p + 2) k (λ i l h. f i (omega arith) (omega arith)))

all_small : (bs : List ℕ) → all_bytes bs ≡ true → (i : ℕ) → get_or bs i 0 < 256
unfolding all_bytes
all_small [] e i = omega arith
all_small (b ∷ bs) e zero = ltb-true b 256 (and_left (ltb b 256) (all_bytes bs) e)
all_small (b ∷ bs) e (suc i) = all_small bs (and_right (ltb b 256) (all_bytes bs) e) i

-- and what spells bytes are digits
from_two : (P : ℕ → Type 0) (p i : ℕ) → p ≤ i → P p → P (p + 1) → (p + 2 ≤ i → P i) → P i
from_two P p i l first second more = by (eqb i p) (eqb i (p + 1)) refl refl
  where
    by : (a b : Bool) → eqb i p ≡ a → eqb i (p + 1) ≡ b → P i
    by true b x y = rw (eqb-true i p x) first
    by false true x y = rw (eqb-true i (p + 1) y) second
    by false false x y = let n = eqb-false i p x in let m = eqb-false i (p + 1) y in more (omega arith)

bytes_all : (t : List ℕ) (p k : ℕ) → all_bytes (bytes_at t p k) ≡ true → (i : ℕ) → p ≤ i → i < p + 2 * k → value_of (get_or t i 0) < 16
unfolding all_bytes bytes_at
bytes_all t p zero e i l h = absurd (omega arith)
bytes_all t p (suc k) e i l h =
    let two = pair_so _ _ (ltb-true (pair_byte t p) 256 (and_left (ltb (pair_byte t p) 256) (all_bytes (bytes_at t (p + 2) k)) e)) in
    let more = bytes_all t (p + 2) k (and_right (ltb (pair_byte t p) 256) (all_bytes (bytes_at t (p + 2) k)) e) i in
    from_two (λ (i : ℕ). value_of (get_or t i 0) < 16) p i l (first_small _ _ two) (second-small _ _ two) (λ m. more m (omega arith))

-- WHETHER A LINE IS A RECORD

module _ (line : List ℕ) (m : ℕ) (long : length line ≡ 2 * m + 1) where
  pub line_bytes_lem : line_bytes line ≡ bytes_at line 1 m
  line_bytes_lem = bytes_drop line 1 m (omega arith)

  module _ (digits : (i : ℕ) → 1 ≤ i → i < length line → value_of (get_or line i 0) < 16) where
    -- byte j of the record
    pub byte-spelled : (j : ℕ) → j < m → get_or (line_bytes line) j 0 ≡ spells line j
    byte-spelled j h =
        let e : 2 * j + 1 + 1 ≡ 2 * j + 2 = omega arith in
        let high = digits (2 * j + 1) (omega arith) (omega arith) in
        let low = digits (2 * j + 2) (omega arith) (omega arith) in
        let two = two_digits (get_or line (2 * j + 1) 0) (get_or line (2 * j + 2) 0) high low in
        rw line_bytes_lem (bytes_at_lem line 1 m j h ∙ rw e (spelled _ _ two))

-- two digits behind the colon spell the count
pub due_is :
    (ds : List ℕ) → value_of (get_or ds 0 0) < 16 → value_of (get_or ds 1 0) < 16
    → digits_due ds ≡ 2 * (value_of (get_or ds 0 0) * 16 + value_of (get_or ds 1 0) + 5)
due_is ds a b = rw (spelled (get_or ds 0 0) (get_or ds 1 0) (two_digits (get_or ds 0 0) (get_or ds 1 0) a b))

-- what the definition reads as whole is a record
pub whole_record : (line bytes : List ℕ) → record_of line ≡ Whole bytes → IsRecord line × (bytes ≡ line_bytes line)
unfolding record_of digits_whole
whole_record [] bytes e = no_way (cc)
whole_record (c ∷ ds) bytes e = by (eqb c 0x3A) (eqb (digits_in (digits_due ds) ds) (digits_due ds)) (eqb (length ds) (digits_due ds)) refl refl refl
  where
    by :
        (x y z : Bool) → eqb c 0x3A ≡ x → eqb (digits_in (digits_due ds) ds) (digits_due ds) ≡ y → eqb (length ds) (digits_due ds) ≡ z
        → IsRecord (c ∷ ds) × (bytes ≡ line_bytes (c ∷ ds))
    by false y z p q r = let f = rw p at e in no_way (cc)
    by true false z p q r = let f = rw (p, q) at e in no_way (cc)
    by true true false p q r = let f = rw (p, q, r) at e in no_way (cc)
    by true true true p q r =
        let f : Whole (digit_bytes ds) ≡ Whole bytes = rw (p, q, r) at e in
        let due : length ds ≡ digits_due ds = eqb-true _ _ r in
        let found : digits_in (digits_due ds) ds ≡ digits_due ds = eqb-true _ _ q in
        let digits = behind c ds (λ i l. (run (digits_due ds) ds).digits i (omega arith)) in
        let n = due_is ds (digits 1 (omega arith) (omega arith)) (digits 2 (omega arith) (omega arith)) in
        (record { colon = eqb-true c 0x3A p; digits = digits; counted = omega arith }, cc)

-- and a record is read as whole
pub record_whole : (line : List ℕ) → IsRecord line → record_of line ≡ Whole (line_bytes line)
unfolding record_of digits_whole
record_whole [] r = absurd (omega (arith, r.colon))
record_whole (c ∷ ds) r =
    let n = due_is ds (r.digits 1 (omega arith) (omega (arith, r.counted))) (r.digits 2 (omega arith) (omega (arith, r.counted))) in
    let due : length ds ≡ digits_due ds = omega (arith, r.counted) in
    let found = digits_found (digits_due ds) ds (omega arith) (λ i l. r.digits (suc i) (omega arith) (omega arith)) in
    rw (eq-eqb c 0x3A r.colon, eq-eqb _ _ found, eq-eqb _ _ due)

-- a record's bytes: as many as it counts, and 5; the first is the count, and each is below 256
module _ (line : List ℕ) (r : IsRecord line) where
  pub record_half : length line / 2 ≡ line_count line + 5
  record_half = omega (arith, r.counted)

  pub record_length : length (line_bytes line) ≡ line_count line + 5
  record_length = rw (line_bytes_lem line _ r.counted) (bytes_length line 1 (line_count line + 5))

  pub byte_is : (j : ℕ) → j < line_count line + 5 → get_or (line_bytes line) j 0 ≡ spells line j
  byte_is = byte-spelled line _ r.counted r.digits

  pub byte_small : (j : ℕ) → get_or (line_bytes line) j 0 < 256
  byte_small j =
      all_small (line_bytes line)
      (rw (line_bytes_lem line _ r.counted) (all_bytes_lem line 1 (line_count line + 5) (λ i l h. r.digits i l (omega (arith, r.counted))))) j

-- THE SUM of a line that is a record, and of one that is none

sum_none : (line : List ℕ) → (IsRecord line → ⊥) → sum_of (record_of line) ≡ None
sum_none line n = by (record_of line) refl
  where
    by : (r : Spelled) → record_of line ≡ r → sum_of r ≡ None
    by (Whole bytes) e = absurd (n (whole_record line bytes e).0)
    by (Broken place) e = refl

pub sum_record : (line : List ℕ) → IsRecord line → sum_of (record_of line) ≡ None → ⊥
sum_record line r e = let f : Some (total (line_bytes line) % 256) ≡ None = rw (record_whole line r) at e in no_way (cc)

pub sum_some : (line : List ℕ) {sum : ℕ} → Some sum ≡ sum_of (record_of line) → IsRecord line × (sum ≡ total (line_bytes line) % 256)
sum_some line {sum} n = by (record_of line) refl n
  where
    by : (r : Spelled) → record_of line ≡ r → Some sum ≡ sum_of r → IsRecord line × (sum ≡ total (line_bytes line) % 256)
    by (Whole bytes) e f =
        let w = whole_record line bytes e in
        let g : sum ≡ total bytes % 256 = cc in
        (w.0, rw (sym w.1) g)
    by (Broken place) e f = no_way (cc)

-- all are bytes, or the sum says so
sum_bad : (bs : List ℕ) → None ≡ check_from 0 bs → all_bytes bs ≡ true → ⊥
unfolding check_from
sum_bad bs e a = let f : None ≡ Some ((0 + total bs) % 256) = rw a at e in no_way (cc)

sum_good : (bs : List ℕ) {sum : ℕ} → Some sum ≡ check_from 0 bs → (all_bytes bs ≡ true) × (sum ≡ total bs % 256)
unfolding check_from
sum_good bs {sum} h = by (all_bytes bs) refl h
  where
    by : (b : Bool) → all_bytes bs ≡ b → Some sum ≡ cond b (Some ((0 + total bs) % 256)) None → (all_bytes bs ≡ true) × (sum ≡ total bs % 256)
    by true e f = let g : sum ≡ (0 + total bs) % 256 = cc in (e, rw zero-add at g)
    by false e f = no_way (cc)

-- THE BYTES AT THE FRONT of what was lent

module _ (bytes before : List ℕ) {held : List ℕ} (room : length bytes ≤ length before) (put : held ≡ sets before 0 bytes) where
  held_is : held ≡ bytes ++ drop (length bytes) before
  held_is = put ∙ sets-eq bytes before 0 (omega arith) ∙ rw zero-add

  pub front_is : take (length bytes) held ≡ bytes
  front_is = rw held_is (take_at bytes _ (length bytes) refl)

  front_count : 0 < length bytes → record_count held ≡ record_count bytes
  front_count h = rw held_is (get_or-append bytes (drop (length bytes) before) 0 0 h)

  pub front_data : (n : ℕ) → 4 + n ≤ length bytes → record_data n held ≡ record_data n bytes
  front_data n h =
      rw (held_is, drop-append-le 4 bytes (drop (length bytes) before) (omega arith))
      (take-append-le n (drop 4 bytes) (drop (length bytes) before) (simp length-drop (omega arith)))

-- WHAT WAS SUMMED, TEST BY TEST

module _ (line before after : List ℕ) where
  summed_not : (IsRecord line → ⊥) → Summed line before after None
  summed_not n = record { sum = sym (sum_none line n); put = λ bytes e. absurd (n (whole_record line bytes e).0) }

  pub summed_short : length line < 11 → Summed line before after None
  summed_short h = summed_not (λ r. omega (arith, r.counted))

  pub summed_long : 521 < length line → Summed line before after None
  summed_long h =
      summed_not
      (λ r.
      let high = r.digits 1 (omega arith) (omega arith) in
      let low = r.digits 2 (omega arith) (omega arith) in
      omega (arith, r.counted))

  pub summed_even : length line % 2 ≡ 0 → Summed line before after None
  summed_even h = summed_not (λ r. omega (arith, r.counted))

  pub summed_colon : (get_or line 0 0 ≡ 0x3A → ⊥) → Summed line before after None
  summed_colon h = summed_not (λ r. h r.colon)

  -- the pairs of digits behind the colon
  abbrev pairs : List ℕ
  pairs = bytes_at line 1 (length line / 2)

  module _ (odd : length line % 2 ≡ 0 → ⊥) where
    halves : length line ≡ 2 * (length line / 2) + 1
    halves = omega arith

    pub summed-bytes : None ≡ check_from 0 pairs → Summed line before after None
    summed-bytes z =
        summed_not
        (λ r. sum_bad _ z (all_bytes_lem line 1 (length line / 2) (λ i l h. r.digits i l (omega arith))))

    module _
        {sum : ℕ} (added : Some sum ≡ check_from 0 pairs) (colon : get_or line 0 0 ≡ 0x3A) (some : 11 ≤ length line) (few : length line ≤ 521)
        (room : 260 ≤ length before) (put : after ≡ sets before 0 pairs) {n : ℕ} (count : n ≡ record_count after) where
      total-is : (all_bytes pairs ≡ true) × (sum ≡ total pairs % 256)
      total-is = sum_good _ added

      digits : (i : ℕ) → 1 ≤ i → i < length line → value_of (get_or line i 0) < 16
      digits i l h = bytes_all line 1 (length line / 2) total-is.0 i l (omega arith)

      count_is : n ≡ line_count line
      count_is =
          let b = line_bytes_lem line (length line / 2) halves in
          let l = bytes_length line 1 (length line / 2) in
          count ∙ front_count pairs before (omega arith) put (omega arith)
          ∙ rw b at (byte-spelled line (length line / 2) halves digits 0 (omega arith))

      pub summed-count : (length line / 2 ≡ n + 5 → ⊥) → Summed line before after None
      summed-count d = summed_not (λ r. let c = count_is in d (omega (arith, r.counted)))

      pub summed : length line / 2 ≡ n + 5 → Summed line before after (Some sum)
      summed d =
          let b = line_bytes_lem line (length line / 2) halves in
          let c = count_is in
          let r : IsRecord line = record { colon = colon; digits = digits; counted = omega arith } in
          record {
            sum = rw (record_whole line r, b, total-is.1);
            put = λ bytes e. put ∙ ap (sets before 0) (sym b ∙ sym (whole_record line bytes e).1);
          }
