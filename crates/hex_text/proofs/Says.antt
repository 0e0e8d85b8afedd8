-- What a line says, case by case: by its record, the record's sum and type, and for data by their place.
-- Assumes nothing.
use Rattle.std.proofs.Common.{◌≡◌, ℕ, ◌+◌, ◌-◌, ◌*◌, ◌/◌, ◌%◌, ◌<◌, ◌≤◌, Bool, true, false, ◌&&◌, eqb, leb, List, length, take, sym, refl, ap, ◌∙◌, arith, length-drop, length-take, eq-eqb, ne_eqb, eqb-true, leb-true}
use lib.Seq.{sets}
use borrow.Author.Tests.{eqb-false}
use Rattle.buffer.proofs.Bools.{and_left, and_right, not_so, split, no_way}
use Rattle.buffer.proofs.Numbers.{number_two}
use Rattle.buffer.specs.Number.{number_at}
use Rattle.buffer.specs.Total.{total}
use Rattle.std.specs.Prelude.{Some, None, Result, Ok, Err}
use Rattle.hex_text.specs.declared.fault.Kind.{Kind}
use Rattle.hex_text.specs.declared.fault.Fault.{Fault}
use Rattle.hex_text.specs.declared.fault.Kind.TheVariants.{H1, H2, H3, H4, H5, H6}
use Rattle.hex_text.specs.declared.record.State.{State}
use Rattle.hex_text.specs.declared.record.Found.{Found}
use Rattle.hex_text.specs.declared.record.Found.TheVariants.{Data, Upper, End, Other}
use Rattle.hex_text.specs.Spell.{line_bytes}
use Rattle.hex_text.specs.Record.{Spelled, Whole, Broken, record_count, record_address, record_type, record_upper, record_data, record_of}
use Rattle.hex_text.specs.Record.{record_checksum_place, colon_place, fault_at, in_bank, data_at, typed, found_of}
use Rattle.hex_text.specs.Meaning.{IsRecord}
use Rattle.hex_text.specs.Places.{Summed, Placed, Looked}
use Rattle.hex_text.proofs.Records.{whole_record, record_whole, record_half, record_length, byte_is, byte_small, sum_some, sum_record, front_is, front_data}

-- BY THE STATE, THE RECORD AND ITS SUM

module _ (base size : ℕ) (s : State) (line : List ℕ) where
  pub found_over : s.over ≡ true → found_of base size s line ≡ fault_at H6 1
  unfolding found_of
  found_over o = rw o

  module _ (o : s.over ≡ false) where
    pub found-1 : {place : ℕ} → record_of line ≡ Broken place → found_of base size s line ≡ fault_at H1 place
    unfolding found_of
    found-1 e = rw (o, e)

    module _ (r : IsRecord line) where
      pub found-2 : (total (line_bytes line) % 256 ≡ 0 → ⊥) → found_of base size s line ≡ fault_at H2 (record_checksum_place (line_bytes line))
      unfolding found_of
      found-2 n = rw (o, record_whole line r, ne_eqb (total (line_bytes line) % 256) 0 n)

      pub found-typed : total (line_bytes line) % 256 ≡ 0 → found_of base size s line ≡ typed base size s.upper s.last (line_bytes line)
      unfolding found_of
      found-typed z = rw (o, record_whole line r, eq-eqb (total (line_bytes line) % 256) 0 z)

-- BY THE TYPE, AND DATA BY THEIR PLACE

not_both : (a b c d : ℕ) → (a ≡ b → c ≡ d → ⊥) → (eqb a b && eqb c d) ≡ false
not_both a b c d h = not_so _ (λ e. h (eqb-true a b (and_left (eqb a b) (eqb c d) e)) (eqb-true c d (and_right (eqb a b) (eqb c d) e)))

-- the fields of two bytes, as they are read
module _ (r : List ℕ) (counted : record_count r + 5 ≤ length r) where
  pub address_read : {a : ℕ} → a ≡ number_at 2 r 1 → a ≡ record_address r
  address_read e = e ∙ number_two r 1 (omega arith)

  pub upper_read : {u : ℕ} → record_count r ≡ 2 → u ≡ number_at 2 r 4 → u ≡ record_upper r
  upper_read f e = e ∙ number_two r 4 (omega arith)

-- a record's type, case by case
module _ (base size upper last : ℕ) (r : List ℕ) {a : ℕ} (ea : a ≡ record_address r) where
  pub typed_data : record_type r ≡ 0 → typed base size upper last r ≡ data_at base size last (upper * 65536 + a) (record_count r)
  unfolding typed
  typed_data z = simp (eq-eqb (record_type r) 0 z, ea)

  module _ (nz : record_type r ≡ 0 → ⊥) where
    pub typed-field : (a ≡ 0 → ⊥) → typed base size upper last r ≡ fault_at H3 colon_place
    unfolding typed
    typed-field n = simp (ne_eqb (record_type r) 0 nz, ne_eqb (record_address r) 0 (λ z. n (ea ∙ z)))

    module _ (az : a ≡ 0) where
      pub typed-end : record_type r ≡ 1 → record_count r ≡ 0 → typed base size upper last r ≡ Ok End
      unfolding typed
      typed-end e f =
          simp (
            ne_eqb (record_type r) 0 nz,
            eq-eqb (record_address r) 0 (sym ea ∙ az),
            eq-eqb (record_type r) 1 e,
            eq-eqb (record_count r) 0 f,
          )

      pub typed-upper : {u : ℕ} → u ≡ record_upper r → record_type r ≡ 4 → record_count r ≡ 2 → typed base size upper last r ≡ Ok (Upper u)
      unfolding typed
      typed-upper high e f =
          simp (
            ne_eqb (record_type r) 0 nz,
            eq-eqb (record_address r) 0 (sym ea ∙ az),
            not_both (record_type r) 1 (record_count r) 0 (λ x y. omega arith),
            eq-eqb (record_type r) 4 e,
            eq-eqb (record_count r) 2 f,
            high,
          )

      pub typed-other : record_type r ≡ 5 → record_count r ≡ 4 → typed base size upper last r ≡ Ok Other
      unfolding typed
      typed-other e f =
          simp (
            ne_eqb (record_type r) 0 nz,
            eq-eqb (record_address r) 0 (sym ea ∙ az),
            not_both (record_type r) 1 (record_count r) 0 (λ x y. omega arith),
            not_both (record_type r) 4 (record_count r) 2 (λ x y. omega arith),
            eq-eqb (record_type r) 5 e,
            eq-eqb (record_count r) 4 f,
          )

      pub typed-bad :
          (record_type r ≡ 1 → record_count r ≡ 0 → ⊥) → (record_type r ≡ 4 → record_count r ≡ 2 → ⊥) → (record_type r ≡ 5 → record_count r ≡ 4 → ⊥)
          → typed base size upper last r ≡ fault_at H3 colon_place
      unfolding typed
      typed-bad x y z =
          simp (
            ne_eqb (record_type r) 0 nz,
            eq-eqb (record_address r) 0 (sym ea ∙ az),
            not_both (record_type r) 1 (record_count r) 0 x,
            not_both (record_type r) 4 (record_count r) 2 y,
            not_both (record_type r) 5 (record_count r) 4 z,
          )

pub in_bank_lem : (base size start n : ℕ) → in_bank base size start n ≡ true → (base ≤ start) × (start + n ≤ base + size)
unfolding in_bank
in_bank_lem base size start n e =
    let low = and_left (leb base start) (leb (start + n) (base + size)) e in
    let high = and_right (leb base start) (leb (start + n) (base + size)) e in
    (leb-true base start low, leb-true (start + n) (base + size) high)

-- what holds of each thing that a record may say holds of what it says
module _ (P : Result Found Fault → Type 0) (faulty : (k : Kind) → P (fault_at k colon_place)) (other : P (Ok Other)) (base size last : ℕ) where
  data_by :
      (start n : ℕ) → (base ≤ start → start + n ≤ base + size → last ≤ start → P (Ok (Data start n))) → P (data_at base size last start n)
  unfolding data_at
  data_by start n f =
      split P (eqb n 0) (λ x. other)
      (λ x. split P (in_bank base size start n)
      (λ y. let b = in_bank_lem base size start n y in split P (leb last start) (λ z. f b.0 b.1 (leb-true last start z)) (λ z. faulty H5))
      (λ y. faulty H4))

  typed_by :
      (upper : ℕ) (r : List ℕ) → P (Ok End) → P (Ok (Upper (record_upper r)))
      → ((start : ℕ) → base ≤ start → start + record_count r ≤ base + size → last ≤ start → P (Ok (Data start (record_count r))))
      → P (typed base size upper last r)
  unfolding typed
  typed_by upper r end high f =
      split P (eqb (record_type r) 0) (λ x. data_by (upper * 65536 + record_address r) (record_count r) (f (upper * 65536 + record_address r)))
      (λ x. split P (eqb (record_address r) 0)
      (λ y. split P (eqb (record_type r) 1 && eqb (record_count r) 0) (λ z. end)
      (λ z. split P (eqb (record_type r) 4 && eqb (record_count r) 2) (λ u. high)
      (λ u. split P (eqb (record_type r) 5 && eqb (record_count r) 4) (λ v. other) (λ v. faulty H3))))
      (λ y. faulty H3))

-- WHAT DATA AND AN UPPER HALF TELL OF THE LINE THAT SAYS THEM

pub record DataIn (base size last : ℕ) (line : List ℕ) (start n : ℕ) : Type 0 where
  pub low : base ≤ start
  pub high : start + n ≤ base + size
  pub after : last ≤ start
  pub whole : length (record_data n (line_bytes line)) ≡ n

abbrev Told : ℕ → ℕ → ℕ → List ℕ → Result Found Fault → Type 0
Told base size last line (Err f) = Unit {0}
Told base size last line (Ok (Data start n)) = DataIn base size last line start n
Told base size last line (Ok (Upper u)) = u < 65536
Told base size last line (Ok End) = Unit {0}
Told base size last line (Ok Other) = Unit {0}

told_typed :
    (base size upper last : ℕ) (line : List ℕ) → IsRecord line → Told base size last line (typed base size upper last (line_bytes line))
told_typed base size upper last line r =
    let w = record_length line r in
    let n = byte_is line r 0 (omega arith) in
    let a = byte_small line r 4 in
    let b = byte_small line r 5 in
    typed_by (Told base size last line) (λ k. tt) tt base size last upper (line_bytes line) tt (omega arith)
    (λ start low high after. record { low = low; high = high; after = after; whole = simp (length-take, length-drop) (omega arith) })

told : (base size : ℕ) (s : State) (line : List ℕ) → Told base size s.last line (found_of base size s line)
told base size s line = by s.over refl (record_of line) refl (eqb (total (line_bytes line) % 256) 0) refl
  where
    by :
        (o : Bool) → s.over ≡ o → (q : Spelled) → record_of line ≡ q → (z : Bool) → eqb (total (line_bytes line) % 256) 0 ≡ z
        → Told base size s.last line (found_of base size s line)
    by true o q e z f = rw (found_over base size s line o) tt
    by false o (Broken place) e z f = rw (found-1 base size s line o e) tt
    by false o (Whole bytes) e false f = rw (found-2 base size s line o (whole_record line bytes e).0 (eqb-false _ 0 f)) tt
    by false o (Whole bytes) e true f =
        let r = (whole_record line bytes e).0 in
        rw (found-typed base size s line o r (eqb-true _ 0 f)) (told_typed base size s.upper s.last line r)

pub data_in :
    (base size : ℕ) (s : State) (line : List ℕ) (start n : ℕ) → found_of base size s line ≡ Ok (Data start n) → DataIn base size s.last line start n
data_in base size s line start n e = rw e at (told base size s line)

-- WHAT WAS LOOKED AT, CASE BY CASE

module _ (line : List ℕ) (base size : ℕ) (s : State) (held : List ℕ) where
  looked_fault : (f : Kind) (byte : ℕ) → found_of base size s line ≡ fault_at f byte → Looked line base size s held (fault_at f byte)
  looked_fault f byte e = record { is = sym e; holds = λ start n z. no_way (cc) }

  pub looked_over : s.over ≡ true → Looked line base size s held (fault_at H6 1)
  looked_over o = looked_fault H6 1 (found_over base size s line o)

  module _ (o : s.over ≡ false) {before : List ℕ} where
    pub looked-1 : Summed line before held None → {byte : ℕ} → Placed line byte → Looked line base size s held (fault_at H1 byte)
    looked-1 summed {byte} placed = by (record_of line) refl
      where
        by : (q : Spelled) → record_of line ≡ q → Looked line base size s held (fault_at H1 byte)
        by (Whole bytes) e = absurd (sum_record line (whole_record line bytes e).0 (sym summed.sum))
        by (Broken place) e = looked_fault H1 byte (found-1 base size s line o e ∙ ap (λ (b : ℕ). fault_at H1 b) (sym (placed place e)))

    module _ {sum : ℕ} (summed : Summed line before held (Some sum)) where
      is_record : IsRecord line
      is_record = (sum_some line summed.sum).0

      sum_is : sum ≡ total (line_bytes line) % 256
      sum_is = (sum_some line summed.sum).1

      pub looked-some : 1 ≤ length line
      looked-some = omega (arith, is_record.counted)

      pub looked-2 : (sum ≡ 0 → ⊥) → Looked line base size s held (fault_at H2 (length line - 1))
      looked-2 n =
          let c = byte_is line is_record 0 (omega arith) in
          let last : record_checksum_place (line_bytes line) ≡ length line - 1 = omega (arith, is_record.counted) in
          looked_fault H2 (length line - 1) (found-2 base size s line o is_record (λ z. n (sum_is ∙ z)) ∙ ap (λ (b : ℕ). fault_at H2 b) last)

      module _ (room : 260 ≤ length before) where
        put : held ≡ sets before 0 (line_bytes line)
        put = summed.put (line_bytes line) (record_whole line is_record)

        fits : length (line_bytes line) ≤ length before
        fits =
            let l = record_length line is_record in
            let n = byte_is line is_record 0 (omega arith) in
            let b = byte_small line is_record 0 in
            omega arith

        halved : length line / 2 ≡ length (line_bytes line)
        halved = record_half line is_record ∙ sym (record_length line is_record)

        pub looked-fits : length line / 2 ≤ length before
        looked-fits = rw halved fits

        front : take (length line / 2) held ≡ line_bytes line
        front = rw halved (front_is (line_bytes line) before fits put)

        pub looked-counted : record_count (take (length line / 2) held) + 5 ≤ length (take (length line / 2) held)
        looked-counted =
            let l = record_length line is_record in let n = byte_is line is_record 0 (omega arith) in rw front (omega arith)

        pub looked-typed :
            {r : Result Found Fault} → sum ≡ 0 → r ≡ typed base size s.upper s.last (take (length line / 2) held) → Looked line base size s held r
        looked-typed z q =
            let f = q ∙ ap (typed base size s.upper s.last) front ∙ sym (found-typed base size s line o is_record (sym sum_is ∙ z)) in
            record {
              is = f;
              holds =
                  λ start n h.
                  let w = simp (length-take, length-drop) at (data_in base size s line start n (sym f ∙ h)).whole in
                  let l = record_length line is_record in
                  front_data (line_bytes line) before fits put n (omega arith);
            }

-- data that were found: where they belong, and that they lie within the record
module _ {line : List ℕ} {base size : ℕ} {s : State} {held : List ℕ} {start n : ℕ} (l : Looked line base size s held (Ok (Data start n))) where
  pub looked_in : DataIn base size s.last line start n
  looked_in = data_in base size s line start n (sym l.is)

  pub data_held : 4 ≤ length held → 4 + n ≤ length held
  data_held h = let e = ap length (l.holds start n refl) ∙ looked_in.whole in omega (arith, simp (length-take, length-drop) at e)
