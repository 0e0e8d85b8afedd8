-- The rules of a line, and what is found of it at a state that fits the lines before: each tells the other.
-- Assumes nothing.
use Rattle.std.proofs.Common.{◌≡◌, ℕ, zero, suc, ◌+◌, ◌-◌, ◌%◌, ◌<◌, ◌≤◌, Bool, true, false, leb, List, [], ◌∷◌, ◌++◌, get_or, take, sym, refl, ap, ◌∙◌, not-suc-le-zero, zero-add, arith, get_or-drop, get_or-take, take-suc, below_more, eq-eqb, ne_eqb, le-leb, leb-true}
use mathlib.Core.Bool.{false≢true}
use native.Mathlib.Decide.{ℕ_discrete, dec_lt, dec_le}
use lib.Seq.{take-length}
use Rattle.buffer.specs.Total.{total}
use Rattle.buffer.proofs.Bools.{and_both, not_so, no_way}
use Rattle.std.specs.Prelude.{Result, Ok}
use Rattle.hex_text.specs.declared.fault.Kind.{Kind}
use Rattle.hex_text.specs.declared.fault.Fault.{Fault}
use Rattle.hex_text.specs.declared.fault.Kind.TheVariants.{H1, H2, H3, H4, H5, H6}
use Rattle.hex_text.specs.declared.record.State.{State}
use Rattle.hex_text.specs.declared.record.Found.{Found}
use Rattle.hex_text.specs.declared.record.Found.TheVariants.{Data, Upper, End, Other}
use Rattle.hex_text.specs.Spell.{line_bytes}
use Rattle.hex_text.specs.Record.{Spelled, Whole, Broken, record_count, record_address, record_type, record_upper, record_data, record_of}
use Rattle.hex_text.specs.Record.{record_checksum_place, colon_place, fault_at, in_bank, data_at, typed, found_of}
use Rattle.hex_text.specs.Read.{state_after, at_start, kind_number}
use Rattle.hex_text.specs.Meaning.{line_count, line_address, line_type, line_data, line_upper, sum_to, IsRecord, AddsUp, checksum_place, GoodType}
use Rattle.hex_text.specs.Meaning.{data_record, end_record, upper_record, start_record}
use Rattle.hex_text.specs.Meaning.{line_at, upper_at, start_at, end_at, HasByte, InBank, AfterEarlier, NotEnded, Keeps, Breaks}
use Rattle.hex_text.specs.Meaning.{behind_end, no_record, other_sum, other_type, outside, below_earlier}
use Rattle.hex_text.proofs.Records.{whole_record, record_whole, record_length, byte_is}
use Rattle.hex_text.proofs.Wrong.{goes_wrong, wrong_broken}
use Rattle.hex_text.proofs.Says.{in_bank_lem, found_over, found-1, found-2, found-typed, typed_data, typed-field, typed-end, typed-upper, typed-other, typed-bad}

-- THE BYTES OF A RECORD, as the rules name them

total_append : (a b : List ℕ) → total (a ++ b) ≡ total a + total b
unfolding total
total_append [] b = sym (zero-add (total b))
total_append (x ∷ a) b = let e = total_append a b in omega arith

module _ (line : List ℕ) (r : IsRecord line) where
  count_is : record_count (line_bytes line) ≡ line_count line
  count_is = byte_is line r 0 (omega arith)

  address_is : record_address (line_bytes line) ≡ line_address line
  address_is = let a = byte_is line r 1 (omega arith) in let b = byte_is line r 2 (omega arith) in rw (a, b)

  type_is : record_type (line_bytes line) ≡ line_type line
  type_is = byte_is line r 3 (omega arith)

  upper_is : line_count line ≡ 2 → record_upper (line_bytes line) ≡ line_upper line
  upper_is e = let a = byte_is line r 4 (omega arith) in let b = byte_is line r 5 (omega arith) in rw (a, b)

  pub data_is : (j : ℕ) → j < line_count line → get_or (record_data (line_count line) (line_bytes line)) j 0 ≡ line_data line j
  data_is j h = rw (get_or-take, get_or-drop) (byte_is line r (4 + j) (omega arith))

  sum_front : (k : ℕ) → k ≤ line_count line + 5 → total (take k (line_bytes line)) ≡ sum_to line k
  unfolding total sum_to
  sum_front zero h = refl
  sum_front (suc k) h =
      let l = record_length line r in
      rw (take-suc (line_bytes line) k 0 (omega arith), total_append)
      (let e = sum_front k (omega arith) in let b = byte_is line r k (omega arith) in omega arith)

  sum_is : total (line_bytes line) ≡ sum_to line (line_count line + 5)
  sum_is = ap total (sym (take-length (line_bytes line))) ∙ rw (record_length line r) (sum_front (line_count line + 5) (omega arith))

-- WHETHER A RULE IS KEPT

is-record? : (line : List ℕ) → Dec (IsRecord line)
is-record? line = by (record_of line) refl
  where
    by : (r : Spelled) → record_of line ≡ r → Dec (IsRecord line)
    by (Whole bytes) e = yes (whole_record line bytes e).0
    by (Broken place) e = no (λ r. let x = sym e ∙ record_whole line r in no_way (cc))

both? : {A B : Type 0} → Dec A → Dec B → Dec (A × B)
both? (yes a) (yes b) = yes (a, b)
both? (yes a) (no b) = no (λ x. b x.1)
both? (no a) b = no (λ x. a x.0)

module _ (line : List ℕ) where
  -- a type with its count, and the address field 0
  abbrev Typed : ℕ → ℕ → Type 0
  Typed t n = (line_type line ≡ t) × ((line_count line ≡ n) × (line_address line ≡ 0))

  typed? : (t n : ℕ) → Dec (Typed t n)
  typed? t n = both? (ℕ_discrete (line_type line) t) (both? (ℕ_discrete (line_count line) n) (ℕ_discrete (line_address line) 0))

  not_good : (line_type line ≡ 0 → ⊥) → (Typed 1 0 → ⊥) → (Typed 4 2 → ⊥) → (Typed 5 4 → ⊥) → GoodType line → ⊥
  not_good d e u s (data_record t) = d t
  not_good d e u s (end_record t n a) = e (t, (n, a))
  not_good d e u s (upper_record t n a) = u (t, (n, a))
  not_good d e u s (start_record t n a) = s (t, (n, a))

  good-type? : Dec (GoodType line)
  good-type? = by (ℕ_discrete (line_type line) 0) (typed? 1 0) (typed? 4 2) (typed? 5 4)
    where
      by : Dec (line_type line ≡ 0) → Dec (Typed 1 0) → Dec (Typed 4 2) → Dec (Typed 5 4) → Dec (GoodType line)
      by (yes t) e u s = yes (data_record t)
      by (no t) (yes e) u s = yes (end_record e.0 e.1.0 e.1.1)
      by (no t) (no e) (yes u) s = yes (upper_record u.0 u.1.0 u.1.1)
      by (no t) (no e) (no u) (yes s) = yes (start_record s.0 s.1.0 s.1.1)
      by (no t) (no e) (no u) (no s) = no (not_good t e u s)

-- THE STATE before line i fits the lines before it

-- an end record stands before
pub record Ended (ls : List (List ℕ)) (i : ℕ) : Type 0 where
  pub end : ℕ
  pub before : end < i
  pub is_end : line_type (line_at ls end) ≡ 1

pub record StateAt (ls : List (List ℕ)) (i : ℕ) (s : State) : Type 0 where
  pub upper_at_lem : s.upper ≡ upper_at ls i
  pub last_low : (m : ℕ) → m < i → HasByte ls m 0 → end_at ls m ≤ s.last
  pub last_high : (a : ℕ) → ((m : ℕ) → m < i → HasByte ls m 0 → end_at ls m ≤ a) → s.last ≤ a
  pub not_over : s.over ≡ false → NotEnded ls i
  pub is_over : s.over ≡ true → Ended ls i

pub state_first : (ls : List (List ℕ)) → StateAt ls 0 at_start
unfolding upper_at
state_first ls =
    record {
      upper_at_lem = refl;
      last_low = λ m h. absurd (not-suc-le-zero h);
      last_high = λ a h. omega arith;
      not_over = λ o m h. absurd (not-suc-le-zero h);
      is_over = λ o. no_way (cc);
    }

-- what it tells: whether an end record stands before, and whether data start at or after the end of earlier data
module _ {ls : List (List ℕ)} {i : ℕ} {s : State} (state : StateAt ls i s) where
  pub still_open : NotEnded ls i → s.over ≡ false
  still_open n = not_so s.over (λ o. let e = state.is_over o in n e.end e.before e.is_end)

  pub seen : (m : ℕ) → m < i → line_type (line_at ls m) ≡ 1 → s.over ≡ true
  seen m h t = by s.over refl
    where
      by : (o : Bool) → s.over ≡ o → s.over ≡ true
      by true o = o
      by false o = absurd (state.not_over o m h t)

  after_so : s.last ≤ start_at ls i → AfterEarlier ls i
  after_so l h m b d = let e = state.last_low m b d in omega arith

  so_after : HasByte ls i 0 → AfterEarlier ls i → s.last ≤ start_at ls i
  so_after h a = state.last_high (start_at ls i) (a h)

-- WHAT IS FOUND OF A LINE, by its rules

-- data of a line that is a record: where they lie, by two tests
in_bank_so : (base size start n : ℕ) → 0 < n → ((j : ℕ) → j < n → (base ≤ start + j) × (start + j < base + size)) → in_bank base size start n ≡ true
unfolding in_bank
in_bank_so base size start n h f =
    let low = (f 0 h).0 in
    let high = (f (n - 1) (omega arith)).1 in
    and_both (leb base start) (leb (start + n) (base + size)) (le-leb base start (omega arith)) (le-leb (start + n) (base + size) (omega arith))

module _ (base size : ℕ) (ls : List (List ℕ)) (i : ℕ) (s : State) (state : StateAt ls i s) where
  abbrev line : List ℕ
  line = line_at ls i

  abbrev found : Result Found Fault
  found = found_of base size s line

  module _ (n : NotEnded ls i) (r : IsRecord line) where
    found-sum : (AddsUp line → ⊥) → found ≡ fault_at H2 (checksum_place line)
    found-sum a =
        let e : record_checksum_place (line_bytes line) ≡ checksum_place line = let c = count_is line r in omega arith in
        found-2 base size s line (still_open state n) r (λ z. a (ap (λ (t : ℕ). t % 256) (sym (sum_is line r)) ∙ z)) ∙ ap (λ (b : ℕ). fault_at H2 b) e

    module _ (a : AddsUp line) where
      found-is : found ≡ typed base size (upper_at ls i) s.last (line_bytes line)
      found-is =
          found-typed base size s line (still_open state n) r (ap (λ (t : ℕ). t % 256) (sum_is line r) ∙ a)
          ∙ ap (λ (u : ℕ). typed base size u s.last (line_bytes line)) state.upper_at_lem

      -- data
      found_data : line_type line ≡ 0 → found ≡ data_at base size s.last (start_at ls i) (line_count line)
      found_data t =
          found-is ∙ typed_data _ _ _ _ (line_bytes line) (sym (address_is line r)) (type_is line r ∙ t)
          ∙ ap (data_at base size s.last (start_at ls i)) (count_is line r)

      found_none : line_type line ≡ 0 → line_count line ≡ 0 → found ≡ Ok Other
      unfolding data_at
      found_none t z = found_data t ∙ simp (eq-eqb _ 0 z)

      module _ (h : HasByte ls i 0) where
        some : line_count line ≡ 0 → ⊥
        some z = omega (arith, h.1)

        in-so : in_bank base size (start_at ls i) (line_count line) ≡ true → InBank base size ls i
        in-so e j b = let l = in_bank_lem base size (start_at ls i) (line_count line) e in (omega arith, omega (arith, b.1))

        found-4 : (InBank base size ls i → ⊥) → found ≡ fault_at H4 colon_place
        unfolding data_at
        found-4 x = found_data h.0 ∙ rw (ne_eqb (line_count line) 0 some, not_so _ (λ e. x (in-so e)))

        module _ (b : InBank base size ls i) where
          inside : in_bank base size (start_at ls i) (line_count line) ≡ true
          inside = in_bank_so base size (start_at ls i) (line_count line) h.1 (λ j l. b j (h.0, l))

          found-5 : (AfterEarlier ls i → ⊥) → found ≡ fault_at H5 colon_place
          unfolding data_at
          found-5 x =
              found_data h.0
              ∙ rw (ne_eqb (line_count line) 0 some, inside, not_so (leb s.last (start_at ls i)) (λ e. x (after_so state (leb-true _ _ e))))

          found-there : AfterEarlier ls i → found ≡ Ok (Data (start_at ls i) (line_count line))
          unfolding data_at
          found-there x = found_data h.0 ∙ rw (ne_eqb (line_count line) 0 some, inside, le-leb _ _ (so_after state h x))

      -- the other types
      module _ (t : line_type line ≡ 0 → ⊥) where
        other-typed : record_type (line_bytes line) ≡ 0 → ⊥
        other-typed z = t (sym (type_is line r) ∙ z)

        found_end : line_type line ≡ 1 → line_count line ≡ 0 → line_address line ≡ 0 → found ≡ Ok End
        found_end e f z = found-is ∙ typed-end _ _ _ _ _ (sym (address_is line r)) other-typed z (type_is line r ∙ e) (count_is line r ∙ f)

        found_upper : line_type line ≡ 4 → line_count line ≡ 2 → line_address line ≡ 0 → found ≡ Ok (Upper (line_upper line))
        found_upper e f z =
            let u = sym (upper_is line r f) in
            found-is ∙ typed-upper _ _ _ _ _ (sym (address_is line r)) other-typed z u (type_is line r ∙ e) (count_is line r ∙ f)

        found_start : line_type line ≡ 5 → line_count line ≡ 4 → line_address line ≡ 0 → found ≡ Ok Other
        found_start e f z = found-is ∙ typed-other _ _ _ _ _ (sym (address_is line r)) other-typed z (type_is line r ∙ e) (count_is line r ∙ f)

        found-3 : (GoodType line → ⊥) → found ≡ fault_at H3 colon_place
        found-3 g = by (ℕ_discrete (line_address line) 0)
          where
            by : Dec (line_address line ≡ 0) → found ≡ fault_at H3 colon_place
            by (no z) = found-is ∙ typed-field _ _ _ _ _ (sym (address_is line r)) other-typed z
            by (yes z) =
                found-is
                ∙ typed-bad _ _ _ _ _ (sym (address_is line r)) other-typed z
                (λ x y. g (end_record (sym (type_is line r) ∙ x) (sym (count_is line r) ∙ y) z))
                (λ x y. g (upper_record (sym (type_is line r) ∙ x) (sym (count_is line r) ∙ y) z))
                (λ x y. g (start_record (sym (type_is line r) ∙ x) (sym (count_is line r) ∙ y) z))

-- A LINE THAT KEEPS THE RULES, by what it says

pub data KeptAs (ls : List (List ℕ)) (i : ℕ) : Found → Type 0 where
  data_line : HasByte ls i 0 → KeptAs ls i (Data (start_at ls i) (line_count (line_at ls i)))
  upper_line : line_type (line_at ls i) ≡ 4 → KeptAs ls i (Upper (line_upper (line_at ls i)))
  end_line : line_type (line_at ls i) ≡ 1 → KeptAs ls i End
  other_line : (HasByte ls i 0 → ⊥) → (line_type (line_at ls i) ≡ 4 → ⊥) → (line_type (line_at ls i) ≡ 1 → ⊥) → KeptAs ls i Other

has-byte? : (ls : List (List ℕ)) (i : ℕ) → Dec (HasByte ls i 0)
has-byte? ls i = both? (ℕ_discrete (line_type (line_at ls i)) 0) (dec_lt 0 (line_count (line_at ls i)))

-- whether a line keeps every rule, or breaks a first one
pub data Judged (base size : ℕ) (ls : List (List ℕ)) (i : ℕ) : Type 0 where
  kept : Keeps base size ls i → Judged base size ls i
  broken : (k byte : ℕ) → Breaks base size ls i k byte → Judged base size ls i

-- a line without data keeps H4 and H5
pub no_byte : (ls : List (List ℕ)) (i : ℕ) → (HasByte ls i 0 → ⊥) → (j : ℕ) → HasByte ls i j → ⊥
no_byte ls i h j b = h (b.0, omega (arith, b.1))

module _ (base size : ℕ) (ls : List (List ℕ)) (i : ℕ) (s : State) (state : StateAt ls i s) where
  -- what it says, then
  pub record SaidAs : Type 0 where
    pub found : Found
    pub is : found_of base size s (line_at ls i) ≡ Ok found
    pub kept : KeptAs ls i found

  pub keeps_as : Keeps base size ls i → SaidAs
  keeps_as k = by k.good_type (dec_lt 0 (line_count (line_at ls i)))
    where
      says : {d : Found} → found_of base size s (line_at ls i) ≡ Ok d → KeptAs ls i d → SaidAs
      says {d} e k = record { found = d; is = e; kept = k }

      by : GoodType (line_at ls i) → Dec (0 < line_count (line_at ls i)) → SaidAs
      by (data_record t) (yes c) =
          says (found-there base size ls i s state k.not_ended k.is_record k.adds_up (t, c) k.in_bank_lem k.after_earlier)
          (data_line (t, c))
      by (data_record t) (no c) =
          says (found_none base size ls i s state k.not_ended k.is_record k.adds_up t (omega arith))
          (other_line (λ h. c h.1) (λ z. omega arith) (λ z. omega arith))
      by (end_record t n a) c =
          says (found_end base size ls i s state k.not_ended k.is_record k.adds_up (λ z. omega arith) t n a) (end_line t)
      by (upper_record t n a) c =
          says (found_upper base size ls i s state k.not_ended k.is_record k.adds_up (λ z. omega arith) t n a) (upper_line t)
      by (start_record t n a) c =
          says (found_start base size ls i s state k.not_ended k.is_record k.adds_up (λ z. omega arith) t n a)
          (other_line (λ b. omega (arith, b.0)) (λ z. omega arith) (λ z. omega arith))

  -- and one that breaks one has that fault
  pub record Faulted (k byte : ℕ) : Type 0 where
    pub kind : Kind
    pub is : found_of base size s (line_at ls i) ≡ fault_at kind byte
    pub numbered : kind_number kind ≡ k

  pub breaks_faulted : {k byte : ℕ} → Breaks base size ls i k byte → Faulted k byte
  breaks_faulted (behind_end m h t) =
      record { kind = H6; is = found_over base size s (line_at ls i) (seen state m h t); numbered = refl }
  breaks_faulted (no_record n r byte w) =
      record { kind = H1; is = found-1 base size s (line_at ls i) (still_open state n) (wrong_broken (line_at ls i) r w); numbered = refl }
  breaks_faulted (other_sum n r a) = record { kind = H2; is = found-sum base size ls i s state n r a; numbered = refl }
  breaks_faulted (other_type n r a t) =
      record { kind = H3; is = found-3 base size ls i s state n r a (λ z. t (data_record z)) t; numbered = refl }
  breaks_faulted (outside n r a t x) = record { kind = H4; is = by (has-byte? ls i); numbered = refl }
    where
      by : Dec (HasByte ls i 0) → found_of base size s (line_at ls i) ≡ fault_at H4 colon_place
      by (yes h) = found-4 base size ls i s state n r a h x
      by (no h) = absurd (x (λ j b. absurd (no_byte ls i h j b)))
  breaks_faulted (below_earlier n r a t b x) = record { kind = H5; is = by (has-byte? ls i); numbered = refl }
    where
      by : Dec (HasByte ls i 0) → found_of base size s (line_at ls i) ≡ fault_at H5 colon_place
      by (yes h) = found-5 base size ls i s state n r a h b x
      by (no h) = absurd (x (λ g. absurd (h g)))

  -- one or the other
  module _ (n : NotEnded ls i) (r : IsRecord (line_at ls i)) (a : AddsUp (line_at ls i)) (t : GoodType (line_at ls i)) where
    judge-5 : InBank base size ls i → Judged base size ls i
    judge-5 b = by (has-byte? ls i) (dec_le s.last (start_at ls i))
      where
        keeps : AfterEarlier ls i → Judged base size ls i
        keeps x = kept (record { not_ended = n; is_record = r; adds_up = a; good_type = t; in_bank_lem = b; after_earlier = x })

        by : Dec (HasByte ls i 0) → Dec (s.last ≤ start_at ls i) → Judged base size ls i
        by (no h) l = keeps (λ g. absurd (h g))
        by (yes h) (yes l) = keeps (after_so state l)
        by (yes h) (no l) = broken 5 1 (below_earlier n r a t b (λ x. l (so_after state h x)))

    judge-4 : Judged base size ls i
    judge-4 = by (has-byte? ls i) (in_bank base size (start_at ls i) (line_count (line_at ls i))) refl
      where
        by : Dec (HasByte ls i 0) → (b : Bool) → in_bank base size (start_at ls i) (line_count (line_at ls i)) ≡ b → Judged base size ls i
        by (no h) b e = judge-5 (λ j x. absurd (no_byte ls i h j x))
        by (yes h) true e = judge-5 (in-so base size ls i s state n r a h e)
        by (yes h) false e = broken 4 1 (outside n r a t (λ x. false≢true (sym e ∙ inside base size ls i s state n r a h x)))

  judge_1 : NotEnded ls i → Judged base size ls i
  judge_1 n = by (is-record? (line_at ls i)) (ℕ_discrete (sum_to (line_at ls i) (line_count (line_at ls i) + 5) % 256) 0) (good-type? (line_at ls i))
    where
      by : Dec (IsRecord (line_at ls i)) → Dec (AddsUp (line_at ls i)) → Dec (GoodType (line_at ls i)) → Judged base size ls i
      by (no r) a t = let w = goes_wrong (line_at ls i) r in broken 1 w.place (no_record n r w.place w.wrong)
      by (yes r) (no a) t = broken 2 (checksum_place (line_at ls i)) (other_sum n r a)
      by (yes r) (yes a) (no t) = broken 3 1 (other_type n r a t)
      by (yes r) (yes a) (yes t) = judge-4 n r a t

  pub judge : Judged base size ls i
  judge = by s.over refl
    where
      by : (o : Bool) → s.over ≡ o → Judged base size ls i
      by true o = let e = state.is_over o in broken 6 1 (behind_end e.end e.before e.is_end)
      by false o = judge_1 (state.not_over o)

-- THE STATE BEHIND A LINE THAT KEEPS THE RULES

pub to_next : (P : ℕ → Type 0) (i : ℕ) → ((m : ℕ) → m < i → P m) → P i → (m : ℕ) → m < suc i → P m
to_next P i f here m h = below_more P i f here m (omega arith)

still_ended : {ls : List (List ℕ)} {i : ℕ} → Ended ls i → Ended ls (suc i)
still_ended e = record { end = e.end; before = omega (arith, e.before); is_end = e.is_end }

pub state_next :
    {base size : ℕ} {ls : List (List ℕ)} {i : ℕ} {s : State} {d : Found} → StateAt ls i s → Keeps base size ls i → KeptAs ls i d
    → StateAt ls (suc i) (state_after d s)
unfolding upper_at
state_next {base} {size} {ls} {i} {s} state k (data_line h) =
    let l = so_after state h k.after_earlier in
    record {
      upper_at_lem = state.upper_at_lem ∙ rw (ne_eqb (line_type (line_at ls i)) 4 (λ z. omega (arith, h.0)));
      last_low =
          to_next (λ (m : ℕ). HasByte ls m 0 → end_at ls m ≤ end_at ls i) i
          (λ m b g. let e = state.last_low m b g in omega arith) (λ g. omega arith);
      last_high = λ a f. f i (omega arith) h;
      not_over = λ o. to_next (λ (m : ℕ). line_type (line_at ls m) ≡ 1 → ⊥) i (state.not_over o) (λ z. omega (arith, h.0));
      is_over = λ o. still_ended (state.is_over o);
    }
state_next {base} {size} {ls} {i} {s} state k (upper_line t) =
    record {
      upper_at_lem = rw (eq-eqb (line_type (line_at ls i)) 4 t);
      last_low = to_next (λ (m : ℕ). HasByte ls m 0 → end_at ls m ≤ s.last) i state.last_low (λ g. absurd (omega (arith, g.0)));
      last_high = λ a f. state.last_high a (λ m b. f m (omega arith));
      not_over = λ o. to_next (λ (m : ℕ). line_type (line_at ls m) ≡ 1 → ⊥) i (state.not_over o) (λ z. omega arith);
      is_over = λ o. still_ended (state.is_over o);
    }
state_next {base} {size} {ls} {i} {s} state k (end_line t) =
    record {
      upper_at_lem = state.upper_at_lem ∙ rw (ne_eqb (line_type (line_at ls i)) 4 (λ z. omega arith));
      last_low = to_next (λ (m : ℕ). HasByte ls m 0 → end_at ls m ≤ s.last) i state.last_low (λ g. absurd (omega (arith, g.0)));
      last_high = λ a f. state.last_high a (λ m b. f m (omega arith));
      not_over = λ o. no_way (cc);
      is_over = λ o. record { end = i; before = omega arith; is_end = t };
    }
state_next {base} {size} {ls} {i} {s} state k (other_line h u t) =
    record {
      upper_at_lem = state.upper_at_lem ∙ rw (ne_eqb (line_type (line_at ls i)) 4 u);
      last_low = to_next (λ (m : ℕ). HasByte ls m 0 → end_at ls m ≤ s.last) i state.last_low (λ g. absurd (h g));
      last_high = λ a f. state.last_high a (λ m b. f m (omega arith));
      not_over = λ o. to_next (λ (m : ℕ). line_type (line_at ls m) ≡ 1 → ⊥) i (state.not_over o) t;
      is_over = λ o. still_ended (state.is_over o);
    }
