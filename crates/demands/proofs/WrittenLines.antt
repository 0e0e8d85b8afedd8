-- The lines that the writer of hex text writes, as the reader takes them: each is a line by itself, its record has the very bytes, they add up to 0,
-- and it says its data, its upper half or the end.
-- Assumes nothing.
use mathlib.Core.Path.{◌≡◌, refl, sym, ap, ap₂, ◌∙◌}
use mathlib.Core.Bool.{true, false}
use mathlib.Core.List.{List, [], ◌∷◌, ◌++◌, append_assoc}
use Prim.Native.Nat.{ℕ, zero, suc, ◌+◌, ◌-◌, ◌*◌, ◌/◌, ◌%◌, ◌<◌, ◌≤◌}
use native.Mathlib.Omega.{arith}
use lib.Dec.{ltb}
use lib.ListN.{length, length-append}
use lib.Seq.{take_at}
use borrow.Author.Tests.{eq-eqb, ne_eqb, lt-ltb, le-leb}
use Rattle.buffer.specs.Number.{bytes_of}
use Rattle.buffer.specs.Total.{total}
use Rattle.buffer.proofs.Bools.{split}
use Rattle.buffer.proofs.Numbers.{bytes_two}
use Rattle.buffer.proofs.Totals.{total_append}
use Rattle.digits.specs.Digit.{is_digit, digit_of}
use Rattle.digits.specs.Spelt.{digits_spelt}
use Rattle.digits.proofs.Digits.{value_of_digit}
use Rattle.digits.proofs.Spelt.{length_digits}
use Rattle.lines.specs.Line.{front, lines}
use Rattle.std.specs.Prelude.{Ok}
use Rattle.hex_text.specs.declared.record.State.{State}
use Rattle.hex_text.specs.declared.record.Found.TheVariants.{Data, Upper, End}
use Rattle.hex_text.specs.Spell.{byte_of, digit_bytes, line_bytes}
use Rattle.hex_text.specs.Record.{Whole, digits_in, digits_due, digits_whole, record_data, record_of, in_bank, data_at, typed, found_of}
use Rattle.rows.specs.Record.{record_checksum, record_bytes, record_line}
use Rattle.rows.proofs.Records.{head, body_is}
use Rattle.demands.specs.Written.{AreBytes}

-- BYTES, one by one
pub bytes_cons : (x : ℕ) (l : List ℕ) → x < 256 → AreBytes l → AreBytes (x ∷ l)
bytes_cons x l h f zero = h
bytes_cons x l h f (suc i) = f i

pub bytes_none : AreBytes []
bytes_none i = omega arith

pub bytes_append : (a b : List ℕ) → AreBytes a → AreBytes b → AreBytes (a ++ b)
bytes_append [] b f g = g
bytes_append (x ∷ a) b f g = bytes_cons x (a ++ b) (f 0) (bytes_append a b (λ i. f (suc i)) g)

-- DIGITS, read as what they were written for

digit_low : (v : ℕ) → 48 ≤ digit_of v
unfolding digit_of
digit_low v = split (λ (c : ℕ). 48 ≤ c) (ltb (v % 16) 10) (λ e. omega arith) (λ e. omega arith)

digit_is : (v : ℕ) → is_digit (digit_of v) ≡ true
unfolding is_digit
digit_is v = rw (value_of_digit v) (lt-ltb (v % 16) 16 (omega arith))

byte_back : (b : ℕ) → b < 256 → byte_of (digit_of (b / 16)) (digit_of b) ≡ b
unfolding byte_of
byte_back b h = rw (digit_is (b / 16), digit_is b, value_of_digit (b / 16), value_of_digit b) (omega arith)

bytes_back : (l : List ℕ) → AreBytes l → digit_bytes (digits_spelt l) ≡ l
unfolding digit_bytes digits_spelt
bytes_back [] f = refl
bytes_back (b ∷ l) f = ap₂ (λ (x : ℕ) (r : List ℕ). x ∷ r) (byte_back b (f 0)) (bytes_back l (λ i. f (suc i)))

all_digits : (l : List ℕ) → digits_in (length (digits_spelt l)) (digits_spelt l) ≡ length (digits_spelt l)
unfolding digits_in digits_spelt
all_digits [] = refl
all_digits (b ∷ l) = rw (digit_is (b / 16), digit_is b, all_digits l)

-- A LINE BY ITSELF, with its end

plain : (c : ℕ) (text : List ℕ) → 48 ≤ c → lines (c ∷ text) ≡ front c (lines text)
unfolding lines
plain c text h = rw (ne_eqb c 0x0A (λ e. omega arith), ne_eqb c 0x0D (λ e. omega arith))

ended : (text : List ℕ) → lines (0x0D ∷ 0x0A ∷ text) ≡ [] ∷ lines text
unfolding lines
ended text = refl

spelt_line : (l text : List ℕ) → lines (digits_spelt l ++ 0x0D ∷ 0x0A ∷ text) ≡ digits_spelt l ∷ lines text
unfolding digits_spelt
spelt_line [] text = ended text
spelt_line (b ∷ l) text =
    plain (digit_of (b / 16)) _ (digit_low (b / 16)) ∙ rw (plain (digit_of b) _ (digit_low b), spelt_line l text)

total_one : (b : ℕ) → total (b ∷ []) ≡ b
unfolding total
total_one b = omega arith

-- THE RECORD of a line
abbrev pub line_in : ℕ → ℕ → List ℕ → List ℕ
line_in address type bytes = 0x3A ∷ digits_spelt (record_bytes address type bytes)

module _ (address type : ℕ) (bytes : List ℕ) where
  pub line_first : (text : List ℕ) → lines (record_line address type bytes ++ text) ≡ line_in address type bytes ∷ lines text
  unfolding record_line
  line_first text =
      let all : List ℕ = digits_spelt (record_bytes address type bytes) in
      let e : (all ++ 0x0D ∷ 0x0A ∷ []) ++ text ≡ all ++ 0x0D ∷ 0x0A ∷ text = append_assoc all (0x0D ∷ 0x0A ∷ []) text in
      plain 0x3A _ (omega arith) ∙ rw (e, spelt_line (record_bytes address type bytes) text)

  abbrev opening : List ℕ
  opening = head address type bytes

  -- as it is read: count, address, type, and behind them the data and the checksum
  abbrev check : ℕ
  check = record_checksum (opening ++ bytes)

  bytes_are : record_bytes address type bytes ≡ opening ++ (bytes ++ check ∷ [])
  bytes_are = rw (body_is address type bytes)

  module _ (few : length bytes < 256) (kind : type < 256) (are : AreBytes bytes) where
    check-small : check < 256
    unfolding record_checksum
    check-small = omega arith

    all_bytes_lem : AreBytes (opening ++ (bytes ++ check ∷ []))
    all_bytes_lem =
        let rest : List ℕ = bytes ++ check ∷ [] in
        let high : ℕ = address / 256 % 256 in
        let low : ℕ = address % 256 in
        bytes_cons (length bytes) (high ∷ low ∷ type ∷ rest) few (bytes_cons high (low ∷ type ∷ rest) (omega arith)
        (bytes_cons low (type ∷ rest) (omega arith) (bytes_cons type rest kind
        (bytes_append bytes (check ∷ []) are (bytes_cons check [] check-small bytes_none)))))

    bytes_length : length (opening ++ (bytes ++ check ∷ [])) ≡ length bytes + 5
    bytes_length = let n = length-append bytes (check ∷ []) in omega arith

    due_is : digits_due (digits_spelt (opening ++ (bytes ++ check ∷ []))) ≡ 2 * (length bytes + 5)
    unfolding digits_spelt
    due_is = rw (byte_back (length bytes) few)

    pub record_is : record_of (line_in address type bytes) ≡ Whole (opening ++ (bytes ++ check ∷ []))
    unfolding record_of digits_whole
    record_is =
        let n = length_digits (opening ++ (bytes ++ check ∷ [])) in
        let m = bytes_length in
        let d : digits_due (digits_spelt (opening ++ (bytes ++ check ∷ []))) ≡ length (digits_spelt (opening ++ (bytes ++ check ∷ []))) = due_is ∙ omega arith in
        let f = all_digits (opening ++ (bytes ++ check ∷ [])) in
        let g = eq-eqb (length (digits_spelt (opening ++ (bytes ++ check ∷ [])))) _ refl in
        rw (bytes_are, d, f, bytes_back (opening ++ (bytes ++ check ∷ [])) all_bytes_lem, g)

    -- its data
    pub data_is : record_data (length bytes) (line_bytes (line_in address type bytes)) ≡ bytes
    data_is =
        rw (bytes_are, bytes_back (opening ++ (bytes ++ check ∷ [])) all_bytes_lem) (take_at bytes (check ∷ []) (length bytes) refl)

    -- H2: it adds up to 0
    pub adds_up : total (opening ++ (bytes ++ check ∷ [])) % 256 ≡ 0
    unfolding record_checksum
    adds_up =
        let e = append_assoc opening bytes (check ∷ []) in
        let n = total_append (opening ++ bytes) (check ∷ []) in
        let k : check ≡ (256 - total (opening ++ bytes) % 256) % 256 = refl in
        let o : total (check ∷ []) ≡ check = total_one check in
        rw (sym e) (omega arith)

    says_is : (base size : ℕ) (s : State) → s.over ≡ false
        → found_of base size s (line_in address type bytes) ≡ typed base size s.upper s.last (opening ++ (bytes ++ check ∷ []))
    unfolding found_of
    says_is base size s o = rw (o, record_is, adds_up)

-- WHAT IT SAYS, before the end record was seen
module _ (base size : ℕ) (s : State) (goes : s.over ≡ false) where
  pub found_end : found_of base size s (line_in 0 1 []) ≡ Ok End
  unfolding typed
  found_end = says_is 0 1 [] (omega arith) (omega arith) bytes_none base size s goes

  pub found_upper : (upper : ℕ) → upper < 65536 → found_of base size s (line_in 0 4 (bytes_of 2 upper)) ≡ Ok (Upper upper)
  unfolding typed
  found_upper upper h =
      let e : upper / 256 % 256 * 256 + upper % 256 ≡ upper = omega arith in
      let b : AreBytes (upper / 256 % 256 ∷ upper % 256 ∷ []) =
      bytes_cons (upper / 256 % 256) (upper % 256 ∷ []) (omega arith) (bytes_cons (upper % 256) [] (omega arith) bytes_none) in
      rw (bytes_two upper) (says_is 0 4 (upper / 256 % 256 ∷ upper % 256 ∷ []) (omega arith) (omega arith) b base size s goes ∙ ap (λ (u : ℕ). Ok (Upper u)) e)

  pub found_data :
      (address : ℕ) (bytes : List ℕ) → AreBytes bytes → 0 < length bytes → length bytes < 256 → s.upper ≡ address / 65536 → base ≤ address
      → address + length bytes ≤ base + size → s.last ≤ address → found_of base size s (line_in address 0 bytes) ≡ Ok (Data address (length bytes))
  unfolding typed data_at in_bank
  found_data address bytes b some few u low high after =
      let start : s.upper * 65536 + (address / 256 % 256 * 256 + address % 256) ≡ address = omega arith in
      says_is address 0 bytes few (omega arith) b base size s goes
      ∙ rw (start, ne_eqb (length bytes) 0 (λ e. omega arith), le-leb base address low, le-leb (address + length bytes) (base + size) high, le-leb s.last address after)
