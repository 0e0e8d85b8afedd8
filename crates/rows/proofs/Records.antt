-- The line of a record: its pieces one after another, and how long it is.
-- Assumes nothing.
use Rattle.std.proofs.Common.{◌≡◌, ℕ, suc, ◌+◌, ◌*◌, ◌/◌, ◌%◌, ◌<◌, ◌≤◌, List, [], ◌∷◌, ◌++◌, length, get_or, drop, set, sym, ap, ◌∙◌, add-one, arith, length-append, length-set, drop_of_length-le, drop-cons}
use lib.Seq.{sets, length-sets}
use Rattle.buffer.proofs.Numbers.{length_bytes, bytes_two}
use Rattle.buffer.proofs.Places.{sets_next}
use Rattle.buffer.proofs.Totals.{total_append}
use Rattle.buffer.specs.Number.{bytes_of}
use Rattle.buffer.specs.Total.{total}
use Rattle.digits.specs.Spelt.{digits_spelt}
use Rattle.digits.proofs.Spelt.{length_digits, digits_append}
use Rattle.rows.specs.Record.{record_body, record_checksum, record_bytes, record_line, beside_data}
use Rattle.rows.specs.Places.{Spelt}

-- THE SUM of the bytes from j on
module _ (bytes : List ℕ) (j : ℕ) where
  pub sum_more : j < length bytes → (s : ℕ) → (s + total (drop j bytes)) % 256 ≡ ((s + get_or bytes j 0) % 256 + total (drop (j + 1) bytes)) % 256
  unfolding total
  sum_more h s = rw (drop-cons bytes j 0 h, add-one j) (omega arith)

  pub sum_done : length bytes ≤ j → (s : ℕ) → s < 256 → (s + total (drop j bytes)) % 256 ≡ s
  unfolding total
  sum_done h s l = rw (drop_of_length-le bytes {i = j} h) (omega arith)

-- THE LINE, whose record begins with the bytes that the code has for it
module _ (address type : ℕ) (bytes : List ℕ) where
  abbrev pub head : List ℕ
  head = length bytes ∷ address / 256 % 256 ∷ address % 256 ∷ type ∷ []

  pub body_is : record_body address type bytes ≡ head ++ bytes
  unfolding record_body
  body_is = rw (bytes_two address)

pub line_length : (address type : ℕ) (bytes : List ℕ) → length (record_line address type bytes) ≡ beside_data + 2 * length bytes
unfolding record_line record_body
line_length address type bytes =
    let m = length_digits (record_bytes address type bytes) in
    let n = length-append (digits_spelt (record_bytes address type bytes)) (0x0D ∷ 0x0A ∷ []) in
    let o = length-append (bytes_of 2 address) (type ∷ bytes) in
    let p = length-append (record_body address type bytes) (record_checksum (record_body address type bytes) ∷ []) in
    let q = length_bytes 2 address in
    omega arith

-- put piece by piece
pub spelt_length : {bytes before after : List ℕ} {sum at r : ℕ} → Spelt bytes sum before at r after → length after ≡ length before
spelt_length {bytes} {before} {after} {sum} {at} s = rw s.put (length-sets before at (digits_spelt bytes))

-- three pieces behind the colon leave it as long as it was
pub pieces_length :
    (t : List ℕ) (at : ℕ) {a b c first second third : List ℕ} {i j k p q r u v w : ℕ} → Spelt a p (set t at 0x3A) i u first → Spelt b q first j v second
    → Spelt c r second k w third → length third ≡ length t
pieces_length t at x y z = spelt_length z ∙ spelt_length y ∙ spelt_length x ∙ length-set t at 0x3A

checksum_is : (bytes : List ℕ) {last sum : ℕ} → last < 256 → (last + sum) % 256 ≡ 0 → sum ≡ total bytes % 256 → last ≡ record_checksum bytes
unfolding record_checksum
checksum_is bytes l e f = omega arith

module _ (t : List ℕ) (at address type : ℕ) (bytes : List ℕ) where
  abbrev end : ℕ
  end = at + 9 + 2 * length bytes

  abbrev front : List ℕ
  front = head address type bytes

  pub line_put :
      {first second third : List ℕ} {begun sum last r : ℕ} → Spelt front 0 (set t at 0x3A) (at + 1) begun first → Spelt bytes begun first (at + 9) sum second
      → last < 256 → (last + sum) % 256 ≡ 0 → Spelt (last ∷ []) 0 second end r third
      → set (set third (end + 2) 0x0D) (end + 3) 0x0A ≡ sets t at (record_line address type bytes)
  unfolding record_line
  line_put {first} {second} {third} {begun} {sum} {last} {r} a b small zero c =
      let s = total_append front bytes in
      let k : last ≡ record_checksum (record_body address type bytes) =
      checksum_is (record_body address type bytes) small zero (rw (body_is address type bytes) (omega (arith, a.added, b.added))) in
      let spelt : digits_spelt (record_body address type bytes ++ last ∷ []) ≡ digits_spelt front ++ digits_spelt bytes ++ digits_spelt (last ∷ []) =
      rw (body_is address type bytes) (digits_append (front ++ bytes) (last ∷ []) ∙ rw (digits_append front bytes)) in
      let m = length_digits front in
      let n = length_digits bytes in
      let o = length-append (digits_spelt front) (digits_spelt bytes) in
      let p = length-append (digits_spelt front ++ digits_spelt bytes) (digits_spelt (last ∷ [])) in
      let q = length_digits (last ∷ []) in
      let two : second ≡ sets (set t at 0x3A) (at + 1) (digits_spelt front ++ digits_spelt bytes) =
      b.put ∙ rw a.put (sets_next (set t at 0x3A) (digits_spelt front) (digits_spelt bytes) (at + 1) (omega arith)) in
      let three : third ≡ sets (set t at 0x3A) (at + 1) (digits_spelt front ++ digits_spelt bytes ++ digits_spelt (last ∷ [])) =
      c.put ∙ rw two (sets_next (set t at 0x3A) (digits_spelt front ++ digits_spelt bytes) (digits_spelt (last ∷ [])) (at + 1) (omega arith)) in
      let e : end + 3 ≡ suc (end + 2) = omega arith in
      let digits : List ℕ = digits_spelt front ++ digits_spelt bytes ++ digits_spelt (last ∷ []) in
      rw (e, three, sym k, spelt)
      (sets_next (set t at 0x3A) digits (0x0D ∷ 0x0A ∷ []) (at + 1) (omega arith)
      ∙ ap (λ (i : ℕ). sets (set t at 0x3A) i (digits ++ 0x0D ∷ 0x0A ∷ [])) (add-one at))
