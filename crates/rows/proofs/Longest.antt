-- How long a text is at most: 45 bytes for each row, 17 for each upper half that a bank has, and the end record; and a bank without a blank row has a
-- text as long as that.
-- Assumes nothing.
use Rattle.std.proofs.Common.{◌≡◌, ℕ, zero, suc, ◌+◌, ◌-◌, ◌*◌, ◌/◌, ◌≤◌, Bool, true, false, eqb, List, length, sym, refl, ap, ◌∙◌, add-one, arith, eqb-true}
use borrow.Author.Tests.{eqb-false}
use Rattle.buffer.specs.Compare.{blank_of}
use Rattle.layout.specs.declared.Bank.{Bank}
use Rattle.layout.specs.declared.Bank.TheVariants.{Zero, One}
use Rattle.layout.specs.Layout.{sector_size, most_sectors, whole_length, start_of}
use Rattle.rows.specs.Text.{row_size, row_of, row_upper, told_before, upper_text, rows_text, text_of, longest_text}
use Rattle.rows.proofs.Rows.{upper_same, upper_other, upper_length, told_next, told-length, none_first, none_long, told_low, rows_longest}
use Rattle.rows.proofs.Texts.{whole_most, text_length}

-- where no row is blank, every upper half is told: behind row k, all up to its own
module _
    (image : List ℕ) (base : ℕ) (low : 65536 ≤ base) (filled : (j : ℕ) → suc j * row_size ≤ length image → blank_of (row_of image j) ≡ false) where
  abbrev told : ℕ → ℕ
  told k = told_before image base k

  half_length : (k : ℕ) → (row_upper base k ≡ told k → ⊥) → length (upper_text (told k) (row_upper base k)) ≡ 17
  half_length k n = ap length (upper_other (told k) (row_upper base k) n) ∙ upper_length (told k) (row_upper base k)

  rows_full : (k : ℕ) → suc k * row_size ≤ length image → length (rows_text image base (suc k)) ≡ 45 * suc k + 17 * (row_upper base k + 1 - base / 65536)
  rows_full zero h =
      let t = none_first image base in
      let m = told-length image base 0 h (filled 0 h) in
      let l = none_long image base in
      let u = half_length 0 (λ e. omega arith) in
      omega arith
  rows_full (suc k) h = by (eqb (row_upper base (suc k)) (told (suc k))) refl (rows_full k (omega arith))
    where
      more : length (rows_text image base (suc k + 1)) ≡ length (rows_text image base (suc k)) + length (upper_text (told (suc k)) (row_upper base (suc k))) + 45
      more = told-length image base (suc k) h (filled (suc k) h)

      before : told (suc k) ≡ row_upper base k
      before = rw (add-one k) at (told_next image base k (filled k (omega arith)))

      by :
          (e : Bool) → eqb (row_upper base (suc k)) (told (suc k)) ≡ e
          → length (rows_text image base (suc k)) ≡ 45 * suc k + 17 * (row_upper base k + 1 - base / 65536)
          → length (rows_text image base (suc (suc k))) ≡ 45 * suc (suc k) + 17 * (row_upper base (suc k) + 1 - base / 65536)
      by true g s =
          let f = eqb-true (row_upper base (suc k)) (told (suc k)) g in
          let u = ap length (upper_same (told (suc k)) (row_upper base (suc k)) f) in
          rw (sym (add-one (suc k))) (omega (arith, more, before))
      by false g s =
          let n = eqb-false (row_upper base (suc k)) (told (suc k)) g in
          let u = half_length (suc k) n in
          rw (sym (add-one (suc k))) (omega (arith, more, before))

pub text_longest : (image : List ℕ) (bank : Bank) → whole_length (length image) ≡ true → length (text_of image bank) ≤ longest_text
text_longest image bank w =
    let whole = whole_most (length image) w in
    let rows : ℕ = length image / row_size in
    let m = rows_longest image (start_of bank) rows (omega arith) in
    let t = told_low image (start_of bank) rows in
    let l = text_length image bank refl in
    let h = few bank rows (omega (arith, whole.0, whole.1)) in
    omega arith
  where
    -- a bank's rows have four upper halves at most
    few : (bank : Bank) (k : ℕ) → k ≤ 15712 → row_upper (start_of bank) k ≤ start_of bank / 65536 + 3
    few Zero k h = omega arith
    few One k h = omega arith

-- and that one is met
pub longest_met :
    (image : List ℕ) (bank : Bank) → length image ≡ sector_size * most_sectors
    → ((j : ℕ) → suc j * row_size ≤ length image → blank_of (row_of image j) ≡ false) → length (text_of image bank) ≡ longest_text
longest_met image bank l filled =
    let m = rows_full image (start_of bank) (low bank) filled 15711 (omega arith) in
    let e : length image / row_size ≡ 15712 = omega arith in
    text_length image bank refl ∙ rw (e, m, four bank)
  where
    low : (bank : Bank) → 65536 ≤ start_of bank
    low Zero = omega arith
    low One = omega arith

    four : (bank : Bank) → row_upper (start_of bank) 15711 + 1 - start_of bank / 65536 ≡ 4
    four Zero = omega arith
    four One = omega arith
