-- The whole text, and each way out of the functions that answer for it.
-- Assumes nothing.
use Rattle.std.proofs.Common.{◌≡◌, ℕ, ◌+◌, ◌*◌, ◌/◌, ◌%◌, ◌<◌, ◌≤◌, Bool, true, false, cond, List, [], ◌++◌, length, sym, refl, ap, ◌∙◌, arith, length-append, le-leb}
use lib.Seq.{sets, length-sets}
use borrow.Author.Tests.{lt-leb}
use Rattle.buffer.proofs.Bools.{no_way}
use Rattle.buffer.proofs.Places.{sets_next, sets_front}
use Rattle.buffer.specs.Place.{front_of}
use Rattle.std.specs.Prelude.{Some, None}
use Rattle.layout.specs.declared.Bank.{Bank}
use Rattle.layout.specs.Layout.{sector_size, most_sectors, whole_length, start_of}
use Rattle.layout.proofs.Layouts.{start_small, whole_sectors, whole_good, good_high}
use Rattle.rows.specs.Record.{beside_data}
use Rattle.rows.specs.Text.{all_rows, end_line, text_of, length_of, written_of, length_says, write_says, IsLength, IsWrite}
use Rattle.rows.specs.Places.{ImageFits}
use Rattle.rows.proofs.Records.{line_length}

-- a bank's length: whole sectors, and not many
pub whole_most : (n : ℕ) → whole_length n ≡ true → (n % sector_size ≡ 0) × (n / sector_size ≤ most_sectors)
whole_most n e = (whole_sectors n e, good_high (n / sector_size) (whole_good n e))

-- so small are it and a bank's address
pub bank_fits : (image : List ℕ) (bank : Bank) {base : ℕ} → base ≡ start_of bank → whole_length (length image) ≡ true → ImageFits image base
bank_fits image bank start w =
    let m = whole_most (length image) w in
    record { base_small = omega (arith, start_small bank); image_small = omega (arith, m.0, m.1) }

-- all rows, from the bank's start on, and the end record
module _ (image : List ℕ) (bank : Bank) {base : ℕ} (start : base ≡ start_of bank) where
  abbrev rows : List ℕ
  rows = all_rows image base

  pub text_is : text_of image bank ≡ rows ++ end_line
  unfolding text_of
  text_is = rw start

  pub text_length : length (text_of image bank) ≡ length rows + beside_data
  text_length = rw text_is (length-append rows end_line ∙ ap (λ (n : ℕ). length rows + n) (line_length 0 1 []))

  module _ (text : List ℕ) (h : length (text_of image bank) ≤ length text) where
    pub rows_fit : length rows ≤ length text
    rows_fit = let n = text_length in omega arith

    module _ {first : List ℕ} {at : ℕ} (at_is : at ≡ length rows) (put : first ≡ sets text 0 rows) where
      pub end_fits : at + (beside_data + 2 * 0) ≤ length first
      end_fits = let n = text_length in let m = ap length put ∙ length-sets text 0 rows in omega arith

      pub put-text : {after : List ℕ} → after ≡ sets first at end_line → after ≡ front_of text (text_of image bank)
      put-text e =
          e ∙ rw put (sets_next text rows end_line 0 (omega arith) ∙ rw (sym text_is) (sets_front text (text_of image bank) h))

module _ (image : List ℕ) (bank : Bank) where
  -- how long it is
  pub length_bad : whole_length (length image) ≡ false → IsLength image bank None
  unfolding length_of length_says
  length_bad w = record { answered = rw w; says = rw w }

  pub length_good : whole_length (length image) ≡ true → {size : ℕ} → size ≡ length (text_of image bank) → IsLength image bank (Some size)
  unfolding length_of length_says
  length_good w e = record { answered = rw (w, e); says = rw (w, e) }

  pub no_length : None ≡ length_of image bank → whole_length (length image) ≡ false
  unfolding length_of
  no_length e = by (whole_length (length image)) e
    where
      by : (w : Bool) → None ≡ cond w (Some (length (text_of image bank))) None → w ≡ false
      by true q = cc
      by false q = refl

  pub some_length : {size : ℕ} → Some size ≡ length_of image bank → (whole_length (length image) ≡ true) × (size ≡ length (text_of image bank))
  unfolding length_of
  some_length {size} e = by (whole_length (length image)) refl e
    where
      by : (w : Bool) → whole_length (length image) ≡ w → Some size ≡ cond w (Some (length (text_of image bank))) None
          → (whole_length (length image) ≡ true) × (size ≡ length (text_of image bank))
      by true w q = (w, cc)
      by false w q = no_way (cc)

  -- and whether it was written
  module _ (text : List ℕ) where
    pub write-bad : whole_length (length image) ≡ false → IsWrite image bank text None text
    unfolding written_of write_says
    write-bad w = record { answered = rw w; says = rw w; stands = rw w }

    module _ (w : whole_length (length image) ≡ true) where
      pub write-short : length text < length (text_of image bank) → IsWrite image bank text None text
      unfolding written_of write_says
      write-short h =
          let s = lt-leb (length (text_of image bank)) (length text) h in
          record { answered = rw (w, s); says = rw (w, s); stands = rw (w, s) }

      pub write_good :
          length (text_of image bank) ≤ length text → {size : ℕ} {after : List ℕ} → size ≡ length (text_of image bank)
          → after ≡ front_of text (text_of image bank) → IsWrite image bank text (Some size) after
      unfolding written_of write_says
      write_good h l e =
          let s = le-leb (length (text_of image bank)) (length text) h in
          record { answered = rw (w, s, l); says = rw (w, s, l); stands = rw (w, s) e }
