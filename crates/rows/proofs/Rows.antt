-- The text of rows, one after another: what a row adds to it, by the tests of the code.
-- Assumes nothing.
use Rattle.std.proofs.Common.{◌≡◌, ℕ, zero, suc, ◌+◌, ◌-◌, ◌*◌, ◌/◌, ◌%◌, ◌<◌, ◌≤◌, Bool, true, false, eqb, List, [], ◌∷◌, ◌++◌, length, take, drop, sym, refl, ap, ◌∙◌, append-nil, add-one, arith, length-append, eq-eqb, ne_eqb, eqb-true}
use lib.Seq.{sets, length-sets}
use borrow.Author.Tests.{eqb-false}
use Rattle.buffer.proofs.Numbers.{length_bytes, bytes_two}
use Rattle.buffer.proofs.Parts.{part_out, part_length}
use Rattle.buffer.proofs.Places.{front_whole, sets_next}
use Rattle.buffer.specs.Compare.{blank_of}
use Rattle.buffer.specs.Number.{bytes_of}
use Rattle.buffer.specs.Place.{front_of}
use Rattle.rows.specs.declared.text.Reached.{Reached}
use Rattle.rows.specs.Text.{row_size, row_of, row_address, row_upper, data_line, upper_line, told_before, upper_text, row_text, rows_text}
use Rattle.rows.specs.Record.{record_line, beside_data}
use Rattle.rows.specs.Places.{ImageFits, reached_at}
use Rattle.rows.proofs.Records.{line_length}

-- AN UPPER HALF that was told last, and another
module _ (told upper : ℕ) where
  pub upper_same : upper ≡ told → upper_text told upper ≡ []
  unfolding upper_text
  upper_same e = rw (eq-eqb upper told e)

  pub upper_other : (upper ≡ told → ⊥) → upper_text told upper ≡ upper_line upper
  unfolding upper_text
  upper_other n = rw (ne_eqb upper told n)

  pub upper_length : length (upper_line upper) ≡ 17
  upper_length = line_length 0 4 (bytes_of 2 upper) ∙ rw (length_bytes 2 upper)

-- A ROW AS IT IS LENT, by `[from..from + 16]`: seen to be blank or not, and copied
module _ (image : List ℕ) (k : ℕ) where
  abbrev part : List ℕ
  part = take ((k * row_size + row_size) - k * row_size) (drop (k * row_size) image)

  part_is : part ≡ row_of image k
  unfolding row_of
  part_is = part_out image (k * row_size) row_size

  pub row_seen : {r b : Bool} → r ≡ blank_of part → r ≡ b → blank_of (row_of image k) ≡ b
  row_seen e f = ap blank_of (sym part_is) ∙ sym e ∙ f

  pub row_copied :
      suc k * row_size ≤ length image → (room : List ℕ) {row : List ℕ} → length room ≡ row_size → row ≡ front_of room part → row ≡ row_of image k
  row_copied inside room n e =
      let l = part_length image (k * row_size) row_size (omega arith) in
      e ∙ front_whole room part (ap length (part_out image (k * row_size) row_size) ∙ l ∙ sym n) ∙ part_is

-- A ROW behind the first k
module _ (image : List ℕ) (base k : ℕ) where
  abbrev told : ℕ
  told = told_before image base k

  -- blank
  pub text_blank : blank_of (row_of image k) ≡ true → row_text image base k ≡ []
  unfolding row_text
  text_blank b = rw b

  reached_blank : blank_of (row_of image k) ≡ true → reached_at image base (k + 1) ≡ reached_at image base k
  unfolding told_before rows_text
  reached_blank b = rw (add-one k, b, text_blank b, append-nil (rows_text image base k))

  pub told_stays : blank_of (row_of image k) ≡ true → told_before image base (k + 1) ≡ told_before image base k
  told_stays b = ap (λ (r : Reached). r.told) (reached_blank b)

  pub length_stays : blank_of (row_of image k) ≡ true → length (rows_text image base (k + 1)) ≡ length (rows_text image base k)
  length_stays b = ap (λ (r : Reached). r.at) (reached_blank b)

  -- or within the image and with a line of its own
  pub text_told : blank_of (row_of image k) ≡ false → row_text image base k ≡ upper_text told (row_upper base k) ++ data_line image base k
  unfolding row_text
  text_told b = rw b

  pub told_next : blank_of (row_of image k) ≡ false → told_before image base (k + 1) ≡ row_upper base k
  unfolding told_before
  told_next b = rw (add-one k, b)

  module _ (inside : suc k * row_size ≤ length image) where
    pub row_length : length (row_of image k) ≡ row_size
    unfolding row_of
    row_length = part_length image (k * row_size) row_size (omega arith)

    pub data_length : length (data_line image base k) ≡ 45
    data_length = line_length (row_address base k) 0 (row_of image k) ∙ rw row_length

    pub told-length :
        blank_of (row_of image k) ≡ false
        → length (rows_text image base (k + 1)) ≡ length (rows_text image base k) + length (upper_text told (row_upper base k)) + 45
    unfolding rows_text
    told-length b =
        let m = length-append (rows_text image base k) (row_text image base k) in
        let n = length-append (upper_text told (row_upper base k)) (data_line image base k) in
        let t = ap length (text_told b) in
        let d = data_length in
        rw (add-one k) (omega arith)

    -- whether it has one is seen by how long the text is
    pub no_line : length (rows_text image base (k + 1)) ≡ length (rows_text image base k) → blank_of (row_of image k) ≡ true
    no_line e = by (blank_of (row_of image k)) refl
      where
        by : (b : Bool) → blank_of (row_of image k) ≡ b → blank_of (row_of image k) ≡ true
        by true b = b
        by false b = absurd (let n = told-length b in omega arith)

    pub a-line : (length (rows_text image base (k + 1)) ≡ length (rows_text image base k) → ⊥) → blank_of (row_of image k) ≡ false
    a-line n = by (blank_of (row_of image k)) refl
      where
        by : (b : Bool) → blank_of (row_of image k) ≡ b → blank_of (row_of image k) ≡ false
        by true b = absurd (n (length_stays b))
        by false b = b

-- PASSED, by the tests of the code
module _ (image : List ℕ) (base k : ℕ) {reached : Reached} (so_far : reached ≡ reached_at image base k) where
  pub so_long : reached.at ≡ length (rows_text image base k)
  so_long = ap (λ (r : Reached). r.at) so_far

  pub pass_blank : blank_of (row_of image k) ≡ true → reached ≡ reached_at image base (k + 1)
  pass_blank b = so_far ∙ sym (reached_blank image base k b)

  module _ (inside : suc k * row_size ≤ length image) (b : blank_of (row_of image k) ≡ false) where
    abbrev upper : ℕ
    upper = row_upper base k

    passed : {at : ℕ} → length (rows_text image base (k + 1)) ≡ at → record { told = upper; at = at } ≡ reached_at image base (k + 1)
    passed l = λ i. record { told = sym (told_next image base k b) i; at = sym l i }

    pub pass_same : (upper ≡ reached.told) → record { told = upper; at = reached.at + 45 } ≡ reached_at image base (k + 1)
    pass_same e =
        let m = ap length (upper_same (told_before image base k) upper (e ∙ ap (λ (r : Reached). r.told) so_far)) in
        passed (omega (arith, so_long, told-length image base k inside b))

    pub pass-other : (upper ≡ reached.told → ⊥) → record { told = upper; at = reached.at + 45 + 17 } ≡ reached_at image base (k + 1)
    pass-other n =
        let m = ap length (upper_other (told_before image base k) upper (λ e. n (e ∙ sym (ap (λ (r : Reached). r.told) so_far)))) in
        passed (omega (arith, so_long, upper_length (told_before image base k) upper, told-length image base k inside b))

-- PUT, right behind what stands there
module _ (told upper : ℕ) (text : List ℕ) (at : ℕ) where
  pub put_none : upper ≡ told → text ≡ sets text at (upper_text told upper)
  put_none e = rw (upper_same told upper e)

  pub put_told :
      (upper ≡ told → ⊥) → {after : List ℕ} → after ≡ sets text at (record_line 0 4 (upper / 256 % 256 ∷ upper % 256 ∷ []))
      → after ≡ sets text at (upper_text told upper)
  put_told n e = e ∙ rw (upper_other told upper n, bytes_two upper)

  pub told_fits : (upper ≡ told → ⊥) → at + length (upper_text told upper) ≤ length text → at + 17 ≤ length text
  told_fits n h = let e = ap length (upper_other told upper n) ∙ upper_length told upper in omega arith

module _
    (image : List ℕ) (base k : ℕ) {reached next : Reached} (so_far : reached ≡ reached_at image base k)
    (passed : next ≡ reached_at image base (k + 1)) (inside : suc k * row_size ≤ length image) where
  -- a blank row
  pub row_none : next.at ≡ reached.at → (text : List ℕ) → text ≡ sets text reached.at (row_text image base k)
  row_none e text =
      let b = no_line image base k inside (sym (so_long image base (k + 1) passed) ∙ e ∙ so_long image base k so_far) in
      rw (text_blank image base k b)

  -- and one with a line
  module _ (more : next.at ≡ reached.at → ⊥) where
    b : blank_of (row_of image k) ≡ false
    b = a-line image base k inside (λ e. more (so_long image base (k + 1) passed ∙ e ∙ sym (so_long image base k so_far)))

    upper_is : upper_text reached.told next.told ≡ upper_text (told_before image base k) (row_upper base k)
    upper_is = rw (so_far, passed, told_next image base k b)

    pub line_at : next.at ≡ reached.at + length (upper_text reached.told next.told) + 45
    line_at =
        let u = ap length upper_is in
        let l = told-length image base k inside b in
        omega (arith, so_long image base (k + 1) passed, so_long image base k so_far)

    pub line-fits : {room : ℕ} → length (rows_text image base (k + 1)) ≤ room → next.at ≤ room
    line-fits h = omega (arith, so_long image base (k + 1) passed)

    module _
        (text : List ℕ) {first row : List ℕ} (put : first ≡ sets text reached.at (upper_text reached.told next.told)) (row_is : row ≡ row_of image k)
      where
        pub row_fits :
            length (rows_text image base (k + 1)) ≤ length text → (length row < 256) × (next.at - 45 + (beside_data + 2 * length row) ≤ length first)
        row_fits h =
            let l = ap length row_is ∙ row_length image base k inside in
            let f = ap length put ∙ length-sets text reached.at (upper_text reached.told next.told) in
            let n = line-fits h in
            let m = line_at in
            (omega arith, omega arith)

        pub row_put :
            {after : List ℕ} → after ≡ sets first (next.at - 45) (record_line (row_address base k) 0 row)
            → after ≡ sets text reached.at (row_text image base k)
        row_put e =
            e
            ∙ rw (put, row_is, text_told image base k b, sym upper_is)
            (sets_next text (upper_text reached.told next.told) (data_line image base k) reached.at (omega (arith, line_at)))

-- THE FIRST ROWS
module _ (image : List ℕ) (base : ℕ) where
  pub reached_first : reached_at image base 0 ≡ record { told = 0; at = 0 }
  unfolding told_before rows_text
  reached_first = refl

  pub rows_next : (k : ℕ) → rows_text image base (k + 1) ≡ rows_text image base k ++ row_text image base k
  unfolding rows_text
  rows_next k = rw (add-one k)

  -- the text of one more, right behind
  pub rows_put :
      (k : ℕ) (text : List ℕ) {so_far after : List ℕ} {at : ℕ} → so_far ≡ sets text 0 (rows_text image base k) → at ≡ length (rows_text image base k)
      → after ≡ sets so_far at (row_text image base k) → after ≡ sets text 0 (rows_text image base (k + 1))
  rows_put k text e l f =
      f ∙ rw (e, rows_next k) (sets_next text (rows_text image base k) (row_text image base k) 0 (omega arith))

  pub rows_none : (text : List ℕ) → text ≡ sets text 0 (rows_text image base 0)
  unfolding rows_text
  rows_none text = refl

  -- as many bytes as they have at most: 45 for each row, and 17 for each upper half from the first one on to the one told last
  abbrev pub halves : ℕ → ℕ
  halves k = told_before image base k + 1 - base / 65536

  pub none_first : told_before image base 0 ≡ 0
  unfolding told_before
  none_first = refl

  pub told_low : (k : ℕ) → told_before image base k ≤ row_upper base k
  told_low zero = omega (arith, none_first)
  told_low (suc k) = by (blank_of (row_of image k)) refl (told_low k)
    where
      by : (b : Bool) → blank_of (row_of image k) ≡ b → told_before image base k ≤ row_upper base k → told_before image base (suc k) ≤ row_upper base (suc k)
      by true b l = let t = told_stays image base k b in rw (sym (add-one k)) (omega arith)
      by false b l = let t = told_next image base k b in rw (sym (add-one k)) (omega arith)

  pub none_long : length (rows_text image base 0) ≡ 0
  unfolding rows_text
  none_long = refl

  pub rows_longest : (k : ℕ) → k * row_size ≤ length image → length (rows_text image base k) ≤ 45 * k + 17 * halves k
  rows_longest zero h = omega (arith, none_long)
  rows_longest (suc k) h =
      by (blank_of (row_of image k)) (eqb (row_upper base k) (told_before image base k)) refl refl (rows_longest k (omega arith))
    where
      by :
          (b e : Bool) → blank_of (row_of image k) ≡ b → eqb (row_upper base k) (told_before image base k) ≡ e
          → length (rows_text image base k) ≤ 45 * k + 17 * halves k → length (rows_text image base (suc k)) ≤ 45 * suc k + 17 * halves (suc k)
      by true e f g s =
          let m = length_stays image base k f in
          let t = told_stays image base k f in
          rw (sym (add-one k)) (omega arith)
      by false true f g s =
          let m = told-length image base k h f in
          let e = eqb-true (row_upper base k) (told_before image base k) g in
          let u = ap length (upper_same (told_before image base k) (row_upper base k) e) in
          let t = told_next image base k f in
          rw (sym (add-one k)) (omega arith)
      by false false f g s =
          let m = told-length image base k h f in
          let n = eqb-false (row_upper base k) (told_before image base k) g in
          let u = ap length (upper_other (told_before image base k) (row_upper base k) n) ∙ upper_length (told_before image base k) (row_upper base k) in
          let t = told_next image base k f in
          let l = told_low k in
          rw (sym (add-one k)) (omega arith)

  -- so few that the code's sums are numbers of the machine
  pub rows_small : ImageFits image base → (k : ℕ) → k * row_size ≤ length image → length (rows_text image base k) < 1099511627776
  rows_small fits k h = let m = rows_longest k h in let l = told_low k in omega (arith, fits.base_small, fits.image_small)

  -- more rows, no shorter text
  pub rows_grow : (k m : ℕ) → length (rows_text image base k) ≤ length (rows_text image base (k + m))
  rows_grow k zero = let e : k + zero ≡ k = omega arith in rw e (omega arith)
  rows_grow k (suc m) =
      let e : k + suc m ≡ k + m + 1 = omega arith in
      let l = ap length (rows_next (k + m)) ∙ length-append (rows_text image base (k + m)) (row_text image base (k + m)) in
      let n = rows_grow k m in
      rw e (omega arith)
