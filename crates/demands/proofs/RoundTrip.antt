-- The text that the writer writes of an image, read by the reader of hex text: row after row the image comes back, and it is accepted.
-- Assumes nothing.
use mathlib.Core.Path.{◌≡◌, refl, sym, ap, ◌∙◌}
use mathlib.Core.Bool.{Bool, true, false}
use mathlib.Core.List.{List, [], ◌∷◌, ◌++◌, append_assoc, append-nil}
use Prim.Native.Nat.{ℕ, zero, suc, ◌+◌, ◌-◌, ◌*◌, ◌/◌, ◌<◌, ◌≤◌}
use native.Mathlib.Numerals.{add-one}
use native.Mathlib.Omega.{arith}
use lib.Dec.{eqb}
use lib.ListN.{length, take, drop, length-append, replicate-append-replicate}
use lib.Seq.{sets, sets-eq, length-take-le, take-add, take_at, drop_at, take_all, get_or-drop}
use borrow.Author.Tests.{eqb-true, eqb-false}
use Rattle.std.specs.Prelude.{Ok}
use Rattle.buffer.specs.Compare.{blank_of}
use Rattle.buffer.specs.Number.{bytes_of}
use Rattle.buffer.proofs.Comparing.{blank_true}
use Rattle.flash.specs.Sector.{blanks}
use Rattle.flash.proofs.Blanks.{length_blanks}
use Rattle.layout.specs.declared.Bank.{Bank}
use Rattle.layout.specs.Layout.{sector_size, most_sectors, start_of}
use Rattle.layout.proofs.Layouts.{start_small}
use Rattle.lines.specs.Line.{lines}
use Rattle.hex_text.specs.declared.record.State.{State}
use Rattle.hex_text.specs.declared.record.Found.TheVariants.{Data, Upper}
use Rattle.hex_text.specs.Spell.{line_bytes}
use Rattle.hex_text.specs.Record.{record_data}
use Rattle.hex_text.specs.Read.{state_after, image_after, read_lines, at_start}
use Rattle.rows.specs.Text.{row_size, row_of, row_address, row_upper, data_line, upper_line, end_line, told_before, upper_text, row_text, rows_text, text_of}
use Rattle.rows.proofs.Rows.{upper_same, upper_other, text_blank, text_told, told_next, row_length, told_stays}
use Rattle.demands.specs.Written.{AreBytes}
use Rattle.demands.proofs.WrittenLines.{bytes_none, bytes_cons, line_in, line_first, data_is, found_data, found_upper, found_end}

bytes_take : (n : ℕ) (l : List ℕ) → AreBytes l → AreBytes (take n l)
bytes_take zero l f = bytes_none
bytes_take (suc n) [] f = bytes_none
bytes_take (suc n) (x ∷ l) f = bytes_cons x (take n l) (f 0) (bytes_take n l (λ i. f (suc i)))

bytes_drop : (n : ℕ) (l : List ℕ) → AreBytes l → AreBytes (drop n l)
bytes_drop n l f i = rw (get_or-drop n l i 0) (f (n + i))

module _ (image : List ℕ) (bank : Bank) (n : ℕ) (long : length image ≡ sector_size * n) (few : n ≤ most_sectors) (are : AreBytes image) where
  abbrev base : ℕ
  base = start_of bank

  abbrev size : ℕ
  size = sector_size * n

  row_bytes : (k : ℕ) → AreBytes (row_of image k)
  unfolding row_of
  row_bytes k = bytes_take row_size (drop (k * row_size) image) (bytes_drop (k * row_size) image are)

  -- THE IMAGE behind the first k rows: they, and 0xFF elsewhere
  abbrev filled : ℕ → List ℕ
  filled k = take (k * row_size) image ++ blanks (size - k * row_size)

  module _ (k : ℕ) (inside : suc k * row_size ≤ length image) where
    rows_before : length (take (k * row_size) image) ≡ k * row_size
    rows_before = length-take-le (k * row_size) image (omega arith)

    take_next : take (suc k * row_size) image ≡ take (k * row_size) image ++ row_of image k
    unfolding row_of
    take_next = let e : suc k * row_size ≡ k * row_size + row_size = omega arith in rw e (take-add (k * row_size) row_size image)

    blank-next : blanks (size - k * row_size) ≡ blanks row_size ++ blanks (size - suc k * row_size)
    blank-next =
        let e : size - k * row_size ≡ row_size + (size - suc k * row_size) = omega arith in
        ap blanks e ∙ sym (replicate-append-replicate row_size (size - suc k * row_size) 0xFF)

    fill-blank : blank_of (row_of image k) ≡ true → filled k ≡ filled (suc k)
    fill-blank b =
        let r = blank_true (row_of image k) b ∙ ap blanks (row_length image base k inside) in
        rw (take_next, blank-next, r) (sym (append_assoc (take (k * row_size) image) (blanks row_size) _))

    fill-next : sets (filled k) (k * row_size) (row_of image k) ≡ filled (suc k)
    fill-next =
        let before : List ℕ = take (k * row_size) image in
        let behind : List ℕ = blanks (size - suc k * row_size) in
        let l = row_length image base k inside in
        let m = rows_before in
        let all : filled k ≡ before ++ blanks row_size ++ behind = rw blank-next (sym (append_assoc before (blanks row_size) behind)) in
        let a = length-append before (blanks row_size) in
        let b = length-append (before ++ blanks row_size) behind in
        let c = length_blanks row_size in
        let d = length_blanks (size - suc k * row_size) in
        let fits : k * row_size + length (row_of image k) ≤ length (filled k) = rw all (omega arith) in
        let first : take (k * row_size) (filled k) ≡ before = take_at before (blanks (size - k * row_size)) (k * row_size) m in
        let rest : drop (k * row_size + length (row_of image k)) (filled k) ≡ behind =
        rw all (drop_at (before ++ blanks row_size) behind (k * row_size + length (row_of image k)) (omega arith)) in
        sets-eq (row_of image k) (filled k) (k * row_size) fits ∙ rw (first, rest, take_next)

  -- LINE AFTER LINE, from some state on
  module _ (s : State) (goes : s.over ≡ false) (m : ℕ) (held text : List ℕ) where
    take-upper :
        (upper : ℕ) → upper < 65536
        → read_lines base size s m held (lines (upper_line upper ++ text)) ≡ read_lines base size (state_after (Upper upper) s) (m + 1) held (lines text)
    unfolding read_lines
    take-upper upper h = rw (line_first 0 4 (bytes_of 2 upper) text, found_upper base size s goes upper h)

    take-end : read_lines base size s m held (lines end_line) ≡ record { outcome = Ok tt; image = held }
    unfolding read_lines lines
    take-end =
        let e : lines end_line ≡ line_in 0 1 [] ∷ [] = ap lines (sym (append-nil end_line)) ∙ line_first 0 1 [] [] in
        rw (e, found_end base size s goes)

    take-data :
        (k : ℕ) → suc k * row_size ≤ length image → s.upper ≡ row_upper base k → s.last ≤ row_address base k
        → read_lines base size s m held (lines (data_line image base k ++ text))
        ≡ read_lines base size (state_after (Data (row_address base k) row_size) s) (m + 1) (sets held (k * row_size) (row_of image k)) (lines text)
    unfolding read_lines
    take-data k inside u after =
        let address : ℕ = row_address base k in
        let row : List ℕ = row_of image k in
        let l : length row ≡ row_size = row_length image base k inside in
        let found = found_data base size s goes address row (row_bytes k) (omega arith) (omega arith) u (omega arith) (omega arith) after in
        let e : address - base ≡ k * row_size = omega arith in
        let stored : record_data (length row) (line_bytes (line_in address 0 row)) ≡ row = data_is address 0 row (omega arith) (omega arith) (row_bytes k) in
        let put : image_after base (line_in address 0 row) (Data address (length row)) held ≡ sets held (k * row_size) row = rw (stored, e) in
        let go :
        read_lines base size s m held (line_in address 0 row ∷ lines text)
        ≡ read_lines base size (state_after (Data address (length row)) s) (m + 1)
        (image_after base (line_in address 0 row) (Data address (length row)) held) (lines text) = rw found in
        rw (line_first address 0 row text) (go ∙ rw (put, l))

  -- and an upper half told before, or not if it was told last
  record Told (upper : ℕ) (s : State) (m : ℕ) (held text more : List ℕ) : Type 0 where
    state : State
    number : ℕ
    upper_is : state.upper ≡ upper
    goes : state.over ≡ false
    last-is : state.last ≡ s.last
    reads : read_lines base size s m held (lines more) ≡ read_lines base size state number held (lines text)

  take_told :
      (s : State) → s.over ≡ false → (m : ℕ) (held text : List ℕ) (upper : ℕ) → upper < 65536
      → Told upper s m held text (upper_text s.upper upper ++ text)
  take_told s goes m held text upper h = by (eqb upper s.upper) refl
    where
      by : (b : Bool) → eqb upper s.upper ≡ b → Told upper s m held text (upper_text s.upper upper ++ text)
      by true e =
          let f = eqb-true upper s.upper e in
          record { state = s; number = m; upper_is = sym f; goes = goes; last-is = refl; reads = rw (upper_same s.upper upper f) }
      by false e =
          record {
            state = state_after (Upper upper) s;
            number = m + 1;
            upper_is = refl;
            goes = goes;
            last-is = refl;
            reads = rw (upper_other s.upper upper (eqb-false upper s.upper e)) (take-upper s goes m held text upper h);
          }

  -- ROW AFTER ROW: behind the first k, whatever follows them
  record Reached (k : ℕ) (text : List ℕ) : Type 0 where
    state : State
    number : ℕ
    upper_is : state.upper ≡ told_before image base k
    goes : state.over ≡ false
    behind : state.last ≤ row_address base k
    reads :
        read_lines base size at_start 1 (blanks size) (lines (rows_text image base k ++ text)) ≡ read_lines base size state number (filled k) (lines text)

  first : (text : List ℕ) → Reached 0 text
  unfolding rows_text told_before
  first text =
      let e : size ≡ size - 0 = omega arith in
      record {
        state = at_start;
        number = 1;
        upper_is = refl;
        goes = refl;
        behind = omega arith;
        reads = ap (λ (m : ℕ). read_lines base size at_start 1 (blanks m) (lines text)) e;
      }

  module _ (k : ℕ) (inside : suc k * row_size ≤ length image) (text : List ℕ) (r : Reached k (row_text image base k ++ text)) where
    more : lines (rows_text image base (suc k) ++ text) ≡ lines (rows_text image base k ++ (row_text image base k ++ text))
    unfolding rows_text
    more = ap lines (append_assoc (rows_text image base k) (row_text image base k) text)

    next-blank : blank_of (row_of image k) ≡ true → Reached (suc k) text
    next-blank b =
        record {
          state = r.state;
          number = r.number;
          upper_is = r.upper_is ∙ sym (told_stays image base k b) ∙ rw (add-one k);
          goes = r.goes;
          behind = omega (arith, r.behind);
          reads = rw more (r.reads ∙ rw (text_blank image base k b, fill-blank k inside b));
        }

    upper_small : row_upper base k < 65536
    upper_small = let s = start_small bank in omega arith

    next-told : blank_of (row_of image k) ≡ false → Reached (suc k) text
    next-told b =
        let t = take_told r.state r.goes r.number (filled k) (data_line image base k ++ text) (row_upper base k) upper_small in
        let e : row_text image base k ++ text ≡ upper_text r.state.upper (row_upper base k) ++ (data_line image base k ++ text) =
        rw (text_told image base k b, r.upper_is) (append_assoc (upper_text (told_before image base k) (row_upper base k)) (data_line image base k) text) in
        let after : t.state.last ≤ row_address base k = omega (arith, t.last-is, r.behind) in
        record {
          state = state_after (Data (row_address base k) row_size) t.state;
          number = t.number + 1;
          upper_is = t.upper_is ∙ sym (told_next image base k b) ∙ rw (add-one k);
          goes = t.goes;
          behind = omega arith;
          reads =
              rw more
              (r.reads ∙ ap (λ (l : List ℕ). read_lines base size r.state r.number (filled k) (lines l)) e ∙ t.reads
              ∙ take-data t.state t.goes t.number (filled k) text k inside t.upper_is after
              ∙ rw (fill-next k inside));
        }

    next : Reached (suc k) text
    next = by (blank_of (row_of image k)) refl
      where
        by : (b : Bool) → blank_of (row_of image k) ≡ b → Reached (suc k) text
        by true b = next-blank b
        by false b = next-told b

  reach : (k : ℕ) → k * row_size ≤ length image → (text : List ℕ) → Reached k text
  reach zero h text = first text
  reach (suc k) h text = next k h text (reach k (omega arith) (row_text image base k ++ text))

  -- THE WHOLE TEXT
  all_filled : (k : ℕ) → k * row_size ≡ length image → filled k ≡ image
  all_filled k e =
      let none : size - k * row_size ≡ 0 = omega arith in
      rw (none, take_all (k * row_size) image (omega arith)) (append-nil image)

  pub text_back : read_lines base size at_start 1 (blanks size) (lines (text_of image bank)) ≡ record { outcome = Ok tt; image = image }
  unfolding text_of
  text_back =
      let k : ℕ = length image / row_size in
      let e : k * row_size ≡ length image = omega arith in
      let r = reach k (omega arith) end_line in
      r.reads ∙ take-end r.state r.goes r.number (filled k) [] ∙ ap (λ (l : List ℕ). record { outcome = Ok tt; image = l }) (all_filled k e)
