-- A line taken, line after line, and the whole text: case by case.
-- Assumes nothing.
use Rattle.std.proofs.Common.{◌≡◌, ℕ, ◌+◌, ◌-◌, ◌*◌, ◌≤◌, true, false, List, [], ◌∷◌, length, take, drop, replicate, sym, refl, ap, ◌∙◌, arith, eq-eqb, ne_eqb}
use lib.ListN.{length-replicate}
use lib.Seq.{sets-eq}
use Rattle.buffer.proofs.Bools.{no_way}
use Rattle.buffer.specs.Place.{place_of}
use Rattle.buffer.proofs.Parts.{part_out}
use Rattle.buffer.proofs.Places.{place_fits}
use Rattle.layout.specs.declared.Bank.{Bank}
use Rattle.layout.specs.Layout.{good_n, start_of, sector_size}
use Rattle.lines.specs.Line.{lines}
use Rattle.std.specs.Prelude.{Result, Ok, Err}
use Rattle.hex_text.specs.declared.fault.Fault.{Fault}
use Rattle.hex_text.specs.declared.fault.Refusal.{Refusal}
use Rattle.hex_text.specs.declared.record.State.{State}
use Rattle.hex_text.specs.declared.record.Found.{Found}
use Rattle.hex_text.specs.declared.record.Found.TheVariants.{Data}
use Rattle.hex_text.specs.declared.read.ReadError.TheVariants.{BadN, BadLength, Line}
use Rattle.hex_text.specs.Spell.{line_bytes}
use Rattle.hex_text.specs.Record.{record_data, found_of}
use Rattle.hex_text.specs.Read.{state_after, image_after, LinesRead, stopped_at, goes, read_lines, after_last, at_start, reading_of, lines_say, read_says, text_read, IsRead}
use Rattle.hex_text.specs.Places.{Looked, step_by, image_by, Took, Came}
use Rattle.hex_text.proofs.Says.{looked_in}

-- A LINE TAKEN, by what it says

module _ {line : List ℕ} {base : ℕ} {s : State} {image held : List ℕ} where
  pub took_data :
      {start n : ℕ} {after : List ℕ} → Looked line base (length image) s held (Ok (Data start n))
      → after ≡ place_of image (start - base) (take (4 + n - 4) (drop 4 held))
      → Took base s line image after (Ok (record { upper = s.upper; last = start + n; over = s.over }))
  took_data {start} {n} l e =
      let d = looked_in l in
      let fits : start - base + length (record_data n (line_bytes line)) ≤ length image = omega (arith, d.low, d.high, d.whole) in
      let i = rw (part_out held 4 n, l.holds start n refl) at e in
      let put = i ∙ place_fits image (start - base) _ fits ∙ sym (sets-eq _ image (start - base) fits) in
      record { is = rw (sym l.is); image = rw (sym l.is) put }

-- LINE AFTER LINE

module _ (base size : ℕ) (s : State) (k : ℕ) (image : List ℕ) where
  module _ {line : List ℕ} {ls rest : List (List ℕ)} (here : ls ≡ line ∷ rest) where
    abbrev found : Result Found Fault
    found = found_of base size s line

    pub read-on :
        (q : State) → step_by found s ≡ Ok q → read_lines base size s k image ls ≡ read_lines base size q (k + 1) (image_by base line found image) rest
    unfolding read_lines
    read-on q e = rw here (by found e)
      where
        by :
            (d : Result Found Fault) → step_by d s ≡ Ok q
            → goes d (λ f. stopped_at f k image) (λ d. read_lines base size (state_after d s) (k + 1) (image_after base line d image) rest)
            ≡ read_lines base size q (k + 1) (image_by base line d image) rest
        by (Err f) z = no_way (cc)
        by (Ok d) z = let g : state_after d s ≡ q = cc in rw g

    pub read-stop :
        {d : LinesRead} {after : List ℕ} (f : Fault) → step_by found s ≡ Err f → d ≡ read_lines base size s k image ls
        → after ≡ image_by base line found image → Came d (Err (record { kind = f.0; line = k; byte = f.1 })) after
    unfolding read_lines
    read-stop f e g i =
        let none : found ≡ Err f = by found e in
        let stop : read_lines base size s k image ls ≡ stopped_at f k image = rw (here, none) in
        let h = g ∙ stop in
        record { outcome = sym (ap (λ (d : LinesRead). d.outcome) h); image_is = i ∙ rw none (sym (ap (λ (d : LinesRead). d.image) h)) }
      where
        by : (d : Result Found Fault) → step_by d s ≡ Err f → d ≡ Err f
        by (Err x) z = let y : x ≡ f = cc in rw y
        by (Ok d) z = no_way (cc)

  -- nothing is left: accepted, or H6
  pub read_finish :
      {ls : List (List ℕ)} {d : LinesRead} {r : Result (Unit {0}) Refusal} → ls ≡ [] → d ≡ read_lines base size s k image ls → r ≡ after_last s k → Came d r image
  unfolding read_lines
  read_finish none e f =
      let g = rw none at e in
      record { outcome = f ∙ sym (ap (λ (d : LinesRead). d.outcome) g); image_is = sym (ap (λ (d : LinesRead). d.image) g) }

-- THE WHOLE TEXT

module _ (text : List ℕ) (bank : Bank) (n : ℕ) (image : List ℕ) where
  pub read_3 : good_n n ≡ false → IsRead text bank n image image (Err BadN)
  unfolding text_read read_says
  read_3 g = record { answer = rw g; said = rw g; image = rw g }

  module _ (g : good_n n ≡ true) where
    pub read-2 : (length image ≡ sector_size * n → ⊥) → IsRead text bank n image image (Err BadLength)
    unfolding text_read read_says
    read-2 l =
        let e = ne_eqb (length image) (sector_size * n) l in
        record { answer = rw (g, e); said = rw (g, e); image = rw (g, e) }

    module _
        (e : length image ≡ sector_size * n) {base : ℕ} (s : base ≡ start_of bank)
        {blank : List ℕ} (f : blank ≡ replicate (length image) 0xFF) where
      abbrev lined : LinesRead
      lined = read_lines base (length blank) at_start 1 blank (lines text)

      read_is : text_read text bank n image ≡ reading_of (sector_size * n) lined.outcome lined.image
      unfolding text_read
      read_is =
          simp (g, eq-eqb (length image) (sector_size * n) e) (rw (s, f, length-replicate {A = ℕ} (length image) 0xFF, e))

      said_is : read_says text bank n image ≡ lines_say lined.outcome
      unfolding read_says
      said_is =
          simp (g, eq-eqb (length image) (sector_size * n) e) (rw (s, f, length-replicate {A = ℕ} (length image) 0xFF, e))

      pub read-accepted : {after : List ℕ} → Came lined (Ok tt) after → IsRead text bank n image after (Ok tt)
      read-accepted c =
          record {
            answer = rw (read_is, ← c.outcome);
            said = rw (said_is, ← c.outcome);
            image = rw (read_is, ← c.outcome) c.image_is;
          }

      pub read-refused :
          (r : Refusal) {after : List ℕ} (left : List ℕ) → Came lined (Err r) left
          → length left ≡ length blank → after ≡ replicate (length left) 0xFF → IsRead text bank n image after (Err (Line r))
      read-refused r left c m h =
          let size = m ∙ ap length f ∙ length-replicate (length image) 0xFF ∙ e in
          record {
            answer = rw (read_is, ← c.outcome);
            said = rw (said_is, ← c.outcome);
            image = rw (read_is, ← c.outcome) (h ∙ ap (λ (n : ℕ). replicate n 0xFF) size);
          }
