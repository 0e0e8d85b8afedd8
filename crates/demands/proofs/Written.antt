-- The writer of hex text is as asked; what it wrote is read again, and equal texts mean equal images.
-- Assumes nothing.
use mathlib.Core.Path.{◌≡◌, refl, sym, ap, ◌∙◌}
use mathlib.Core.Bool.{Bool, true, false, cond}
use mathlib.Core.List.{List}
use Prim.Native.Nat.{ℕ, ◌+◌, ◌-◌, ◌*◌, ◌/◌, ◌<◌, ◌≤◌}
use native.Mathlib.Omega.{arith}
use lib.Dec.{eqb, leb}
use lib.ListN.{length, get_or}
use lib.Seq.{ext_get_or}
use borrow.Author.Tests.{le-leb, leb-true, eq-eqb, eqb-true, eqb-false}
use Rattle.std.specs.Prelude.{Ok, Option, Some, None}
use Rattle.buffer.proofs.Bools.{no_way}
use Rattle.buffer.proofs.Places.{front_take, front_drop}
use Rattle.layout.specs.declared.Bank.{Bank}
use Rattle.layout.specs.Layout.{sector_size, good_n, whole_length, start_of}
use Rattle.layout.specs.Said.{value, accepted}
use Rattle.layout.proofs.Layouts.{whole_good}
use Rattle.lines.specs.Line.{lines}
use Rattle.hex_text.specs.Meaning.{HasByte, start_at, Leaves}
use Rattle.hex_text.specs.Read.{LinesRead, lines_read, read_says, text_read}
use Rattle.hex_text.proofs.Meaning.{accepted_kept}
use Rattle.rows.specs.Text.{text_of, length_of, written_of, buffer_after, written_said}
use Rattle.rows.proofs.Texts.{whole_most}
use Rattle.rows.proofs.Longest.{text_longest}
use Rattle.demands.specs.Texts.{TextReader, MeetsHex}
use Rattle.demands.specs.Written.{TextWriter, WriteRight, MeetsWriter, LengthRight, MeetsLength, Enough, AreBytes, text_by, RoundTrip, TextsTell, text_writer}
use Rattle.demands.proofs.RoundTrip.{text_back}
use Rattle.demands.proofs.Texts.{texts_meet}

-- THE WRITER, by the two tests: what it says, and the buffer
module _ (image : List ℕ) (bank : Bank) (before : List ℕ) where
  abbrev text : List ℕ
  text = text_of image bank

  data Way : Type 0 where
    refused :
        text_writer image bank before ≡ record { answer = None; buffer = before }
        → (whole_length (length image) ≡ true → length text ≤ length before → ⊥) → Way
    written :
        text_writer image bank before ≡ record { answer = Some (length text); buffer = buffer_after (Some (length text)) before text }
        → whole_length (length image) ≡ true → length text ≤ length before → Way

  way : Way
  unfolding written_of
  way = by (whole_length (length image)) (leb (length text) (length before)) refl refl
    where
      by : (w r : Bool) → whole_length (length image) ≡ w → leb (length text) (length before) ≡ r → Way
      by false r e f = refused (rw e) (λ w l. let z = sym e ∙ w in no_way (cc))
      by true false e f = refused (rw (e, f)) (λ w l. let z = sym f ∙ le-leb (length text) (length before) l in no_way (cc))
      by true true e f = written (rw (e, f)) e (leb-true _ _ f)

  write_right : WriteRight image bank before (text_writer image bank before)
  write_right = by way
    where
      by : Way → WriteRight image bank before (text_writer image bank before)
      by (refused e n) =
          rw e
          (record {
            bad_length = λ w. refl;
            too_short = λ w h. refl;
            stays = λ m q. refl;
            told = λ w h. absurd (n w h);
            text = λ size q. no_way (cc);
            rest = λ size q. no_way (cc);
          })
      by (written e w h) =
          rw e
          (record {
            bad_length = λ f. let z = sym f ∙ w in no_way (cc);
            too_short = λ f l. absurd (omega arith);
            stays = λ m q. no_way (cc);
            told = λ w h. refl;
            text = λ size q. let z : length text ≡ size = cc in rw (sym z) (front_take before text h);
            rest = λ size q. let z : length text ≡ size = cc in rw (sym z) (front_drop before text h);
          })

pub writer_meets : MeetsWriter text_writer
writer_meets image bank before = write_right image bank before

pub length_meets : MeetsLength length_of
unfolding length_of
length_meets image bank = by (whole_length (length image)) refl
  where
    by : (w : Bool) → whole_length (length image) ≡ w → LengthRight image bank (cond w (Some (length (text_of image bank))) None)
    by true w =
        record {
          bad_length = λ f. let z = sym f ∙ w in no_way (cc);
          told = λ _. refl;
          most = λ size q. let z : length (text_of image bank) ≡ size = cc in rw (sym z) (text_longest image bank w);
        }
    by false w = record { bad_length = λ _. refl; told = λ f. let z = sym w ∙ f in no_way (cc); most = λ size q. no_way (cc) }

pub enough : (tell : List ℕ → Bank → Option ℕ) (write : TextWriter) → MeetsLength tell → MeetsWriter write → Enough tell write
enough tell write tells writes image bank before size said h = by (whole_length (length image)) refl
  where
    by : (w : Bool) → whole_length (length image) ≡ w → written_said (write image bank before).answer ≡ value size
    by false w = let z = sym ((tells image bank).bad_length w) ∙ said in no_way (cc)
    by true w =
        let z : value (length (text_of image bank)) ≡ value size = sym ((tells image bank).told w) ∙ said in
        let e : length (text_of image bank) ≡ size = cc in
        (writes image bank before).told w (omega arith) ∙ ap value e

-- READ AGAIN

-- what lines leave is one image
leaves_once :
    (base size : ℕ) (ls : List (List ℕ)) (k : ℕ) (a b : List ℕ) → Leaves base size ls k a → Leaves base size ls k b → length a ≡ size → length b ≡ size
    → a ≡ b
leaves_once base size ls k a b p q m n = ext_get_or 0 a b (m ∙ sym n) (λ x h. by x h (eqb (get_or a x 0) (get_or b x 0)) refl)
  where
    by : (x : ℕ) → x < length a → (t : Bool) → eqb (get_or a x 0) (get_or b x 0) ≡ t → get_or a x 0 ≡ get_or b x 0
    by x h true e = eqb-true (get_or a x 0) (get_or b x 0) e
    by x h false e =
        let none : (i j : ℕ) → i < k → HasByte ls i j → start_at ls i + j ≡ base + x → ⊥ =
        λ i j l d f.
        let g : start_at ls i + j - base ≡ x = omega arith in
        eqb-false (get_or a x 0) (get_or b x 0) e (rw g at (p.there i j l d) ∙ sym (rw g at (q.there i j l d))) in
        p.elsewhere x (omega arith) none ∙ sym (q.elsewhere x (omega arith) none)

-- the text that was written, of an image of a bank's length
module _ (write : TextWriter) (meets : MeetsWriter write) (image : List ℕ) (bank : Bank) (before : List ℕ) {size : ℕ}
    (said : written_said (write image bank before).answer ≡ value size) where
  text_is : text_by write image bank before size ≡ text_of image bank
  text_is = (meets image bank before).text size said

  whole : whole_length (length image) ≡ true
  whole = by (whole_length (length image)) refl
    where
      by : (w : Bool) → whole_length (length image) ≡ w → whole_length (length image) ≡ true
      by true w = w
      by false w = let z = sym ((meets image bank before).bad_length w) ∙ said in no_way (cc)

-- the text of an image, read by the definitions
module _ (image : List ℕ) (bank : Bank) (are : AreBytes image) (w : whole_length (length image) ≡ true) (n : ℕ) (n-is : n ≡ length image / sector_size) where
  long : length image ≡ sector_size * n
  long = let m = whole_most (length image) w in omega (arith, m.0)

  back : lines_read (text_of image bank) bank n ≡ record { outcome = Ok tt; image = image }
  back = let m = whole_most (length image) w in text_back image bank n long (omega (arith, m.1)) are

  good : good_n n ≡ true
  good = rw n-is (whole_good (length image) w)

  module _ (into : List ℕ) (fits : length into ≡ length image) where
    says : read_says (text_of image bank) bank n into ≡ accepted
    unfolding read_says
    says = rw (good, eq-eqb (length into) (sector_size * n) (fits ∙ long), back)

    image_is : (text_read (text_of image bank) bank n into).image ≡ image
    unfolding text_read
    image_is = rw (good, eq-eqb (length into) (sector_size * n) (fits ∙ long), back)

pub round_trip : (write : TextWriter) (read : TextReader) → MeetsWriter write → MeetsHex read → RoundTrip write read
round_trip write read writes reads image bank before into size are fits said =
    let w = whole write writes image bank before said in
    let n : ℕ = length into / sector_size in
    let n-is : n ≡ length image / sector_size = ap (λ (l : ℕ). l / sector_size) fits in
    let text : List ℕ = text_of image bank in
    let kept = accepted_kept text bank n into (says image bank are w n n-is into fits) in
    let r = reads text bank n into in
    let yes = r.keeps (good image bank are w n n-is) kept.fits kept.keeps in
    let one = image_is image bank are w n n-is into fits in
    let same : (read text bank n into).image ≡ image =
    leaves_once (start_of bank) (sector_size * n) (lines text) (length (lines text)) _ _ (r.leaves yes) (rw one at kept.leaves)
    (r.sized ∙ kept.fits) (long image bank are w n n-is) in
    let t = text_is write writes image bank before said in
    record { accepts = rw t yes; same = rw t same; again = ap (λ (l : List ℕ). write l bank before) (rw t same) }

pub texts_tell : (write : TextWriter) → MeetsWriter write → TextsTell write
texts_tell write writes image other bank before buffer size long are too l said heard e =
    let n : ℕ = length image / sector_size in
    let w = whole write writes image bank before said in
    let v = whole write writes other bank buffer heard in
    let t : text_of image bank ≡ text_of other bank = sym (text_is write writes image bank before said) ∙ e ∙ text_is write writes other bank buffer heard in
    let a = back image bank are w n refl in
    let b = back other bank too v n (ap (λ (m : ℕ). m / sector_size) l) in
    ap (λ (d : LinesRead). d.image) (sym a ∙ ap (λ (text : List ℕ). lines_read text bank n) t ∙ b)

-- of the writer and the reader of the contracts
pub text_round_trip : RoundTrip text_writer text_read
text_round_trip = round_trip text_writer text_read writer_meets texts_meet
