-- The reader of hex text is as asked, and one that invents the line or the byte is shut out.
-- Assumes nothing.
use mathlib.Core.Path.{◌≡◌, refl, sym, ◌∙◌}
use mathlib.Core.Bool.{true}
use mathlib.Core.List.{List, [], ◌∷◌}
use Prim.Native.Nat.{ℕ, ◌*◌}
use native.Mathlib.Omega.{arith}
use lib.ListN.{length, replicate, length-replicate}
use Rattle.std.specs.Prelude.{Result, Ok, Err}
use Rattle.buffer.specs.Total.{total}
use Rattle.buffer.proofs.Bools.{no_way}
use Rattle.layout.specs.declared.Bank.{Bank}
use Rattle.layout.specs.declared.Bank.TheVariants.{Zero}
use Rattle.layout.specs.Layout.{sector_size, good_n, start_of}
use Rattle.layout.specs.Said.{fault}
use Rattle.lines.specs.Line.{lines}
use Rattle.hex_text.specs.declared.fault.Refusal.{Refusal}
use Rattle.hex_text.specs.declared.read.ReadError.{ReadError}
use Rattle.hex_text.specs.declared.read.ReadError.TheVariants.{BadN, BadLength, Line}
use Rattle.digits.specs.Digit.{value_of, is_digit}
use Rattle.hex_text.specs.Spell.{byte_of, digit_bytes}
use Rattle.hex_text.specs.Meaning.{FirstBroken}
use Rattle.hex_text.specs.Read.{read_lines, kind_number, answer_said, read_says, text_read}
use Rattle.hex_text.specs.Record.{digits_in, digits_whole, record_of, data_at, typed, found_of}
use Rattle.hex_text.proofs.Meaning.{answer_said_lem, says_3, says-2, unread, kept-accepted, broken-refused, accepted_kept, refused_broken, read_length}
use Rattle.demands.specs.Texts.{TextReader, MeetsHex, InventsLine, InventsByte, retold, line_inventor, byte_inventor}

pub texts_meet : MeetsHex text_read
texts_meet text bank n image =
    let said = answer_said_lem text bank n image in
    record {
      bad_n = λ g. said ∙ says_3 text bank n image g;
      bad_length = λ g w. said ∙ says-2 text bank n image g w;
      stays = λ m a. unread text bank n image m (sym said ∙ a);
      keeps = λ g w k. said ∙ kept-accepted text bank n image g w k;
      kept = λ a. (accepted_kept text bank n image (sym said ∙ a)).keeps;
      leaves = λ a. (accepted_kept text bank n image (sym said ∙ a)).leaves;
      breaks = λ g w k l byte b. said ∙ broken-refused text bank n image g w b;
      broken = λ k l byte a. (refused_broken text bank n image k l byte (sym said ∙ a)).breaks;
      erased = λ k l byte a. (refused_broken text bank n image k l byte (sym said ∙ a)).erased;
      sized = read_length text bank n image;
    }

-- ---- shut out: one that names the same line for every text that it refuses

-- the end record, and a blank line behind it
unfoldable two_lines : List ℕ
two_lines = 0x3A ∷ 48 ∷ 48 ∷ 48 ∷ 48 ∷ 48 ∷ 48 ∷ 48 ∷ 49 ∷ 70 ∷ 70 ∷ 0x0A ∷ 0x0A ∷ []

-- a bank of one sector
unfoldable image : List ℕ
image = replicate 512 0

one_good : good_n 1 ≡ true
unfolding good_n
one_good = refl

size : length image ≡ sector_size * 1
unfolding image
size = length-replicate {A = ℕ} 512 0

-- the empty text has H6 at line 1, the other at line 2
empty_line : FirstBroken (start_of Zero) (sector_size * 1) (lines []) 6 1 1
unfolding read_says good_n image read_lines lines
empty_line = (refused_broken [] Zero 1 image 6 1 1 refl).breaks

second_line : FirstBroken (start_of Zero) (sector_size * 1) (lines two_lines) 6 2 1
unfolding two_lines read_says good_n image read_lines lines found_of record_of digits_whole digits_in typed data_at digit_bytes byte_of is_digit value_of total
second_line = (refused_broken two_lines Zero 1 image 6 2 1 refl).breaks

pub no_line_inventor : (read : TextReader) → InventsLine read → MeetsHex read → ⊥
no_line_inventor read invents meets =
    let first = (meets [] Zero 1 image).breaks one_good size 6 1 1 empty_line in
    let second = (meets two_lines Zero 1 image).breaks one_good size 6 2 1 second_line in
    let same : ◌≡◌ {A = ℕ} 1 2 = invents [] two_lines Zero 1 image 6 1 1 6 2 1 first second in
    omega arith

-- what is said of a refusal that is told anew
record Told (tells : Refusal → Refusal) (k l b : ℕ) : Type 0 where
  why : Refusal
  kind_is : kind_number (tells why).kind ≡ k
  line_is : (tells why).line ≡ l
  byte_is : (tells why).byte ≡ b

told : (tells : Refusal → Refusal) (answer : Result (Unit {0}) ReadError) {k l b : ℕ} → answer_said (retold tells answer) ≡ fault k l b → Told tells k l b
told tells (Err BadN) e = no_way (cc)
told tells (Err BadLength) e = no_way (cc)
told tells (Err (Line r)) e = record { why = r; kind_is = cc; line_is = cc; byte_is = cc }
told tells (Ok done) e = no_way (cc)

-- one of that kind
pub invents_line : (names : Bank → ℕ → List ℕ → ℕ) → InventsLine (line_inventor names)
invents_line names text other bank n image k l a j m b e f =
    let x = told _ (text_read text bank n image).answer e in
    let y = told _ (text_read other bank n image).answer f in
    sym x.line_is ∙ y.line_is

-- ---- shut out: one that names the same byte for all texts that it refuses by the same fault at the same line

-- a blank line has H1 at byte 1, a colon alone at byte 2
blank_line : FirstBroken (start_of Zero) (sector_size * 1) (lines (0x0A ∷ [])) 1 1 1
unfolding read_says good_n image read_lines lines found_of record_of
blank_line = (refused_broken (0x0A ∷ []) Zero 1 image 1 1 1 refl).breaks

colon_alone : FirstBroken (start_of Zero) (sector_size * 1) (lines (0x3A ∷ [])) 1 1 2
unfolding read_says good_n image read_lines lines found_of record_of digits_whole digits_in byte_of is_digit value_of
colon_alone = (refused_broken (0x3A ∷ []) Zero 1 image 1 1 2 refl).breaks

pub no_byte_inventor : (read : TextReader) → InventsByte read → MeetsHex read → ⊥
no_byte_inventor read invents meets =
    let first = (meets (0x0A ∷ []) Zero 1 image).breaks one_good size 1 1 1 blank_line in
    let second = (meets (0x3A ∷ []) Zero 1 image).breaks one_good size 1 1 2 colon_alone in
    let same : ◌≡◌ {A = ℕ} 1 2 = invents (0x0A ∷ []) (0x3A ∷ []) Zero 1 image 1 1 1 2 first second in
    omega arith

-- one of that kind
pub invents_byte : (names : Bank → ℕ → List ℕ → ℕ → ℕ → ℕ) → InventsByte (byte_inventor names)
invents_byte names text other bank n image k l a b e f =
    let x = told _ (text_read text bank n image).answer e in
    let y = told _ (text_read other bank n image).answer f in
    let first : names bank n image k l ≡ a = rw (x.kind_is, x.line_is) at x.byte_is in
    let second : names bank n image k l ≡ b = rw (y.kind_is, y.line_is) at y.byte_is in
    sym first ∙ second
