-- Numbers told in a list with room for them, and nothing done without it: of a hex text, and of a bank that is cleaned.
-- Assumes nothing.
use mathlib.Core.Path.{◌≡◌, sym, ap, ◌∙◌}
use mathlib.Core.List.{List, [], ◌∷◌}
use Prim.Native.Nat.{ℕ, ◌≤◌, ◌<◌}
use lib.ListN.{length, set}
use borrow.Author.Tests.{le-leb, lt-leb}
use Rattle.buffer.proofs.Places.{front_short, sets_front}
use Rattle.layout.specs.declared.Bank.TheVariants.{Zero}
use Rattle.layout.specs.Said.{Said, code, place_said}
use Rattle.std.specs.Prelude.{Result}
use Rattle.hex_text.specs.declared.read.ReadError.{ReadError}
use Rattle.hex_text.specs.Read.{answer_said, IsRead}
use Rattle.clean.specs.declared.Counts.{Counts}
use Rattle.clean.specs.Clean.{Cleaned, cleaned_said, IsClean}
use Rattle.exports.specs.Cleaned.{told_of, IsCleanNumbers}
use Rattle.exports.specs.Text.{IsReadNumbers}

-- A TEXT: the number, the line and the byte
pub not_told : {text : List ℕ} {n : ℕ} {image told : List ℕ} → length told < 3 → IsReadNumbers text n image told 2 image told
not_told {told = told} h =
    let no = lt-leb 3 (length told) h in
    record { number_is = rw no; image_is = rw no; told_is = sym (front_short told _ h) }

pub all_told : {text : List ℕ} {n : ℕ} {image told image' : List ℕ} {answer : Result (Unit {0}) ReadError} {number line byte : ℕ}
    → 3 ≤ length told → IsRead text Zero n image image' answer
    → number ≡ code (answer_said answer) → line ≡ (place_said (answer_said answer)).line → byte ≡ (place_said (answer_said answer)).byte
    → IsReadNumbers text n image told number image' (set (set (set told 0 number) 1 line) 2 byte)
all_told {told = told} {number = number} {line = line} {byte = byte} h r e f g =
    let yes = le-leb 3 (length told) h in
    let a = e ∙ ap code r.said in
    let b = f ∙ ap (λ (s : Said). (place_said s).line) r.said in
    let c = g ∙ ap (λ (s : Said). (place_said s).byte) r.said in
    record {
      number_is = rw yes a;
      image_is = rw yes r.image;
      told_is = sets_front told (number ∷ line ∷ byte ∷ []) h ∙ rw (a, b, c);
    }

-- A BANK
module _ {b runs sectors told : List ℕ} where
  pub not_counted : length told < 2 → IsCleanNumbers b runs sectors told 2 b runs sectors told
  not_counted h =
      let no = lt-leb 2 (length told) h in
      record { number_is = rw no; bank_is = rw no; runs_is = rw no; sectors_is = rw no; told_is = sym (front_short told _ h) }

  pub all_counted :
      {answer : Cleaned} {bank' runs' sectors' : List ℕ} {number : ℕ} {counts : Counts} → 2 ≤ length told → IsClean b runs sectors answer bank' runs' sectors'
      → number ≡ code (cleaned_said answer) → counts ≡ told_of answer
      → IsCleanNumbers b runs sectors told number bank' runs' sectors' (set (set told 0 counts.runs) 1 counts.sectors)
  all_counted {number = number} {counts = counts} h r e f =
      let yes = le-leb 2 (length told) h in
      let k = f ∙ ap told_of r.answered in
      record {
        number_is = rw yes (e ∙ ap code r.says);
        bank_is = rw yes r.bank_then;
        runs_is = rw yes r.runs_then;
        sectors_is = rw yes r.sectors_then;
        told_is = sets_front told (counts.runs ∷ counts.sectors ∷ []) h ∙ rw k;
      }
