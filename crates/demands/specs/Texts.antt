-- What is asked of a reader of hex text, whatever it is (01, 'Hex text'; 'What comes back when it is no', "then the H faults"; 02 §1, the byte).
-- Assumes nothing.
use Rattle.std.specs.Prelude.{◌≡◌, true, false, List, ℕ, ◌*◌, length, replicate, Result, Ok, Err}
use Rattle.layout.specs.declared.Bank.{Bank}
use Rattle.layout.specs.Layout.{sector_size, good_n, start_of}
use Rattle.layout.specs.Said.{number, fault, accepted}
use Rattle.lines.specs.Line.{lines}
use Rattle.hex_text.specs.declared.fault.Refusal.{Refusal}
use Rattle.hex_text.specs.declared.read.ReadError.{ReadError}
use Rattle.hex_text.specs.declared.read.ReadError.TheVariants.{BadN, BadLength, Line}
use Rattle.hex_text.specs.Meaning.{KeepsAll, FirstBroken, Leaves}
use Rattle.hex_text.specs.Read.{Reading, kind_number, answer_said, text_read}

-- text, bank, N, image
abbrev pub TextReader : Type 0
TextReader = List ℕ → Bank → ℕ → List ℕ → Reading

-- what comes of a text is said in 01's numbers, and leaves an image
pub record ReadRight (text : List ℕ) (bank : Bank) (n : ℕ) (image : List ℕ) (r : Reading) : Type 0 where
  -- 3, then 2, and the image stays
  pub bad_n : good_n n ≡ false → answer_said r.answer ≡ number 3
  pub bad_length : good_n n ≡ true → (length image ≡ sector_size * n → ⊥) → answer_said r.answer ≡ number 2
  pub stays : (m : ℕ) → answer_said r.answer ≡ number m → r.image ≡ image
  -- a text that keeps every rule is accepted, and no other; its bytes are there, and 0xFF elsewhere
  pub keeps : good_n n ≡ true → length image ≡ sector_size * n → KeepsAll (start_of bank) (sector_size * n) (lines text)
      → answer_said r.answer ≡ accepted
  pub kept : answer_said r.answer ≡ accepted → KeepsAll (start_of bank) (sector_size * n) (lines text)
  pub leaves : answer_said r.answer ≡ accepted → Leaves (start_of bank) (sector_size * n) (lines text) (length (lines text)) r.image
  -- any other is refused by its first broken rule at its first line that breaks one and the byte of that, and for that alone; the image is all 0xFF
  pub breaks : good_n n ≡ true → length image ≡ sector_size * n → (k l byte : ℕ) → FirstBroken (start_of bank) (sector_size * n) (lines text) k l byte
      → answer_said r.answer ≡ fault k l byte
  pub broken : (k l byte : ℕ) → answer_said r.answer ≡ fault k l byte → FirstBroken (start_of bank) (sector_size * n) (lines text) k l byte
  pub erased : (k l byte : ℕ) → answer_said r.answer ≡ fault k l byte → r.image ≡ replicate (length image) 0xFF
  -- the image keeps its length
  pub sized : length r.image ≡ length image

abbrev pub MeetsHex : TextReader → Type 0
MeetsHex read = (text : List ℕ) (bank : Bank) (n : ℕ) (image : List ℕ) → ReadRight text bank n image (read text bank n image)

-- one that invents the line: of any two texts that it refuses for the same bank, N and image, by whatever fault, it names the same
abbrev pub InventsLine : TextReader → Type 0
InventsLine read =
    (text other : List ℕ) (bank : Bank) (n : ℕ) (image : List ℕ) (k l a j m b : ℕ)
    → answer_said (read text bank n image).answer ≡ fault k l a → answer_said (read other bank n image).answer ≡ fault j m b → l ≡ m

-- one that invents the byte: of any two texts that it refuses so by the same fault at the same line it names the same
abbrev pub InventsByte : TextReader → Type 0
InventsByte read =
    (text other : List ℕ) (bank : Bank) (n : ℕ) (image : List ℕ) (k l a b : ℕ)
    → answer_said (read text bank n image).answer ≡ fault k l a → answer_said (read other bank n image).answer ≡ fault k l b → a ≡ b

-- one of each kind: it answers as the definition does, but tells a refusal anew
abbrev pub retold : (Refusal → Refusal) → Result (Unit {0}) ReadError → Result (Unit {0}) ReadError
retold tells (Err BadN) = Err BadN
retold tells (Err BadLength) = Err BadLength
retold tells (Err (Line r)) = Err (Line (tells r))
retold tells (Ok done) = Ok done

abbrev pub retelling : (Bank → ℕ → List ℕ → Refusal → Refusal) → TextReader
retelling tells text bank n image =
    record { answer = retold (tells bank n image) (text_read text bank n image).answer; image = (text_read text bank n image).image }

-- the line comes from bank, N and image alone
abbrev pub line_inventor : (Bank → ℕ → List ℕ → ℕ) → TextReader
line_inventor names = retelling (λ bank n image r. record { kind = r.kind; line = names bank n image; byte = r.byte })

-- or the byte from these, the fault and the line
abbrev pub byte_inventor : (Bank → ℕ → List ℕ → ℕ → ℕ → ℕ) → TextReader
byte_inventor names =
    retelling (λ bank n image r. record { kind = r.kind; line = r.line; byte = names bank n image (kind_number r.kind) r.line })
