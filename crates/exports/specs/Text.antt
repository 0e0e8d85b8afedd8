-- What is told to C of a hex text for bank 0: a number, the line and the byte in it (01, 'Hex text'; 02 §1).
-- Assumes nothing.
use Rattle.std.specs.Prelude.{ℕ, ◌≡◌, Bool, cond, List, [], ◌∷◌, leb, length}
use Rattle.buffer.specs.Place.{front_of}
use Rattle.layout.specs.declared.Bank.TheVariants.{Zero}
use Rattle.layout.specs.Said.{Said, code, place_said}
use Rattle.hex_text.specs.Read.{read_says, text_read}

-- the number, "The first faulty line" and "the byte in the line"
abbrev pub numbers_of : Said → List ℕ
numbers_of said = code said ∷ (place_said said).line ∷ (place_said said).byte ∷ []

-- whether there is room for the three; if not, the text is not read
abbrev pub room_to_tell : List ℕ → Bool
room_to_tell told = leb 3 (length told)

pub record IsReadNumbers (text : List ℕ) (n : ℕ) (image told : List ℕ) (r : ℕ) (image' told' : List ℕ) : Type 0 where
  pub number_is : r ≡ cond (room_to_tell told) (code (read_says text Zero n image)) 2
  pub image_is : image' ≡ cond (room_to_tell told) (text_read text Zero n image).image image
  pub told_is : told' ≡ front_of told (numbers_of (read_says text Zero n image))
