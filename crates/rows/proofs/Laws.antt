-- What 02 §2 says of the text beside its definition: where an upper half is told, that no row has two, what a blank image gives.
-- Assumes nothing.
use Rattle.std.proofs.Common.{◌≡◌, ℕ, zero, suc, ◌+◌, ◌*◌, ◌/◌, ◌<◌, true, false, List, [], ◌++◌, length, refl, ◌∙◌, arith}
use Rattle.buffer.specs.Compare.{blank_of}
use Rattle.buffer.proofs.Comparing.{blank_part}
use Rattle.layout.specs.declared.Bank.{Bank}
use Rattle.layout.specs.declared.Bank.TheVariants.{Zero, One}
use Rattle.layout.specs.Layout.{start_of}
use Rattle.rows.specs.Text.{row_size, row_of, row_address, row_upper, data_line, upper_line, end_line, told_before, row_text, rows_text, text_of}
use Rattle.rows.proofs.Rows.{upper_same, upper_other, text_blank, text_told}
use Rattle.rows.proofs.Texts.{text_length}

-- THE UPPER HALF of a row of a bank is never 0, and every byte of the row has it
module _ (k : ℕ) where
  pub upper_some : (bank : Bank) → 0 < row_upper (start_of bank) k
  upper_some Zero = omega arith
  upper_some One = omega arith

  pub row_within : (bank : Bank) (j : ℕ) → j < row_size → (row_address (start_of bank) k + j) / 65536 ≡ row_upper (start_of bank) k
  row_within Zero j h = omega arith
  row_within One j h = omega arith

-- A ROW'S LINES: "a type 04 record before the first row and at each change of the upper half", and nowhere else
none_told : (image : List ℕ) (base k : ℕ) → ((j : ℕ) → j < k → blank_of (row_of image j) ≡ true) → told_before image base k ≡ 0
unfolding told_before
none_told image base zero f = refl
none_told image base (suc k) f = rw (f k (omega arith)) (none_told image base k (λ j h. f j (omega arith)))

module _ (image : List ℕ) (bank : Bank) (k : ℕ) (b : blank_of (row_of image k) ≡ false) where
  abbrev base : ℕ
  base = start_of bank

  pub half_changes : (row_upper base k ≡ told_before image base k → ⊥) → row_text image base k ≡ upper_line (row_upper base k) ++ data_line image base k
  half_changes n = text_told image base k b ∙ rw (upper_other (told_before image base k) (row_upper base k) n)

  pub half_stays : row_upper base k ≡ told_before image base k → row_text image base k ≡ data_line image base k
  half_stays e = text_told image base k b ∙ rw (upper_same (told_before image base k) (row_upper base k) e)

  pub first_row : ((j : ℕ) → j < k → blank_of (row_of image j) ≡ true) → row_text image base k ≡ upper_line (row_upper base k) ++ data_line image base k
  first_row f = half_changes (λ e. let t = none_told image base k f in omega (arith, upper_some k bank))

-- A BLANK IMAGE gives the end record alone
module _ (image : List ℕ) (b : blank_of image ≡ true) where
  blank_rows : (base k : ℕ) → rows_text image base k ≡ []
  unfolding rows_text row_of
  blank_rows base zero = refl
  blank_rows base (suc k) = rw (blank_rows base k, text_blank image base k (blank_part image (k * row_size) row_size b))

  pub blank_text : (bank : Bank) → text_of image bank ≡ end_line
  unfolding text_of
  blank_text bank = rw (blank_rows (start_of bank) (length image / row_size))

-- THE SHORTEST TEXT is longer than the number 2 that stands for a refusal
pub text_some : (image : List ℕ) (bank : Bank) → 2 < length (text_of image bank)
text_some image bank = let l = text_length image bank refl in omega arith
