-- The text by positions, as the code goes over image and text.
-- Assumes nothing.
use Rattle.std.specs.Prelude.{◌≡◌, ℕ, suc, ◌+◌, ◌*◌, ◌%◌, ◌<◌, ◌≤◌, true, List, length}
use Rattle.std.proofs.lemmas.List.Edits.{sets}
use Rattle.buffer.specs.Total.{total}
use Rattle.digits.specs.Spelt.{digits_spelt}
use Rattle.layout.specs.declared.Bank.{Bank}
use Rattle.layout.specs.Layout.{whole_length}
use Rattle.rows.specs.declared.text.Reached.{Reached}
use Rattle.rows.specs.Text.{row_size, told_before, rows_text, text_of}

-- bytes as digits from a place on, and the sum so far with theirs
pub record Spelt (bytes : List ℕ) (sum : ℕ) (before : List ℕ) (at r : ℕ) (after : List ℕ) : Type 0 where
  pub put : after ≡ sets before at (digits_spelt bytes)
  pub added : r ≡ (sum + total bytes) % 256

-- how far the text goes behind the first k rows, and the upper half told last
abbrev pub reached_at : List ℕ → ℕ → ℕ → Reached
reached_at image base k = record { told = told_before image base k; at = length (rows_text image base k) }

-- an image and its address: numbers so small that no sum of the code is too large
pub record ImageFits (image : List ℕ) (base : ℕ) : Type 0 where
  pub base_small : base < 4294967296
  pub image_small : length image < 4294967296

-- row k lies within it, and the text is known up to there
pub record RowFits (image : List ℕ) (base k : ℕ) (reached : Reached) : Type 0 where
  pub fits : ImageFits image base
  pub inside : suc k * row_size ≤ length image
  pub so_far : reached ≡ reached_at image base k

-- an image of a bank, and room for its whole text
pub record Room (image : List ℕ) (bank : Bank) (text : List ℕ) : Type 0 where
  pub whole : whole_length (length image) ≡ true
  pub enough : length (text_of image bank) ≤ length text
