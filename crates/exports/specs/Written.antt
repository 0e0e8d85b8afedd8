-- What is told to C of the hex text of an image: how long it is, or the number by which 02 §2 refuses it.
-- Assumes nothing.
use Rattle.std.specs.Prelude.{ℕ, ◌≡◌, List, length}
use Rattle.layout.specs.declared.Bank.TheVariants.{Zero}
use Rattle.layout.specs.Said.{code}
use Rattle.rows.specs.Text.{text_of, written_of, buffer_after, length_says, write_says}

abbrev pub IsLengthNumber : List ℕ → ℕ → Type 0
IsLengthNumber image r = r ≡ code (length_says image Zero)

pub record IsWriteNumber (image before : List ℕ) (r : ℕ) (after : List ℕ) : Type 0 where
  pub number_is : r ≡ code (write_says image Zero (length before))
  pub stands : after ≡ buffer_after (written_of image Zero (length before)) before (text_of image Zero)
