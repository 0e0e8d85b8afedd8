-- `hex_text::pair::pair_at` meets its contract.
-- Assumes nothing.
use Rattle.digits.specs.Digit.{is_digit}
use Rattle.hex_text.proofs.pair.pair_at.Goals as goal

pub returns : goal.returns
unfolding is_digit
returns c = rw (c.value.ensures, c.value-2.ensures)
