-- `bank::bodies::fits_at` meets its contract.
-- Assumes nothing.
use Rattle.bank.proofs.Stretches.{fits_empty, fits_early, fits_last}
use Rattle.bank.proofs.bodies.fits_at.Goals as goal

pub returns-then-stretch-lt1 : goal.returns-then-stretch-lt1
returns-then-stretch-lt1 c = fits_empty _ _ _ c.if-stretch-lt1.true

pub returns-then-stretch-at : goal.returns-then-stretch-at
returns-then-stretch-at c = fits_early _ _ _ c.if-stretch-lt1.false c.if-stretch-at.true

pub returns : goal.returns
returns c = rw c.end.ensures (fits_last _ _ _ c.if-stretch-lt1.false c.if-stretch-at.false)
