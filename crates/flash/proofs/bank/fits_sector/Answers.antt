-- `flash::bank::fits_sector` meets its contract.
-- Assumes nothing.
use mathlib.Core.Path.{◌∙◌}
use borrow.Author.Tests.{lt-leb}
use Rattle.flash.proofs.Writes.{fits_long, fits_some}
use Rattle.flash.proofs.bank.fits_sector.Goals as goal

pub returns-then-m-le-SECTOR : goal.returns-then-m-le-SECTOR
returns-then-m-le-SECTOR c = fits_some c.args.m c.if-m-le-SECTOR.true

pub returns-else-m-le-SECTOR : goal.returns-else-m-le-SECTOR
returns-else-m-le-SECTOR c = lt-leb _ _ c.if-m-le-SECTOR.false ∙ fits_long c.args.m c.if-m-le-SECTOR.false
