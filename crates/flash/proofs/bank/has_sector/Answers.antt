-- `flash::bank::has_sector` meets its contract.
-- Assumes nothing.
use mathlib.Core.Path.{sym, ◌∙◌}
use native.Mathlib.Omega.{arith}
use Rattle.layout.proofs.Layouts.{good_high}
use Rattle.flash.proofs.Sectors.{has_bad, has_ends}
use Rattle.flash.proofs.bank.has_sector.Goals as goal

pub overflow_mul-result : goal.overflow_mul-result
overflow_mul-result c = omega (arith, good_high c.args.k (sym c.good_n.ensures ∙ c.if-good_n.true))

pub returns-then-good_n : goal.returns-then-good_n
returns-then-good_n c = has_ends c.args.bytes c.args.k (sym c.good_n.ensures ∙ c.if-good_n.true)

pub returns-else-good_n : goal.returns-else-good_n
returns-else-good_n c = c.if-good_n.false ∙ has_bad c.args.bytes c.args.k (sym c.good_n.ensures ∙ c.if-good_n.false)
