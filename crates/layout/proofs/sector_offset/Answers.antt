-- `layout::sector_offset` meets its contract.
-- Assumes nothing.
use mathlib.Core.Path.{sym, ◌∙◌}
use native.Mathlib.Omega.{arith}
use Rattle.layout.proofs.Layouts.{good_low, good_high, offset_bad, offset_good}
use Rattle.layout.proofs.sector_offset.Goals as goal

pub returns-then-not-good_n : goal.returns-then-not-good_n
returns-then-not-good_n c = offset_bad c.args.k (sym c.good_n.ensures ∙ c.if-not-good_n.true)

pub overflow_sub-result : goal.overflow_sub-result
overflow_sub-result c = good_low c.args.k (sym c.good_n.ensures ∙ c.if-not-good_n.false)

pub overflow_mul-result : goal.overflow_mul-result
overflow_mul-result c = omega (arith, good_high c.args.k (sym c.good_n.ensures ∙ c.if-not-good_n.false))

pub returns : goal.returns
returns c = offset_good c.args.k (sym c.good_n.ensures ∙ c.if-not-good_n.false)
