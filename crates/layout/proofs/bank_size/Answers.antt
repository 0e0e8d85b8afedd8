-- `layout::bank_size` meets its contract.
-- Assumes nothing.
use mathlib.Core.Path.{sym, ◌∙◌}
use native.Mathlib.Omega.{arith}
use Rattle.layout.proofs.Layouts.{good_high, size_bad, size_good}
use Rattle.layout.proofs.bank_size.Goals as goal

pub returns-then-not-good_n : goal.returns-then-not-good_n
returns-then-not-good_n c = sym (size_bad c.args.n (sym c.good_n.ensures ∙ c.if-not-good_n.true))

pub overflow_mul-result : goal.overflow_mul-result
overflow_mul-result c = omega (arith, good_high c.args.n (sym c.good_n.ensures ∙ c.if-not-good_n.false))

pub returns : goal.returns
returns c = sym (size_good c.args.n (sym c.good_n.ensures ∙ c.if-not-good_n.false))
