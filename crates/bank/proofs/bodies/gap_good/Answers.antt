-- `bank::bodies::gap_good` meets its contract.
-- Assumes nothing.
use mathlib.Core.Path.{refl}
use Rattle.bank.specs.Sound.{asked}
use Rattle.bank.proofs.bodies.gap_good.Goals as goal

pub returns-then-not-outside : goal.returns-then-not-outside
unfolding asked
returns-then-not-outside c = rw c.if-not-outside.true refl

pub returns-else-not-outside : goal.returns-else-not-outside
unfolding asked
returns-else-not-outside c = rw c.if-not-outside.false c.blank.ensures
