-- `exports::slots::slots_good` meets its contract: at each turn the first k slots are good.
-- Assumes nothing.
use mathlib.Core.Path.{◌≡◌}
use mathlib.Core.Bool.{true}
use Rattle.exports.specs.Slots.{slots_good}
use Rattle.exports.proofs.slots.slots_good.Given as goal

abbrev pub invariant-loop-k : goal.invariant-loop-k
invariant-loop-k l = slots_good l.slots l.k ≡ true
