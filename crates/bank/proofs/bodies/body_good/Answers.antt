-- `bank::bodies::body_good` meets its contract.
-- Assumes nothing.
use mathlib.Core.Path.{ap}
use Prim.Native.Nat.{ℕ}
use lib.Dec.{eqb}
use Rattle.bank.specs.Sound.{body_good}
use Rattle.bank.proofs.bodies.body_good.Goals as goal

pub returns : goal.returns
unfolding body_good
returns c = ap (λ (r : ℕ). eqb r (c.args.entry.crc)) (rw c.end.ensures at c.crc32.ensures)
