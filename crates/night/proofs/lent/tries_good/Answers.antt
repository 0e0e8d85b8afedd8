-- `night::lent::tries_good` meets its contract: the test is the definition.
-- Assumes nothing.
use mathlib.Core.Path.{refl}
use Rattle.night.specs.Lent.{tries_good}
use Rattle.night.proofs.lent.tries_good.Goals as goal

pub returns : goal.returns
unfolding tries_good
returns c = refl
