-- `night::judge::fields_awaited` meets its contract: the test is the definition.
-- Assumes nothing.
use mathlib.Core.Path.{refl}
use Rattle.night.specs.Judge.{fields_awaited}
use Rattle.night.proofs.judge.fields_awaited.Goals as goal

pub returns : goal.returns
unfolding fields_awaited
returns c = refl
