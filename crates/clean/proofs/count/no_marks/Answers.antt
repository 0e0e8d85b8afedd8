-- `clean::count::no_marks` meets its contract.
-- Assumes nothing.
use mathlib.Core.Path.{refl}
use Rattle.clean.specs.Walk.{no_marks}
use Rattle.clean.proofs.count.no_marks.Goals as goal

pub returns : goal.returns
unfolding no_marks
returns c = refl
