-- `clean::blank::blank` meets its contract: behind each run those up to there are 0xFF, and all else is as it was.
-- Assumes nothing.
use Rattle.clean.proofs.Blanking.{BlankedTo}
use Rattle.clean.proofs.blank.blank.Given as goal

abbrev pub invariant-loop-i : goal.invariant-loop-i
invariant-loop-i l = BlankedTo l.initial.bank l.runs l.i l.bank
