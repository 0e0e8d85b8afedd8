-- `night::record::Night::step` meets its contract: each stand has a case of the definition.
-- Assumes nothing.
use Rattle.night.proofs.Calling.{step_unbegun, step_hand, step_finished, step_gave_up}
use Rattle.night.proofs.record.Night.step.Goals as goal

pub returns-in-NotBegun : goal.returns-in-NotBegun
returns-in-NotBegun c = step_unbegun _ _ _ _ _ c.in-NotBegun.is c.told.ensures

pub returns-in-At : goal.returns-in-At
returns-in-At c = step_hand _ _ _ _ _ _ _ _ c.in-At.is c.at_hand.ensures

pub returns-in-Finished : goal.returns-in-Finished
returns-in-Finished c = step_finished _ _ _ _ _ c.in-Finished.is c.over.ensures

pub returns-in-GaveUp : goal.returns-in-GaveUp
returns-in-GaveUp c = step_gave_up _ _ _ _ _ _ _ _ c.in-GaveUp.is c.number.ensures c.over-in-GaveUp.ensures
