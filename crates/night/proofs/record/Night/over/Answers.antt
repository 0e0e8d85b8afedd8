-- `night::record::Night::over` meets its contract: each way out is a case of the definition.
-- Assumes nothing.
use mathlib.Core.Path.{sym, ◌∙◌}
use Rattle.night.proofs.Calling.{over_refused, over_told}
use Rattle.night.proofs.record.Night.over.Goals as goal

pub returns-in-Err : goal.returns-in-Err
returns-in-Err c = over_refused _ _ _ _ _ _ _ (sym c.in-Err.is ∙ c.look.ensures) c.told.ensures

pub returns-in-Ok : goal.returns-in-Ok
returns-in-Ok c = over_told _ _ _ _ _ _ _ (sym c.in-Ok.is ∙ c.look.ensures) c.told-in-Ok.ensures
