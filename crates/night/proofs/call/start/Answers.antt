-- `night::call::start` meets its contract: each way out is a case of the definition.
-- Assumes nothing.
use mathlib.Core.Path.{sym, ◌∙◌}
use Rattle.night.proofs.Calling.{start_refused, start_gone}
use Rattle.night.proofs.Lending.{lent}
use Rattle.night.proofs.call.start.Goals as goal

pub goes_on-requires : goal.goes_on-requires
goes_on-requires c =
    let found = lent _ _ _ _ _ _ (sym c.in-Ok.is ∙ c.look.ensures) in
    record { n_value = found.good; n_value_2 = found.whole; room_in_bounds = found.roomy; stand_bound = found.there }

pub returns-in-Err : goal.returns-in-Err
returns-in-Err c = start_refused _ _ _ _ _ _ _ (sym c.in-Err.is ∙ c.look.ensures) c.told.ensures

pub returns-in-Ok : goal.returns-in-Ok
returns-in-Ok c = start_gone _ _ _ _ _ _ _ _ (sym c.in-Ok.is ∙ c.look.ensures) c.goes_on.ensures
