-- `exchange::request::read_request` meets its contract.
-- Assumes nothing.
use Rattle.std.specs.Prelude.{Some}
use mathlib.Core.Path.{sym, ap, ◌∙◌}
use Rattle.exchange.specs.Request.{asked_by}
use Rattle.exchange.proofs.Requests.{asked_control}
use Rattle.exchange.proofs.request.read_request.Goals as goal

pub returns-in_default : goal.returns-in_default
unfolding asked_by
returns-in_default c = ap (asked_by _) (sym c.in_default.is ∙ c.read_frame.ensures)

pub returns-in-Control : goal.returns-in-Control
returns-in-Control c =
    asked_control _ _ _ c.by_code.ensures c.parameters.ensures (ap Some (sym c.in-Control.is) ∙ sym c.in-Some.is ∙ c.read_frame.ensures)

pub returns-in-Write : goal.returns-in-Write
unfolding asked_by
returns-in-Write c = ap (asked_by _) (ap Some (sym c.in-Write.is) ∙ sym c.in-Some.is ∙ c.read_frame.ensures)
