-- `exchange::request::counted_as` meets its contract.
-- Assumes nothing.
use mathlib.Core.Path.{sym, ◌∙◌}
use Rattle.exchange.proofs.Requests.{counted_right, counted_wrong}
use Rattle.exchange.proofs.request.counted_as.Goals as goal

pub returns-then-n-parameter_bytes : goal.returns-then-n-parameter_bytes
returns-then-n-parameter_bytes c = counted_wrong _ _ _ (λ q. c.if-n-parameter_bytes.true (q ∙ sym c.parameter_bytes.ensures))

pub returns : goal.returns
returns c =
    counted_right _ _ _ (c.if-n-parameter_bytes.false ∙ c.parameter_bytes.ensures) c.number.ensures c.number-2.ensures
