-- `client::perform::Client::begin` meets its contract.
-- Assumes nothing.
use mathlib.Core.Path.{ap, ◌∙◌}
use Rattle.client.specs.Record.{begun}
use Rattle.client.proofs.record.Client.begin.Goals as goal

pub returns : goal.returns
returns c = c.begun.ensures ∙ ap begun c.starting.ensures
