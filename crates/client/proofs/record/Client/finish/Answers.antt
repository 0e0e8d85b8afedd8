-- `client::perform::Client::finish` meets its contract.
-- Assumes nothing.
use Rattle.client.proofs.record.Client.finish.Goals as goal

pub returns : goal.returns
returns c = rw (← c.sweep.ensures) c.checked.ensures
