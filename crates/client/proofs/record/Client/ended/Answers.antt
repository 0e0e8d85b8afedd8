-- `client::record::Client::ended` meets its contract.
-- Assumes nothing.
use Rattle.client.proofs.record.Client.ended.Goals as goal

pub returns : goal.returns
returns c = simp c.none_received.ensures
