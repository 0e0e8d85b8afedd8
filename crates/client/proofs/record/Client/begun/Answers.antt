-- `client::record::Client::begun` meets its contract.
-- Assumes nothing.
use Rattle.client.proofs.record.Client.begun.Goals as goal

pub returns : goal.returns
returns c = simp c.none_received.ensures
