-- `client::record::Client::opened` meets its contract.
-- Assumes nothing.
use Rattle.client.proofs.record.Client.opened.Goals as goal

pub returns : goal.returns
returns c = simp c.address_of.ensures
