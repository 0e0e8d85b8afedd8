-- `client::record::Client::left` meets its contract.
-- Assumes nothing.
use Rattle.client.proofs.record.Client.left.Goals as goal

pub returns : goal.returns
returns c = simp (c.none_received.ensures, c.nobody.ensures)
