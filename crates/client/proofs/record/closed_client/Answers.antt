-- `client::record::closed_client` meets its contract.
-- Assumes nothing.
use Rattle.client.proofs.record.closed_client.Goals as goal

pub returns : goal.returns
returns c = simp (c.none_received.ensures, c.nobody.ensures)
