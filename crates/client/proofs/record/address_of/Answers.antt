-- `client::record::address_of` meets its contract.
-- Assumes nothing.
use mathlib.Core.Path.{◌∙◌}
use Rattle.buffer.proofs.Places.{front_whole}
use Rattle.client.proofs.record.address_of.Goals as goal

pub returns : goal.returns
returns c = c.put_front.ensures ∙ front_whole _ c.args.address.now c.requires
