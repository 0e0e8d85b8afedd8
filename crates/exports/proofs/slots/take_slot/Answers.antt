-- `exports::slots::take_slot` meets its contract: the part of the slots behind the length is the datagram, and a part of the addresses is its own.
-- Assumes nothing.
use Rattle.exports.proofs.Taking.{slot_stepped}
use Rattle.exports.proofs.slots.take_slot.Goals as goal

pub returns : goal.returns
returns c = slot_stepped _ _ _ c.size_at.result c.size_at.ensures c.step.ensures
