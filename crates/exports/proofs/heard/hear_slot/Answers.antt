-- `exports::heard::hear_slot` meets its contract: the part of the slots behind the length is the response.
-- Assumes nothing.
use Rattle.exports.proofs.Hearing.{slot_heard}
use Rattle.exports.proofs.heard.hear_slot.Goals as goal

pub returns : goal.returns
returns c = slot_heard _ _ c.size_at.result c.size_at.ensures c.heard.ensures
