-- `night::record::behind_packet` meets its contract: each way out is a case of the definition.
-- Assumes nothing.
use mathlib.Core.Path.{◌∙◌}
use Rattle.night.proofs.Moving.{next_packet, last_packet}
use Rattle.night.proofs.record.behind_packet.Goals as goal

pub returns-then-p-count : goal.returns-then-p-count
returns-then-p-count c = c.first.ensures ∙ next_packet _ _ c.if-p-count.true

pub returns : goal.returns
returns c = c.first-2.ensures ∙ last_packet _ _ c.if-p-count.false
