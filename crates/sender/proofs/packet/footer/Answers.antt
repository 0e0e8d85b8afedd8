-- `sender::packet::footer` meets its contract: each way out is a case of the definition.
-- Assumes nothing.
use borrow.Author.Tests.{eq-eqb, ne_eqb}
use Rattle.sender.specs.Packet.{footer_of}
use Rattle.sender.proofs.packet.footer.Goals as goal

pub returns-then-p-count : goal.returns-then-p-count
unfolding footer_of
returns-then-p-count c = simp (eq-eqb _ _ c.if-p-count.true)

pub returns-else-p-count : goal.returns-else-p-count
unfolding footer_of
returns-else-p-count c = simp (ne_eqb _ _ c.if-p-count.false)
