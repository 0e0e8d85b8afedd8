-- `sender::sectors::Image::new` meets its contract: each way out is a case of the definition.
-- Assumes nothing.
use mathlib.Core.Path.{sym, ◌∙◌}
use native.Mathlib.Omega.{arith}
use Rattle.layout.proofs.Layouts.{good_high}
use Rattle.sender.proofs.Packets.{fault-n, fault-length}
use Rattle.sender.proofs.sectors.Image.new.Goals as goal

pub returns-then-not-good_n : goal.returns-then-not-good_n
returns-then-not-good_n c = fault-n _ _ (sym c.good_n.ensures ∙ c.if-not-good_n.true)

pub overflow_mul-n : goal.overflow_mul-n
overflow_mul-n c = omega (arith, good_high _ (sym c.good_n.ensures ∙ c.if-not-good_n.false))

pub returns-then-bytes-n : goal.returns-then-bytes-n
returns-then-bytes-n c = fault-length _ _ (sym c.good_n.ensures ∙ c.if-not-good_n.false) c.if-bytes-n.true
