-- `layout::sectors` meets its contract.
-- Assumes nothing.
use mathlib.Core.Path.{sym, ◌∙◌}
use Rattle.layout.proofs.Layouts.{sectors_odd, sectors_good, sectors_bad, sectors_is}
use Rattle.layout.proofs.sectors.Goals as goal

pub returns-then-length-ne0 : goal.returns-then-length-ne0
returns-then-length-ne0 c = sectors_is _ (sectors_odd c.args.length c.if-length-ne0.true)

pub returns-then-good_n : goal.returns-then-good_n
returns-then-good_n c =
    sectors_is _ (sectors_good c.args.length c.if-length-ne0.false (sym c.good_n.ensures ∙ c.if-good_n.true))

pub returns-else-good_n : goal.returns-else-good_n
returns-else-good_n c =
    sectors_is _ (sectors_bad c.args.length c.if-length-ne0.false (sym c.good_n.ensures ∙ c.if-good_n.false))
