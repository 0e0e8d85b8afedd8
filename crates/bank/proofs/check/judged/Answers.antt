-- `bank::check::judged` meets its contract: each way out is a case of the definition.
-- Assumes nothing.
use mathlib.Core.Path.{sym, ◌∙◌}
use Rattle.layout.proofs.Layouts.{whole_some}
use Rattle.bank.specs.Sound.{judged}
use Rattle.bank.proofs.check.judged.Goals as goal

pub returns-then-is_none : goal.returns-then-is_none
unfolding judged
returns-then-is_none c = rw (whole_some _ c.sectors.ensures ∙ c.if-is_none.ensures)

pub rules_kept-requires : goal.rules_kept-requires
rules_kept-requires c = whole_some _ c.sectors.ensures ∙ c.if-is_none.ensures

pub returns-then-not-rules_kept : goal.returns-then-not-rules_kept
unfolding judged
returns-then-not-rules_kept c =
    rw (whole_some _ c.sectors.ensures ∙ c.if-is_none.ensures, sym c.rules_kept.ensures ∙ c.if-not-rules_kept.true)

pub returns : goal.returns
unfolding judged
returns c =
    rw (whole_some _ c.sectors.ensures ∙ c.if-is_none.ensures, sym c.rules_kept.ensures ∙ c.if-not-rules_kept.false)
