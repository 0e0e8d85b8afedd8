-- `bank::stretch::count` meets its contract.
-- Assumes nothing.
use mathlib.Core.Path.{◌∙◌}
use Rattle.layout.proofs.Layouts.{whole_some}
use Rattle.bank.proofs.Listed.{count_refused, listed_count}
use Rattle.bank.proofs.stretch.count.Goals as goal

pub returns-then-is_none : goal.returns-then-is_none
returns-then-is_none c = count_refused _ (whole_some _ c.sectors.ensures ∙ c.if-is_none.ensures)

pub listed-requires : goal.listed-requires
listed-requires c = whole_some _ c.sectors.ensures ∙ c.if-is_none.ensures

pub returns : goal.returns
returns c = listed_count _ _ (rw c.listed.ensures at c.unwrap_or.ensures)
