-- `bank::check::rules_kept` meets its contract: each way out is a case of the definition.
-- Assumes nothing.
use mathlib.Core.Path.{sym, ◌∙◌}
use Rattle.bank.proofs.Listed.{table_listed}
use Rattle.bank.proofs.Cases.{rules_none, rules-table, rules-listed}
use Rattle.bank.proofs.check.rules_kept.Goals as goal

pub returns-in_default : goal.returns-in_default
returns-in_default c = rules_none _ _ c.requires (sym c.in_default.is ∙ c.listed.ensures)

pub table_good-requires : goal.table_good-requires
table_good-requires c = table_listed _ _ (sym c.in-Some.is ∙ c.listed.ensures)

pub listed_good-requires : goal.listed_good-requires
listed_good-requires c = table_listed _ _ (sym c.in-Some.is ∙ c.listed.ensures)

pub returns-then-table_good : goal.returns-then-table_good
returns-then-table_good c =
    let t = table_listed _ _ (sym c.in-Some.is ∙ c.listed.ensures) in
    c.listed_good.ensures ∙ rules-listed _ _ _ t (sym c.table_good.ensures ∙ c.if-table_good.true)

pub returns-else-table_good : goal.returns-else-table_good
returns-else-table_good c =
    let t = table_listed _ _ (sym c.in-Some.is ∙ c.listed.ensures) in
    c.if-table_good.false ∙ rules-table _ _ _ t (sym c.table_good.ensures ∙ c.if-table_good.false)
