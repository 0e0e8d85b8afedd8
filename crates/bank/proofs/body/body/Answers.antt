-- `bank::body::body` meets its contract: each way out is a case of the definition.
-- Assumes nothing.
use mathlib.Core.Path.{sym, ◌∙◌}
use Rattle.bank.proofs.Cases.{body_none, body-within, body_is}
use borrow.Author.Rules.{rules}
use Rattle.bank.proofs.body.body.Goals as goal

pub returns-then-is_err : goal.returns-then-is_err
returns-then-is_err c = body_none _ _ c.check.ensures.verdict _ (sym c.is_err.ensures.value ∙ c.if-is_err.true)

pub end-requires : goal.end-requires
end-requires c =
    let within = body-within _ _ c.check.ensures.verdict _ (sym c.is_err.ensures.value ∙ c.if-is_err.false) _ c.stretch_at-stretch.ensures in
    search rules

pub slice_bounds-result-end-2 : goal.slice_bounds-result-end-2
slice_bounds-result-end-2 c =
    rw c.end.ensures
    (body-within _ _ c.check.ensures.verdict _ (sym c.is_err.ensures.value ∙ c.if-is_err.false) _ c.stretch_at-stretch.ensures)

pub returns : goal.returns
returns c =
    rw c.end.ensures
    (body_is _ _ c.check.ensures.verdict _ (sym c.is_err.ensures.value ∙ c.if-is_err.false) _ c.stretch_at-stretch.ensures)
