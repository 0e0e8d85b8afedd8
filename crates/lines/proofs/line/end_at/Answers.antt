-- `lines::line::end_at` meets its contract: each way out is a case of the first bytes of what is left.
-- Assumes nothing.
use mathlib.Core.Path.{sym, ◌∙◌}
use borrow.Author.Tests.{eq-eqb, ne_eqb}
use Rattle.lines.proofs.Lines.{end_here}
use Rattle.lines.proofs.line.end_at.Goals as goal

pub returns-then-text-i-eq10 : goal.returns-then-text-i-eq10
returns-then-text-i-eq10 c =
    let a = c.args in
    sym (end_here a.text.now a.i c.requires ∙ simp (eq-eqb _ 10 c.if-text-i-eq10.true))

pub returns-then-lf_at : goal.returns-then-lf_at
returns-then-lf_at c =
    let a = c.args in
    sym (end_here a.text.now a.i c.requires ∙ simp (
      ne_eqb _ 10 c.if-text-i-eq10.false,
      eq-eqb _ 13 c.if-text-i-eq13.true,
      sym
          c.lf_at.ensures ∙ c.if-lf_at.true,
    ))

pub returns-else-lf_at : goal.returns-else-lf_at
returns-else-lf_at c =
    let a = c.args in
    sym (end_here a.text.now a.i c.requires ∙ simp (
      ne_eqb _ 10 c.if-text-i-eq10.false,
      eq-eqb _ 13 c.if-text-i-eq13.true,
      sym
          c.lf_at.ensures ∙ c.if-lf_at.false,
    ))

pub returns-else-text-i-eq13 : goal.returns-else-text-i-eq13
returns-else-text-i-eq13 c =
    let a = c.args in
    sym (end_here a.text.now a.i c.requires ∙ simp
    (ne_eqb _ 10 c.if-text-i-eq10.false, ne_eqb _ 13 c.if-text-i-eq13.false))
