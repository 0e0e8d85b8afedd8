-- `lines::line::line_at` meets its contract: the loop's invariant: the line goes on up to i. It stops at the first end, or with the text.
-- Assumes nothing.
use mathlib.Core.Path.{sym, ◌∙◌}
use native.Mathlib.Omega.{arith}
use Rattle.lines.proofs.Lines.{line_stops, line_goes, line_past, end_fits}
use Rattle.lines.proofs.line.line_at.Goals as goal

pub loop-i-init : goal.loop-i-init
loop-i-init c =
    let s = c.skip-i.ensures in
    (s.after, (s.within, (s.len, s.all)))

pub overflow_add-result : goal.overflow_add-result
overflow_add-result c =
    let l = c.loop-i in
    let f = end_fits c.args.text.now l.i (omega arith) in
    let e = c.end_at-e.ensures in
    omega arith

pub returns-then-e-ne0 : goal.returns-then-e-ne0
returns-then-e-ne0 c =
    let l = c.loop-i in
    let f = end_fits c.args.text.now l.i (omega arith) in
    let e = c.end_at-e.ensures in
    let s = line_stops _ l.i (omega arith) (λ z. c.if-e-ne0.true (e ∙ z)) in
    record { end_is = omega arith; next_is = omega arith; after = omega arith; before = omega arith; on = omega arith; within = omega arith }

pub loop-i-preserved : goal.loop-i-preserved
loop-i-preserved c =
    let l = c.loop-i in
    let g = line_goes _ l.i (omega arith) (sym c.end_at-e.ensures ∙ c.if-e-ne0.false) in
    (omega arith, (omega arith, (omega arith, omega arith)))

pub returns : goal.returns
returns c =
    let l = c.loop-i in
    let s = line_past c.args.text.now l.i (omega arith) in
    record { end_is = omega arith; next_is = omega arith; after = omega arith; before = omega arith; on = omega arith; within = omega arith }
