-- `lines::line::skip` meets its contract: the loop's invariant: the line goes on up to i.
-- Assumes nothing.
use Rattle.std.proofs.Common.{◌≡◌, ◌+◌, ◌-◌, refl, sym, ◌∙◌, arith}
use Rattle.lines.proofs.Lines.{quiet_goes}
use Rattle.lines.proofs.line.skip.Goals as goal

pub loop-i-init : goal.loop-i-init
loop-i-init c = (omega arith, (omega arith, (refl, refl)))

pub overflow_sub-text : goal.overflow_sub-text
overflow_sub-text c = omega arith

pub slice_bounds-quiet-count : goal.slice_bounds-quiet-count
slice_bounds-quiet-count c = omega arith

pub overflow_add-i : goal.overflow_add-i
overflow_add-i c = omega arith

pub loop-i-smaller : goal.loop-i-smaller
loop-i-smaller c = omega arith

pub loop-i-preserved : goal.loop-i-preserved
loop-i-preserved c =
    let t = c.args.text.now in
    let l = c.loop-i in
    let n : l.i + 16 - l.i ≡ 16 = omega arith in
    let q = rw n at (sym c.quiet.ensures ∙ c.if-quiet.true) in
    let g = quiet_goes t l.i 16 (omega arith) q in
    (omega arith, (omega arith, (omega arith, omega arith)))

pub returns-else-quiet : goal.returns-else-quiet
returns-else-quiet c =
    let l = c.loop-i in
    record { after = omega arith; within = omega arith; len = omega (arith, l.invariant.1.1.0); all = omega (arith, l.invariant.1.1.1) }

pub returns-after-loop-i : goal.returns-after-loop-i
returns-after-loop-i c =
    let l = c.loop-i in
    record { after = omega arith; within = omega arith; len = omega (arith, l.invariant.1.1.0); all = omega (arith, l.invariant.1.1.1) }
