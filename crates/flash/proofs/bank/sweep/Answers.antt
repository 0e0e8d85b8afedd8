-- `flash::bank::sweep` meets its contract: at each turn the stores of the first j sectors are made.
-- Assumes nothing.
use mathlib.Core.Path.{◌≡◌, refl, ◌∙◌}
use native.Mathlib.Omega.{arith}
use Rattle.flash.proofs.Sweeps.{sweep_none, sweep_next, sweep_end}
use Rattle.flash.proofs.bank.sweep.Goals as goal

pub loop-j-init : goal.loop-j-init
loop-j-init c = (refl, sweep_none c.args.received.now _)

pub loop-j-preserved : goal.loop-j-preserved
loop-j-preserved c =
    let o = c.sweep_one in
    let w = c.was_received in
    let a = c.args in
    let l = c.loop-j in
    (o.auto.bank ∙ l.invariant.0, sweep_next a.received.now _ l.j l.invariant.1 l.invariant.0 w.ensures o.ensures)

pub shape_of-bank : goal.shape_of-bank
shape_of-bank c = c.loop-j.invariant.0

pub returns : goal.returns
returns c =
    let l = c.loop-j in
    let h = c.had-last in
    let a = c.args in
    let e : l.j ≡ h.result = omega arith in
    sweep_end a.received.now a.n l.j a.bank.now l.invariant.1 (e ∙ h.ensures)
