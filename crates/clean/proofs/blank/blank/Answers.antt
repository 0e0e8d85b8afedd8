-- `clean::blank::blank` meets its contract: behind each run those up to there are 0xFF, and all else is as it was.
-- Assumes nothing.
use mathlib.Core.Path.{◌≡◌}
use native.Mathlib.Omega.{arith}
use Rattle.clean.proofs.Blanking.{blanked_first, blanked-next, blanked_all, run_within, run_fits}
use Rattle.clean.proofs.blank.blank.Goals as goal

pub loop-i-init : goal.loop-i-init
loop-i-init c = let a = c.args in blanked_first a.bank.now a.runs.now

pub overflow_mul-from : goal.overflow_mul-from
overflow_mul-from c = omega (arith, c.requires.1)

pub offset_bounds-runs-i : goal.offset_bounds-runs-i
offset_bounds-runs-i c = omega (arith, c.requires.1)

pub bounds-runs-i : goal.bounds-runs-i
bounds-runs-i c = omega (arith, c.requires.1)

pub overflow_cast-from : goal.overflow_cast-from
overflow_cast-from c =
    let a = c.args in
    let w = run_within a.bank.now a.runs.now a.n c.requires.0 c.loop-i.i (omega arith) in
    omega arith

pub overflow_mul-size : goal.overflow_mul-size
overflow_mul-size c = omega (arith, c.requires.1)

pub overflow_add-size : goal.overflow_add-size
overflow_add-size c = omega (arith, c.requires.1)

pub offset_bounds-runs-i-in-loop-i : goal.offset_bounds-runs-i-in-loop-i
offset_bounds-runs-i-in-loop-i c = omega (arith, c.requires.1)

pub bounds-runs-i-in-loop-i : goal.bounds-runs-i-in-loop-i
bounds-runs-i-in-loop-i c = omega (arith, c.requires.1)

pub overflow_cast-size : goal.overflow_cast-size
overflow_cast-size c =
    let a = c.args in
    let w = run_within a.bank.now a.runs.now a.n c.requires.0 c.loop-i.i (omega arith) in
    omega arith

pub blank_run-requires : goal.blank_run-requires
blank_run-requires c =
    let a = c.args in
    run_fits a.bank.now a.runs.now a.n c.requires.0 c.loop-i.i (omega arith) c.loop-i.bank c.loop-i.invariant

pub loop-i-preserved : goal.loop-i-preserved
loop-i-preserved c =
    let a = c.args in
    rw c.blank_run.ensures
    (blanked-next a.bank.now a.runs.now a.n c.requires.0 c.loop-i.i (omega arith) c.loop-i.bank c.loop-i.invariant)

pub shape_of-bank : goal.shape_of-bank
shape_of-bank c = c.loop-i.invariant.same_length

pub returns : goal.returns
returns c =
    let a = c.args in
    let e : c.loop-i.i ≡ a.n = omega arith in
    blanked_all a.bank.now a.runs.now a.n c.requires.0 c.loop-i.bank (rw e at c.loop-i.invariant)
