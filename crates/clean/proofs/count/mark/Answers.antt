-- `clean::count::mark` meets its contract: at the start of each gap the runs up to there were met, and the sectors marked.
-- Assumes nothing.
use mathlib.Core.Path.{◌≡◌, sym, ap, ◌∙◌}
use Prim.Native.Nat.{◌<◌}
use native.Mathlib.Omega.{arith}
use lib.ListN.{length}
use Rattle.bank.specs.Gaps.{gap_count}
use Rattle.clean.proofs.Gaps.{start_is, end_is, reach-is, at_gap, next-open, next-runs, next_marks, first_open, first_runs, first_marks, past-runs, past-marks}
use Rattle.clean.proofs.count.mark.Goals as goal

pub loop-gap-init : goal.loop-gap-init
loop-gap-init c =
    let a = c.args in
    let g = c.requires.good_bank in
    (first_open a.bank.now _ g, sym (ap length (first_runs a.bank.now _ g)), first_marks a.bank.now _ g c.requires.marks_at)

pub mark_gap-runs-requires : goal.mark_gap-runs-requires
mark_gap-runs-requires c =
    let a = c.args in
    let g = c.requires.good_bank in
    let i = c.loop-gap.gap-index in
    let h : i < gap_count a.bank.now = omega (arith, g.are.count) in
    let at = start_is a.bank.now _ g i h ∙ sym (reach-is a.bank.now _ g i h) in
    record { at_gap = at_gap a.bank.now _ g i h c.loop-gap.invariant.0 c.loop-gap.invariant.1; marks_at = rw at c.loop-gap.invariant.2 }

pub loop-gap-preserved : goal.loop-gap-preserved
loop-gap-preserved c =
    let a = c.args in
    let g = c.requires.good_bank in
    let i = c.loop-gap.gap-index in
    let h : i < gap_count a.bank.now = omega (arith, g.are.count) in
    let e = c.mark_gap-runs.ensures in
    let at = end_is a.bank.now _ g i h in (
      next-open a.bank.now _ g i h,
      e.value ∙ rw at (ap length (sym (next-runs a.bank.now _ g i h))),
      next_marks a.bank.now _ g i h (rw at at e.marks_at_2),
    )

pub shape_of-marks : goal.shape_of-marks
shape_of-marks c = omega (arith, c.loop-gap.invariant.2.room, c.requires.marks_at.room)

pub returns : goal.returns
returns c =
    let a = c.args in
    let g = c.requires.good_bank in
    let e : c.loop-gap.gap-index ≡ gap_count a.bank.now = omega (arith, g.are.count) in
    record { value = c.loop-gap.invariant.1 ∙ ap length (past-runs a.bank.now _ g _ e); marks_at_2 = past-marks a.bank.now _ g _ e c.loop-gap.invariant.2 }
