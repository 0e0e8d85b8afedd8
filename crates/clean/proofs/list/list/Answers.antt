-- `clean::list::list` meets its contract: at the start of each gap the runs up to there are listed.
-- Assumes nothing.
use mathlib.Core.Path.{◌≡◌, sym, ap, ◌∙◌}
use Prim.Native.Nat.{◌<◌}
use native.Mathlib.Omega.{arith}
use lib.ListN.{length}
use lib.Seq.{length-sets}
use Rattle.bank.specs.Gaps.{gap_count}
use Rattle.clean.specs.Old.{old}
use Rattle.clean.specs.Runs.{runs_at, flat}
use Rattle.clean.proofs.Gaps.{reach, start_is, end_is, reach-is, at_gap, next-open, next-runs, first_open, first_runs, past-runs, gap-room}
use Rattle.clean.proofs.Putting.{flat_none}
use Rattle.clean.proofs.list.list.Goals as goal

pub loop-gap-init : goal.loop-gap-init
loop-gap-init c =
    let a = c.args in
    let g = c.requires.good_bank.0 in
    let none = first_runs a.bank.now _ g in
    (first_open a.bank.now _ g, sym (ap length none), flat_none a.runs.now _ none)

pub list_gap-n-requires : goal.list_gap-n-requires
list_gap-n-requires c =
    let a = c.args in
    let g = c.requires.good_bank.0 in
    let i = c.loop-gap.gap-index in
    let h : i < gap_count a.bank.now = omega (arith, g.are.count) in
    let m = gap-room a.bank.now _ g i h in
    let n = ap length c.loop-gap.invariant.2 ∙ length-sets a.runs.now 0 (flat (runs_at (old a.bank.now) (reach a.bank.now i))) in
    record {
      at_gap = at_gap a.bank.now _ g i h c.loop-gap.invariant.0 c.loop-gap.invariant.1;
      marks_at = (c.requires.good_bank.1, rw (end_is a.bank.now _ g i h) (omega (arith, c.requires.bank_in_bounds)));
    }

pub loop-gap-preserved : goal.loop-gap-preserved
loop-gap-preserved c =
    let a = c.args in
    let g = c.requires.good_bank.0 in
    let i = c.loop-gap.gap-index in
    let h : i < gap_count a.bank.now = omega (arith, g.are.count) in
    let from = start_is a.bank.now _ g i h ∙ sym (reach-is a.bank.now _ g i h) in
    let to = end_is a.bank.now _ g i h in
    let next = next-runs a.bank.now _ g i h in
    let e = c.list_gap-n.ensures in (
      next-open a.bank.now _ g i h,
      e.value ∙ rw to (ap length (sym next)),
      e.lists_gap.listed a.runs.now (rw from c.loop-gap.invariant.2) ∙ rw (to, next),
    )

pub shape_of-runs : goal.shape_of-runs
shape_of-runs c = ap length c.loop-gap.invariant.2 ∙ length-sets c.args.runs.now 0 (flat (runs_at (old c.args.bank.now) (reach c.args.bank.now c.loop-gap.gap-index)))

pub returns : goal.returns
returns c =
    let a = c.args in
    let g = c.requires.good_bank.0 in
    let e : c.loop-gap.gap-index ≡ gap_count a.bank.now = omega (arith, g.are.count) in
    c.loop-gap.invariant.2 ∙ rw (past-runs a.bank.now _ g _ e)
