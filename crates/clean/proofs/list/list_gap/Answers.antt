-- `clean::list::list_gap` meets its contract: behind each piece the runs up to there are listed.
-- Assumes nothing.
use mathlib.Core.Path.{◌≡◌, sym, ap, ◌∙◌}
use native.Mathlib.Omega.{arith}
use Rattle.clean.specs.declared.list.Progress.{Progress}
use Rattle.clean.specs.Old.{old}
use Rattle.clean.proofs.Runs.{met_on}
use Rattle.clean.proofs.Walking.{whole_small, piece_of, mark_tells}
use Rattle.clean.proofs.Putting.{closing_met, closing_small, lists_none, lists_more, lists_gap}
use Rattle.clean.proofs.list.list_gap.Goals as goal

pub loop-at-init : goal.loop-at-init
loop-at-init c =
    let g = c.requires.at_gap in
    let f = old c.args.bank.now in
    (omega arith, g.all_outside.forward, record { so_many = g.so_many; going = sym g.no_run }, lists_none f c.args.gap.start c.args.runs.now)

pub end-end-requires : goal.end-end-requires
end-end-requires c =
    let g = c.requires.at_gap in
    let w = whole_small _ g.whole in
    (c.loop-at-test.true, omega (arith, g.all_outside.within, w.1))

pub bounds-marks-at : goal.bounds-marks-at
bounds-marks-at c =
    let w = whole_small _ c.requires.at_gap.whole in
    omega (arith, c.requires.at_gap.all_outside.within, w.1, c.requires.marks_at.0.room)

pub list_marked-listed-requires : goal.list_marked-listed-requires
list_marked-listed-requires c =
    let g = c.requires.at_gap in
    let w = whole_small _ g.whole in
    let e = c.end-end.ensures in
    let p = piece_of g.all_outside c.loop-at.invariant.0 c.loop-at-test.true e in
    let m = met_on (old c.args.bank.now) {k = c.end-end.result} {m = c.args.gap.end} (omega arith) in record { piece = (p, omega arith, omega (arith, g.all_outside.within, w.1)); mark_tells = mark_tells c.requires.marks_at.0 p (omega (arith, g.all_outside.within, w.1)); reached = (c.loop-at.invariant.2, omega (arith, c.loop-at.invariant.3.same_length, c.requires.marks_at.1)) }

pub loop-at-smaller : goal.loop-at-smaller
loop-at-smaller c = let e = c.end-end.ensures in omega arith

pub loop-at-preserved : goal.loop-at-preserved
loop-at-preserved c =
    let e = c.end-end.ensures in
    let r = c.list_marked-listed.ensures in
    (omega arith, omega arith, r.reached_2, lists_more c.loop-at.invariant.3 r.lists_on)

pub close-done-requires : goal.close-done-requires
close-done-requires c =
    let f = old c.args.bank.now in
    let w = whole_small _ c.requires.at_gap.whole in
    let e : c.loop-at.at ≡ c.args.gap.end = omega arith in
    let reached = rw e at c.loop-at.invariant.2 in
    let m = closing_met f c.args.gap.end reached in
    (omega (arith, c.requires.at_gap.all_outside.within, w.1), closing_small f c.args.gap.end reached, omega (arith, c.loop-at.invariant.3.same_length, c.requires.marks_at.1))

pub shape_of-runs : goal.shape_of-runs
shape_of-runs c =
    let e : c.loop-at.at ≡ c.args.gap.end = omega arith in
    (lists_gap c.args.gap (rw e at c.loop-at.invariant.3) (rw e at c.loop-at.invariant.2) c.close-done.ensures.1).same_length

pub returns : goal.returns
returns c =
    let f = old c.args.bank.now in
    let e : c.loop-at.at ≡ c.args.gap.end = omega arith in
    let r = c.close-done.ensures in record { value = ap (λ (x : Progress). x.runs) r.0 ∙ closing_met f c.args.gap.end (rw e at c.loop-at.invariant.2); lists_gap = lists_gap c.args.gap (rw e at c.loop-at.invariant.3) (rw e at c.loop-at.invariant.2) r.1 }
