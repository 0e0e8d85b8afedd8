-- `clean::count::mark_gap` meets its contract: behind each piece the runs up to there were met, and the sectors marked.
-- Assumes nothing.
use mathlib.Core.Path.{◌≡◌, sym, ◌∙◌}
use Prim.Native.Nat.{◌/◌}
use native.Mathlib.Omega.{arith}
use Rattle.layout.specs.Layout.{sector_size}
use Rattle.clean.specs.Old.{old}
use Rattle.clean.proofs.Runs.{met-none, goes_none}
use Rattle.clean.proofs.Walking.{whole_small, piece_of, piece_marked, seen_parts, seen_whole}
use Rattle.clean.proofs.count.mark_gap.Goals as goal

pub loop-at-init : goal.loop-at-init
loop-at-init c =
    let f = old c.args.bank.now in
    let g = c.requires.at_gap in
    (omega arith, g.all_outside.forward, g.so_many ∙ sym (met-none f c.args.gap.start g.no_run), sym (goes_none f c.args.gap.start g.no_run), c.requires.marks_at)

pub end-end-requires : goal.end-end-requires
end-end-requires c =
    let g = c.requires.at_gap in
    let w = whole_small _ g.whole in
    (c.loop-at-test.true, omega (arith, g.all_outside.within, w.1))

pub bounds-marks-sector : goal.bounds-marks-sector
bounds-marks-sector c =
    let g = c.requires.at_gap in
    let w = whole_small _ g.whole in
    omega (arith, g.all_outside.within, w.1, c.loop-at.invariant.4.room)

pub look-seen-requires : goal.look-seen-requires
look-seen-requires c =
    let g = c.requires.at_gap in
    let f = old c.args.bank.now in
    let w = whole_small _ g.whole in
    let s = c.loop-at.invariant.4.marked (c.loop-at.at / sector_size) (omega (arith, g.all_outside.within, w.1)) in record { piece = piece_of g.all_outside c.loop-at.invariant.0 c.loop-at-test.true c.end-end.ensures; seen_value = seen_whole f c.loop-at.at (c.loop-at.at / sector_size) (record { runs_is = c.loop-at.invariant.2; last-is = c.loop-at.invariant.3; held_is = s }) }

pub bounds-marks-sector-in-loop-at : goal.bounds-marks-sector-in-loop-at
bounds-marks-sector-in-loop-at c =
    let g = c.requires.at_gap in
    let w = whole_small _ g.whole in
    omega (arith, g.all_outside.within, w.1, c.loop-at.invariant.4.room)

pub loop-at-smaller : goal.loop-at-smaller
loop-at-smaller c = let e = c.end-end.ensures in omega arith

pub loop-at-preserved : goal.loop-at-preserved
loop-at-preserved c =
    let g = c.requires.at_gap in
    let f = old c.args.bank.now in
    let w = whole_small _ g.whole in
    let e = c.end-end.ensures in
    let i = seen_parts f c.end-end.result (c.loop-at.at / sector_size) c.look-seen.result c.look-seen.ensures in (
      omega arith,
      omega arith,
      i.runs_is,
      i.last-is,
      piece_marked f c.loop-at.invariant.4 (omega arith) (omega arith) (omega (arith, g.all_outside.within, w.1)) i.held_is,
    )

pub shape_of-marks : goal.shape_of-marks
shape_of-marks c = omega (arith, c.loop-at.invariant.4.room, c.requires.marks_at.room)

pub returns : goal.returns
returns c =
    let a = c.args in
    let e : c.loop-at.at ≡ a.gap.end = omega arith in
    record { value = rw (← e) c.loop-at.invariant.2; marks_at_2 = rw (← e) c.loop-at.invariant.4 }
