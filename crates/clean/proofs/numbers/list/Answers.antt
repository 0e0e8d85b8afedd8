-- `clean::numbers::list` meets its contract: behind each sector the numbers up to there are listed.
-- Assumes nothing.
use mathlib.Core.Path.{◌≡◌, sym, ap, ◌∙◌}
use Prim.Native.Nat.{◌+◌}
use native.Mathlib.Omega.{arith}
use lib.ListN.{length}
use lib.Seq.{length-sets}
use Rattle.buffer.proofs.Places.{sets_next}
use Rattle.clean.specs.Sectors.{numbers_at}
use Rattle.clean.specs.Walk.{mark_in}
use Rattle.clean.proofs.Sectors.{numbers_next, numbers_none, numbers_more, numbers_on}
use Rattle.clean.proofs.numbers.list.Goals as goal

pub loop-i-init : goal.loop-i-init
loop-i-init c =
    let a = c.args in
    let none = numbers_none (mark_in a.marks.now) in
    (sym (ap length none), rw none)

pub put-m-requires : goal.put-m-requires
put-m-requires c =
    let marked = mark_in c.args.marks.now in
    let more = numbers_more marked c.loop-i.i in
    let on = numbers_on marked {k = c.loop-i.i + 1} {m = length c.args.marks.now} (omega arith) in
    let n = ap length c.loop-i.invariant.1 ∙ length-sets c.args.sectors.now 0 (numbers_at marked c.loop-i.i) in
    (omega (arith, c.requires.0), omega (arith, c.loop-i.invariant.0, c.requires.1))

pub loop-i-preserved : goal.loop-i-preserved
loop-i-preserved c =
    let marked = mark_in c.args.marks.now in
    let put = c.put-m.ensures in (
      put.0 ∙ rw c.loop-i.invariant.0 (sym (numbers_more marked c.loop-i.i)),
      put.1 ∙ rw (c.loop-i.invariant.1, numbers_next marked c.loop-i.i) (sets_next c.args.sectors.now (numbers_at marked c.loop-i.i) _ 0 (omega (arith, c.loop-i.invariant.0))),
    )

pub shape_of-sectors : goal.shape_of-sectors
shape_of-sectors c =
    let a = c.args in
    ap length c.loop-i.invariant.1 ∙ length-sets a.sectors.now 0 (numbers_at (mark_in a.marks.now) c.loop-i.i)

pub returns : goal.returns
returns c =
    let e : c.loop-i.i ≡ length c.args.marks.now = omega arith in
    rw (← e) c.loop-i.invariant.1
