-- `clean::count::look` meets its contract: behind each byte it knows what the bytes up to there show.
-- Assumes nothing.
use mathlib.Core.Path.{◌≡◌, refl, ◌∙◌}
use Prim.Native.Nat.{◌+◌, ◌-◌, ◌/◌, ◌≤◌, ◌<◌}
use native.Mathlib.Nat.{add-zero}
use native.Mathlib.Omega.{arith}
use lib.ListN.{drop}
use lib.Seq.{get_or-take, get_or-drop}
use Rattle.layout.specs.Layout.{sector_size}
use Rattle.clean.specs.Old.{old}
use Rattle.clean.proofs.Runs.{met_half}
use Rattle.clean.proofs.Walking.{old_is, one_is, one_small, seen_whole, seen_first, seen_next}
use Rattle.clean.proofs.count.look.Goals as goal

pub loop-byte-init : goal.loop-byte-init
loop-byte-init c =
    let a = c.args in
    record {
      few = omega arith;
      seen = rw (add-zero a.from) (seen_first (old a.bank.now) a.from (a.from / sector_size) a.seen c.requires.seen_value);
    }

pub loop-byte-preserved : goal.loop-byte-preserved
loop-byte-preserved c =
    let a = c.args in
    let i = c.loop-byte.byte-index in
    let p = c.requires.piece in
    let h : i < a.to - a.from = omega arith in
    let old_here = old_is a.bank.now p.all_outside (a.from + i) (omega arith) (omega arith) in
    let byte = get_or-take (a.to - a.from) (drop a.from a.bank.now) i 0 h ∙ get_or-drop a.from a.bank.now i 0 in
    let f = old a.bank.now in
    let n =
    seen_next f (a.from + i) (a.from / sector_size) c.loop-byte.invariant.seen (omega (arith, p.one_sector)) _ (old_here ∙ rw byte refl)
    (c.from-begun.ensures ∙ one_is _) in
    let few : c.from-begun.result ≤ 1 = rw c.from-begun.ensures (one_small _) in
    record {
      few = omega (arith, few, c.loop-byte.invariant.few);
      seen =
          let next : a.from + i + 1 ≡ a.from + (i + 1) = omega arith in
          record { runs_is = omega (arith, rw next at n.runs_is); last-is = rw next at n.last-is; held_is = rw next at n.held_is };
    }

pub overflow_add-result : goal.overflow_add-result
overflow_add-result c =
    let a = c.args in
    omega (arith, c.loop-byte.invariant.seen.runs_is, met_half (old a.bank.now) (a.from + c.loop-byte.byte-index), c.requires.piece.all_outside.within)

pub returns : goal.returns
returns c =
    let a = c.args in
    let e : a.from + c.loop-byte.byte-index ≡ a.to = omega (arith, c.requires.piece.all_outside.forward) in
    rw (← e, c.from.ensures) (seen_whole (old a.bank.now) (a.from + c.loop-byte.byte-index) (a.from / sector_size) c.loop-byte.invariant.seen)
