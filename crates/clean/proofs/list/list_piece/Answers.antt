-- `clean::list::list_piece` meets its contract: behind each byte the runs up to there are listed.
-- Assumes nothing.
use mathlib.Core.Path.{◌≡◌}
use Prim.Native.Nat.{◌+◌}
use native.Mathlib.Omega.{arith}
use Rattle.clean.specs.Old.{old}
use Rattle.clean.proofs.Runs.{met_on}
use Rattle.clean.proofs.Walking.{byte_piece}
use Rattle.clean.proofs.Putting.{lists_none, lists_more}
use Rattle.clean.proofs.list.list_piece.Goals as goal

pub loop-at-init : goal.loop-at-init
loop-at-init c = (c.requires.reached.0, lists_none (old c.args.bank.now) c.args.from c.args.runs.now)

pub list_byte-so_far-requires : goal.list_byte-so_far-requires
list_byte-so_far-requires c =
    let f = old c.args.bank.now in
    let m = met_on f {k = c.loop-at.at + 1} {m = c.args.to} (omega arith) in record { piece = (byte_piece c.requires.piece.0.all_outside (omega arith) (omega arith), omega (arith, c.requires.piece.1)); reached = (c.loop-at.invariant.0, omega (arith, c.loop-at.invariant.1.same_length, c.requires.reached.1)) }

pub loop-at-preserved : goal.loop-at-preserved
loop-at-preserved c =
    let e = c.list_byte-so_far.ensures in
    (e.reached_2, lists_more c.loop-at.invariant.1 e.lists_on)

pub shape_of-runs : goal.shape_of-runs
shape_of-runs c = c.loop-at.invariant.1.same_length

pub returns : goal.returns
returns c =
    let e : c.loop-at.at ≡ c.args.to = omega (arith, c.requires.piece.0.all_outside.forward) in
    record { reached_2 = rw (← e) c.loop-at.invariant.0; lists_on = rw (← e) c.loop-at.invariant.1 }
