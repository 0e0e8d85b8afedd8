-- `clean::list::list_marked` meets its contract: the bytes are looked at, or none is old.
-- Assumes nothing.
use native.Mathlib.Omega.{arith}
use Rattle.clean.specs.Old.{old}
use Rattle.clean.proofs.Runs.{met_on}
use Rattle.clean.proofs.Putting.{closing_met, closing_small, reached-quiet, lists-quiet}
use Rattle.clean.proofs.list.list_marked.Goals as goal

pub close-requires : goal.close-requires
close-requires c =
    let f = old c.args.bank.now in
    let reached = c.requires.reached.0 in
    let m = closing_met f c.args.from reached in
    let g = met_on f {k = c.args.from} {m = c.args.to} (omega (arith, c.requires.piece.1)) in
    (omega (arith, c.requires.piece.1, c.requires.piece.2), closing_small f c.args.from reached, omega (arith, c.requires.reached.1))

pub returns : goal.returns
returns c =
    let a = c.args in
    let f = old a.bank.now in
    let quiet = c.requires.mark_tells c.if-mark.false in
    let put = c.close.ensures in record { reached_2 = reached-quiet f a.from c.requires.reached.0 a.runs.now put.1 c.requires.piece.1 quiet put.0; lists_on = lists-quiet f a.from c.requires.reached.0 a.runs.now put.1 c.requires.piece.1 quiet }
