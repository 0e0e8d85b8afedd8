-- `clean::list::list_byte` meets its contract: a run goes on, or one that did ends.
-- Assumes nothing.
use Prim.Native.Nat.{◌+◌, ◌<◌}
use native.Mathlib.Omega.{arith}
use Rattle.clean.specs.Old.{old}
use Rattle.clean.proofs.Runs.{met_on}
use Rattle.clean.proofs.Walking.{piece_blank, piece_old}
use Rattle.clean.proofs.Putting.{closing_met, closing_small, reached-old, lists-old, reached-quiet, lists-quiet}
use Rattle.clean.proofs.list.list_byte.Goals as goal

pub close-requires : goal.close-requires
close-requires c =
    let f = old c.args.bank.now in
    let reached = c.requires.reached.0 in
    let m = closing_met f c.args.at reached in
    let g = met_on f {k = c.args.at} {m = c.args.at + 1} (omega arith) in
    (c.requires.piece.1, closing_small f c.args.at reached, omega (arith, c.requires.reached.1))

pub returns-then-bank-at : goal.returns-then-bank-at
returns-then-bank-at c =
    let a = c.args in
    let f = old a.bank.now in
    let here : a.at < a.at + 1 = omega arith in
    let blank = piece_blank c.requires.piece.0 here c.if-bank-at.true in
    let put = c.close.ensures in record { reached_2 = reached-quiet f a.at c.requires.reached.0 a.runs.now put.1 here blank put.0; lists_on = lists-quiet f a.at c.requires.reached.0 a.runs.now put.1 here blank }

pub overflow_add-result : goal.overflow_add-result
overflow_add-result c = omega (arith, closing_small (old c.args.bank.now) c.args.at c.requires.reached.0, c.requires.piece.1)

pub returns : goal.returns
returns c =
    let a = c.args in
    let f = old a.bank.now in
    let here : a.at < a.at + 1 = omega arith in
    let is_old = piece_old c.requires.piece.0 here c.if-bank-at.false in
    record { reached_2 = reached-old f a.at c.requires.reached.0 is_old; lists_on = lists-old f a.at c.requires.reached.0 is_old a.runs.now }
