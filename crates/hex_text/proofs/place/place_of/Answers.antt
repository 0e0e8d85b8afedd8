-- `hex_text::place::place_of` meets its contract: each way out is a case of where a line goes wrong.
-- Assumes nothing.
use Rattle.std.proofs.Common.{drop, arith}
use Rattle.buffer.proofs.Parts.{rest_out}
use Rattle.hex_text.proofs.Placed.{found_small, placed_first, placed_empty, placed_behind}
use Rattle.hex_text.proofs.place.place_of.Goals as goal

pub returns-then-line-eq0 : goal.returns-then-line-eq0
returns-then-line-eq0 c = placed_empty c.args.line.now c.if-line-eq0.true

pub returns-then-line-ne58 : goal.returns-then-line-ne58
returns-then-line-ne58 c = placed_first c.args.line.now c.if-line-ne58.true

pub overflow_add-result : goal.overflow_add-result
overflow_add-result c =
    let line = c.args.line.now in
    let due = rw (rest_out line 1) at c.digits_due-due.ensures in
    let n = rw (rest_out line 1, due) at c.digits_in.ensures in
    let few = found_small (drop 1 line) in
    omega arith

pub returns : goal.returns
returns c =
    let line = c.args.line.now in
    let due = rw (rest_out line 1) at c.digits_due-due.ensures in
    let n = rw (rest_out line 1, due) at c.digits_in.ensures in
    placed_behind line c.if-line-ne58.false n
