-- `next` of a line reader meets what the iterator says: the line there is the first of those left, and where none is there, none is left.
-- Assumes nothing.
use Rattle.std.proofs.Common.{length, sym, ap, arith, rules}
use Rattle.lines.proofs.Lines.{ahead_line, ahead_none, lines_here, lines_none}
use Rattle.lines.proofs.line.LineReaderIterator.next.Goals as goal

pub returns-in_err-line-clause-steps : goal.returns-in_err-line-clause-steps
returns-in_err-line-clause-steps c =
    let r = c.args.self.now in
    let none = lines_none r.text.now r.at (ahead_none r.text.now r.at (sym c.in_err-line.ensures)) in
    rw c.from_residual.ensures (none, none)

pub slice_bounds-result-count : goal.slice_bounds-result-count
slice_bounds-result-count c =
    let m = ahead_line _ c.args.self.now.at _ (sym c.in_ok-line.ensures) in
    omega (arith, m.1)

pub slice_bounds-result-start : goal.slice_bounds-result-start
slice_bounds-result-start c =
    let m = ahead_line _ c.args.self.now.at _ (sym c.in_ok-line.ensures) in
    omega (arith, m.1)

pub slice_bounds-result-end : goal.slice_bounds-result-end
slice_bounds-result-end c =
    let m = ahead_line _ c.args.self.now.at _ (sym c.in_ok-line.ensures) in
    omega (arith, m.1)

pub returns-clause-steps : goal.returns-clause-steps
returns-clause-steps c =
    let r = c.args.self.now in
    let m = ahead_line r.text.now r.at _ (sym c.in_ok-line.ensures) in
    lines_here r.text.now r.at _ _ m.0 m.1

pub returns-clause-goes : goal.returns-clause-goes
returns-clause-goes c =
    let r = c.args.self.now in
    let m = ahead_line r.text.now r.at _ (sym c.in_ok-line.ensures) in
    let e = ap length (lines_here r.text.now r.at _ _ m.0 m.1) in
    search rules
