-- `lines::line::LineReader::line` meets its contract: by whether the place lies within the text.
-- Assumes nothing.
use borrow.Author.Tests.{lt-ltb, le-ltb}
use lib.ListN.{length}
use Rattle.lines.specs.Places.{ahead_at}
use Rattle.lines.proofs.line.LineReader.line.Goals as goal

pub returns-then-self : goal.returns-then-self
unfolding ahead_at
returns-then-self c =
    let r = c.args.self.now in
    let l = c.line_at.ensures in
    simp (lt-ltb r.at (length r.text.now) c.if-self.true, ← l.end_is, ← l.next_is)

pub returns : goal.returns
unfolding ahead_at
returns c =
    let r = c.args.self.now in
    simp (le-ltb r.at (length r.text.now) c.if-self.false)
