-- `lines::line::lf_at` meets its contract: by whether the place lies within the text.
-- Assumes nothing.
use mathlib.Core.Path.{sym}
use Rattle.lines.proofs.Lines.{lf_here, lf_past}
use Rattle.lines.proofs.line.lf_at.Goals as goal

pub returns-then-i-text : goal.returns-then-i-text
returns-then-i-text c = sym (lf_here c.args.text.now c.args.i c.if-i-text.true)

pub returns : goal.returns
returns c = sym (lf_past c.args.text.now c.args.i c.if-i-text.false)
