-- `lines::line::line_at` meets its contract: the loop's invariant: the line goes on up to i. It stops at the first end, or with the text.
-- Assumes nothing.
use Rattle.std.proofs.Common.{◌≡◌, ◌≤◌, ◌+◌, length, drop}
use Rattle.lines.specs.Places.{line_len, line_all}
use Rattle.lines.proofs.line.line_at.Given as goal

abbrev pub invariant-loop-i : goal.invariant-loop-i
invariant-loop-i l =
    (l.at ≤ l.i) ×
    ((l.i ≤ length l.text) × ((l.at + line_len (drop l.at l.text) ≡ l.i + line_len (drop l.i l.text)) × (l.at + line_all (drop l.at l.text) ≡ l.i + line_all (drop l.i l.text))))
