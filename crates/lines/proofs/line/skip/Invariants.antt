-- `lines::line::skip` meets its contract: the loop's invariant: the line goes on up to i.
-- Assumes nothing.
use mathlib.Core.Path.{◌≡◌}
use Prim.Native.Nat.{◌≤◌, ◌+◌, ◌-◌}
use lib.ListN.{length, drop}
use Rattle.lines.specs.Places.{line_len, line_all}
use Rattle.lines.proofs.line.skip.Given as goal

abbrev pub invariant-loop-i : goal.invariant-loop-i
invariant-loop-i l =
    (l.at ≤ l.i) ×
    ((l.i ≤ length l.text) × ((l.at + line_len (drop l.at l.text) ≡ l.i + line_len (drop l.i l.text)) × (l.at + line_all (drop l.at l.text) ≡ l.i + line_all (drop l.i l.text))))

abbrev pub decreases-loop-i : goal.decreases-loop-i
decreases-loop-i l = length l.text - l.i
