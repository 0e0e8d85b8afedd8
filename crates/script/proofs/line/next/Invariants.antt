-- `script::line::next` is safe and ends: no turn adds more than a byte to the line.
-- Assumes nothing.
use Rattle.std.proofs.Common.{◌≤◌, length}
use Rattle.script.proofs.line.next.Given as goal

abbrev pub invariant-loop-turn : goal.invariant-loop-turn
invariant-loop-turn g l = (l.to ≤ length l.chunk) × (l.held ≤ l._turn)
