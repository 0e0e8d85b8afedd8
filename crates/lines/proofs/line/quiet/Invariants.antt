-- `lines::line::quiet` meets its contract: the loop's invariant: whether all are quiet is what is known of those passed and of those left.
-- Assumes nothing.
use Rattle.std.proofs.Common.{◌≡◌, ◌&&◌, drop}
use Rattle.lines.specs.Places.{quiet}
use Rattle.lines.proofs.line.quiet.Given as goal

abbrev pub invariant-loop-byte : goal.invariant-loop-byte
invariant-loop-byte l = quiet l.bytes ≡ (l.good && quiet (drop l.byte-index l.bytes))
