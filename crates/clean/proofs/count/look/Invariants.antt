-- `clean::count::look` meets its contract: behind each byte it knows what the bytes up to there show.
-- Assumes nothing.
use Prim.Native.Nat.{◌+◌, ◌/◌, ◌≤◌}
use Rattle.layout.specs.Layout.{sector_size}
use Rattle.clean.specs.Old.{old}
use Rattle.clean.proofs.Walking.{SeenIs}
use Rattle.clean.proofs.count.look.Given as goal

abbrev pub invariant-loop-byte : goal.invariant-loop-byte
invariant-loop-byte l =
    record {
      few : l.begun ≤ l.byte-index;
      seen : SeenIs (old l.bank) (l.from + l.byte-index) (l.from / sector_size) (l.seen.runs + l.begun) l.last l.held;
    }
