-- `bank::gaps::find` meets its contract: each turn finds one gap.
-- Assumes nothing.
use mathlib.Core.Path.{◌≡◌}
use Prim.Native.Nat.{◌+◌, ◌-◌, ◌≤◌}
use lib.ListN.{length, take, drop, replicate}
use Rattle.bank.specs.Sound.{most_bodies}
use Rattle.bank.specs.Gaps.{gap_start, gaps_to, no_gap}
use Rattle.bank.proofs.gaps.find.Given as goal

abbrev pub invariant-loop-i : goal.invariant-loop-i
invariant-loop-i l =
    record {
      few : l.n ≤ most_bodies;
      room : length l.gaps ≡ most_bodies + 1;
      found : take l.i l.gaps ≡ gaps_to l.bank l.i;
      rest : drop l.i l.gaps ≡ replicate (most_bodies + 1 - l.i) no_gap;
      start : l.start ≡ gap_start l.bank l.i;
    }
