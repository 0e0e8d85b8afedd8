-- `clean::list::list_gap` meets its contract: behind each piece the runs up to there are listed.
-- Assumes nothing.
use Prim.Native.Nat.{◌-◌, ◌≤◌}
use Rattle.clean.specs.Old.{old}
use Rattle.clean.specs.Walk.{Reached, ListsOn}
use Rattle.clean.proofs.list.list_gap.Given as goal

abbrev pub invariant-loop-at : goal.invariant-loop-at
invariant-loop-at l = (l.gap.start ≤ l.at) × (l.at ≤ l.gap.end) × Reached (old l.bank) l.at l.listed × ListsOn (old l.bank) l.gap.start l.at l.initial.runs l.runs

abbrev pub decreases-loop-at : goal.decreases-loop-at
decreases-loop-at l = l.gap.end - l.at
