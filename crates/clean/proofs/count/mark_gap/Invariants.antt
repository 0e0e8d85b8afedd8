-- `clean::count::mark_gap` meets its contract: behind each piece the runs up to there were met, and the sectors marked.
-- Assumes nothing.
use mathlib.Core.Path.{◌≡◌}
use Prim.Native.Nat.{◌-◌, ◌≤◌}
use Rattle.clean.specs.Old.{old}
use Rattle.clean.specs.Walk.{MarksAt}
use Rattle.clean.specs.Walk.{met as met_at}
use Rattle.clean.specs.Walk.{goes}
use Rattle.clean.proofs.count.mark_gap.Given as goal

abbrev pub invariant-loop-at : goal.invariant-loop-at
invariant-loop-at l = (l.gap.start ≤ l.at) × (l.at ≤ l.gap.end) × (l.met ≡ met_at (old l.bank) l.at) × (l.last ≡ goes (old l.bank) l.at) × MarksAt (old l.bank) l.at l.marks

abbrev pub decreases-loop-at : goal.decreases-loop-at
decreases-loop-at l = l.gap.end - l.at
