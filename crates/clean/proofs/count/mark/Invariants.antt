-- `clean::count::mark` meets its contract: at the start of each gap the runs up to there were met, and the sectors marked.
-- Assumes nothing.
use mathlib.Core.Path.{◌≡◌}
use lib.ListN.{length}
use Rattle.clean.specs.Old.{old}
use Rattle.clean.specs.Runs.{open_at, runs_at}
use Rattle.clean.specs.Walk.{MarksAt}
use Rattle.clean.proofs.Gaps.{reach}
use Rattle.clean.proofs.count.mark.Given as goal

abbrev pub invariant-loop-gap : goal.invariant-loop-gap
invariant-loop-gap l =
    (open_at (old l.bank) (reach l.bank l.gap-index) ≡ 0)
    × (l.runs ≡ length (runs_at (old l.bank) (reach l.bank l.gap-index)))
    × MarksAt (old l.bank) (reach l.bank l.gap-index) l.marks
