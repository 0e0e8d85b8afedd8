-- `clean::list::list` meets its contract: at the start of each gap the runs up to there are listed.
-- Assumes nothing.
use mathlib.Core.Path.{◌≡◌}
use lib.ListN.{length}
use lib.Seq.{sets}
use Rattle.clean.specs.Old.{old}
use Rattle.clean.specs.Runs.{open_at, runs_at, flat}
use Rattle.clean.proofs.Gaps.{reach}
use Rattle.clean.proofs.list.list.Given as goal

abbrev pub invariant-loop-gap : goal.invariant-loop-gap
invariant-loop-gap l =
    (open_at (old l.bank) (reach l.bank l.gap-index) ≡ 0)
    × (l.n ≡ length (runs_at (old l.bank) (reach l.bank l.gap-index)))
    × (l.runs ≡ sets l.initial.runs 0 (flat (runs_at (old l.bank) (reach l.bank l.gap-index))))
