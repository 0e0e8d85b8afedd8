-- `clean::list::list_piece` meets its contract: behind each byte the runs up to there are listed.
-- Assumes nothing.
use Rattle.clean.specs.Old.{old}
use Rattle.clean.specs.Walk.{Reached, ListsOn}
use Rattle.clean.proofs.list.list_piece.Given as goal

abbrev pub invariant-loop-at : goal.invariant-loop-at
invariant-loop-at l = Reached (old l.bank) l.at l.so_far × ListsOn (old l.bank) l.from l.at l.initial.runs l.runs
