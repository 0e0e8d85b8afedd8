-- `clean::numbers::list` meets its contract: behind each sector the numbers up to there are listed.
-- Assumes nothing.
use mathlib.Core.Path.{◌≡◌}
use lib.ListN.{length}
use lib.Seq.{sets}
use Rattle.clean.specs.Sectors.{numbers_at}
use Rattle.clean.specs.Walk.{mark_in}
use Rattle.clean.proofs.numbers.list.Given as goal

abbrev pub invariant-loop-i : goal.invariant-loop-i
invariant-loop-i l = (l.m ≡ length (numbers_at (mark_in l.marks) l.i)) × (l.sectors ≡ sets l.initial.sectors 0 (numbers_at (mark_in l.marks) l.i))
