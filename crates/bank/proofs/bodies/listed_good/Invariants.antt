-- `bank::bodies::listed_good` meets its contract: what is left holds just where all does.
-- Assumes nothing.
use mathlib.Core.Path.{◌≡◌}
use mathlib.Core.Bool.{◌&&◌}
use Prim.Native.Nat.{◌≤◌}
use lib.ListN.{length}
use Rattle.bank.specs.Sound.{listed_good, blank_good, asked}
use Rattle.bank.proofs.Tables.{good_from}
use Rattle.bank.proofs.bodies.listed_good.Given as goal

abbrev pub invariant-loop-i : goal.invariant-loop-i
invariant-loop-i l = (l.at ≤ length l.bank) × ((listed_good l.bank && asked l.outside (blank_good l.bank)) ≡ good_from l.outside l.bank l.at l.i)
