-- `flash::bank::sweep` meets its contract: at each turn the stores of the first j sectors are made.
-- Assumes nothing.
use mathlib.Core.Path.{◌≡◌}
use lib.ListN.{length}
use Rattle.flash.specs.Store.{StoresLeave, sweep_stores}
use Rattle.flash.proofs.bank.sweep.Given as goal

abbrev pub invariant-loop-j : goal.invariant-loop-j
invariant-loop-j l = (length l.bank ≡ length l.initial.bank) × StoresLeave (sweep_stores l.received (length l.initial.bank) l.j) l.initial.bank l.bank
