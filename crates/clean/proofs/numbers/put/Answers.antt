-- `clean::numbers::put` meets its contract: there is a mark, or there is none.
-- Assumes nothing.
use mathlib.Core.Path.{refl}
use native.Mathlib.Omega.{arith}
use Rattle.clean.proofs.numbers.put.Goals as goal

pub bounds-sectors-m : goal.bounds-sectors-m
bounds-sectors-m c = let h = rw c.if-mark.true at c.requires.1 in omega arith

pub returns-then-mark : goal.returns-then-mark
returns-then-mark c = rw c.if-mark.true (refl, refl)

pub returns : goal.returns
returns c = rw c.if-mark.false (omega arith, refl)
