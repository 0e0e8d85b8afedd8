-- `bank::table::listed` meets its contract: each way out is a case of the definition.
-- Assumes nothing.
use native.Mathlib.Omega.{arith}
use Rattle.bank.proofs.Listed.{long, listed_id, listed-edition, listed-none, listed-many, listed-unfit, listed_is}
use Rattle.bank.proofs.table.listed.Goals as goal

pub returns-then-number-ne1024 : goal.returns-then-number-ne1024
returns-then-number-ne1024 c = listed_id _ c.requires _ c.number.ensures c.if-number-ne1024.true

pub bounds-bank-2 : goal.bounds-bank-2
bounds-bank-2 c = omega (arith, long _ c.requires)

pub returns-then-bank-ne1 : goal.returns-then-bank-ne1
returns-then-bank-ne1 c = listed-edition _ c.requires _ c.number.ensures c.if-number-ne1024.false c.if-bank-ne1.true

pub bounds-bank-3 : goal.bounds-bank-3
bounds-bank-3 c = omega (arith, long _ c.requires)

pub returns-then-n-lt1 : goal.returns-then-n-lt1
returns-then-n-lt1 c =
    listed-none _ c.requires _ c.number.ensures c.if-number-ne1024.false c.if-bank-ne1.false _
    c.from-n.ensures c.if-n-lt1.true

pub returns-then-n-gt-MOST_BODIES : goal.returns-then-n-gt-MOST_BODIES
returns-then-n-gt-MOST_BODIES c =
    listed-many _ c.requires _ c.number.ensures c.if-number-ne1024.false c.if-bank-ne1.false _
    c.from-n.ensures c.if-n-gt-MOST_BODIES.true

pub returns-then-bank-end : goal.returns-then-bank-end
returns-then-bank-end c =
    listed-unfit _ c.requires _ c.number.ensures c.if-number-ne1024.false c.if-bank-ne1.false _
    c.from-n.ensures (omega arith) c.if-n-gt-MOST_BODIES.false (omega (arith, c.end.ensures))

pub returns : goal.returns
returns c =
    listed_is _ c.requires _ c.number.ensures c.if-number-ne1024.false c.if-bank-ne1.false _
    c.from-n.ensures (omega arith) c.if-n-gt-MOST_BODIES.false (omega (arith, c.end.ensures))
