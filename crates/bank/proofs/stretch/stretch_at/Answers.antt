-- `bank::stretch::stretch_at` meets its contract.
-- Assumes nothing.
use native.Mathlib.Omega.{arith}
use Rattle.bank.proofs.Listed.{count_small, stretch_is, stretch_none}
use Rattle.bank.proofs.stretch.stretch_at.Goals as goal

pub entry_at-entry-requires : goal.entry_at-entry-requires
entry_at-entry-requires c = omega (arith, c.count.ensures, count_small c.args.bank.now)

pub returns-then-i-count : goal.returns-then-i-count
returns-then-i-count c = stretch_is _ _ (omega (arith, c.count.ensures)) _ c.entry_at-entry.ensures.is

pub returns : goal.returns
returns c = stretch_none _ _ (omega (arith, c.count.ensures))
