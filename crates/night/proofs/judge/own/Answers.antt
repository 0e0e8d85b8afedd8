-- `night::judge::own` meets its contract: each way out is a case of the definition.
-- Assumes nothing.
use borrow.Author.Rules.{rules}
use Rattle.night.specs.Judge.{own_verdict}
use Rattle.night.proofs.judge.own.Goals as goal

pub returns-then-eq : goal.returns-then-eq
unfolding own_verdict
returns-then-eq c = search rules

pub returns-then-repeated-eq : goal.returns-then-repeated-eq
unfolding own_verdict
returns-then-repeated-eq c = search rules

pub returns : goal.returns
unfolding own_verdict
returns c = search rules
