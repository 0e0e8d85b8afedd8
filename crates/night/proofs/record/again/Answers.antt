-- `night::record::again` meets its contract: each way out is a case of the definition.
-- Assumes nothing.
use Rattle.night.proofs.Moving.{goes_again, given_up}
use Rattle.night.proofs.record.again.Goals as goal

pub returns-then-gone-tries : goal.returns-then-gone-tries
returns-then-gone-tries c = goes_again _ _ _ c.if-gone-tries.true

pub returns : goal.returns
returns c = given_up _ _ _ c.if-gone-tries.false
