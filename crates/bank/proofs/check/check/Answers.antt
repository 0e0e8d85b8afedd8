-- `bank::check::check` meets its contract.
-- Assumes nothing.
use Rattle.bank.proofs.Cases.{check_is}
use Rattle.bank.proofs.check.check.Goals as goal

pub returns : goal.returns
returns c = check_is _ _ c.judged.ensures
