-- `bank::check::check_contents` meets its contract.
-- Assumes nothing.
use Rattle.bank.proofs.Cases.{contents_is}
use Rattle.bank.proofs.check.check_contents.Goals as goal

pub returns : goal.returns
returns c = contents_is _ _ c.judged.ensures
