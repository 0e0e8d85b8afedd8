-- `clean::blank::blank_run` meets its contract: what `fill` says of the part, said of the bank.
-- Assumes nothing.
use Rattle.clean.proofs.Blanking.{filled_back}
use Rattle.clean.proofs.blank.blank_run.Goals as goal

pub returns : goal.returns
returns c =
    let a = c.args in
    filled_back a.bank.now a.from a.size c.requires c.fill.ensures
