-- `flash::bank::sweep_one` meets its contract.
-- Assumes nothing.
use Rattle.flash.proofs.Sweeps.{one_kept, one_erased}
use Rattle.flash.proofs.bank.sweep_one.Goals as goal

pub returns-then-received : goal.returns-then-received
returns-then-received c = one_kept c.args.bank.now c.args.k c.if-received.true

pub returns : goal.returns
returns c =
    let a = c.args in
    one_erased a.bank.now a.k c.if-received.false c.store.ensures
