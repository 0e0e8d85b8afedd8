use Rattle.layout.specs.declared.Bank.TheVariants.{Zero, One}
use Rattle.layout.specs.Pair.{banks}
use Rattle.client.proofs.Stepping.{step_is}
use Rattle.client.proofs.record.Client.step.Goals as goal

-- src/step.rt:120:5
pub returns-in-Zero : goal.returns-in-Zero
returns-in-Zero c =
    let a = c.args in
    step_is a.self (banks a.bank0.now a.bank1.now) a.marks.now a.address.now a.buffer.now a.datagram.now _ _ _
    Zero c.in-Zero.is c.beside.ensures

-- src/step.rt:120:5
pub returns-in-One : goal.returns-in-One
returns-in-One c =
    let a = c.args in
    step_is a.self (banks a.bank0.now a.bank1.now) a.marks.now a.address.now a.buffer.now a.datagram.now _ _ _
    One c.in-One.is c.beside-in-One.ensures
