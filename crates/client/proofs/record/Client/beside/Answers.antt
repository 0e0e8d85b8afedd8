-- `client::step::Client::beside` meets its contract.
-- Assumes nothing.
use Rattle.client.proofs.Promising.{addressed_beside, fair_beside}
use Rattle.client.proofs.Stepping.{beside_is}
use Rattle.client.proofs.record.Client.beside.Goals as goal

pub carry-requires : goal.carry-requires
carry-requires c =
    let a = c.args in record {
      fair = fair_beside a.self a.target.now a.marks.now a.address.now a.buffer.now a.datagram.now a.running _ c.planned-plan.ensures;
      addressed = addressed_beside a.self a.target.now a.marks.now a.address.now a.buffer.now a.datagram.now a.running _ c.planned-plan.ensures;
    }

pub returns : goal.returns
returns c =
    let a = c.args in
    beside_is a.self a.target.now a.address.now a.buffer.now _ a.running a.marks.now a.datagram.now _ _ _ _ c.planned-plan.ensures c.«data».ensures
    c.carry.ensures
