-- `client::step::Client::take` meets its contract.
-- Assumes nothing.
use Rattle.client.proofs.Promising.{plan-is, addressed, fair}
use Rattle.client.proofs.Stepping.{take_is}
use Rattle.client.proofs.record.Client.take.Goals as goal

pub carry-requires : goal.carry-requires
carry-requires c =
    let a = c.args in record {
      fair = fair a.self a.target.now a.marks.now a.address.now a.buffer.now a.datagram.now _
          c.standing-standing.ensures _ c.read_request-asked.ensures _
          c.plan-plan.ensures;
      addressed = addressed a.self a.target.now a.marks.now a.address.now a.buffer.now a.datagram.now _
          c.standing-standing.ensures _ c.read_request-asked.ensures _
          c.plan-plan.ensures;
    }

pub returns : goal.returns
returns c =
    let a = c.args in
    take_is a.self a.target.now a.marks.now a.address.now a.buffer.now a.datagram.now _ _ _ _ _
    (plan-is a.self a.target.now a.marks.now a.address.now a.buffer.now a.datagram.now _
    c.standing-standing.ensures _
    c.read_request-asked.ensures _
    c.plan-plan.ensures)
    c.«data».ensures c.carry.ensures
