-- `exchange::request::declined` meets its contract.
-- Assumes nothing.
use Rattle.exchange.proofs.request.declined.Goals as goal

pub returns-in-Control : goal.returns-in-Control
returns-in-Control c = rw c.in-Control.is

pub returns-in-Packet : goal.returns-in-Packet
returns-in-Packet c = rw c.in-Packet.is
