-- `exports::packet::sender_packet` meets its contract: the answer's number is given.
-- Assumes nothing.
use mathlib.Core.Path.{ap, ◌∙◌}
use Rattle.layout.specs.Said.{code}
use Rattle.exports.proofs.packet.sender_packet.Goals as goal

pub returns-in-Ok : goal.returns-in-Ok
returns-in-Ok c =
    let e = c.packet.ensures in
    record { number_is = ap code c.in-Ok.ensures.says; stands = e.stands }

pub returns-in-Err : goal.returns-in-Err
returns-in-Err c =
    let e = c.packet.ensures in
    record { number_is = c.from.ensures ∙ ap code c.in-Err.ensures.says; stands = e.stands }
