-- `sender::packet::place` meets its contract: each way out is a case of the definition.
-- Assumes nothing.
use Rattle.std.proofs.lemmas.Result.{err_from_is_err_and}
use Rattle.sender.proofs.Packets.{place_refused, image_placed}
use Rattle.sender.proofs.packet.place.Goals as goal

pub returns-in_err-new : goal.returns-in_err-new
returns-in_err-new c =
    let p = err_from_is_err_and c.from_residual.result c.from_residual.ensures.1 in
    rw (p.1, p.2) (place_refused _ _ _ c.in_err-new.ensures)

pub returns : goal.returns
returns c = image_placed c.in_ok-new.ensures c.place.ensures
