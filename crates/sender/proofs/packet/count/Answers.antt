-- `sender::packet::count` meets its contract: each way out is a case of the definition.
-- Assumes nothing.
use Rattle.std.proofs.lemmas.Result.{err_from_is_err_and}
use Rattle.sender.proofs.Packets.{count_refused, image_counted}
use Rattle.sender.proofs.packet.count.Goals as goal

pub returns-in_err-image : goal.returns-in_err-image
returns-in_err-image c =
    let p = err_from_is_err_and c.from_residual.result c.from_residual.ensures.1 in
    rw (p.1, p.2) (count_refused _ _ c.in_err-image.ensures)

pub returns : goal.returns
returns c = image_counted c.in_ok-image.ensures c.survey.ensures
