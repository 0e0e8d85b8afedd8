-- `sender::sectors::Image::survey` meets its contract.
-- Assumes nothing.
use Rattle.sender.proofs.Packets.{seen_none}
use Rattle.sender.proofs.sectors.Image.survey.Goals as goal

pub loop-k-init : goal.loop-k-init
loop-k-init c = seen_none _ _
