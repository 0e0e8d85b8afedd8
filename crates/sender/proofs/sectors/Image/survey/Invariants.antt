-- `sender::sectors::Image::survey` meets its contract. The loop's invariant: what was seen is what the first k sectors show.
-- Assumes nothing.
use mathlib.Core.Path.{◌≡◌}
use Rattle.sender.specs.Packet.{seen_of}
use Rattle.sender.proofs.sectors.Image.survey.Given as goal

abbrev pub invariant-loop-k : goal.invariant-loop-k
invariant-loop-k l = l.seen ≡ seen_of l.self.bytes.now l.k l.p
