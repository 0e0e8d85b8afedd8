-- `sender::sectors::Image::place` meets its contract: each way out is a case of the definition.
-- Assumes nothing.
use native.Mathlib.Omega.{arith}
use Rattle.sender.proofs.Packets.{seen-count, place_past, place_found}
use Rattle.sender.proofs.sectors.Image.place.Goals as goal

pub returns-then-seen-p : goal.returns-then-seen-p
returns-then-seen-p c =
    let image = c.args.self.now in
    place_past _ _ _ (omega (arith, seen-count image.bytes.now c.args.p image.n _ c.survey-seen.ensures, c.if-seen-p.true))

pub returns : goal.returns
returns c =
    let image = c.args.self.now in
    place_found _ _ _ _ c.survey-seen.ensures
    (omega (arith, seen-count image.bytes.now c.args.p image.n _ c.survey-seen.ensures, c.if-seen-p.false))
