-- `sender::packet::packet` meets its contract: each way out is a case of the definition.
-- Assumes nothing.
use mathlib.Core.Path.{ap, ◌∙◌}
use Prim.Native.Nat.{ℕ}
use native.Mathlib.Omega.{arith}
use mathlib.Core.List.{List}
use Rattle.std.specs.Borrow.{Bor}
use Rattle.std.proofs.lemmas.Result.{err_from_is_err_and}
use Rattle.layout.specs.Layout.{sector_of}
use Rattle.sender.specs.Packet.{footer_of}
use Rattle.sender.proofs.Packets.{
  made_refused,
  made-no-room,
  packet_small,
  packet_refused,
  packet_put,
  sent_in,
  given_n,
  given_length,
  image_unplaced,
  image_place,
}
use Rattle.sender.proofs.packet.packet.Goals as goal

pub returns-in_err-image : goal.returns-in_err-image
returns-in_err-image c =
    let p = err_from_is_err_and c.from_residual.result c.from_residual.ensures.1 in
    rw (p.1, p.2) (packet_refused _ _ _ _ (made_refused _ _ _ _ c.in_err-image.ensures))

pub returns-then-buffer-lt-ROOM : goal.returns-then-buffer-lt-ROOM
returns-then-buffer-lt-ROOM c =
    let held = c.in_ok-image.ensures in
    packet_refused _ _ _ _ (made-no-room _ _ _ _ (given_n held) (given_length held) (omega arith))

pub returns-in_err-sector : goal.returns-in_err-sector
returns-in_err-sector c =
    let p = err_from_is_err_and c.from_residual-in_err-sector.result c.from_residual-in_err-sector.ensures.1 in
    rw (p.1, p.2) (image_unplaced c.in_ok-image.ensures _ (omega arith) c.place.ensures c.in_err-sector.was)

pub overflow_cast-sector : goal.overflow_cast-sector
overflow_cast-sector c =
    let held = c.in_ok-image.ensures in
    let at = image_place held c.place.ensures c.in_ok-sector.was in
    omega (arith, packet_small _ _ _ (given_n held) _ at.there at.sector_is)

pub sector-requires-clause-low : goal.sector-requires-clause-low
sector-requires-clause-low c =
    let at = image_place c.in_ok-image.ensures c.place.ensures c.in_ok-sector.was in
    omega (arith, (sent_in _ _ _ at.there).low, at.sector_is)

pub sector-requires-clause-high : goal.sector-requires-clause-high
sector-requires-clause-high c =
    let held = c.in_ok-image.ensures in
    let at = image_place held c.place.ensures c.in_ok-sector.was in
    omega (arith, (sent_in _ _ _ at.there).high, at.sector_is, held.n_is)

pub footer-requires : goal.footer-requires
footer-requires c =
    let at = image_place c.in_ok-image.ensures c.place.ensures c.in_ok-sector.was in
    omega (arith, at.there, at.count_is)

pub returns : goal.returns
returns c =
    let place = c.in_ok-sector.field-0 in
    let held = c.in_ok-image.ensures in
    let at = image_place held c.place.ensures c.in_ok-sector.was in
    packet_put _ _ _ _ _ _ _ _ (given_n held) (given_length held) (omega arith) at.there at.sector_is
    (c.sector.ensures ∙ ap (λ (b : Bor (List ℕ)). sector_of b.now place.sector) held.bytes_is)
    (c.footer.ensures ∙ ap (λ (x : ℕ). footer_of x c.args.p) at.count_is)
    c.put_write.ensures
