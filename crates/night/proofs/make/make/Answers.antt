-- `night::make::make` meets its contract: each frame is the sender's, and none is refused.
-- Assumes nothing.
use mathlib.Core.Path.{refl, subst}
use Prim.Native.Nat.{◌<◌}
use Rattle.sender.specs.declared.request.Request.TheVariants as request
use Rattle.sender.specs.Packet.{packet_count}
use Rattle.night.specs.declared.name.Name.{Name}
use Rattle.night.specs.declared.name.Name.TheVariants.{ModeStart, VersionInfo, BankInfo, WriteStart, WriteEnd, ModeEnd}
use Rattle.night.specs.Name.{number_of}
use Rattle.night.proofs.Making.{request_sent, packet_sent}
use Rattle.night.proofs.make.make.Goals as goal

pub returns-in-ModeStart : goal.returns-in-ModeStart
returns-in-ModeStart c = request_sent _ _ _ _ _ _ _ _ c.sent.ensures ModeStart request.ModeStart c.in-ModeStart.is refl refl c.requires.room_in_bounds c.make.ensures

pub returns-in-VersionInfo : goal.returns-in-VersionInfo
returns-in-VersionInfo c = request_sent _ _ _ _ _ _ _ _ c.sent-in-VersionInfo.ensures VersionInfo request.VersionInfo c.in-VersionInfo.is refl refl c.requires.room_in_bounds c.make-in-VersionInfo.ensures

pub returns-in-BankInfo : goal.returns-in-BankInfo
returns-in-BankInfo c = request_sent _ _ _ _ _ _ _ _ c.sent-in-BankInfo.ensures BankInfo request.BankInfo c.in-BankInfo.is refl refl c.requires.room_in_bounds c.make-in-BankInfo.ensures

pub returns-in-WriteStart : goal.returns-in-WriteStart
returns-in-WriteStart c = request_sent _ _ _ _ _ _ _ _ c.sent-in-WriteStart.ensures WriteStart (request.WriteStart _ _) c.in-WriteStart.is refl c.requires.n_value c.requires.room_in_bounds c.make-in-WriteStart.ensures

pub returns-in-Packet : goal.returns-in-Packet
returns-in-Packet c =
    packet_sent _ _ _ _ _ _ _ _ _ c.sent-in-Packet.ensures c.in-Packet.is c.requires.n_value c.requires.n_value_2 c.requires.room_in_bounds
    (subst (λ (k : Name). number_of k < packet_count c.args.image.now c.args.n) c.in-Packet.is c.requires.name_bound) c.packet.ensures

pub returns-in-WriteEnd : goal.returns-in-WriteEnd
returns-in-WriteEnd c = request_sent _ _ _ _ _ _ _ _ c.sent-in-WriteEnd.ensures WriteEnd request.WriteEnd c.in-WriteEnd.is refl refl c.requires.room_in_bounds c.make-in-WriteEnd.ensures

pub returns-in-ModeEnd : goal.returns-in-ModeEnd
returns-in-ModeEnd c = request_sent _ _ _ _ _ _ _ _ c.sent-in-ModeEnd.ensures ModeEnd request.ModeEnd c.in-ModeEnd.is refl refl c.requires.room_in_bounds c.make-in-ModeEnd.ensures
