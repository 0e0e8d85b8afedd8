-- `night::record::following` meets its contract: each request has a case of the definition.
-- Assumes nothing.
use mathlib.Core.Path.{subst}
use Prim.Native.Nat.{◌<◌}
use Rattle.night.specs.declared.name.Name.{Name}
use Rattle.night.specs.declared.name.Name.TheVariants.{ModeStart, VersionInfo, BankInfo, WriteStart, Packet, WriteEnd}
use Rattle.night.specs.Name.{number_of}
use Rattle.night.proofs.Moving.{followed_as}
use Rattle.night.proofs.record.following.Goals as goal

pub behind_packet-requires : goal.behind_packet-requires
behind_packet-requires c = subst (λ (name : Name). number_of name < c.args.count) c.in-Packet.is c.requires

pub returns-in-ModeStart : goal.returns-in-ModeStart
returns-in-ModeStart c = followed_as _ ModeStart _ _ c.in-ModeStart.is c.first.ensures

pub returns-in-VersionInfo : goal.returns-in-VersionInfo
returns-in-VersionInfo c = followed_as _ VersionInfo _ _ c.in-VersionInfo.is c.first-in-VersionInfo.ensures

pub returns-in-BankInfo : goal.returns-in-BankInfo
returns-in-BankInfo c = followed_as _ BankInfo _ _ c.in-BankInfo.is c.first-in-BankInfo.ensures

pub returns-in-WriteStart : goal.returns-in-WriteStart
returns-in-WriteStart c = followed_as _ WriteStart _ _ c.in-WriteStart.is c.first-in-WriteStart.ensures

pub returns-in-Packet : goal.returns-in-Packet
returns-in-Packet c = followed_as _ (Packet _) _ _ c.in-Packet.is c.behind_packet.ensures

pub returns-in-WriteEnd : goal.returns-in-WriteEnd
returns-in-WriteEnd c = followed_as _ WriteEnd _ _ c.in-WriteEnd.is c.first-in-WriteEnd.ensures
