-- `night::record::Night::goes_on` meets its contract: each stand has a case of the definition.
-- Assumes nothing.
use mathlib.Core.Path.{refl, subst}
use Prim.Native.Nat.{◌<◌}
use Rattle.sender.specs.Packet.{packet_count}
use Rattle.night.specs.declared.record.Stand.{Stand}
use Rattle.night.specs.Call.{stands_at}
use Rattle.night.proofs.Calling.{gone_end, gone_out}
use Rattle.night.proofs.record.Night.goes_on.Goals as goal

pub make-requires : goal.make-requires
make-requires c =
    let there =
    subst (λ (s : Stand). stands_at s < packet_count c.args.image.now c.args.self.n) c.in-At.is
    c.requires.stand_bound in
    record { n_value = c.requires.n_value; n_value_2 = c.requires.n_value_2; room_in_bounds = c.requires.room_in_bounds; name_bound = there }

pub returns-in-NotBegun : goal.returns-in-NotBegun
returns-in-NotBegun c = gone_end _ _ _ _ _ c.in-NotBegun.is c.told.ensures refl

pub returns-in-At : goal.returns-in-At
returns-in-At c = gone_out _ _ _ _ _ _ _ _ c.in-At.is c.make.ensures c.told-in-At.ensures

pub returns-in-Finished : goal.returns-in-Finished
returns-in-Finished c = gone_end _ _ _ _ _ c.in-Finished.is c.told-in-Finished.ensures refl

pub returns-in-GaveUp : goal.returns-in-GaveUp
returns-in-GaveUp c = gone_end _ _ _ _ _ c.in-GaveUp.is c.told-in-GaveUp.ensures refl
