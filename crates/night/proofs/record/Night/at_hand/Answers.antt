-- `night::record::Night::at_hand` meets its contract: each way out is a case of the definition.
-- Assumes nothing.
use mathlib.Core.Path.{sym, ◌∙◌}
use native.Mathlib.Omega.{arith}
use Rattle.night.proofs.Calling.{stands_there, hand_refused, hand_moved}
use Rattle.night.proofs.Lending.{looked_for, lent, sector_good, sector_inside}
use Rattle.night.proofs.record.Night.at_hand.Goals as goal

pub judge-verdict-requires : goal.judge-verdict-requires
judge-verdict-requires c =
    let looked =
    looked_for c.args.image.now c.args.self.n c.args.self.tries _ _ _ _ c.number-p.ensures
    (sym c.in-Ok.is ∙ c.look.ensures) in
    let found = lent _ _ _ _ _ _ looked in
    record { sector_value = sector_good _ _ _ _ _ _ found; sector_size_in_bounds = sector_inside _ _ _ _ _ _ found }

pub moved-stand-requires : goal.moved-stand-requires
moved-stand-requires c =
    let looked =
    looked_for c.args.image.now c.args.self.n c.args.self.tries _ _ _ _ c.number-p.ensures
    (sym c.in-Ok.is ∙ c.look.ensures) in
    let found = lent _ _ _ _ _ _ looked in
    omega (arith, found.there, found.count_is)

pub goes_on-requires : goal.goes_on-requires
goes_on-requires c =
    let looked =
    looked_for c.args.image.now c.args.self.n c.args.self.tries _ _ _ _ c.number-p.ensures
    (sym c.in-Ok.is ∙ c.look.ensures) in
    let found = lent _ _ _ _ _ _ looked in
    let there =
    stands_there c.args.name c.args.gone c.args.self.tries _ c.judge-verdict.result _ found.there found.count_is
    c.moved-stand.ensures in
    record { n_value = found.good; n_value_2 = found.whole; room_in_bounds = found.roomy; stand_bound = there }

pub returns-in-Err : goal.returns-in-Err
returns-in-Err c =
    let looked =
    looked_for c.args.image.now c.args.self.n c.args.self.tries _ _ _ _ c.number-p.ensures
    (sym c.in-Err.is ∙ c.look.ensures) in
    hand_refused _ _ _ _ _ _ _ _ looked c.told.ensures

pub returns-in-Ok : goal.returns-in-Ok
returns-in-Ok c =
    let looked =
    looked_for c.args.image.now c.args.self.n c.args.self.tries _ _ _ _ c.number-p.ensures
    (sym c.in-Ok.is ∙ c.look.ensures) in
    hand_moved _ _ _ _ _ _ _ _ _ _ _ looked c.judge-verdict.ensures c.moved-stand.ensures c.goes_on.ensures
