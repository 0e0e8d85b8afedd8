-- `exports::slots::client_take` meets its contract: at each turn the first k slots are taken.
-- Assumes nothing.
use mathlib.Core.Path.{◌≡◌, refl, sym, ◌∙◌}
use native.Mathlib.Omega.{arith}
use lib.ListN.{length}
use borrow.Author.Rules.{rules}
use Rattle.exports.proofs.Taking.{each_good, slots_all_good, an_address_each, none_taken, one-taken, slots_refused, slots_taken_lem}
use Rattle.exports.proofs.slots.client_take.Goals as goal

pub returns-then-not-all_good : goal.returns-then-not-all_good
returns-then-not-all_good c = slots_refused _ _ _ _ _ _ _ (sym c.all_good.ensures ∙ c.if-not-all_good.true)

pub loop-k-init : goal.loop-k-init
loop-k-init c = (refl, refl, refl, none_taken _ _ _ _ _)

pub take_slot-stepped-requires : goal.take_slot-stepped-requires
take_slot-stepped-requires c =
    let a = c.args in
    let good = sym c.all_good.ensures ∙ c.if-not-all_good.false in
    let k = c.loop-k.k in
    let every = an_address_each a.slots.now a.addresses.now _ good in
    record { slot_size_in_bounds = search rules; k_bound = each_good a.slots.now _ k (slots_all_good a.slots.now a.addresses.now _ good) (search rules); address_size_in_bounds = omega arith }

pub loop-k-preserved : goal.loop-k-preserved
loop-k-preserved c =
    let in0 : length c.take_slot-stepped.new.bank0 ≡ length c.loop-k.bank0 = c.take_slot-stepped.auto.bank0 in
    let in1 : length c.take_slot-stepped.new.bank1 ≡ length c.loop-k.bank1 = c.take_slot-stepped.auto.bank1 in
    let said : length c.take_slot-stepped.new.buffer ≡ length c.loop-k.buffer = c.take_slot-stepped.auto.buffer in (
      in0 ∙ c.loop-k.invariant.0,
      in1 ∙ c.loop-k.invariant.1,
      said ∙ c.loop-k.invariant.2,
      rw c.given-told.ensures (one-taken _ _ _ _ _ c.loop-k.k c.loop-k.client c.loop-k.told _ _ _ c.loop-k.invariant.3 c.loop-k.invariant.2 c.take_slot-stepped.result _ _ _ c.take_slot-stepped.ensures),
    )

pub returns : goal.returns
returns c =
    let good = sym c.all_good.ensures ∙ c.if-not-all_good.false in
    slots_taken_lem _ _ _ _ _ _ _ c.loop-k.client c.loop-k.told _ _ _ _ c.loop-k.k good c.fresh-client.ensures (search rules) c.loop-k.invariant.3
