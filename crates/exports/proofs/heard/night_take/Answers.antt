-- `exports::heard::night_take` meets its contract: at each turn the first k slots are heard.
-- Assumes nothing.
use mathlib.Core.Path.{◌≡◌, refl, sym, ◌∙◌}
use lib.ListN.{length}
use borrow.Author.Rules.{rules}
use Rattle.exports.proofs.Hearing.{none_heard, one_heard, slots_refused, slots_heard}
use Rattle.exports.proofs.Taking.{each_good}
use Rattle.exports.proofs.heard.night_take.Goals as goal

pub returns-then-not-slots_good : goal.returns-then-not-slots_good
returns-then-not-slots_good c = slots_refused _ _ _ _ _ (sym c.slots_good.ensures ∙ c.if-not-slots_good.true)

pub loop-k-init : goal.loop-k-init
loop-k-init c = (refl, none_heard _ _ _)

pub hear_slot-called-requires : goal.hear_slot-called-requires
hear_slot-called-requires c =
    let a = c.args in
    let good = sym c.slots_good.ensures ∙ c.if-not-slots_good.false in
    record { slot_size_in_bounds = search rules; k_bound = each_good a.slots.now _ c.loop-k.k good (search rules) }

pub loop-k-preserved : goal.loop-k-preserved
loop-k-preserved c =
    let said : length c.hear_slot-called.new.buffer ≡ length c.loop-k.buffer = c.hear_slot-called.auto.buffer in (
      said ∙ c.loop-k.invariant.0,
      rw c.next_code-told-in-loop-k.ensures (one_heard _ _ _ c.loop-k.k c.loop-k.night c.loop-k.told _ c.hear_slot-called.result _ c.loop-k.invariant.1 c.hear_slot-called.ensures),
    )

pub returns : goal.returns
returns c =
    let good = sym c.slots_good.ensures ∙ c.if-not-slots_good.false in
    let all = (rw c.next_code-told.ensures at c.loop-k.invariant.1) in
    slots_heard _ _ _ _ _ c.start-begun.result _ c.loop-k.night c.loop-k.told _ c.loop-k.k good c.start-begun.ensures (search rules) all
