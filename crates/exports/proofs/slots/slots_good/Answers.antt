-- `exports::slots::slots_good` meets its contract: at each turn the first k slots are good.
-- Assumes nothing.
use mathlib.Core.Path.{◌≡◌, sym, ap, ◌∙◌}
use Prim.Native.Nat.{◌≤◌, ◌<◌}
use native.Mathlib.Omega.{arith}
use Rattle.exports.specs.Slots.{slot_room, size_at, slots_good}
use Rattle.exports.proofs.Taking.{none_looked_at, one_more_good, one_bad}
use Rattle.exports.proofs.slots.slots_good.Goals as goal

pub loop-k-init : goal.loop-k-init
loop-k-init c = none_looked_at _

pub returns-then-size_at-gt-ROOM : goal.returns-then-size_at-gt-ROOM
returns-then-size_at-gt-ROOM c =
    let a = c.args in
    let z = c.size_at.ensures in
    let big : slot_room < size_at a.slots.now c.loop-k.k = omega arith in
    sym (one_bad a.slots.now a.count c.loop-k.k c.loop-k-test.true big)

pub loop-k-preserved : goal.loop-k-preserved
loop-k-preserved c =
    let a = c.args in
    let z = c.size_at.ensures in
    let small : size_at a.slots.now c.loop-k.k ≤ slot_room = omega arith in
    one_more_good a.slots.now c.loop-k.k c.loop-k.invariant small

pub returns : goal.returns
returns c =
    let a = c.args in
    let all : a.count ≡ c.loop-k.k = omega arith in
    sym (ap (slots_good a.slots.now) all ∙ c.loop-k.invariant)
