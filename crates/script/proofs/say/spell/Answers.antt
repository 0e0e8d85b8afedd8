-- `script::say::spell` meets its contract: two digits for each byte passed have room.
-- Assumes nothing.
use Prim.Native.Nat.{◌<◌, ◌+◌, ◌*◌}
use mathlib.Core.Path.{◌≡◌, refl, sym, ◌∙◌}
use native.Mathlib.Omega.{arith}
use lib.ListN.{length, length-set}
use lib.Seq.{length-take-le}
use Rattle.digits.proofs.Spelt.{spell_more}
use Rattle.script.proofs.Spelt.{spelt_none, spelt_all}
use borrow.Author.Rules.{rules}
use Rattle.script.proofs.say.spell.Goals as goal

pub returns-then-bytes-into : goal.returns-then-bytes-into
returns-then-bytes-into c =
    let a = c.args in
    (search rules, spelt_none a.bytes.now a.into.now c.if-bytes-into.true)

pub loop-i-init : goal.loop-i-init
loop-i-init c = refl

pub bounds-into-i-in-loop-i : goal.bounds-into-i-in-loop-i
bounds-into-i-in-loop-i c = simp length-set (omega arith)

pub loop-i-preserved : goal.loop-i-preserved
loop-i-preserved c =
    let a = c.args in
    let t = a.bytes.now in
    let h : c.loop-i.i < length t = omega arith in
    let q : 2 * (c.loop-i.i + 1) ≡ 2 * c.loop-i.i + 2 = omega arith in
    let e = spell_more t c.loop-i.into c.loop-i.i (2 * c.loop-i.i) _ _ h c.digit.ensures c.digit-in-loop-i.ensures in
    rw q (e ∙ c.loop-i.invariant)

pub returns : goal.returns
returns c =
    let a = c.args in
    let b = a.bytes.now in
    let n : c.loop-i.i ≡ length b = omega arith in
    let all = spelt_all b a.into.now c.loop-i.into (length b) c.if-bytes-into.false refl (rw (sym n) c.loop-i.invariant) in
    ((search rules, sym (length-take-le _ _ (search rules))), all)
