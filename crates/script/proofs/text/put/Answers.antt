-- `script::text::put` meets its contract: both lengths are known, and every digit is one.
-- Assumes nothing.
use mathlib.Core.Path.{refl, sym, ◌∙◌}
use Prim.Native.Nat.{◌<◌, ◌+◌, ◌*◌}
use native.Mathlib.Omega.{arith}
use lib.ListN.{length}
use Rattle.script.specs.Spelt.{bytes_in}
use Rattle.script.proofs.Spelt.{length_bytes, put_more, put_done, front_is}
use Rattle.script.proofs.text.put.Goals as goal

pub loop-i-init : goal.loop-i-init
loop-i-init c = refl

pub byte_at-requires : goal.byte_at-requires
byte_at-requires c = (omega arith, c.requires.1)

pub loop-i-preserved : goal.loop-i-preserved
loop-i-preserved c =
    let a = c.args in
    let t = a.text.now in
    let h : 2 * c.loop-i.i + 1 < length t = omega arith in
    put_more t c.loop-i.into c.loop-i.i _ h c.byte_at.ensures ∙ c.loop-i.invariant

pub returns : goal.returns
returns c =
    let a = c.args in
    let t = a.text.now in
    let n = length_bytes t in
    sym (put_done t c.loop-i.into c.loop-i.i (omega arith)) ∙ c.loop-i.invariant ∙ front_is a.into.now (bytes_in t) (omega arith)
