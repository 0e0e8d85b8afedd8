-- `crc::bits` meets its contract: the bits that are left, of the register as it is, come to the whole.
-- Assumes nothing.
use mathlib.Core.Path.{◌≡◌, ap, ◌∙◌}
use Prim.Native.Nat.{ℕ, suc, ◌+◌, ◌-◌}
use native.Mathlib.Omega.{arith}
use Rattle.crc.specs.Crc.{crc_bits}
use Rattle.crc.proofs.bits.Goals as goal

pub loop-init : goal.loop-init
loop-init c =
    let n : ℕ = c.args.n in
    let e : n - 0 ≡ n = omega arith in
    ap (λ (m : ℕ). crc_bits m c.args.register) e

pub loop-preserved : goal.loop-preserved
unfolding crc_bits
loop-preserved c =
    let n : ℕ = c.args.n in
    let k : ℕ = c.loop.counter in
    let e : suc (n - (k + 1)) ≡ n - k = omega arith in
    ap (crc_bits (n - (k + 1))) c.bit-r.ensures ∙ ap (λ (m : ℕ). crc_bits m c.loop.r) e ∙ c.loop.invariant

pub returns : goal.returns
unfolding crc_bits
returns c =
    let e : 0 ≡ c.args.n - c.loop.counter = omega arith in
    ap (λ (m : ℕ). crc_bits m c.loop.r) e ∙ c.loop.invariant
