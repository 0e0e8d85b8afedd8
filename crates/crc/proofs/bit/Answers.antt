-- `crc::bit` meets its contract: by the bit that falls out.
-- Assumes nothing.
use mathlib.Core.Path.{◌≡◌, sym, ap, ◌∙◌}
use Prim.Native.Nat.{ℕ, ◌/◌, ◌%◌}
use native.Mathlib.Omega.{arith}
use lib.Bits.{and_mask}
use Rattle.crc.specs.Crc.{feed, crc_bit}
use Rattle.crc.proofs.bit.Goals as goal

pub returns-then-register-eq1 : goal.returns-then-register-eq1
unfolding crc_bit feed
returns-then-register-eq1 c = sym (ap (λ (b : ℕ). feed b (c.args.register / 2)) (sym (and_mask c.args.register 1) ∙ c.if-register-eq1.true))

pub returns-else-register-eq1 : goal.returns-else-register-eq1
unfolding crc_bit feed
returns-else-register-eq1 c =
    let r : ℕ = c.args.register in
    let z : r % 2 ≡ 0 = omega (arith, and_mask r 1) in
    sym (ap (λ (b : ℕ). feed b (r / 2)) z)
