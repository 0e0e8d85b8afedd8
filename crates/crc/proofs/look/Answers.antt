-- `crc::look` meets its contract: the index lies within table k.
-- Assumes nothing.
use mathlib.Core.Path.{ap, ◌∙◌}
use Prim.Native.Nat.{ℕ, ◌-◌, ◌*◌}
use native.Mathlib.Omega.{arith}
use lib.Bits.{bit_and, and_mask, mask_lt}
use Rattle.crc.specs.Crc.{crc_bits}
use Rattle.crc.proofs.look.Goals as goal

pub overflow_cast-result : goal.overflow_cast-result
overflow_cast-result c = omega (arith, mask_lt c.args.x 8)

pub overflow_add-result : goal.overflow_add-result
overflow_add-result c = omega (arith, mask_lt c.args.x 8)

pub offset_bounds-t-k : goal.offset_bounds-t-k
offset_bounds-t-k c = omega (arith, mask_lt c.args.x 8)

pub bounds-t-k : goal.bounds-t-k
bounds-t-k c = omega (arith, mask_lt c.args.x 8)

pub returns : goal.returns
returns c =
    let k : ℕ = c.args.k in
    let x : ℕ = c.args.x in
    c.requires.jumps.entry k (bit_and x 255) c.requires.k_bound (mask_lt x 8) ∙ ap (crc_bits (8 * (24 - k))) (and_mask x 8)
