-- `crc::far` meets its contract.
-- Assumes nothing.
use mathlib.Core.Path.{ap, ◌∙◌}
use Prim.Native.Nat.{ℕ}
use lib.Bits.{bit_xor}
use Rattle.crc.specs.Crc.{crc_bits}
use Rattle.crc.proofs.far.Goals as goal

pub returns : goal.returns
returns c = c.jump.ensures ∙ ap (λ (w : ℕ). crc_bits 192 (bit_xor c.args.held w)) c.word.ensures
