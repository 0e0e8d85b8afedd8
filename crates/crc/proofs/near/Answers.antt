-- `crc::near` meets its contract.
-- Assumes nothing.
use mathlib.Core.Path.{ap, ◌∙◌}
use Prim.Native.Nat.{ℕ}
use lib.Bits.{bit_xor}
use Rattle.crc.specs.Crc.{crc_bits}
use Rattle.crc.specs.Braid.{crc_word}
use Rattle.crc.proofs.near.Goals as goal

pub returns : goal.returns
unfolding crc_word
returns c = c.bits.ensures ∙ ap (λ (w : ℕ). crc_bits 32 (bit_xor c.args.register (bit_xor c.args.held w))) c.word.ensures
