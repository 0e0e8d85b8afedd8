-- `crc::jump` meets its contract.
-- Assumes nothing.
use mathlib.Core.Path.{sym, ap₂, ◌∙◌}
use lib.Bits.{bit_xor}
use Rattle.crc.proofs.Words.{four_apart}
use Rattle.crc.proofs.jump.Goals as goal

pub returns : goal.returns
returns c =
    ap₂ bit_xor c.look-a.ensures
    (ap₂ bit_xor c.look-b.ensures (ap₂ bit_xor c.look-c.ensures c.look-d.ensures))
    ∙ sym (four_apart c.args.register c.ranges.register.fits)
