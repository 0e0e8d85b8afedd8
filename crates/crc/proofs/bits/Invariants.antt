-- `crc::bits` meets its contract: the bits that are left, of the register as it is, come to the whole.
-- Assumes nothing.
use mathlib.Core.Path.{◌≡◌}
use Prim.Native.Nat.{◌-◌}
use Rattle.crc.specs.Crc.{crc_bits}
use Rattle.crc.proofs.bits.Given as goal

abbrev pub invariant-loop : goal.invariant-loop
invariant-loop l = crc_bits (l.n - l.counter) l.r ≡ crc_bits l.n l.register
