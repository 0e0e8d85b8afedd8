-- `crc::crc32` meets its contract: the complement of the register after all the bytes.
-- Assumes nothing.
use mathlib.Core.Path.{ap}
use Prim.Native.Nat.{ℕ, ◌-◌}
use Rattle.crc.specs.Crc.{ones, crc_of}
use Rattle.crc.proofs.crc32.Goals as goal

pub returns : goal.returns
unfolding crc_of
returns c = ap (λ (r : ℕ). ones - r) c.crc_more.ensures
