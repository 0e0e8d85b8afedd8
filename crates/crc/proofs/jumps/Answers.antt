-- `crc::jumps` meets its contract: antt computes each entry by its rule.
-- Assumes nothing.
use mathlib.Core.Path.{refl}
use Rattle.crc.proofs.Table.{ruled, spread, ways, jump_at, jumps_are}
use Rattle.crc.proofs.jumps.Goals as goal

pub returns : goal.returns
unfolding ruled spread ways jump_at
returns c = jumps_are _ refl
