-- `client::perform::sector_crc` meets its contract.
-- Assumes nothing.
use native.Mathlib.Omega.{arith}
use Rattle.client.proofs.Performing.{starts, crc_part}
use Rattle.client.proofs.perform.sector_crc.Goals as goal

pub overflow_add-from : goal.overflow_add-from
overflow_add-from c = omega (arith, starts _ _ c.requires.le_k c.sector_offset-from.ensures)

pub slice_bounds-crc32-end : goal.slice_bounds-crc32-end
slice_bounds-crc32-end c = omega (arith, starts _ _ c.requires.le_k c.sector_offset-from.ensures)

pub returns : goal.returns
returns c = crc_part _ _ _ _ (starts _ _ c.requires.le_k c.sector_offset-from.ensures) c.crc32.ensures
