-- `night::judge::sector_crc` meets its contract: the part that is handed on is the sector.
-- Assumes nothing.
use mathlib.Core.Path.{sym, ap, ◌∙◌}
use native.Mathlib.Omega.{arith}
use Rattle.crc.specs.Crc.{crc_of}
use Rattle.layout.proofs.Layouts.{good_low, offset_good, lent_out}
use Rattle.night.proofs.judge.sector_crc.Goals as goal

pub overflow_add-to : goal.overflow_add-to
overflow_add-to c = omega (arith, offset_good _ c.requires.sector_value, c.sector_offset-from.ensures)

pub slice_bounds-crc32-end : goal.slice_bounds-crc32-end
slice_bounds-crc32-end c = omega (arith, good_low _ c.requires.sector_value, offset_good _ c.requires.sector_value, c.requires.sector_size_in_bounds, c.sector_offset-from.ensures)

pub returns : goal.returns
returns c = c.crc32.ensures ∙ ap crc_of (lent_out _ _ _ (c.sector_offset-from.ensures ∙ sym (offset_good _ c.requires.sector_value)))
