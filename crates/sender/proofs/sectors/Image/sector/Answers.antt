-- `sender::sectors::Image::sector` meets its contract: a sector of the image lies within it.
-- Assumes nothing.
use mathlib.Core.Path.{sym, ◌∙◌}
use native.Mathlib.Omega.{arith}
use Rattle.layout.proofs.Layouts.{good_high, good_below, offset_good, lent_out}
use Rattle.sender.proofs.sectors.Image.sector.Goals as goal

pub overflow_add-result : goal.overflow_add-result
overflow_add-result c =
    let image = c.args.self.now in
    let good = good_below _ image.n_good _ c.requires.low c.requires.high in
    omega (arith, c.requires.high, good_high _ image.n_good, offset_good _ good, c.sector_offset-from.ensures)

pub slice_bounds-result-end : goal.slice_bounds-result-end
slice_bounds-result-end c =
    let image = c.args.self.now in
    let good = good_below _ image.n_good _ c.requires.low c.requires.high in
    omega (arith, c.requires.low, c.requires.high, image.whole, offset_good _ good, c.sector_offset-from.ensures)

pub returns : goal.returns
returns c =
    let image = c.args.self.now in
    let good = good_below _ image.n_good _ c.requires.low c.requires.high in
    lent_out image.bytes.now c.args.k _ (c.sector_offset-from.ensures ∙ sym (offset_good _ good))
