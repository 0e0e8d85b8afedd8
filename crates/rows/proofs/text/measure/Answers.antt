-- `rows::text::measure` meets its contract: behind each row it is known how far the text goes.
-- Assumes nothing.
use Rattle.std.proofs.Common.{◌≡◌, ◌/◌, length, sym, ap, ◌∙◌, arith}
use Rattle.rows.specs.Text.{row_size, rows_text}
use Rattle.rows.proofs.Rows.{so_long, reached_first}
use Rattle.rows.proofs.text.measure.Goals as goal

pub loop-k-init : goal.loop-k-init
loop-k-init c = let a = c.args in (omega arith, sym (reached_first a.image.now a.base))

pub pass-reached-requires : goal.pass-reached-requires
pass-reached-requires c = record { fits = c.requires; inside = omega arith; so_far = c.loop-k.invariant.1 }

pub loop-k-preserved : goal.loop-k-preserved
loop-k-preserved c = (omega arith, c.pass-reached.ensures)

pub returns : goal.returns
returns c =
    let a = c.args in
    let e : c.loop-k.k ≡ length a.image.now / row_size = omega arith in
    so_long a.image.now a.base c.loop-k.k c.loop-k.invariant.1 ∙ ap (λ (k : _). length (rows_text a.image.now a.base k)) e
