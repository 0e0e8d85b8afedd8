-- `rows::text::put_rows` meets its contract: behind each row the text so far stands at the front.
-- Assumes nothing.
use Rattle.std.proofs.Common.{◌≡◌, ℕ, ◌+◌, ◌-◌, ◌/◌, length, sym, refl, ap, ◌∙◌, arith}
use lib.Seq.{sets, length-sets}
use Rattle.rows.specs.Text.{row_size, row_text, rows_text}
use Rattle.rows.proofs.Rows.{so_long, reached_first, rows_none, rows_put, rows_grow}
use Rattle.rows.proofs.text.put_rows.Goals as goal

pub loop-k-init : goal.loop-k-init
loop-k-init c =
    let a = c.args in
    (omega arith, sym (reached_first a.image.now a.base), refl, rows_none a.image.now a.base a.text.now)

pub put_row-reached-requires : goal.put_row-reached-requires
put_row-reached-requires c =
    let a = c.args in
    let e : c.loop-k.k + 1 + (length a.image.now / row_size - (c.loop-k.k + 1)) ≡ length a.image.now / row_size = omega arith in
    let g = rw e at (rows_grow a.image.now a.base (c.loop-k.k + 1) (length a.image.now / row_size - (c.loop-k.k + 1))) in
    record { row_fits = record { fits = c.requires.image_fits; inside = omega arith; so_far = c.loop-k.invariant.1 }; k_in_bounds = omega (arith, c.loop-k.invariant.2, c.requires.base_in_bounds) }

pub loop-k-preserved : goal.loop-k-preserved
loop-k-preserved c =
    let a = c.args in
    let e = c.put_row-reached.ensures.1 in (
      omega arith,
      c.put_row-reached.ensures.0,
      rw e (length-sets c.loop-k.text c.loop-k.reached.at (row_text a.image.now a.base c.loop-k.k) ∙ c.loop-k.invariant.2),
      rows_put a.image.now a.base c.loop-k.k a.text.now c.loop-k.invariant.3 (so_long a.image.now a.base c.loop-k.k c.loop-k.invariant.1) e,
    )

pub returns : goal.returns
returns c =
    let a = c.args in
    let e : c.loop-k.k ≡ length a.image.now / row_size = omega arith in (
      so_long a.image.now a.base c.loop-k.k c.loop-k.invariant.1 ∙ ap (λ (k : ℕ). length (rows_text a.image.now a.base k)) e,
      c.loop-k.invariant.3 ∙ ap (λ (k : ℕ). sets a.text.now 0 (rows_text a.image.now a.base k)) e,
    )
