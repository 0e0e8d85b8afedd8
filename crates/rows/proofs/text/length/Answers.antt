-- `rows::text::length` meets its contract: no bank's length, or the rows measured and the end record.
-- Assumes nothing.
use Rattle.std.proofs.Common.{◌/◌, length, is_some, ap, ◌∙◌, arith}
use Rattle.layout.proofs.Layouts.{whole_some}
use Rattle.rows.specs.Text.{row_size}
use Rattle.rows.proofs.Rows.{rows_small}
use Rattle.rows.proofs.Texts.{bank_fits, text_length, length_bad, length_good}
use Rattle.rows.proofs.text.length.Goals as goal

pub measure-requires : goal.measure-requires
measure-requires c =
    let whole = whole_some _ c.sectors.ensures ∙ ap is_some c.in-Some.is in
    bank_fits _ c.args.bank c.start_address-base.ensures whole

pub overflow_add-result : goal.overflow_add-result
overflow_add-result c =
    let a = c.args in
    let whole = whole_some _ c.sectors.ensures ∙ ap is_some c.in-Some.is in
    let start = c.start_address-base.ensures in
    let m = rows_small a.image.now _ (bank_fits a.image.now a.bank start whole) (length a.image.now / row_size) (omega arith) in
    omega (arith, c.measure.ensures)

pub returns-in-None : goal.returns-in-None
returns-in-None c = length_bad _ _ (whole_some _ c.sectors.ensures ∙ ap is_some c.in-None.is)

pub returns-in-Some : goal.returns-in-Some
returns-in-Some c =
    let a = c.args in
    let whole = whole_some _ c.sectors.ensures ∙ ap is_some c.in-Some.is in
    let size = text_length a.image.now a.bank c.start_address-base.ensures in
    length_good _ _ whole (omega (arith, c.measure.ensures))
