-- `rows::text::put` meets its contract: all rows, and the end record right behind them.
-- Assumes nothing.
use Rattle.std.proofs.Common.{arith}
use Rattle.rows.proofs.Texts.{bank_fits, rows_fit, end_fits, put-text}
use Rattle.rows.proofs.text.put.Goals as goal

pub put_rows-at-requires : goal.put_rows-at-requires
put_rows-at-requires c =
    let a = c.args in
    let p = c.requires in
    let start = c.start_address-base.ensures in
    record { image_fits = bank_fits a.image.now a.bank start p.whole; base_in_bounds = rows_fit a.image.now a.bank start a.text.now p.enough }

pub put_line-requires : goal.put_line-requires
put_line-requires c =
    let a = c.args in
    let rows = c.put_rows-at.ensures in
    (omega arith, end_fits a.image.now a.bank c.start_address-base.ensures a.text.now c.requires.enough rows.0 rows.1)

pub returns : goal.returns
returns c =
    let a = c.args in
    let rows = c.put_rows-at.ensures in
    put-text a.image.now a.bank c.start_address-base.ensures a.text.now c.requires.enough rows.0 rows.1
    c.put_line.ensures
