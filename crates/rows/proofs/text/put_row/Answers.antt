-- `rows::text::put_row` meets its contract: nothing for a blank row; else its upper half, unless that was told last, and its line.
-- Assumes nothing.
use Rattle.std.proofs.Common.{refl, arith}
use Rattle.rows.proofs.Rows.{row_copied, row_none, line_at, line-fits, row_fits, row_put}
use Rattle.rows.proofs.text.put_row.Goals as goal

pub returns-then-next-reached : goal.returns-then-next-reached
returns-then-next-reached c =
    let a = c.args in
    let p = c.requires.row_fits in
    let passed = c.pass-next.ensures in
    (passed, row_none a.image.now a.base a.k p.so_far passed p.inside c.if-next-reached.true a.text.now)

pub put_upper-requires : goal.put_upper-requires
put_upper-requires c =
    let a = c.args in
    let p = c.requires.row_fits in
    let passed = c.pass-next.ensures in
    let l = line_at a.image.now a.base a.k p.so_far passed p.inside c.if-next-reached.false in
    let f = line-fits a.image.now a.base a.k p.so_far passed p.inside c.if-next-reached.false c.requires.k_in_bounds in
    omega arith

pub overflow_sub-next : goal.overflow_sub-next
overflow_sub-next c =
    let a = c.args in
    let p = c.requires.row_fits in
    let passed = c.pass-next.ensures in
    let l = line_at a.image.now a.base a.k p.so_far passed p.inside c.if-next-reached.false in
    omega arith

pub put_line-requires : goal.put_line-requires
put_line-requires c =
    let a = c.args in
    let p = c.requires.row_fits in
    let passed = c.pass-next.ensures in
    let row = row_copied a.image.now a.k p.inside _ refl c.put_front.ensures in
    row_fits a.image.now a.base a.k p.so_far passed p.inside c.if-next-reached.false a.text.now c.put_upper.ensures row c.requires.k_in_bounds

pub returns : goal.returns
returns c =
    let a = c.args in
    let p = c.requires.row_fits in
    let passed = c.pass-next.ensures in
    let row = row_copied a.image.now a.k p.inside _ refl c.put_front.ensures in
    (passed, row_put a.image.now a.base a.k p.so_far passed p.inside c.if-next-reached.false a.text.now c.put_upper.ensures row c.put_line.ensures)
