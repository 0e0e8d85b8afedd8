-- `rows::text::pass` meets its contract, by the tests of the row: blank, its upper half told last, another one told last.
-- Assumes nothing.
use Rattle.std.proofs.Common.{arith}
use Rattle.rows.proofs.Rows.{row_seen, so_long, pass_blank, pass_same, pass-other, rows_small}
use Rattle.rows.proofs.text.pass.Goals as goal

pub returns-then-blank : goal.returns-then-blank
returns-then-blank c =
    let a = c.args in
    let p = c.requires in
    pass_blank a.image.now a.base a.k p.so_far (row_seen a.image.now a.k c.blank.ensures c.if-blank.true)

pub overflow_add-at : goal.overflow_add-at
overflow_add-at c =
    let a = c.args in
    let p = c.requires in
    let l = so_long a.image.now a.base a.k p.so_far in
    let m = rows_small a.image.now a.base p.fits a.k (omega (arith, p.inside)) in
    omega arith

pub overflow_add-at-then-told-reached : goal.overflow_add-at-then-told-reached
overflow_add-at-then-told-reached c =
    let a = c.args in
    let p = c.requires in
    let l = so_long a.image.now a.base a.k p.so_far in
    let m = rows_small a.image.now a.base p.fits a.k (omega (arith, p.inside)) in
    omega arith

pub returns-then-told-reached : goal.returns-then-told-reached
returns-then-told-reached c =
    let a = c.args in
    let p = c.requires in
    pass-other a.image.now a.base a.k p.so_far p.inside
    (row_seen a.image.now a.k c.blank.ensures c.if-blank.false) c.if-told-reached.true

pub returns-else-told-reached : goal.returns-else-told-reached
returns-else-told-reached c =
    let a = c.args in
    let p = c.requires in
    pass_same a.image.now a.base a.k p.so_far p.inside
    (row_seen a.image.now a.k c.blank.ensures c.if-blank.false) c.if-told-reached.false
