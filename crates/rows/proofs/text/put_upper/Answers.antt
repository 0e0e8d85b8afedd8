-- `rows::text::put_upper` meets its contract: nothing, or the line of a type 04 record.
-- Assumes nothing.
use Rattle.std.proofs.Common.{arith}
use Rattle.rows.proofs.Rows.{put_none, put_told, told_fits}
use Rattle.rows.proofs.text.put_upper.Goals as goal

pub returns-then-upper-told : goal.returns-then-upper-told
returns-then-upper-told c =
    let a = c.args in
    put_none a.told a.upper a.text.now a.at c.if-upper-told.true

pub put_line-requires : goal.put_line-requires
put_line-requires c =
    let a = c.args in
    let f = told_fits a.told a.upper a.text.now a.at c.if-upper-told.false c.requires in
    (omega arith, omega arith)

pub returns : goal.returns
returns c =
    let a = c.args in
    put_told a.told a.upper a.text.now a.at c.if-upper-told.false c.put_line.ensures
