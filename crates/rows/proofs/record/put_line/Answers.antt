-- `rows::record::put_line` meets its contract: colon, digits, checksum, CR LF, each right behind what stands there.
-- Assumes nothing.
use Rattle.std.proofs.Common.{arith, length-set}
use Rattle.rows.proofs.Records.{spelt_length, pieces_length, line_put}
use Rattle.rows.proofs.record.put_line.Goals as goal

pub spell-begun-requires : goal.spell-begun-requires
spell-begun-requires c = simp length-set (omega arith)

pub spell-sum-requires : goal.spell-sum-requires
spell-sum-requires c =
    let a = c.args in
    let begun = length-set a.text.now a.at 0x3A in
    let first = spelt_length c.spell-begun.ensures in
    omega arith

pub spell-requires : goal.spell-requires
spell-requires c =
    let a = c.args in
    let begun = length-set a.text.now a.at 0x3A in
    let first = spelt_length c.spell-begun.ensures in
    let second = spelt_length c.spell-sum.ensures in
    omega arith

pub bounds-text-end : goal.bounds-text-end
bounds-text-end c =
    let a = c.args in
    let l = pieces_length a.text.now a.at c.spell-begun.ensures c.spell-sum.ensures c.spell.ensures in
    omega arith

pub bounds-text-end-2 : goal.bounds-text-end-2
bounds-text-end-2 c =
    let a = c.args in
    let l = pieces_length a.text.now a.at c.spell-begun.ensures c.spell-sum.ensures c.spell.ensures in
    simp length-set (omega arith)

pub shape_of-text : goal.shape_of-text
shape_of-text c =
    let a = c.args in
    let l = pieces_length a.text.now a.at c.spell-begun.ensures c.spell-sum.ensures c.spell.ensures in
    simp length-set (omega arith)

pub returns : goal.returns
returns c =
    let a = c.args in
    line_put a.text.now a.at a.address a.kind a.bytes.now c.spell-begun.ensures c.spell-sum.ensures
    (omega arith) (omega arith) c.spell.ensures
