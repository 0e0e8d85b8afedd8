-- `hex_text::read::read` meets its contract: each way out is a case of the definition.
-- Assumes nothing.
use Rattle.std.proofs.Common.{sym, ◌∙◌, arith}
use Rattle.layout.proofs.Layouts.{good_high, start_small}
use Rattle.hex_text.proofs.Steps.{read_3, read-2, read-accepted, read-refused}
use Rattle.hex_text.proofs.read.read.Goals as goal

pub returns-then-not-good_n : goal.returns-then-not-good_n
returns-then-not-good_n c =
    let a = c.args in read_3 a.text.now a.bank a.n a.image.now (sym c.good_n.ensures ∙ c.if-not-good_n.true)

pub overflow_mul-n : goal.overflow_mul-n
overflow_mul-n c =
    let h = good_high c.args.n (sym c.good_n.ensures ∙ c.if-not-good_n.false) in
    omega arith

pub returns-then-image-n : goal.returns-then-image-n
returns-then-image-n c =
    let a = c.args in
    read-2 a.text.now a.bank a.n a.image.now (sym c.good_n.ensures ∙ c.if-not-good_n.false) c.if-image-n.true

pub read_lines-requires : goal.read_lines-requires
read_lines-requires c =
    let a = c.args in
    let h = good_high a.n (sym c.good_n.ensures ∙ c.if-not-good_n.false) in
    let b = start_small a.bank in
    record { base_small = omega arith; size_small = omega (arith, c.fill.auto.buffer, c.if-image-n.false) }

pub returns-in-Err : goal.returns-in-Err
returns-in-Err c =
    let a = c.args in
    let g = sym c.good_n.ensures ∙ c.if-not-good_n.false in
    read-refused a.text.now a.bank a.n a.image.now g c.if-image-n.false c.start_address-base.ensures
    c.fill.ensures
    _ c.read_lines.new.image c.in-Err.ensures c.read_lines.auto.image
    c.fill-in-Err.ensures

pub returns-in-Ok : goal.returns-in-Ok
returns-in-Ok c =
    let a = c.args in
    let g = sym c.good_n.ensures ∙ c.if-not-good_n.false in
    read-accepted a.text.now a.bank a.n a.image.now g c.if-image-n.false c.start_address-base.ensures
    c.fill.ensures
    c.in-Ok.ensures
