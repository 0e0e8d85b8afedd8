-- `hex_text::read::read_lines` meets its contract: the line that comes is the first that is left, or none is, and the line is taken.
-- Assumes nothing.
use Rattle.std.proofs.Common.{length, sym, refl, ap, ◌∙◌, arith}
use Rattle.lines.specs.Places.{lines_left}
use Rattle.lines.proofs.Lines.{left_first, lines_few}
use Rattle.hex_text.proofs.Steps.{read-on, read-stop, read_finish}
use Rattle.hex_text.proofs.read.read_lines.Goals as goal

pub loop-bytes-init : goal.loop-bytes-init
loop-bytes-init c =
    let all = ap lines_left c.into_iter-bytes-iterator.ensures.into_iter_gives ∙ left_first c.new-bytes-items.ensures in
    let few = lines_few c.args.text.now in
    rw all (omega arith, refl, refl)

pub returns-in-Err : goal.returns-in-Err
returns-in-Err c =
    let a = c.args in
    let l = c.loop-bytes in
    let v = l.invariant in
    let k = c.take_line.ensures in
    let e = rw v.1 at (sym k.is ∙ c.in-Err.is) in
    read-stop a.base (length a.image.now) l.state l.line l.image c.in-Some.ensures.steps _ e v.2 (rw v.1 at k.image)

pub loop-bytes-preserved : goal.loop-bytes-preserved
loop-bytes-preserved c =
    let a = c.args in
    let l = c.loop-bytes in
    let v = l.invariant in
    let k = c.take_line.ensures in
    let here = c.in-Some.ensures.steps in
    let one = ap length here in
    let e = sym k.is ∙ c.in-Ok.is in
    let on = read-on a.base (length a.image.now) l.state l.line l.image here _ (rw v.1 at e) in (
      omega arith,
      c.take_line.auto.image ∙ v.1,
      v.2 ∙ on ∙ rw (sym (rw v.1 at k.image)),
    )

pub returns : goal.returns
returns c =
    let a = c.args in
    let l = c.loop-bytes in
    read_finish a.base (length a.image.now) l.state l.line l.image c.in-None.ensures.steps.0 l.invariant.2 c.finish.ensures
