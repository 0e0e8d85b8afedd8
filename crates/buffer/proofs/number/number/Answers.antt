-- `buffer::number::number` meets its contract: the bytes lie within the slice, or they do not.
-- Assumes nothing.
use Rattle.std.proofs.Common.{sym, ap, ◌∙◌}
use Rattle.buffer.specs.Number.{number_of}
use Rattle.buffer.proofs.Numbers.{number_inside, number_outside, number_zeros}
use Rattle.buffer.proofs.number.number.Goals as goal

pub returns-in-Some : goal.returns-in-Some
returns-in-Some g c =
    c.from_be.ensures ∙ ap number_of c.in-Some.ensures.1 ∙ sym (number_inside g.row.W c.args.bytes.now c.args.at c.in-Some.ensures.0)

pub returns-in-None : goal.returns-in-None
returns-in-None g c =
    c.from_be-in-None.ensures ∙ number_zeros g.row.W ∙ sym (number_outside g.row.W c.args.bytes.now c.args.at c.in-None.ensures)
