-- `exports::written::rows_write` meets its contract: the answer's number is given.
-- Assumes nothing.
use mathlib.Core.Path.{ap, ◌∙◌}
use Rattle.layout.specs.Said.{code}
use Rattle.exports.proofs.written.rows_write.Goals as goal

pub returns : goal.returns
returns c =
    let e = c.write-written.ensures in
    record { number_is = c.written_number.ensures ∙ ap code e.says; stands = e.stands }
