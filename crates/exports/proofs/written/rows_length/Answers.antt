-- `exports::written::rows_length` meets its contract: the answer's number is given.
-- Assumes nothing.
use mathlib.Core.Path.{ap, ◌∙◌}
use Rattle.layout.specs.Said.{code}
use Rattle.exports.proofs.written.rows_length.Goals as goal

pub returns : goal.returns
returns c = c.written_number.ensures ∙ ap code c.length-told.ensures.says
