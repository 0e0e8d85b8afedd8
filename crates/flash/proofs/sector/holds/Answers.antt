-- `flash::sector::holds` meets its contract: the first part is compared, and then the rest.
-- Assumes nothing.
use mathlib.Core.Path.{ap, ◌∙◌}
use native.Mathlib.Omega.{arith}
use Rattle.buffer.specs.Compare.{blank_of}
use Rattle.buffer.proofs.Parts.{rest_out}
use Rattle.flash.proofs.Words.{holds_not, holds_rest}
use Rattle.flash.proofs.sector.holds.Goals as goal

pub returns-then-same : goal.returns-then-same
returns-then-same c =
    let a = c.args in
    c.blank.ensures
    ∙ ap blank_of (rest_out a.sector.now _)
    ∙ holds_rest a.sector.now a.bytes.now (omega arith) (omega arith) c.same.ensures c.if-same.true

pub returns-else-same : goal.returns-else-same
returns-else-same c =
    let a = c.args in
    c.if-same.false ∙ holds_not a.sector.now a.bytes.now (omega arith) (omega arith) c.same.ensures c.if-same.false
