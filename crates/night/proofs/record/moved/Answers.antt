-- `night::record::moved` meets its contract: each verdict has a case of the definition.
-- Assumes nothing.
use mathlib.Core.Path.{sym, ap, ◌∙◌}
use Rattle.night.specs.Record.{moved_of}
use Rattle.night.proofs.record.moved.Goals as goal

pub returns-in-Settled : goal.returns-in-Settled
returns-in-Settled c = c.following.ensures ∙ sym (ap (moved_of c.args.name c.args.gone c.args.tries c.args.count) c.in-Settled.is)

pub returns-in-Spent : goal.returns-in-Spent
returns-in-Spent c = c.again.ensures ∙ sym (ap (moved_of c.args.name c.args.gone c.args.tries c.args.count) c.in-Spent.is)

pub returns-in-Stops : goal.returns-in-Stops
returns-in-Stops c = sym (ap (moved_of c.args.name c.args.gone c.args.tries c.args.count) c.in-Stops.is)
