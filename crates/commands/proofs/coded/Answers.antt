-- `commands::coded` meets its contract: the first row that `find` comes to is the definition's.
-- Assumes nothing.
use Rattle.std.proofs.Common.{rules, eqb, ◌∙◌}
use borrow.Author.Tests.{tests}
use Rattle.std.proofs.lemmas.Iterator.{YieldsList-from_slice}
use Rattle.std.proofs.lemmas.Iterator.Search.{find_from_yields_List}
use Rattle.commands.specs.Command.{coded_by}
use Rattle.commands.proofs.coded.Goals as goal

pub returns : goal.returns
unfolding coded_by
returns g c codes told =
    c.copied.ensures
    ∙ find_from_yields_List (λ x. eqb c.args.code (codes x)) _ _ c.find.result c.find.ensures.ran (YieldsList-from_slice _ c.iter.ensures.rest)
    (λ x b q k. search (rules, tests, told))
