-- `clean::clean` meets its contract: each way out is a case of the definition.
-- Assumes nothing.
use mathlib.Core.Path.{sym, ◌∙◌}
use Rattle.std.proofs.lemmas.Result.{err_from_is_err_and}
use Rattle.bank.proofs.Cases.{good_is}
use Rattle.clean.proofs.Cases.{clean_refused}
use Rattle.clean.proofs.clean.Goals as goal

pub returns-in_err-check_contents : goal.returns-in_err-check_contents
returns-in_err-check_contents c =
    let p = err_from_is_err_and c.from_residual.result c.from_residual.ensures.1 in
    rw (p.1, p.2) (clean_refused _ _ _ _ (sym c.check_contents.ensures.verdict ∙ c.in_err-check_contents.was))

pub clean_good-requires : goal.clean_good-requires
clean_good-requires c = good_is c.args.bank.now _ c.check_contents.ensures.verdict c.in_ok-check_contents.was
