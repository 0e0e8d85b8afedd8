-- `client::perform::fit` meets its contract.
-- Assumes nothing.
use mathlib.Core.Path.{◌∙◌, ap}
use Rattle.std.specs.Prelude.{is_ok}
use Rattle.bank.specs.Sound.{Verdict}
use Rattle.client.proofs.perform.fit.Goals as goal

pub returns : goal.returns
returns c = c.is_ok.ensures.value ∙ ap (λ (v : Verdict). is_ok v) c.check.ensures.verdict
