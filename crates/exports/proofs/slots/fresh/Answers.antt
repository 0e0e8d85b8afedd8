-- `exports::slots::fresh` meets its contract: made, then initiated.
-- Assumes nothing.
use mathlib.Core.Path.{ap, ◌∙◌}
use Rattle.client.specs.declared.host.Hosted.{Hosted}
use Rattle.client.specs.Host.{initiate_of}
use Rattle.exports.proofs.slots.fresh.Goals as goal

pub returns : goal.returns
returns c =
    let made = c.new-made.ensures.is in
    ap (λ (h : Hosted). h.client) (c.initiate.ensures.is ∙ ap (λ (h : Hosted). initiate_of h.client) made)
