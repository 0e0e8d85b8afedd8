-- An equation leaves one outcome.
-- Assumes nothing.
use mathlib.Core.Path.{◌≡◌, sym, ◌∙◌}
use Rattle.outcomes.specs.Once.{Once}

pub once : {A : Type 0} (f : A) → Once (λ (x : A). x ≡ f)
once f x y p q = p ∙ sym q
