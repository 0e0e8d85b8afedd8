-- `night::lent::look` meets its contract: each way out is a case of the definition.
-- Assumes nothing.
use mathlib.Core.Path.{sym, ap, ◌∙◌}
use Rattle.std.specs.Prelude.{Err}
use Rattle.night.proofs.Lending.{looked_by}
use Rattle.night.proofs.lent.look.Goals as goal

pub returns-in-Err-BadN : goal.returns-in-Err-BadN
returns-in-Err-BadN c = looked_by _ _ _ _ _ _ (sym (c.in-Err-BadN.is ∙ ap Err c.in-Err-BadN.field-0-is) ∙ c.place.ensures.answered)

pub returns-in-Err-BadLength : goal.returns-in-Err-BadLength
returns-in-Err-BadLength c = looked_by _ _ _ _ _ _ (sym (c.in-Err-BadLength.is ∙ ap Err c.in-Err-BadLength.field-0-is) ∙ c.place.ensures.answered)

pub returns-in-Err-PastLast : goal.returns-in-Err-PastLast
returns-in-Err-PastLast c =
    c.room_given.ensures ∙ looked_by _ _ _ _ _ _ (sym (c.in-Err-PastLast.is ∙ ap Err c.in-Err-PastLast.field-0-is) ∙ c.place.ensures.answered)

pub returns-in-Ok : goal.returns-in-Ok
returns-in-Ok c = c.room_given-in-Ok.ensures ∙ looked_by _ _ _ _ _ _ (sym c.in-Ok.is ∙ c.place.ensures.answered)
