-- `flash::sector::make` meets its contract.
-- Assumes nothing.
use mathlib.Core.Path.{sym, ap, ◌∙◌}
use Rattle.flash.specs.declared.sector.Store.{Store}
use Rattle.flash.specs.Sector.{erased_of, stored_in}
use Rattle.flash.proofs.sector.make.Goals as goal

pub returns-in-Erase : goal.returns-in-Erase
unfolding erased_of
returns-in-Erase c =
    let a = c.args in
    c.fill.ensures ∙ sym (ap (λ (s : Store). stored_in s a.sector.now) c.in-Erase.is)

pub returns-in-Word : goal.returns-in-Word
returns-in-Word c =
    let a = c.args in
    c.put_number.ensures ∙ sym (ap (λ (s : Store). stored_in s a.sector.now) c.in-Word.is)
