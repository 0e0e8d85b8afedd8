-- `flash::bank::write_at` meets its contract: what its stores leave is what the definition says.
-- Assumes nothing.
use mathlib.Core.Path.{sym, ◌∙◌}
use Rattle.flash.specs.declared.sector.Store.TheVariants.{Erase}
use Rattle.flash.proofs.Stores.{leaves_call}
use Rattle.flash.proofs.Writes.{write_outside, write_unfit, write-held, write-stored}
use Rattle.flash.proofs.bank.write_at.Goals as goal

pub returns-then-not-has_sector : goal.returns-then-not-has_sector
returns-then-not-has_sector c =
    let a = c.args in
    write_outside a.bank.now a.k a.bytes.now (sym c.has_sector.ensures ∙ c.if-not-has_sector.true)

pub returns-then-not-fits_sector : goal.returns-then-not-fits_sector
returns-then-not-fits_sector c =
    let a = c.args in
    write_unfit a.bank.now a.k a.bytes.now (sym c.has_sector.ensures ∙ c.if-not-has_sector.false)
    (sym c.fits_sector.ensures ∙ c.if-not-fits_sector.true)

pub already-requires : goal.already-requires
already-requires c = (sym c.has_sector.ensures ∙ c.if-not-has_sector.false, sym c.fits_sector.ensures ∙ c.if-not-fits_sector.false)

pub returns-then-already : goal.returns-then-already
returns-then-already c =
    let a = c.args in
    write-held a.bank.now a.k a.bytes.now (sym c.has_sector.ensures ∙ c.if-not-has_sector.false)
    (sym c.fits_sector.ensures ∙ c.if-not-fits_sector.false) (sym c.if-already.true ∙ c.already.ensures)

pub returns : goal.returns
returns c =
    let a = c.args in
    write-stored a.bank.now a.k a.bytes.now (sym c.has_sector.ensures ∙ c.if-not-has_sector.false)
    (sym c.fits_sector.ensures ∙ c.if-not-fits_sector.false) (sym c.if-already.false ∙ c.already.ensures)
    (leaves_call a.bank.now a.k Erase c.store.ensures) c.put_words.ensures
