-- `flash::bank::store` meets its contract: what `make` says of the part, said of the bank.
-- Assumes nothing.
use mathlib.Core.Path.{◌≡◌, sym, ◌∙◌}
use mathlib.Core.Bool.{true}
use Prim.Native.Nat.{◌+◌, ◌≤◌}
use lib.ListN.{length}
use borrow.Author.Rules.{rules}
use Rattle.layout.specs.Layout.{sector_size}
use Rattle.flash.specs.Bank.{has_sector}
use Rattle.flash.specs.Sector.{stored_in}
use Rattle.flash.proofs.Changes.{at_none, at_lent}
use Rattle.flash.proofs.Sectors.{has_end}
use Rattle.flash.proofs.bank.store.Goals as goal

pub returns-then-not-has_sector : goal.returns-then-not-has_sector
returns-then-not-has_sector c =
    let a = c.args in
    sym (at_none (stored_in a.store) a.k a.bank.now (sym c.has_sector.ensures ∙ c.if-not-has_sector.true))

pub overflow_add-from : goal.overflow_add-from
overflow_add-from c =
    let a = c.args in
    let h : has_sector (length a.bank.now) a.k ≡ true = sym c.has_sector.ensures ∙ c.if-not-has_sector.false in
    let e : c.sector_offset-from.result + sector_size ≤ length a.bank.now = has_end _ a.k h c.sector_offset-from.ensures in
    search rules

pub slice_bounds-make-end : goal.slice_bounds-make-end
slice_bounds-make-end c =
    let a = c.args in
    let h : has_sector (length a.bank.now) a.k ≡ true = sym c.has_sector.ensures ∙ c.if-not-has_sector.false in
    let e : c.sector_offset-from.result + sector_size ≤ length a.bank.now = has_end _ a.k h c.sector_offset-from.ensures in
    search rules

pub returns : goal.returns
returns c =
    let a = c.args in
    let h : has_sector (length a.bank.now) a.k ≡ true = sym c.has_sector.ensures ∙ c.if-not-has_sector.false in
    at_lent (stored_in a.store) a.k a.bank.now h c.sector_offset-from.ensures c.make.ensures
