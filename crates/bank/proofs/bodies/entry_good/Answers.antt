-- `bank::bodies::entry_good` meets its contract.
-- Assumes nothing.
use mathlib.Core.Path.{sym, ◌∙◌}
use native.Mathlib.Omega.{arith}
use Rattle.bank.specs.Sound.{entry_good}
use Rattle.bank.proofs.Stretches.{fits}
use Rattle.bank.proofs.bodies.entry_good.Goals as goal

pub returns-then-not-fits_at : goal.returns-then-not-fits_at
unfolding entry_good
returns-then-not-fits_at c = rw (sym c.fits_at.ensures ∙ c.if-not-fits_at.true)

pub slice_bounds-gap_good-count : goal.slice_bounds-gap_good-count
slice_bounds-gap_good-count c = (fits _ _ _ (sym c.fits_at.ensures ∙ c.if-not-fits_at.false)).after

pub slice_bounds-gap_good-start : goal.slice_bounds-gap_good-start
slice_bounds-gap_good-start c = (fits _ _ _ (sym c.fits_at.ensures ∙ c.if-not-fits_at.false)).after

pub slice_bounds-gap_good-end : goal.slice_bounds-gap_good-end
slice_bounds-gap_good-end c =
    let f = fits _ _ _ (sym c.fits_at.ensures ∙ c.if-not-fits_at.false) in
    omega (arith, f.within)

pub returns-then-not-gap_good : goal.returns-then-not-gap_good
unfolding entry_good
returns-then-not-gap_good c =
    let fit = sym c.fits_at.ensures ∙ c.if-not-fits_at.false in
    rw (fit, sym c.gap_good.ensures ∙ c.if-not-gap_good.true)

pub body_good-requires : goal.body_good-requires
body_good-requires c = (fits _ _ _ (sym c.fits_at.ensures ∙ c.if-not-fits_at.false)).within

pub returns : goal.returns
unfolding entry_good
returns c =
    let fit = sym c.fits_at.ensures ∙ c.if-not-fits_at.false in
    rw (fit, sym c.gap_good.ensures ∙ c.if-not-gap_good.false) c.body_good.ensures
