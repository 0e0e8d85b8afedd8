-- `exports::cleaned::bank_clean` meets its contract: without room nothing is done, and with it what came of the bank is told.
-- Assumes nothing.
use Rattle.exports.proofs.Telling.{not_counted, all_counted}
use Rattle.exports.proofs.cleaned.bank_clean.Goals as goal

pub returns-then-told-lt2 : goal.returns-then-told-lt2
returns-then-told-lt2 c = not_counted (c.if-told-lt2.true)

pub returns : goal.returns
returns c = all_counted c.if-told-lt2.false c.clean-cleaned.ensures c.number_of.ensures c.counts_of-counts.ensures
