-- `flash::bank::put_words` meets its contract: at each turn the first i words are stored.
-- Assumes nothing.
use mathlib.Core.Path.{◌≡◌}
use lib.ListN.{length}
use Rattle.flash.specs.Store.{StoresLeave, word_stores}
use Rattle.flash.proofs.bank.put_words.Given as goal

abbrev pub invariant-loop-i : goal.invariant-loop-i
invariant-loop-i l = (length l.bank ≡ length l.initial.bank) × StoresLeave (word_stores l.k l.bytes l.i) l.initial.bank l.bank
