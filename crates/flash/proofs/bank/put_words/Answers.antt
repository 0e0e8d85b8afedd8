-- `flash::bank::put_words` meets its contract: at each turn the first i words are stored.
-- Assumes nothing.
use mathlib.Core.Path.{◌≡◌, refl, ◌∙◌}
use native.Mathlib.Omega.{arith}
use Rattle.flash.proofs.Words.{words_none, words_next}
use Rattle.flash.proofs.bank.put_words.Goals as goal

pub loop-i-init : goal.loop-i-init
loop-i-init c = (refl, words_none c.args.k c.args.bytes.now)

pub loop-i-preserved : goal.loop-i-preserved
loop-i-preserved c =
    let p = c.put_word in
    let a = c.args in
    (p.auto.bank ∙ c.loop-i.invariant.0, words_next a.k a.bytes.now c.loop-i.i c.loop-i.invariant.1 p.ensures)

pub shape_of-bank : goal.shape_of-bank
shape_of-bank c = c.loop-i.invariant.0

pub returns : goal.returns
returns c =
    let l = c.loop-i in
    let a = c.args in
    let e : l.i ≡ a.n = omega arith in
    rw e at l.invariant.1
