-- `flash::bank::put_word` meets its contract.
-- Assumes nothing.
use native.Mathlib.Omega.{arith}
use Prim.Native.Nat.{ℕ, ◌<◌}
use lib.ListN.{get_or}
use Rattle.flash.proofs.Words.{word-left, word-put}
use Rattle.flash.proofs.bank.put_word.Goals as goal

pub returns-then-word : goal.returns-then-word
returns-then-word c =
    let a = c.args in
    let small : (j : ℕ) → get_or a.bytes.now j 0 < 256 = λ j. omega (arith, c.type_inv.bytes j) in
    word-left a.bytes.now a.i _ (omega arith) c.number-word.ensures small a.k c.if-word.true

pub returns : goal.returns
returns c =
    let a = c.args in
    let small : (j : ℕ) → get_or a.bytes.now j 0 < 256 = λ j. omega (arith, c.type_inv.bytes j) in
    word-put a.bytes.now a.i _ (omega arith) c.number-word.ensures small a.k a.bank.now
    c.if-word.false c.store.ensures
