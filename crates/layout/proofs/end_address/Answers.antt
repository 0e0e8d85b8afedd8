-- `layout::end_address` meets its contract.
-- Assumes nothing.
use mathlib.Core.Path.{◌≡◌, sym, ap, ◌∙◌}
use mathlib.Core.Bool.{true}
use Prim.Native.Nat.{ℕ, ◌+◌, ◌-◌}
use native.Mathlib.Omega.{arith}
use Rattle.layout.specs.Layout.{good_n}
use Rattle.layout.proofs.Layouts.{good_low, good_high, size_good, start_small, end_bad, end_good}
use Rattle.layout.proofs.end_address.Goals as goal

pub returns-then-not-good_n : goal.returns-then-not-good_n
returns-then-not-good_n c =
    let a = c.args in
    end_bad a.n a.bank (sym c.good_n.ensures ∙ c.if-not-good_n.true)

pub overflow_cast-size : goal.overflow_cast-size
overflow_cast-size c =
    let n = c.args.n in
    let g : good_n n ≡ true = sym c.good_n.ensures ∙ c.if-not-good_n.false in
    omega (arith, good_high n g, c.bank_size-size.ensures ∙ size_good n g)

pub overflow_add-result : goal.overflow_add-result
overflow_add-result c =
    let a = c.args in
    let g : good_n a.n ≡ true = sym c.good_n.ensures ∙ c.if-not-good_n.false in
    omega (arith, good_high a.n g, c.bank_size-size.ensures ∙ size_good a.n g, start_small a.bank, c.start_address.ensures)

pub overflow_sub-result : goal.overflow_sub-result
overflow_sub-result c =
    let n = c.args.n in
    let g : good_n n ≡ true = sym c.good_n.ensures ∙ c.if-not-good_n.false in
    omega (arith, good_low n g, c.bank_size-size.ensures ∙ size_good n g)

pub returns : goal.returns
returns c =
    let a = c.args in
    let g : good_n a.n ≡ true = sym c.good_n.ensures ∙ c.if-not-good_n.false in
    ap (λ (size : ℕ). c.start_address.result + size - 1) (c.bank_size-size.ensures ∙ size_good a.n g)
    ∙ end_good a.n a.bank c.start_address.result g c.start_address.ensures
