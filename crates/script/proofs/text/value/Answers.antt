-- `script::text::value` meets its contract: what was read so far has room for one digit more.
-- Assumes nothing.
use mathlib.Core.Path.{refl, ap, ◌∙◌}
use mathlib.Core.List.{foldl}
use Prim.Native.Nat.{ℕ, ◌<◌, ◌+◌}
use native.Mathlib.Omega.{arith}
use lib.ListN.{length, drop}
use Rattle.buffer.proofs.Fold.{fold_more}
use Rattle.script.specs.Spelt.{with_digit, number_in}
use Rattle.script.proofs.Spelt.{number_large, number_small}
use Rattle.script.proofs.text.value.Goals as goal

pub loop-digit-init : goal.loop-digit-init
unfolding number_in
loop-digit-init c = refl

pub returns-then-number-gt-LARGEST_VALUE : goal.returns-then-number-gt-LARGEST_VALUE
returns-then-number-gt-LARGEST_VALUE c = number_large c.args.base c.args.text.now c.loop-digit.number c.loop-digit.digit-index c.loop-digit.invariant c.requires.0 c.if-number-gt-LARGEST_VALUE.true

pub loop-digit-preserved : goal.loop-digit-preserved
loop-digit-preserved c =
    let a = c.args in
    let t = a.text.now in
    let f = with_digit a.base in
    let h : c.loop-digit.digit-index < length t = omega arith in
    ap (λ (n : ℕ). foldl f n (drop (c.loop-digit.digit-index + 1) t)) c.more-number.ensures ∙ fold_more f t c.loop-digit.number c.loop-digit.digit-index h ∙ c.loop-digit.invariant

pub returns-then-number-gt-LARGEST_VALUE-2 : goal.returns-then-number-gt-LARGEST_VALUE-2
returns-then-number-gt-LARGEST_VALUE-2 c = number_large c.args.base c.args.text.now c.loop-digit.number c.loop-digit.digit-index c.loop-digit.invariant c.requires.0 c.if-number-gt-LARGEST_VALUE-2.true

pub returns : goal.returns
returns c = number_small c.args.base c.args.text.now c.loop-digit.number c.loop-digit.digit-index c.loop-digit.invariant (omega arith) c.if-number-gt-LARGEST_VALUE-2.false
