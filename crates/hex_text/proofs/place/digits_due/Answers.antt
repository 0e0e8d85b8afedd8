-- `hex_text::place::digits_due` meets its contract: the count, where two digits spell one.
-- Assumes nothing.
use Rattle.std.proofs.Common.{sym, ◌∙◌, arith}
use Rattle.hex_text.proofs.Placed.{due_none, due_short}
use Rattle.hex_text.proofs.place.digits_due.Goals as goal

pub returns-then-behind-lt2 : goal.returns-then-behind-lt2
returns-then-behind-lt2 c = sym (due_short c.args.behind.now c.if-behind-lt2.true)

pub returns-then-not-pair_at : goal.returns-then-not-pair_at
returns-then-not-pair_at c = sym (due_none c.args.behind.now (sym c.pair_at.ensures ∙ c.if-not-pair_at.true))

pub returns : goal.returns
returns c =
    let pair = sym c.pair_at.ensures ∙ c.if-not-pair_at.false in
    let e = c.from.ensures ∙ c.value_at.ensures pair in
    omega arith
