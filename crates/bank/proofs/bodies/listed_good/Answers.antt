-- `bank::bodies::listed_good` meets its contract: what is left holds just where all does.
-- Assumes nothing.
use mathlib.Core.Path.{sym, ◌∙◌}
use native.Mathlib.Omega.{arith}
use Rattle.bank.proofs.Tables.{end_fits, good-not, good-next, good_done, good_within, good_start}
use Rattle.bank.proofs.bodies.listed_good.Goals as goal

pub end-at-requires : goal.end-at-requires
end-at-requires c = c.requires.small

pub loop-i-init : goal.loop-i-init
loop-i-init c =
    let table = c.requires in
    (omega (arith, c.end-at.ensures, end_fits table), rw c.end-at.ensures (good_start _ _ _ table.count))

pub entry_at-entry-requires : goal.entry_at-entry-requires
entry_at-entry-requires c = omega (arith, c.requires.small)

pub entry_good-requires : goal.entry_good-requires
entry_good-requires c = omega (arith, c.entry_at-entry.ensures.offset_small, c.entry_at-entry.ensures.length_small)

pub returns-then-not-entry_good : goal.returns-then-not-entry_good
returns-then-not-entry_good c =
    let count = c.requires.count in
    let bad = sym c.entry_good.ensures ∙ c.if-not-entry_good.true in
    sym (c.loop-i.invariant.1 ∙ good-not _ _ _ _ _ c.entry_at-entry.ensures.is (omega arith) bad)

pub end-at-requires-in-loop-i : goal.end-at-requires-in-loop-i
end-at-requires-in-loop-i c =
    let entry = c.entry_at-entry.ensures in
    omega (arith, entry.offset_small, entry.length_small)

pub loop-i-preserved : goal.loop-i-preserved
loop-i-preserved c =
    let count = c.requires.count in
    let good = sym c.entry_good.ensures ∙ c.if-not-entry_good.false in
    let next = good-next _ _ _ _ _ c.entry_at-entry.ensures.is (omega arith) good in
    rw c.end-at-in-loop-i.ensures (good_within _ _ _ _ good, c.loop-i.invariant.1 ∙ next)

pub returns : goal.returns
returns c =
    let done = good_done c.args.outside c.args.bank.now c.loop-i.at c.loop-i.i (omega (arith, c.requires.count)) in
    c.gap_good.ensures ∙ sym (c.loop-i.invariant.1 ∙ done)
