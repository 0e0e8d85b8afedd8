-- `bank::gaps::find` meets its contract: each turn finds one gap.
-- Assumes nothing.
use native.Mathlib.Omega.{arith}
use mathlib.Core.Path.{◌≡◌, refl, ◌∙◌}
use lib.ListN.{length-set}
use Rattle.bank.specs.Gaps.{gaps_to}
use Rattle.bank.proofs.Listed.{has_table}
use Rattle.bank.proofs.Gapped.{found_none, first_start, put_rest, found_gap, next_start, found}
use Rattle.bank.proofs.gaps.find.Goals as goal

pub returns-then-n-eq0 : goal.returns-then-n-eq0
returns-then-n-eq0 c = found_none _ _ c.count-n.ensures c.if-n-eq0.true

pub end-start-requires : goal.end-start-requires
end-start-requires c = (has_table _ _ c.count-n.ensures c.if-n-eq0.false).small

pub loop-i-init : goal.loop-i-init
unfolding gaps_to
loop-i-init c =
    record {
      few = (has_table _ _ c.count-n.ensures c.if-n-eq0.false).small;
      room = refl;
      found = refl;
      rest = refl;
      start = first_start _ _ c.count-n.ensures c.if-n-eq0.false _ c.end-start.ensures;
    }

pub entry_at-requires : goal.entry_at-requires
entry_at-requires c = omega (arith, c.loop-i.invariant.few)

pub loop-i-preserved : goal.loop-i-preserved
loop-i-preserved c =
    let i = c.loop-i.invariant in
    let e = c.entry_at.ensures.is in
    record {
      few = i.few;
      room = length-set _ _ _ ∙ i.room;
      found = found_gap _ _ c.count-n.ensures c.if-n-eq0.false _ _ i.found _ i.start _ e c.loop-i-test.true (omega arith);
      rest = put_rest _ _ c.count-n.ensures c.if-n-eq0.false _ _ i.found _ i.start _ i.rest;
      start = c.end-start-in-loop-i.ensures ∙ next_start _ _ c.count-n.ensures c.if-n-eq0.false _ _ i.found _ i.start _ e c.loop-i-test.true;
    }

pub invariant_of-result-2 : goal.invariant_of-result-2
invariant_of-result-2 c =
    let i = c.loop-i.invariant in
    let e : c.count-n.result ≡ c.loop-i.i = omega arith in
    (omega (arith, i.few), (length-set _ _ _ ∙ i.room, rw e (put_rest _ _ c.count-n.ensures c.if-n-eq0.false _ _ i.found _ i.start _ i.rest)))

pub returns : goal.returns
returns c =
    let i = c.loop-i.invariant in
    found _ _ c.count-n.ensures c.if-n-eq0.false _ _ i.found _ i.start (omega arith) (omega arith)
