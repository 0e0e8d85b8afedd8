-- `hex_text::record::record_sum` meets its contract: each test that a line fails shows that it is no record, and one that passes all is one.
-- Assumes nothing.
use Rattle.std.proofs.Common.{refl}
use Rattle.hex_text.proofs.Records.{summed_short, summed_long, summed_even, summed_colon, summed-bytes, summed-count, summed}
use Rattle.hex_text.proofs.record.record_sum.Goals as goal

pub returns-then-len-lt11 : goal.returns-then-len-lt11
returns-then-len-lt11 c = summed_short _ _ _ c.if-len-lt11.true

pub returns-then-len : goal.returns-then-len
returns-then-len c = summed_long _ _ _ c.if-len.true

pub returns-then-len-eq0 : goal.returns-then-len-eq0
returns-then-len-eq0 c = summed_even _ _ _ c.if-len-eq0.true

pub returns-then-line-ne58 : goal.returns-then-line-ne58
returns-then-line-ne58 c = summed_colon _ _ _ c.if-line-ne58.true

pub returns-in_err-sum : goal.returns-in_err-sum
returns-in_err-sum c =
    let a = c.args in
    rw c.from_residual.ensures (summed-bytes a.line.now a.bytes.now _ c.if-len-eq0.false c.in_err-sum.ensures.sum)

pub returns-then-k-from : goal.returns-then-k-from
returns-then-k-from c =
    let a = c.args in
    let s = c.in_ok-sum.ensures in
    summed-count a.line.now a.bytes.now _ c.if-len-eq0.false s.sum c.if-line-ne58.false
    c.if-len-lt11.false c.if-len.false c.requires (s.put _ refl) c.from.ensures c.if-k-from.true

pub returns : goal.returns
returns c =
    let a = c.args in
    let s = c.in_ok-sum.ensures in
    summed a.line.now a.bytes.now _ c.if-len-eq0.false s.sum c.if-line-ne58.false
    c.if-len-lt11.false c.if-len.false c.requires (s.put _ refl) c.from.ensures c.if-k-from.false
