-- `hex_text::record::data_at` meets its contract: each way out is a case of the definition.
-- Assumes nothing.
use Rattle.std.proofs.Common.{eq-eqb, ne_eqb, le-leb}
use borrow.Author.Tests.{lt-leb}
use Rattle.hex_text.specs.Record.{in_bank, data_at}
use Rattle.hex_text.proofs.record.data_at.Goals as goal

pub returns-then-count-eq0 : goal.returns-then-count-eq0
unfolding data_at in_bank
returns-then-count-eq0 c = simp (eq-eqb _ 0 c.if-count-eq0.true)

pub returns-then-start-base : goal.returns-then-start-base
unfolding data_at in_bank
returns-then-start-base c = simp (ne_eqb _ 0 c.if-count-eq0.false, lt-leb _ _ c.if-start-base.true)

pub returns-then-base-size : goal.returns-then-base-size
unfolding data_at in_bank
returns-then-base-size c = simp (ne_eqb _ 0 c.if-count-eq0.false, le-leb _ _ c.if-start-base.false, lt-leb _ _ c.if-base-size.true)

pub returns-then-start-last : goal.returns-then-start-last
unfolding data_at in_bank
returns-then-start-last c =
    simp (ne_eqb _ 0 c.if-count-eq0.false, le-leb _ _ c.if-start-base.false, le-leb _ _ c.if-base-size.false, lt-leb _ _ c.if-start-last.true)

pub returns : goal.returns
unfolding data_at in_bank
returns c =
    simp (ne_eqb _ 0 c.if-count-eq0.false, le-leb _ _ c.if-start-base.false, le-leb _ _ c.if-base-size.false, le-leb _ _ c.if-start-last.false)
