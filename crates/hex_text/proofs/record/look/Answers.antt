-- `hex_text::record::look` meets its contract: each way out is a case of what a line says.
-- Assumes nothing.
use Rattle.std.proofs.Common.{sym, arith, length-take-le}
use Rattle.hex_text.proofs.Says.{looked_over, looked-1, looked-some, looked-2, looked-fits, looked-counted, looked-typed}
use Rattle.hex_text.proofs.record.look.Goals as goal

pub returns-then-state : goal.returns-then-state
returns-then-state c = looked_over _ _ _ _ _ c.if-state.true

pub returns-in_default : goal.returns-in_default
returns-in_default c = looked-1 _ _ _ _ _ c.if-state.false c.in_default.ensures c.place_of.ensures

pub overflow_sub-result : goal.overflow_sub-result
overflow_sub-result c =
    let a = c.args in
    looked-some a.line.now a.base a.size a.state _ c.if-state.false c.in-Some.ensures

pub returns-then-sum-ne0 : goal.returns-then-sum-ne0
returns-then-sum-ne0 c =
    looked-2 _ _ _ _ _ c.if-state.false c.in-Some.ensures c.if-sum-ne0.true

pub slice_bounds-typed_at-end : goal.slice_bounds-typed_at-end
slice_bounds-typed_at-end c =
    let a = c.args in
    let f = looked-fits a.line.now a.base a.size a.state _ c.if-state.false c.in-Some.ensures
    c.requires.1 in
    omega (arith, f)

pub slice_bounds-typed_at-end-2 : goal.slice_bounds-typed_at-end-2
slice_bounds-typed_at-end-2 c =
    let a = c.args in
    let f = looked-fits a.line.now a.base a.size a.state _ c.if-state.false c.in-Some.ensures
    c.requires.1 in
    sym (length-take-le _ _ (omega (arith, f)))

pub typed_at-requires : goal.typed_at-requires
typed_at-requires c =
    let a = c.args in
    let q = c.requires in (
      looked-counted a.line.now a.base a.size a.state _ c.if-state.false c.in-Some.ensures q.1,
      q.0,
    )

pub returns : goal.returns
returns c =
    looked-typed _ _ _ _ _ c.if-state.false c.in-Some.ensures c.requires.1 c.if-sum-ne0.false
    c.typed_at.ensures
