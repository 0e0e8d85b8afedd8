-- `hex_text::record::spell` meets its contract: one pair more of the sum, and one byte more stored; behind the loop no pair is left.
-- Assumes nothing.
use Rattle.std.proofs.Common.{◌≡◌, ◌+◌, ◌-◌, ◌*◌, ◌%◌, sym, ◌∙◌, arith, length-set}
use Rattle.hex_text.proofs.Pairs.{check_step, check_ends, sets_step, sets_none}
use Rattle.hex_text.proofs.record.spell.Goals as goal

pub loop-j-preserved : goal.loop-j-preserved
loop-j-preserved c =
    let t = c.args.line.now in
    let k = c.args.k in
    let l = c.loop-j in
    let v = l.invariant in
    let g = c.pair_at-g.ensures in
    let b = c.value_at-b.ensures in
    let p : 2 * l.j + 1 + 2 ≡ 2 * (l.j + 1) + 1 = omega arith in
    let n : k - l.j - 1 ≡ k - (l.j + 1) = omega arith in
    let check = check_step l.good c.pair_at-g.result l.sum c.value_at-b.result t (2 * l.j + 1) (k - l.j) (omega arith) g b in
    let store = sets_step l.good c.pair_at-g.result _ l.bytes l.j c.value_at-b.result t (2 * l.j + 1) (k - l.j) (omega arith) g b v.3 in (
      simp length-set v.0,
      omega arith,
      v.2 ∙ rw (p, n) at check,
      rw (p, n) at store,
    )

pub returns-then-good : goal.returns-then-good
returns-then-good c =
    let t = c.args.line.now in
    let l = c.loop-j in
    let v = l.invariant in
    let z : c.args.k - l.j ≡ 0 = omega arith in
    let m : l.sum % 256 ≡ l.sum = omega arith in
    record {
      sum = sym (v.2 ∙ rw (z, c.if-good.true) (check_ends l.sum t (2 * l.j + 1) ∙ rw m));
      put = λ _ _. sym (v.3 c.if-good.true ∙ rw z (sets_none l.bytes l.j t (2 * l.j + 1)));
    }
