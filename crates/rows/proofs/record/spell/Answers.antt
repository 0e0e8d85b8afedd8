-- `rows::record::spell` meets its contract. The loop's invariant: storing all and adding all up is storing and adding up what is left, into what the
-- text now holds and to the sum so far.
-- Assumes nothing.
use Rattle.std.proofs.Common.{◌≡◌, ◌+◌, ◌*◌, sym, ◌∙◌, arith, length-set}
use Rattle.digits.proofs.Spelt.{spell_more, spell_done}
use Rattle.rows.proofs.Records.{sum_more, sum_done}
use Rattle.rows.proofs.record.spell.Goals as goal

pub loop-j-preserved : goal.loop-j-preserved
loop-j-preserved c =
    let t = c.args.bytes.now in
    let l = c.loop-j in
    let p : c.args.at + 2 * l.j + 2 ≡ c.args.at + 2 * (l.j + 1) = omega arith in
    let e = rw p at (spell_more t l.text l.j (c.args.at + 2 * l.j) _ _ (omega arith) c.digit.ensures c.digit-in-loop-j.ensures) in (
      simp (length-set, length-set) l.invariant.0,
      omega arith,
      e ∙ l.invariant.2,
      l.invariant.3 ∙ sum_more t l.j (omega arith) l.added,
    )

pub returns : goal.returns
returns c =
    let t = c.args.bytes.now in
    let l = c.loop-j in
    record {
      put = sym (spell_done t l.text l.j (c.args.at + 2 * l.j) (omega arith)) ∙ l.invariant.2;
      added = sym (l.invariant.3 ∙ sum_done t l.j (omega arith) l.added l.invariant.1);
    }
