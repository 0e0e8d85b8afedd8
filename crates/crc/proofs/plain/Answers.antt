-- `crc::plain` meets its contract: the words, folded, and then the bytes behind them.
-- Assumes nothing.
use Rattle.std.proofs.Common.{rules, ℕ, ◌*◌, ◌/◌, List, length, drop, Bor, fold, ap, ◌∙◌, arith}
use mathlib.Core.List.{foldl}
use Rattle.std.specs.Int.Bits.{bit_xor}
use Rattle.std.specs.Slice.Iter.{iter_rest}
use Rattle.buffer.proofs.Chains.{fold_lent}
use Rattle.buffer.proofs.Fold.{fold_is}
use Rattle.crc.specs.Crc.{crc_byte, crc_more}
use Rattle.crc.specs.Braid.{word_at, crc_word}
use Rattle.crc.proofs.Words.{words_fold}
use Rattle.crc.proofs.plain.Goals as goal

pub returns : goal.returns
unfolding crc_byte crc_more
returns c =
    let l : List ℕ = c.args.part.now in
    let n = length l / 4 in
    let p = c.fold-r.ensures.runs in
    let q = c.fold.ensures.runs in
    let by_word : ℕ → List ℕ → ℕ = λ r w. crc_word r (bit_xor 0 (word_at w 0)) in
    q.3 (λ (r : ℕ) (x : Bor ℕ). crc_byte r x.now) (search rules)
    ∙ (c.iter-2.ensures.runs q.0 q.0.seen).5 crc_byte c.fold-r.result q.2
    ∙ ap (fold crc_byte c.fold-r.result) (ap iter_rest q.1 ∙ c.iter-2.ensures.rest ∙ c.as_chunks.ensures.back)
    ∙ fold_is crc_byte c.fold-r.result (drop (n * 4) l)
    ∙ ap (λ (r : ℕ). foldl crc_byte r (drop (n * 4) l))
    (p.3 (λ (r : ℕ) (x : Bor (List ℕ)). by_word r x.now) (search rules)
    ∙ fold_lent by_word c.args.register p.0.items
    ∙ ap (fold by_word c.args.register) ((c.iter.ensures.runs p.0 p.0.seen).4 p.2 ∙ ap iter_rest p.1 ∙ c.iter.ensures.rest ∙ c.as_chunks.ensures.front))
    ∙ words_fold n l c.args.register (omega arith)
