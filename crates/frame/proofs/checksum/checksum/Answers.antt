-- `frame::checksum::checksum` meets its contract: the chain's fold is the definition's.
-- Assumes nothing.
use Rattle.std.proofs.Common.{rules, ℕ, Bor, fold, ap, ◌∙◌}
use Rattle.std.specs.Slice.Iter.{iter_rest}
use Rattle.buffer.proofs.Fold.{fold_is}
use Rattle.frame.specs.Checksum.{taken_away, checksum_of}
use Rattle.frame.proofs.checksum.checksum.Goals as goal

pub returns : goal.returns
unfolding taken_away checksum_of
returns c =
    let p = c.fold.ensures.runs in
    p.3 (λ (sum : ℕ) (x : Bor ℕ). taken_away sum x.now) (search rules)
    ∙ (c.iter.ensures.runs p.0 p.0.seen).5 taken_away 0 p.2
    ∙ ap (fold taken_away 0) (ap iter_rest p.1 ∙ c.iter.ensures.rest)
    ∙ fold_is taken_away 0 c.args.bytes.now
