-- `rows::text::blank` meets its contract.
-- Assumes nothing.
use Rattle.std.proofs.Common.{rules, ℕ, Bool, true, ◌&&◌, nat_eq, ap, ◌∙◌}
use denote.Ref.{Bor}
use Rattle.std.specs.List.{fold}
use Rattle.std.specs.Slice.Iter.{iter_rest}
use Rattle.buffer.proofs.Comparing.{blank_fold}
use Rattle.buffer.proofs.Chains.{fold_lent}
use Rattle.rows.proofs.text.blank.Goals as goal

pub returns : goal.returns
returns c =
    let p = c.fold.ensures.runs in
    p.3 (λ (all : Bool) (x : Bor ℕ). all && nat_eq x.now 0xFF) (search rules)
    ∙ fold_lent (λ (all : Bool) (b : ℕ). all && nat_eq b 0xFF) true p.0.items
    ∙ ap (fold (λ (all : Bool) (b : ℕ). all && nat_eq b 0xFF) true) ((c.iter.ensures.runs p.0 p.0.seen).4 p.2 ∙ ap iter_rest p.1 ∙ c.iter.ensures.rest)
    ∙ blank_fold c.args.row.now true
