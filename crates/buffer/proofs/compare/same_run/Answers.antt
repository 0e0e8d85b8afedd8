-- `buffer::compare::same_run` meets its contract.
-- Assumes nothing.
use Rattle.std.proofs.Common.{rules, ℕ, Bool, true, ◌&&◌, nat_eq, List, length, slice_index_or, Some, map, sym, ap, ◌∙◌, ◌≡◌}
use denote.Ref.{Bor}
use Rattle.std.specs.Slice.Iter.{iter_rest}
use Rattle.buffer.proofs.Chains.{run_lends_all, zip_len}
use Rattle.buffer.proofs.Comparing.{same_fold}
use Rattle.buffer.proofs.compare.same_run.Goals as goal

pub returns : goal.returns
returns c =
    let a = c.args.a.now in
    let b = c.args.b.now in
    let p = c.fold.ensures.runs in
    let z = c.zip.ensures.runs p.0 p.0.seen p.1 in
    let x = c.iter.ensures.runs z.0 z.0.seen in
    let y = c.iter.ensures.runs z.2.0 z.2.0.seen in
    let of_a : iter_rest z.0.from ≡ a = ap iter_rest z.1 ∙ c.iter.ensures.rest in
    let of_b : iter_rest z.2.0.from ≡ b = ap iter_rest z.2.1 ∙ search rules in
    let n = zip_len p.0 z.0 z.2.0 a b z.2.2 p.2 (λ w. x.1 w ∙ ap length of_a) (λ w. y.1 w ∙ ap length of_b) c.requires in
    p.3 (λ (all : Bool) (x : Bor ℕ × Bor ℕ). all && nat_eq x.0.now x.1.now) (search rules)
    ∙ same_fold p.0.items a b true
    (ap (map (λ x. x.now)) (sym z.2.2.0.1) ∙ run_lends_all z.0 a (z.2.2.0.0 ∙ n) (λ k d h. x.2 k d h ∙ ap (λ (l : List ℕ). Some (slice_index_or l k d)) of_a))
    (ap (map (λ x. x.now)) (sym z.2.2.1.1) ∙ run_lends_all z.2.0 b (z.2.2.1.0 ∙ n ∙ c.requires) (λ k d h. y.2 k d h ∙ ap (λ (l : List ℕ). Some (slice_index_or l k d)) of_b))
