-- `buffer::compare::blank` meets its contract: all runs are blank, and the rest, or one run is not.
-- Assumes nothing.
use Rattle.std.proofs.Common.{rules, ℕ, ◌/◌, List, [], Some, true, false, length, slice_index_or, ap, ◌∙◌, arith, ◌≡◌}
use Rattle.std.specs.Slice.Iter.{iter_rest}
use Rattle.buffer.specs.Compare.{blank_of}
use Rattle.buffer.proofs.Chains.{of_each, of_some}
use Rattle.buffer.proofs.Comparing.{blank_runs, run_not_blank}
use Rattle.buffer.proofs.compare.blank.Goals as goal

pub returns-then-all : goal.returns-then-all
returns-then-all c =
    let l = c.args.bytes.now in
    let p = c.if-all.ensures.runs in
    let items = c.iter.ensures.runs p.0 p.0.seen in
    let from = ap iter_rest p.1 ∙ c.iter.ensures.rest in
    let count : length (iter_rest p.0.from) ≡ length l / 64 = ap length from ∙ c.as_chunks.ensures.front_len in
    c.blank_run.ensures
    ∙ ap blank_of c.as_chunks.ensures.back
    ∙ blank_runs 64 (length l / 64) l (λ k h.
    of_each (λ (run : List ℕ). blank_of run ≡ true) (λ x called. search rules) _ (p.0.at k)
    (items.2 k [] (omega (arith, items.1 p.2.0)) ∙ ap (λ (runs : List (List ℕ)). Some (slice_index_or runs k [])) (from ∙ c.as_chunks.ensures.front)) (p.2.1 (search rules) k))

pub returns-else-all : goal.returns-else-all
returns-else-all c =
    let l = c.args.bytes.now in
    let p = c.if-all.ensures.runs in
    let items = c.iter.ensures.runs p.0 p.0.seen in
    let from = ap iter_rest p.1 ∙ c.iter.ensures.rest in
    let count : length (iter_rest p.0.from) ≡ length l / 64 = ap length from ∙ c.as_chunks.ensures.front_len in
    let some = p.2 (search rules) in
    c.if-all.false ∙
    run_not_blank 64 (length l / 64) l some.0 (omega (arith, items.0, some.1))
    (of_some (λ (run : List ℕ). blank_of run ≡ false) (λ x called. search rules) _ (p.0.at some.0)
    (items.2 some.0 [] some.1 ∙ ap (λ (runs : List (List ℕ)). Some (slice_index_or runs some.0 [])) (from ∙ c.as_chunks.ensures.front)) some.2)
