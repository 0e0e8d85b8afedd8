-- `buffer::compare::same` meets its contract: all runs are the same, and the rest, or two runs are not.
-- Assumes nothing.
use Rattle.std.proofs.Common.{rules, ℕ, ◌*◌, ◌/◌, List, [], Some, true, false, length, drop, slice_index_or, sym, ap, ap₂, ◌∙◌, arith, ◌≡◌}
use Rattle.std.specs.Option.{option_map}
use Rattle.std.specs.Simd.{first_chunks}
use Rattle.std.specs.Slice.Iter.{iter_rest}
use Rattle.buffer.specs.Compare.{same_of}
use Rattle.buffer.proofs.Chains.{of_each_pair, of_some_pair, zip_len}
use Rattle.buffer.proofs.Comparing.{same_lengths, same_runs, run_not_same}
use Rattle.buffer.proofs.compare.same.Goals as goal

pub returns-then-a-b : goal.returns-then-a-b
returns-then-a-b c = sym (same_lengths c.args.a.now c.args.b.now c.if-a-b.true)

pub returns-then-all : goal.returns-then-all
returns-then-all c =
    let a = c.args.a.now in
    let b = c.args.b.now in
    let n = length a / 64 in
    let e : length a ≡ length b = c.if-a-b.false in
    let p = c.if-all.ensures.runs in
    let z = c.zip.ensures.runs p.0 p.0.seen p.1 in
    let x = c.iter.ensures.runs z.0 z.0.seen in
    let y = c.iter.ensures.runs z.2.0 z.2.0.seen in
    let as_n : length b / 64 ≡ n = ap (λ (m : ℕ). m / 64) (sym e) in
    let a_from = ap iter_rest z.1 ∙ c.iter.ensures.rest in
    let b_from = ap iter_rest z.2.1 ∙ c.zip.ensures.second.0 in
    let a_count : length (iter_rest z.0.from) ≡ n = ap length a_from ∙ c.as_chunks.ensures.front_len in
    let b_count : length (iter_rest z.2.0.from) ≡ n = ap length b_from ∙ c.as_chunks-2.ensures.front_len ∙ as_n in
    let count : p.0.len ≡ length (iter_rest z.0.from) = zip_len p.0 z.0 z.2.0 (iter_rest z.0.from) (iter_rest z.2.0.from) z.2.2 p.2.0 x.1 y.1 (a_count ∙ sym b_count) in
    c.same_run.ensures
    ∙ ap₂ same_of c.as_chunks.ensures.back (c.as_chunks-2.ensures.back ∙ ap (λ (m : ℕ). drop (m * 64) b) as_n)
    ∙ same_runs 64 n a b (omega arith) (omega (arith, e)) (λ k h.
    of_each_pair (λ (v w : List ℕ). same_of v w ≡ true) (λ item called. search rules) _ _ (p.0.at k)
    (ap (option_map (λ r. r.now)) (sym (z.2.2.0.2 k)) ∙ x.2 k [] (omega (arith, z.2.2.0.0, count, a_count))
    ∙ ap (λ (runs : List (List ℕ)). Some (slice_index_or runs k [])) (a_from ∙ c.as_chunks.ensures.front))
    (ap (option_map (λ r. r.now)) (sym (z.2.2.1.2 k)) ∙ y.2 k [] (omega (arith, z.2.2.1.0, count, a_count))
    ∙ ap (λ (runs : List (List ℕ)). Some (slice_index_or runs k [])) (b_from ∙ c.as_chunks-2.ensures.front ∙ ap (λ (m : ℕ). first_chunks 64 m b) as_n))
    (p.2.1 (search rules) k))

pub returns-else-all : goal.returns-else-all
returns-else-all c =
    let a = c.args.a.now in
    let b = c.args.b.now in
    let n = length a / 64 in
    let e : length a ≡ length b = c.if-a-b.false in
    let p = c.if-all.ensures.runs in
    let z = c.zip.ensures.runs p.0 p.0.seen p.1 in
    let x = c.iter.ensures.runs z.0 z.0.seen in
    let y = c.iter.ensures.runs z.2.0 z.2.0.seen in
    let as_n : length b / 64 ≡ n = ap (λ (m : ℕ). m / 64) (sym e) in
    let a_from = ap iter_rest z.1 ∙ c.iter.ensures.rest in
    let b_from = ap iter_rest z.2.1 ∙ c.zip.ensures.second.0 in
    let a_count : length (iter_rest z.0.from) ≡ n = ap length a_from ∙ c.as_chunks.ensures.front_len in
    let some = p.2 (search rules) in
    c.if-all.false
    ∙ run_not_same 64 n a b (omega arith) (omega (arith, e)) some.0 (omega (arith, z.2.2.0.0, x.0, a_count, some.1))
    (of_some_pair (λ (v w : List ℕ). same_of v w ≡ false) (λ item called. search rules) _ _ (p.0.at some.0)
    (ap (option_map (λ r. r.now)) (sym (z.2.2.0.2 some.0)) ∙ x.2 some.0 [] (omega (arith, z.2.2.0.0, some.1))
    ∙ ap (λ (runs : List (List ℕ)). Some (slice_index_or runs some.0 [])) (a_from ∙ c.as_chunks.ensures.front))
    (ap (option_map (λ r. r.now)) (sym (z.2.2.1.2 some.0)) ∙ y.2 some.0 [] (omega (arith, z.2.2.1.0, some.1))
    ∙ ap (λ (runs : List (List ℕ)). Some (slice_index_or runs some.0 [])) (b_from ∙ c.as_chunks-2.ensures.front ∙ ap (λ (m : ℕ). first_chunks 64 m b) as_n))
    some.2)
