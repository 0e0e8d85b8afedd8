-- `crc::braid` meets its contract: the six registers, with the words that they are at and the bytes after these, come to the whole.
-- Assumes nothing.
use Rattle.std.proofs.Common.{◌≡◌, ℕ, ◌+◌, ◌-◌, ◌*◌, ◌≤◌, List, [], length, drop, slice_index_or, ap, ◌∙◌, add-zero, arith}
use Rattle.std.specs.Int.Bits.{bit_xor}
use Rattle.crc.specs.Crc.{crc_bits, crc_more}
use Rattle.crc.specs.Braid.{word_at, crc_word}
use Rattle.crc.proofs.Strands.{braid_start, braid_turn, braid_end}
use Rattle.crc.proofs.Words.{word_drop, word_turn}
use Rattle.crc.proofs.braid.Goals as goal

pub loop-turn-init : goal.loop-turn-init
loop-turn-init c = braid_start c.args.part.now c.args.register c.requires.in_bounds

pub loop-turn-preserved : goal.loop-turn-preserved
loop-turn-preserved c =
    let at = c.loop-turn in
    let l = c.args.part.now in
    let k = at.turn-index in
    let i = k * 24 in
    let more : (k + 1) * 24 ≡ i + 24 = omega arith in
    let word : (j : ℕ) → j + 4 ≤ 24 → word_at (slice_index_or c.as_chunks.result.0.now k []) j ≡ word_at l (i + j) =
    word_turn l c.split_at.result.0.now c.as_chunks.result.0.now k c.split_at.ensures.front c.as_chunks.ensures.front (omega arith, omega arith) in
    let a : c.far-a.result ≡ crc_bits 192 (bit_xor at.a (word_at l i)) = c.far-a.ensures ∙ ap (λ (w : ℕ). crc_bits 192 (bit_xor at.a w)) (word 0 (omega arith) ∙ ap (word_at l) (add-zero i)) in
    let b : c.far-b.result ≡ crc_bits 192 (bit_xor at.b (word_at l (i + 4))) = c.far-b.ensures ∙ ap (λ (w : ℕ). crc_bits 192 (bit_xor at.b w)) (word 4 (omega arith)) in
    let c' : c.far-c.result ≡ crc_bits 192 (bit_xor at.c (word_at l (i + 8))) = c.far-c.ensures ∙ ap (λ (w : ℕ). crc_bits 192 (bit_xor at.c w)) (word 8 (omega arith)) in
    let d : c.far-d.result ≡ crc_bits 192 (bit_xor at.d (word_at l (i + 12))) = c.far-d.ensures ∙ ap (λ (w : ℕ). crc_bits 192 (bit_xor at.d w)) (word 12 (omega arith)) in
    let e : c.far-e.result ≡ crc_bits 192 (bit_xor at.e (word_at l (i + 16))) = c.far-e.ensures ∙ ap (λ (w : ℕ). crc_bits 192 (bit_xor at.e w)) (word 16 (omega arith)) in
    let f : c.far-f.result ≡ crc_bits 192 (bit_xor at.f (word_at l (i + 20))) = c.far-f.ensures ∙ ap (λ (w : ℕ). crc_bits 192 (bit_xor at.f w)) (word 20 (omega arith)) in
    rw (f, e, d, c', b, a, more) (braid_turn l at.a at.b at.c at.d at.e at.f i (omega arith) ∙ at.invariant)

pub returns : goal.returns
unfolding crc_more
returns c =
    let at = c.loop-turn in
    let l = c.args.part.now in
    let i = at.turn-index * 24 in
    let last : length l - 24 ≡ i = omega arith in
    let word : (j : ℕ) → word_at c.split_at.result.1.now j ≡ word_at l (i + j) =
    λ j. ap (λ (s : List ℕ). word_at s j) (c.split_at.ensures.back ∙ ap (λ (n : ℕ). drop n l) last) ∙ word_drop i l j in
    let a : c.far-a-2.result ≡ crc_bits 192 (bit_xor at.a (word_at l i)) = c.far-a-2.ensures ∙ ap (λ (w : ℕ). crc_bits 192 (bit_xor at.a w)) (word 0 ∙ ap (word_at l) (add-zero i)) in
    let b : c.near-b.result ≡ crc_word 0 (bit_xor at.b (word_at l (i + 4))) = c.near-b.ensures ∙ ap (λ (w : ℕ). crc_word 0 (bit_xor at.b w)) (word 4) in
    let c' : c.near-c.result ≡ crc_word c.near-b.result (bit_xor at.c (word_at l (i + 8))) = c.near-c.ensures ∙ ap (λ (w : ℕ). crc_word c.near-b.result (bit_xor at.c w)) (word 8) in
    let d : c.near-d.result ≡ crc_word c.near-c.result (bit_xor at.d (word_at l (i + 12))) = c.near-d.ensures ∙ ap (λ (w : ℕ). crc_word c.near-c.result (bit_xor at.d w)) (word 12) in
    let e : c.near-e.result ≡ crc_word c.near-d.result (bit_xor at.e (word_at l (i + 16))) = c.near-e.ensures ∙ ap (λ (w : ℕ). crc_word c.near-d.result (bit_xor at.e w)) (word 16) in
    let f : c.near-f.result ≡ crc_word c.near-e.result (bit_xor at.f (word_at l (i + 20))) = c.near-f.ensures ∙ ap (λ (w : ℕ). crc_word c.near-e.result (bit_xor at.f w)) (word 20) in
    rw (f, e, d, c', b, a) (braid_end l at.a at.b at.c at.d at.e at.f i (omega arith) ∙ at.invariant)
