-- `crc::word` meets its contract: bytes that lie apart add up to what they are by xor.
-- Assumes nothing.
use Rattle.std.proofs.Common.{ℕ, ◌+◌, List, slice_index_or, ◌∙◌, arith}
use Rattle.crc.specs.Braid.{word_at}
use Rattle.crc.proofs.Words.{word_sum}
use Rattle.crc.proofs.word.Goals as goal

pub returns : goal.returns
unfolding word_at
returns c =
    let l : List ℕ = c.args.part.now in
    let i : ℕ = c.args.i in
    c.from_le_bytes.ensures
    ∙ word_sum (slice_index_or l i 0) (slice_index_or l (i + 1) 0) (slice_index_or l (i + 2) 0) (slice_index_or l (i + 3) 0)
    (omega (arith, c.type_inv.part i)) (omega (arith, c.type_inv.part (i + 1))) (omega (arith, c.type_inv.part (i + 2)))
