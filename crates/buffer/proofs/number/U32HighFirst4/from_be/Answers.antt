-- `buffer::number::HighFirst` for `u32`: the number that its bytes are.
-- Assumes nothing.
use Rattle.std.proofs.Common.{sym, ◌∙◌, arith}
use Rattle.buffer.proofs.Numbers.{number_four, number_whole}
use Rattle.buffer.proofs.number.U32HighFirst4.from_be.Goals as goal

pub returns : goal.returns
returns c = c.from_be_bytes.ensures ∙ omega arith ∙ sym (number_four c.args.bytes.now 0 (omega arith)) ∙ number_whole 4 c.args.bytes.now (omega arith)
