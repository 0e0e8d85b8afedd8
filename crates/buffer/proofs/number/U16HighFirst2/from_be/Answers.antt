-- `buffer::number::HighFirst` for `u16`: the number that its bytes are.
-- Assumes nothing.
use Rattle.std.proofs.Common.{sym, ◌∙◌, arith}
use Rattle.buffer.proofs.Numbers.{number_two, number_whole}
use Rattle.buffer.proofs.number.U16HighFirst2.from_be.Goals as goal

pub returns : goal.returns
returns c = c.from_be_bytes.ensures ∙ sym (number_two c.args.bytes.now 0 (omega arith)) ∙ number_whole 2 c.args.bytes.now (omega arith)
