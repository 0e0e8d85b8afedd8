-- `buffer::number::HighFirst` for `u32`: the bytes of a number.
-- Assumes nothing.
use Rattle.std.proofs.Common.{sym, ◌∙◌}
use Rattle.buffer.proofs.Numbers.{bytes_four}
use Rattle.buffer.proofs.number.U32HighFirst4.to_be.Goals as goal

pub returns : goal.returns
returns c = c.to_be_bytes.ensures ∙ sym (bytes_four c.args.self)
