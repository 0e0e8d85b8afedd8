-- `buffer::number::HighFirst` for `u16`: the bytes of a number.
-- Assumes nothing.
use Rattle.std.proofs.Common.{sym, ◌∙◌}
use Rattle.buffer.proofs.Numbers.{bytes_two}
use Rattle.buffer.proofs.number.U16HighFirst2.to_be.Goals as goal

pub returns : goal.returns
returns c = c.to_be_bytes.ensures ∙ sym (bytes_two c.args.self)
