-- `hex_text::read::finish` meets its contract: by whether the end record was seen.
-- Assumes nothing.
use Rattle.std.proofs.Common.{refl}
use Rattle.hex_text.proofs.read.finish.Goals as goal

pub returns : goal.returns
returns c = rw c.if-state.false refl
