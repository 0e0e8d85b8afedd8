-- `buffer::place::put_front` meets its contract.
-- Assumes nothing.
use mathlib.Core.Path.{◌∙◌}
use Rattle.buffer.proofs.Places.{place_front}
use Rattle.buffer.proofs.place.put_front.Goals as goal

pub returns : goal.returns
returns c =
    c.put_at.ensures ∙ place_front c.args.buffer.now
    c.args.bytes.now
