-- `hex_text::pair::value_at` meets its contract: of two digits the rests modulo 16 are their values.
-- Assumes nothing.
use Rattle.std.proofs.Common.{◌+◌, get_or}
use Rattle.hex_text.proofs.Pairs.{pair_is}
use Rattle.hex_text.proofs.pair.value_at.Goals as goal

pub returns : goal.returns
returns c =
    let t = c.args.text.now in
    let at = c.args.at in
    λ e. rw (c.value.ensures, c.value-2.ensures) (pair_is (get_or t at 0) (get_or t (at + 1) 0) e)
