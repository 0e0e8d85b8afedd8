-- `crc::crc_more` meets its contract: in two pieces it comes to the same.
-- Assumes nothing.
use Rattle.std.proofs.Common.{ℕ, ◌%◌, List, length, ap, ap₂, ◌∙◌}
use Rattle.crc.specs.Crc.{crc_more}
use Rattle.crc.proofs.Laws.{more_split}
use Rattle.crc.proofs.crc_more.Goals as goal

pub returns-else-part-lt-SHORT : goal.returns-else-part-lt-SHORT
returns-else-part-lt-SHORT c =
    let l : List ℕ = c.args.part.now in
    c.braid.ensures
    ∙ ap₂ crc_more (c.plain-else-part-lt-SHORT.ensures ∙ ap (crc_more c.args.register) c.split_at.ensures.front) c.split_at.ensures.back
    ∙ more_split c.args.register (length l % 24) l
