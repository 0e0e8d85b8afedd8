-- `bank::table::entry_at` meets its contract.
-- Assumes nothing.
use Rattle.std.proofs.Common.{rules}
use Rattle.bank.specs.Table.{entry_at}
use Rattle.bank.proofs.table.entry_at.Goals as goal

pub returns : goal.returns
unfolding entry_at
returns c =
    record {
      is = simp (c.number-offset.ensures, c.number-length.ensures, c.number-crc.ensures, c.place-at.ensures);
      offset_small = search rules;
      length_small = search rules;
    }
