-- `bank::table::table_good` meets its contract.
-- Assumes nothing.
use mathlib.Core.Path.{sym, ◌∙◌}
use native.Mathlib.Omega.{arith}
use lib.Seq.{length-take-le}
use Rattle.bank.proofs.Tables.{crc_place_lem, end_fits, table_crc}
use Rattle.bank.proofs.table.table_good.Goals as goal

pub slice_bounds-crc32-end : goal.slice_bounds-crc32-end
slice_bounds-crc32-end c = sym (length-take-le _ _ (omega (arith, c.place-at.ensures, end_fits c.requires)))

pub returns : goal.returns
returns c =
    let place = c.place-at.ensures ∙ crc_place_lem _ _ c.requires.count in
    table_crc _ _ place _ _ c.crc32.ensures c.number.ensures
