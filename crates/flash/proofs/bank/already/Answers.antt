-- `flash::bank::already` meets its contract: what `holds` says of the part, said of the sector.
-- Assumes nothing.
use mathlib.Core.Path.{ap, ◌∙◌}
use mathlib.Core.List.{List}
use Prim.Native.Nat.{ℕ, ◌+◌, ◌≤◌}
use lib.ListN.{length}
use borrow.Author.Rules.{rules}
use Rattle.buffer.specs.Compare.{same_of}
use Rattle.layout.specs.Layout.{sector_size}
use Rattle.layout.proofs.Layouts.{lent_out}
use Rattle.flash.specs.Sector.{padded_of}
use Rattle.flash.proofs.Sectors.{has_start, has_end}
use Rattle.flash.proofs.Writes.{fits_short}
use Rattle.flash.proofs.bank.already.Goals as goal

pub overflow_add-from : goal.overflow_add-from
overflow_add-from c =
    let e : c.sector_offset-from.result + sector_size ≤ length c.args.bank.now = has_end _ c.args.k c.requires.0 c.sector_offset-from.ensures in
    search rules

pub slice_bounds-holds-end : goal.slice_bounds-holds-end
slice_bounds-holds-end c =
    let e : c.sector_offset-from.result + sector_size ≤ length c.args.bank.now = has_end _ c.args.k c.requires.0 c.sector_offset-from.ensures in
    search rules

pub holds-requires : goal.holds-requires
holds-requires c =
    let e : c.sector_offset-from.result + sector_size ≤ length c.args.bank.now =
    has_end _ c.args.k c.requires.0 c.sector_offset-from.ensures in
    let s : length c.args.bytes.now ≤ sector_size = fits_short _ c.requires.1 in
    search rules

pub returns : goal.returns
returns c =
    let o = c.sector_offset-from in
    c.holds.ensures
    ∙ ap (λ (s : List ℕ). same_of s (padded_of c.args.bytes.now))
    (lent_out c.args.bank.now c.args.k o.result (has_start (length c.args.bank.now) c.args.k c.requires.0 o.ensures))
