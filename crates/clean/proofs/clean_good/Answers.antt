-- `clean::clean_good` meets its contract: all is counted, there is room or there is none, and all is listed and cleared.
-- Assumes nothing.
use mathlib.Core.Path.{sym, ap, ◌∙◌}
use lib.ListN.{length}
use lib.Seq.{length-take-le}
use Rattle.clean.specs.Old.{old}
use Rattle.clean.proofs.Cases.{good_bank, marks_none, sectors_room, sectors_small, sectors_are, clean-full, runs_fit, sectors-fit, listed-runs, clean-done}
use Rattle.clean.proofs.Sectors.{numbers_marked}
use Rattle.clean.proofs.clean_good.Goals as goal

pub mark-n-requires : goal.mark-n-requires
mark-n-requires c =
    let b = c.args.bank.now in
    record { good_bank = good_bank b _ (c.as_slice-gaps.ensures ∙ c.find-found.ensures) c.requires.0 c.requires.1; marks_at = marks_none (old b) c.no_marks-marks.ensures }

pub slice_bounds-held-end : goal.slice_bounds-held-end
slice_bounds-held-end c = sym (length-take-le _ _ (sectors_room c.args.bank.now c.requires.0 c.mark-n.ensures.marks_at_2))

pub returns-then-not-has_room : goal.returns-then-not-has_room
returns-then-not-has_room c =
    let b = c.args.bank.now in
    let m = c.mark-n.ensures in
    clean-full b c.args.runs.now c.args.sectors.now c.requires.0 c.requires.1 m.value
    (c.count-m.ensures ∙ numbers_marked _ ∙ ap length (sectors_are b c.requires.0 m.marks_at_2)) c.has_room.ensures c.if-not-has_room.true

pub list-requires : goal.list-requires
list-requires c =
    let b = c.args.bank.now in
    let m = c.mark-n.ensures in
    let counted = c.count-m.ensures ∙ numbers_marked _ ∙ ap length (sectors_are b c.requires.0 m.marks_at_2) in record { good_bank = (good_bank b _ (c.as_slice-gaps.ensures ∙ c.find-found.ensures) c.requires.0 c.requires.1, m.marks_at_2); bank_in_bounds = runs_fit b c.args.runs.now c.args.sectors.now c.requires.0 c.requires.1 m.value counted c.has_room.ensures c.if-not-has_room.false }

pub list-requires-2 : goal.list-requires-2
list-requires-2 c =
    let b = c.args.bank.now in
    let m = c.mark-n.ensures in
    let are = sectors_are b c.requires.0 m.marks_at_2 in
    let fit = sectors-fit b c.args.runs.now c.args.sectors.now c.requires.0 c.requires.1 m.value (c.count-m.ensures ∙ numbers_marked _ ∙ ap length are) c.has_room.ensures c.if-not-has_room.false in
    (sectors_small b c.requires.0 m.marks_at_2, rw are fit)

pub blank-requires : goal.blank-requires
blank-requires c =
    let b = c.args.bank.now in
    let m = c.mark-n.ensures in
    let counted = c.count-m.ensures ∙ numbers_marked _ ∙ ap length (sectors_are b c.requires.0 m.marks_at_2) in
    listed-runs b c.args.runs.now c.args.sectors.now c.requires.0 c.requires.1 m.value counted c.has_room.ensures c.if-not-has_room.false c.list.ensures

pub returns : goal.returns
returns c =
    let b = c.args.bank.now in
    let m = c.mark-n.ensures in
    let are = sectors_are b c.requires.0 m.marks_at_2 in
    clean-done b c.args.runs.now c.args.sectors.now c.requires.0 c.requires.1 m.value (c.count-m.ensures ∙ numbers_marked _ ∙ ap length are) c.has_room.ensures c.if-not-has_room.false
    c.blank.ensures c.list.ensures (c.list-2.ensures ∙ rw are)
