-- `sender::sectors::Image::look` meets its contract: the sector behind the first k is one more of the list, or none.
-- Assumes nothing.
use mathlib.Core.Path.{sym, ◌∙◌}
use native.Mathlib.Omega.{arith}
use Rattle.layout.proofs.Layouts.{good_high}
use Rattle.sender.proofs.Packets.{looked_at, sent_few, seen-count, seen-blank, seen_here, seen_other}
use Rattle.sender.proofs.sectors.Image.look.Goals as goal

pub returns-then-blank : goal.returns-then-blank
returns-then-blank c =
    let a = c.args in
    seen-blank a.self.now.bytes.now a.p a.k a.seen c.requires.seen_value (sym (looked_at _ _ _ _ c.sector.ensures c.blank.ensures) ∙ c.if-blank.true)

pub overflow_add-count : goal.overflow_add-count
overflow_add-count c =
    let a = c.args in
    omega
    (arith, c.requires.high, good_high _ a.self.now.n_good, sent_few a.self.now.bytes.now a.k, seen-count a.self.now.bytes.now a.p a.k _ c.requires.seen_value)

pub returns-then-seen-p : goal.returns-then-seen-p
returns-then-seen-p c =
    let a = c.args in
    seen_here a.self.now.bytes.now a.p a.k a.seen c.requires.seen_value
    (sym (looked_at _ _ _ _ c.sector.ensures c.blank.ensures) ∙ c.if-blank.false) c.if-seen-p.true

pub returns : goal.returns
returns c =
    let a = c.args in
    seen_other a.self.now.bytes.now a.p a.k a.seen c.requires.seen_value
    (sym (looked_at _ _ _ _ c.sector.ensures c.blank.ensures) ∙ c.if-blank.false) c.if-seen-p.false
