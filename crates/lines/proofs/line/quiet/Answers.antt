-- `lines::line::quiet` meets its contract: the loop's invariant: whether all are quiet is what is known of those passed and of those left.
-- Assumes nothing.
use Rattle.std.proofs.Common.{◌≡◌, length, refl, sym, ◌∙◌, arith}
use Rattle.lines.proofs.Lines.{quiet_one, quiet_none}
use Rattle.lines.proofs.line.quiet.Goals as goal

pub loop-byte-init : goal.loop-byte-init
loop-byte-init c = refl

pub loop-byte-preserved : goal.loop-byte-preserved
loop-byte-preserved c =
    let l = c.loop-byte in
    l.invariant ∙ quiet_one c.args.bytes.now l.byte-index l.good (omega arith)

pub returns : goal.returns
returns c =
    let l = c.loop-byte in
    let t = c.args.bytes.now in
    let z : l.byte-index ≡ length t = omega arith in
    sym (l.invariant ∙ rw z (quiet_none t l.good))
