-- `hex_text::read::read_lines` meets its contract. The loop's invariant: reading all lines comes to what reading those that are left comes to, from
-- the state, the line number and the image that there are; and the line number stays small, since each line takes a byte of the text or more.
-- Assumes nothing.
use Rattle.std.proofs.Common.{◌≡◌, ◌+◌, ◌≤◌, length}
use Rattle.lines.specs.Line.{lines}
use Rattle.lines.specs.Places.{lines_left}
use Rattle.hex_text.specs.Read.{read_lines, at_start}
use Rattle.hex_text.proofs.read.read_lines.Given as goal

abbrev pub invariant-loop-bytes : goal.invariant-loop-bytes
invariant-loop-bytes l =
    (l.line + length (lines_left l.bytes-iterator) ≤ length l.text + 1)
    × (length l.image ≡ length l.initial.image)
    × (read_lines l.base (length l.initial.image) at_start 1 l.initial.image (lines l.text) ≡ read_lines l.base (length l.initial.image) l.state l.line l.image (lines_left l.bytes-iterator))
