-- `hex_text::record::spell` meets its contract. The loop's invariant: the sum of all is that of what is left from the sum so far on, or none if a pair
-- was none; and, unless one was none, storing all is storing what is left into what the record now holds.
-- Assumes nothing.
use Rattle.std.proofs.Common.{◌≡◌, ◌+◌, ◌-◌, ◌*◌, ◌<◌, true, cond, length, None}
use lib.Seq.{sets}
use Rattle.hex_text.specs.Places.{bytes_at, check_from}
use Rattle.hex_text.proofs.record.spell.Given as goal

abbrev pub invariant-loop-j : goal.invariant-loop-j
invariant-loop-j l =
    (length l.bytes ≡ length l.initial.bytes)
    × (l.sum < 256)
    × (check_from 0 (bytes_at l.line 1 l.k) ≡ cond l.good (check_from l.sum (bytes_at l.line (2 * l.j + 1) (l.k - l.j))) None)
    × (l.good ≡ true → sets l.initial.bytes 0 (bytes_at l.line 1 l.k) ≡ sets l.bytes l.j (bytes_at l.line (2 * l.j + 1) (l.k - l.j)))
