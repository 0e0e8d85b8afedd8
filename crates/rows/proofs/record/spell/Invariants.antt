-- `rows::record::spell` meets its contract. The loop's invariant: storing all and adding all up is storing and adding up what is left, into what the
-- text now holds and to the sum so far.
-- Assumes nothing.
use Rattle.std.proofs.Common.{◌≡◌, ◌+◌, ◌*◌, ◌%◌, ◌<◌, length, drop}
use lib.Seq.{sets}
use Rattle.buffer.specs.Total.{total}
use Rattle.digits.specs.Spelt.{digits_spelt}
use Rattle.rows.proofs.record.spell.Given as goal

abbrev pub invariant-loop-j : goal.invariant-loop-j
invariant-loop-j l =
    (length l.text ≡ length l.initial.text)
    × (l.added < 256)
    × (sets l.text (l.at + 2 * l.j) (digits_spelt (drop l.j l.bytes)) ≡ sets l.initial.text l.at (digits_spelt l.bytes))
    × ((l.sum + total l.bytes) % 256 ≡ (l.added + total (drop l.j l.bytes)) % 256)
