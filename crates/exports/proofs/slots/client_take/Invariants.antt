-- `exports::slots::client_take` meets its contract: at each turn the first k slots are taken.
-- Assumes nothing.
use mathlib.Core.Path.{◌≡◌}
use lib.ListN.{length}
use Rattle.layout.specs.Pair.{banks}
use Rattle.calls.specs.Call.{board}
use Rattle.exports.specs.Slots.{calls_of, ran, run_of}
use Rattle.exports.proofs.slots.client_take.Given as goal

abbrev pub invariant-loop-k : goal.invariant-loop-k
invariant-loop-k l =
    (length l.bank0 ≡ length l.initial.bank0) × (length l.bank1 ≡ length l.initial.bank1) × (length l.buffer ≡ length l.initial.buffer)
    × (ran l.told (board l.client (banks l.bank0 l.bank1)) l.buffer
    ≡ run_of l.initial.buffer (board l.initial.client (banks l.initial.bank0 l.initial.bank1)) (calls_of l.slots l.marks l.addresses l.initial.buffer l.k))
