-- `buffer::fill::fill` meets its contract: the places so far hold the byte given, the others what they held.
-- Assumes nothing.
use Rattle.std.proofs.Common.{◌≡◌, ◌++◌, drop, replicate}
use Rattle.buffer.proofs.fill.fill.Given as goal

abbrev pub invariant-loop-place : goal.invariant-loop-place
invariant-loop-place l = l.place-items ≡ replicate l.place-index l.byte ++ drop l.place-index l.initial.place-items
