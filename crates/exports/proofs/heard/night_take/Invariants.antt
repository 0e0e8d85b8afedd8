-- `exports::heard::night_take` meets its contract: at each turn the first k slots are heard.
-- Assumes nothing.
use mathlib.Core.Path.{◌≡◌}
use lib.ListN.{length}
use Rattle.exports.specs.Heard.{stood, heard_of}
use Rattle.exports.proofs.heard.night_take.Given as goal

abbrev pub invariant-loop-k : goal.invariant-loop-k
invariant-loop-k l = (length l.buffer ≡ length l.initial.buffer) × (stood l.night l.told l.buffer ≡ heard_of l.image l.slots (stood l.initial.night l.initial.told l.initial.buffer) l.k)
