-- `script::say::spell` meets its contract: two digits for each byte passed have room.
-- Assumes nothing.
use Prim.Native.Nat.{◌*◌}
use mathlib.Core.Path.{◌≡◌}
use lib.ListN.{drop}
use lib.Seq.{sets}
use Rattle.digits.specs.Spelt.{digits_spelt}
use Rattle.script.proofs.say.spell.Given as goal

abbrev pub invariant-loop-i : goal.invariant-loop-i
invariant-loop-i l = sets l.into (2 * l.i) (digits_spelt (drop l.i l.bytes)) ≡ sets l.initial.into 0 (digits_spelt l.bytes)
