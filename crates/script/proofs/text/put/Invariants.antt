-- `script::text::put` meets its contract: both lengths are known, and every digit is one.
-- Assumes nothing.
use mathlib.Core.Path.{◌≡◌}
use Prim.Native.Nat.{◌*◌}
use lib.ListN.{drop}
use lib.Seq.{sets}
use Rattle.script.specs.Spelt.{bytes_in}
use Rattle.script.proofs.text.put.Given as goal

abbrev pub invariant-loop-i : goal.invariant-loop-i
invariant-loop-i l = sets l.into l.i (bytes_in (drop (2 * l.i) l.text)) ≡ sets l.initial.into 0 (bytes_in l.text)
