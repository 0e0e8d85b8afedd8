-- `hexout::write` is safe. The room's length comes from its law: to count it out is too much for the checker.
-- Assumes nothing.
use mathlib.Core.Path.{sym}
use Prim.Native.Nat.{ℕ}
use lib.ListN.{length-replicate}
use Rattle.hexout.proofs.write.Goals as goal

pub slice_bounds-write_into-end : goal.slice_bounds-write_into-end
slice_bounds-write_into-end g c = sym (length-replicate {0} {A = ℕ} 707121 0)
