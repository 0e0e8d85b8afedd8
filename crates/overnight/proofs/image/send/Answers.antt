-- `overnight::image::send` is safe. The room's length comes from its law: to count it out is too much for the checker.
-- Assumes nothing.
use mathlib.Core.Path.{sym}
use Prim.Native.Nat.{ℕ}
use lib.ListN.{length-replicate}
use Rattle.overnight.proofs.image.send.Goals as goal

pub slice_bounds-send_from-end : goal.slice_bounds-send_from-end
slice_bounds-send_from-end g c = sym (length-replicate {0} {A = ℕ} 1048577 0)
