-- `clean::list::put_run` meets its contract: two stores, one behind the other.
-- Assumes nothing.
use Prim.Native.Nat.{◌*◌}
use native.Mathlib.Numerals.{add-one}
use native.Mathlib.Omega.{arith}
use lib.ListN.{length-set}
use Rattle.clean.proofs.list.put_run.Goals as goal

pub bounds-runs-n-2 : goal.bounds-runs-n-2
bounds-runs-n-2 c = let l = length-set c.args.runs.now (2 * c.args.n) c.args.offset in omega (arith, c.requires.0)

pub returns : goal.returns
returns c = rw (add-one (2 * c.args.n))
