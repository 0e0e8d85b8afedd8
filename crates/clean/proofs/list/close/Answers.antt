-- `clean::list::close` meets its contract: there is a run, or there is none.
-- Assumes nothing.
use native.Mathlib.Omega.{arith}
use Rattle.clean.proofs.Putting.{close_none, close-one, close-some}
use Rattle.clean.proofs.list.close.Goals as goal

pub returns-then-listed-eq0 : goal.returns-then-listed-eq0
returns-then-listed-eq0 c = let a = c.args in close_none a.listed a.at a.runs.now c.if-listed-eq0.true

pub put_run-requires : goal.put_run-requires
put_run-requires c =
    let a = c.args in
    let o = close-one a.listed a.at a.runs.now c.if-listed-eq0.false in
    (omega (arith, c.requires.2), omega arith, omega arith)

pub returns : goal.returns
returns c =
    let a = c.args in
    close-some a.listed a.at a.runs.now c.if-listed-eq0.false c.put_run.ensures
