-- `rows::text::write` meets its contract: each way out is a case of the definition.
-- Assumes nothing.
use Rattle.std.proofs.Common.{arith}
use Rattle.rows.proofs.Texts.{no_length, some_length, write-bad, write-short, write_good}
use Rattle.rows.proofs.text.write.Goals as goal

pub returns-in_err-size : goal.returns-in_err-size
returns-in_err-size c = rw c.from_residual.ensures (write-bad _ _ _ (no_length _ _ c.in_err-size.ensures.answered))

pub returns-then-text-size : goal.returns-then-text-size
returns-then-text-size c =
    let size = some_length _ _ c.in_ok-size.ensures.answered in
    write-short _ _ _ size.0 (omega (arith, size.1))

pub put-requires : goal.put-requires
put-requires c =
    let size = some_length _ _ c.in_ok-size.ensures.answered in
    record { whole = size.0; enough = omega (arith, size.1) }

pub returns : goal.returns
returns c =
    let size = some_length _ _ c.in_ok-size.ensures.answered in
    write_good _ _ _ size.0 (omega (arith, size.1)) size.1 c.put.ensures
