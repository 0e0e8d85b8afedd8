-- `exchange::answer::put_version` meets its contract.
-- Assumes nothing.
use Rattle.exchange.proofs.Saying.{put-version}
use Rattle.exchange.proofs.answer.put_version.Goals as goal

pub returns : goal.returns
returns c =
    let args = c.args in
    put-version args.buffer.now _ args.major args.minor args.revision
    c.put_number.ensures c.response_code.ensures c.put_control.ensures
