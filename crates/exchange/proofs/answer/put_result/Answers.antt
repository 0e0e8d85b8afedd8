-- `exchange::answer::put_result` meets its contract.
-- Assumes nothing.
use Rattle.exchange.proofs.Saying.{put-result}
use Rattle.exchange.proofs.answer.put_result.Goals as goal

pub returns : goal.returns
returns c =
    let args = c.args in
    put-result args.buffer.now _ args.code args.res c.put_control.ensures
