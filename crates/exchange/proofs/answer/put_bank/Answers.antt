-- `exchange::answer::put_bank` meets its contract.
-- Assumes nothing.
use Rattle.exchange.proofs.Saying.{put-bank}
use Rattle.exchange.proofs.answer.put_bank.Goals as goal

pub returns : goal.returns
returns c =
    let args = c.args in
    put-bank args.buffer.now _ args.bank
    c.response_code.ensures c.from-number.ensures c.put_control.ensures
