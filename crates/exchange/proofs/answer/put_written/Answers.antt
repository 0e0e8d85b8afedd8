-- `exchange::answer::put_written` meets its contract.
-- Assumes nothing.
use Rattle.exchange.proofs.Saying.{put_written}
use Rattle.exchange.proofs.answer.put_written.Goals as goal

pub returns : goal.returns
returns c =
    let args = c.args in
    put_written args.buffer.now _ args.sector args.res args.write args.crc
    c.put_number.ensures c.put_write.ensures
