-- `exports::text::hex_read` meets its contract: without room nothing is done, and with it the reader's answer is told.
-- Assumes nothing.
use Rattle.exports.proofs.Telling.{not_told, all_told}
use Rattle.exports.proofs.text.hex_read.Goals as goal

pub returns-then-told-lt3 : goal.returns-then-told-lt3
returns-then-told-lt3 c = not_told c.if-told-lt3.true

pub returns : goal.returns
returns c =
    let p = c.place_of-place.ensures in
    all_told c.if-told-lt3.false c.read-answer.ensures
    c.answer_number-number.ensures p.0 p.1
