-- `digits::digit` meets its contract: a number or a letter.
-- Assumes nothing.
use Rattle.std.proofs.Common.{le-ltb, lt-ltb}
use Rattle.digits.specs.Digit.{digit_of}
use Rattle.digits.proofs.digit.Goals as goal

pub returns-then-last-lt10 : goal.returns-then-last-lt10
unfolding digit_of
returns-then-last-lt10 c = rw (lt-ltb _ 10 c.if-last-lt10.true)

pub returns : goal.returns
unfolding digit_of
returns c = rw (le-ltb _ 10 c.if-last-lt10.false)
