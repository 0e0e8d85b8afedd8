-- `hex_text::place::digits_in` meets its contract: of as many bytes as are due, those before the first that is no digit.
-- Assumes nothing.
use Rattle.std.proofs.Common.{◌∙◌, rules}
use Rattle.std.proofs.lemmas.Iterator.{YieldsList-from_slice, YieldsList-from_take}
use Rattle.std.proofs.lemmas.Iterator.Consumers.{YieldsList-at, count_from_yields_List}
use Rattle.std.proofs.lemmas.Iterator.Search.{YieldsList-from_take_while}
use Rattle.std.proofs.lemmas.List.Folds.{length-prefix_len}
use borrow.Author.Tests.{tests}
use Rattle.digits.specs.Digit.{is_digit}
use Rattle.hex_text.proofs.Placed.{found_so}
use Rattle.hex_text.proofs.place.digits_in.Goals as goal

pub returns : goal.returns
unfolding is_digit
returns c =
    let a = c.args in
    let due = YieldsList-from_take _ (YieldsList-at c.take.ensures.source (YieldsList-from_slice _ c.iter.ensures.rest)) c.take.ensures.count in
    count_from_yields_List c.take_while.result _ c.count.ensures.ran
    (YieldsList-from_take_while _ is_digit (YieldsList-at c.take_while.ensures.source due) c.take_while.ensures.closure c.take_while.ensures.done
    (λ x b q k. search (rules, tests)))
    ∙ length-prefix_len is_digit _ ∙ found_so a.due a.behind.now
