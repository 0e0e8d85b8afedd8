-- `digits::value` meets its contract: the count of a letter, that of a number, or `NONE`.
-- Assumes nothing.
use Rattle.std.proofs.Common.{◌≤◌, ◌∙◌, arith, rules}
use Rattle.digits.proofs.Digits.{number_is, letter_is, none_is}
use Rattle.digits.proofs.value.Goals as goal
use Rattle.digits.proofs.value.Goals.{then-number-lt10, else-number-lt10}

-- a letter's count
pub returns-then-letter-least : goal.returns-then-letter-least
returns-then-letter-least c =
    let l = c.wrapping_sub_u8-letter in
    let x = c.wrapping_sub_u8-one_less in
    let least : c.if-number-lt10.least ≤ 16 = elim c.if-number-lt10.branch [ then-number-lt10 w ↦ omega arith | else-number-lt10 w ↦ omega arith ] in
    letter_is _ _ _ (search rules) (search rules) x.ensures.value l.ensures.value (omega (arith, c.if-letter-least.true, least))

-- a number's, or `NONE`
pub returns-else-letter-least : goal.returns-else-letter-least
returns-else-letter-least c =
    let l = c.wrapping_sub_u8-letter in
    let x = c.wrapping_sub_u8-one_less in
    let n = c.wrapping_sub_u8-number in
    elim c.if-number-lt10.branch [
      | then-number-lt10 w ↦ w.least-is ∙ number_is _ _ (search rules) n.ensures.value w.if-number-lt10.true
      | else-number-lt10 w ↦
          let h : 16 ≤ l.result = omega arith in
          w.least-is ∙ none_is _ _ _ (search rules) (search rules) x.ensures.value l.ensures.value _ (search rules) n.ensures.value w.if-number-lt10.false h
    ]
