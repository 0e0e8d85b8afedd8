-- What C is told leaves one outcome.
-- Assumes nothing.
use mathlib.Core.Path.{sym, ◌∙◌}
use Rattle.outcomes.proofs.Equations.{once}
use Rattle.exports.specs.Determined.{Determined}

pub determined : Determined
determined =
    record {
      check_number = λ bank. once _;
      clean_numbers = λ bank runs sectors told x y u v s t a b k l p q. (
        p.number_is ∙ sym q.number_is,
        (p.bank_is ∙ sym q.bank_is, (p.runs_is ∙ sym q.runs_is, (p.sectors_is ∙ sym q.sectors_is, p.told_is ∙ sym q.told_is))),
      );
      read_numbers = λ text n image told x y u v s t p q. (
        p.number_is ∙ sym q.number_is,
        (p.image_is ∙ sym q.image_is, p.told_is ∙ sym q.told_is),
      );
      length_number = λ image. once _;
      write_number = λ image before x y u v p q. (p.number_is ∙ sym q.number_is, p.stands ∙ sym q.stands);
      packet_number = λ image n number before x y u v p q. (p.number_is ∙ sym q.number_is, p.stands ∙ sym q.stands);
      take_slots = λ n slots bank0 bank1 marks addresses buffer x y u v s t a b p q. (
        p.given ∙ sym q.given,
        (p.bank_zero ∙ sym q.bank_zero, (p.bank_one ∙ sym q.bank_one, p.buffer_left ∙ sym q.buffer_left)),
      );
      night_slots = λ image n tries slots before x y u v p q. (p.given ∙ sym q.given, p.stands ∙ sym q.stands);
    }
