-- Every public function's contract, and every conversion's, leaves one outcome.
-- Assumes nothing.
use mathlib.Core.Path.{sym, ◌∙◌}
use Rattle.outcomes.proofs.Equations.{once}
use Rattle.demands.specs.Determined.{Determined}

pub determined : Determined
determined =
    record {
      same = λ a b. once _;
      blank = λ a. once _;
      fill = λ before byte. once _;
      number = λ w bytes at. once _;
      put_number = λ w before at number. once _;
      place = λ before at bytes. once _;
      front = λ before bytes. once _;
      crc_more = λ register part. once _;
      crc32 = λ bytes. once _;
      checksum = λ bytes. once _;
      read_frame = λ datagram. once _;
      parameters_in = λ datagram. once _;
      data_in = λ datagram. once _;
      footer_byte = λ footer. once _;
      footer_in = λ byte. once _;
      put_control = λ before code parameters. once _;
      put_write = λ before sector bytes footer. once _;
      put_error = λ before. once _;
      store = λ before k store. once _;
      write_at = λ before k bytes x y u v p q. (p.written ∙ sym q.written, p.already ∙ sym q.already);
      sweep = λ before n received. once _;
      good_n = λ n. once _;
      bank_size = λ n. once _;
      sectors = λ length x y p q. p.counted ∙ sym q.counted;
      bank_number = λ bank. once _;
      numbered_bank = λ k. once _;
      other = λ bank. once _;
      start = λ bank. once _;
      end = λ bank n. once _;
      sector_offset = λ k. once _;
      body_count = λ bank. once _;
      stretch_at = λ bank i. once _;
      gaps = λ bank. once _;
      gap_slice = λ gaps. once _;
      contents = λ bank x y p q. p.verdict ∙ sym q.verdict;
      check = λ bank x y p q. p.verdict ∙ sym q.verdict;
      body = λ bank i. once _;
      refusal_of = λ fault. once _;
      clean_number = λ refusal. once _;
      clean = λ bank runs sectors x y u v s t a b p q. (
        p.answered ∙ sym q.answered,
        (p.bank_then ∙ sym q.bank_then, (p.runs_then ∙ sym q.runs_then, p.sectors_then ∙ sym q.sectors_then)),
      );
      value = λ byte. once _;
      digit = λ value. once _;
      reader_at = λ text at r s p q. λ k. record { text = (p.text_is ∙ sym q.text_is) k; at = (p.at_is ∙ sym q.at_is) k };
      next_line = λ reader. once _;
      kind_number = λ kind. once _;
      answer_number = λ answer. once _;
      unmade_number = λ why. once _;
      response_number = λ response. once _;
      read_text = λ text bank n before x y u v p q. (p.image ∙ sym q.image, p.answer ∙ sym q.answer);
      written_number = λ written. once _;
      text_length = λ image bank x y p q. p.answered ∙ sym q.answered;
      write_text = λ image bank before x y u v p q. (p.answered ∙ sym q.answered, p.stands ∙ sym q.stands);
      count = λ image n x y p q. p.answered ∙ sym q.answered;
      place_of_packet = λ image n number x y p q. p.answered ∙ sym q.answered;
      taken_over = λ why. once _;
      night_number = λ why. once _;
      next_number = λ next. once _;
      night_start = λ image bank n tries before x y u v p q. (p.answered ∙ sym q.answered, p.stands ∙ sym q.stands);
      night_heard = λ night datagram image before x y u v p q. (p.answered ∙ sym q.answered, p.stands ∙ sym q.stands);
      night_silent = λ night image before x y u v p q. (p.answered ∙ sym q.answered, p.stands ∙ sym q.stands);
      packet = λ image n number before x y u v p q. (p.answered ∙ sym q.answered, p.stands ∙ sym q.stands);
      command_of = λ request. once _;
      request = λ request before x y u v p q. (p.answered ∙ sym q.answered, p.stands ∙ sym q.stands);
      read_response = λ datagram x y p q. p.answered ∙ sym q.answered;
      request_code = λ command. once _;
      response_code = λ command. once _;
      parameter_bytes = λ command. once _;
      added_bytes = λ command. once _;
      requested = λ code. once _;
      answered = λ code. once _;
      asked = λ datagram. once _;
      is_closed = λ state. once _;
      is_open = λ state. once _;
      fits_state = λ state request. once _;
      declined = λ request. once _;
      refusal_number = λ why. once _;
      say = λ reply before x y u v p q. (p.said ∙ sym q.said, p.told ∙ sym q.told);
      plan = λ standing target marks address buffer asked. once _;
      reason_number = λ why. once _;
      told_number = λ told. once _;
      notice_code = λ notice. once _;
      latest_number = λ latest. once _;
      new = λ n running major minor revision x y p q. p.is ∙ sym q.is;
      initiate = λ c x y p q. p.is ∙ sym q.is;
      terminate = λ c x y p q. p.is ∙ sym q.is;
      take_call = λ c target marks address buffer datagram x y u v s t p q. (
        λ k. record {
          client = (p.client ∙ sym q.client) k;
          answer = (p.answer ∙ sym q.answer) k;
          length = (p.told ∙ sym q.told) k;
          notice = (p.notice ∙ sym q.notice) k;
        },
        (p.target_left ∙ sym q.target_left, p.said ∙ sym q.said),
      );
      step = λ c bank0 bank1 marks address buffer datagram x y u v s t a b p q. (
        λ k. record {
          client = (p.client ∙ sym q.client) k;
          answer = (p.answer ∙ sym q.answer) k;
          length = (p.told ∙ sym q.told) k;
          notice = (p.notice ∙ sym q.notice) k;
        },
        (p.bank_zero ∙ sym q.bank_zero, (p.bank_one ∙ sym q.bank_one, p.said ∙ sym q.said)),
      );
      next_body_is = λ c bank0 bank1 i. once _;
      first_field = λ text. once _;
      other_fields = λ text. once _;
      ends_in_blank = λ text. once _;
      hex_number = λ text digits. once _;
      decimal_number = λ text most. once _;
      byte_field = λ text. once _;
      bank_field = λ text. once _;
      spelt_bytes = λ text before x y u v p q. (p.stands ∙ sym q.stands, p.counted ∙ sym q.counted);
      before_lines = once _;
      held_line = λ line turn. once _;
      room_filled = λ n byte lent. once _;
      room_part = λ n room x y p q. p.part ∙ sym q.part;
      room_lent = λ n before count x y u v p q. (p.stands ∙ sym q.stands, p.told ∙ sym q.told);
    }
