-- What the contracts allow is the outcome of which the demands are proved.
-- Assumes nothing.
use mathlib.Core.Path.{◌≡◌, sym, ap, ◌∙◌}
use mathlib.Core.Logic.{inr}
use mathlib.Core.List.{List}
use Prim.Native.Nat.{ℕ}
use lib.ListN.{length}
use Rattle.layout.specs.Layout.{bank_size}
use Rattle.layout.specs.Pair.{bank_in}
use Rattle.exchange.specs.Answer.{answer_number}
use Rattle.client.specs.declared.step.Stepped.{Stepped}
use Rattle.client.specs.Step.{take_of}
use Rattle.calls.proofs.Beside.{step_taken}
use Rattle.calls.specs.Call.{Board, board}
use Rattle.demands.specs.Board.{LentCall, Datagram, lent_of, back_in, lent_target, host_outcome, call_outcome, step_machine}
use Rattle.night.specs.declared.record.Called.{Called}
use Rattle.night.specs.Call.{buffer_by}
use Rattle.clean.proofs.Meaning.{contract_is}
use Rattle.demands.specs.Allowed.{StepAllows, TakeAllows, step_back, take_back, told_back, Contracts}
use Rattle.demands.specs.Night.{told_by}

module _ (b : Board) (call : LentCall) {r : Stepped} where
  step_outcome : {zero one answered : List ℕ}
      → StepAllows b call r zero one answered
      → step_machine b (Datagram call) ≡ step_back b call r zero one answered
  step_outcome p =
      λ k. record {
        board = board (sym p.client k) (back_in call.lent b.pair (record { bank0 = sym p.bank_zero k; bank1 = sym p.bank_one k }));
        number = answer_number (sym p.answer k);
        told = sym p.told k;
        buffer = sym p.said k;
        notice = sym p.notice k;
      }

  taken_is : {after answered : List ℕ} → TakeAllows b call r after answered
      → take_of b.client (lent_target b call) call.marks call.address call.buffer call.datagram ≡ take_back r after answered
  taken_is p =
      λ k. record {
        client = sym p.client k;
        answer = sym p.answer k;
        told = sym p.told k;
        notice = sym p.notice k;
        target = sym p.target_left k;
        buffer = sym p.said k;
      }

  take_outcome : {after answered : List ℕ}
      → length (bank_in b.client.fixed.running (lent_of call.lent b.pair)) ≡ bank_size b.client.fixed.n
      → TakeAllows b call r after answered
      → step_machine b (Datagram call) ≡ call_outcome b call (take_back r after answered)
  take_outcome e p =
      let runs : List ℕ = bank_in b.client.fixed.running (lent_of call.lent b.pair) in
      ap (call_outcome b call)
      (step_taken b.client runs (lent_target b call) call.marks call.address call.buffer call.datagram (inr e) ∙ taken_is p)

told_so : (image before : List ℕ) {r c : Called} {after : List ℕ} → r ≡ c → after ≡ buffer_by image before c → told_by image before c ≡ told_back r after
told_so image before e s = λ k. record { record_then = (sym e k).night; next = (sym e k).next; buffer = sym s k }

pub contracts : Contracts
contracts =
    record {
      step = λ b call p. step_outcome b call p;
      take_call = λ b call e p. take_outcome b call e p;
      initiate = λ b p. ap (host_outcome b) (sym p.is);
      terminate = λ b p. ap (host_outcome b) (sym p.is);
      new = λ p. sym p.is;
      check = λ p. sym p.verdict;
      clean = λ p. contract_is p;
      next_body_is = λ c bank0 bank1 i p. sym p;
      read_text = λ p. λ k. record { answer = sym p.answer k; image = sym p.image k };
      text_length = λ p. sym p.answered;
      write_text = λ p. λ k. record { answer = sym p.answered k; buffer = sym p.stands k };
      count = λ p. sym p.answered;
      packet = λ p. λ k. record { answer = sym p.answered k; buffer = sym p.stands k };
      request = λ p. λ k. record { answer = sym p.answered k; buffer = sym p.stands k };
      place = λ p. sym p.answered;
      night_start = λ {image} {bank} {n} {tries} {before} p. told_so image before p.answered p.stands;
      night_heard = λ {night} {datagram} {image} {before} p. told_so image before p.answered p.stands;
      night_silent = λ {night} {image} {before} p. told_so image before p.answered p.stands;
      read_response = λ p. sym p.answered;
    }
