-- How deciding, doing and saying become one step, on the target alone and with the running bank beside it.
-- Assumes nothing.
use mathlib.Core.Path.{◌≡◌, refl, sym, ap, ap₂, ◌∙◌}
use mathlib.Core.Bool.{Bool, true, false, cond}
use mathlib.Core.List.{List, []}
use Prim.Native.Nat.{ℕ}
use Rattle.std.specs.Prelude.{None, Err}
use lib.Dec.{eqb}
use lib.ListN.{length}
use Rattle.buffer.specs.Place.{front_of}
use Rattle.frame.specs.Read.{data_in}
use Rattle.layout.specs.declared.Bank.{Bank}
use Rattle.layout.specs.Layout.{other_of, good_n, bank_size}
use Rattle.layout.specs.Pair.{Banks, bank_in, with_bank}
use Rattle.exchange.specs.declared.answer.Refusal.{Refusal}
use Rattle.exchange.specs.declared.answer.Refusal.TheVariants.{BadN, BadLength}
use Rattle.exchange.specs.Answer.{Reply, reply_bytes, answer_number, told_length, IsSay}
use Rattle.exchange.proofs.Saying.{say_refused}
use Rattle.decision.specs.declared.plan.Plan.{Plan}
use Rattle.decision.specs.declared.plan.Plan.TheVariants.{Refuse}
use Rattle.client.specs.declared.perform.Served.{Served}
use Rattle.client.specs.declared.record.Client.{Client}
use Rattle.client.specs.declared.step.Stepped.{Stepped}
use Rattle.client.specs.Notice.{MaybeNotice}
use Rattle.client.specs.Perform.{served_of, IsServed}
use Rattle.client.specs.Step.{notice_of, Carried, carried_of, IsCarried, Refuses, planned, take_of, IsTake, planned_beside, beside_of, step_of, IsStep}
use Rattle.client.proofs.Numbers.{take_says_lem, beside_says_lem}

-- do, and then say
pub carry_is : (c : Client) (plan : Plan) (target address buffer bytes : List ℕ) (notice : MaybeNotice) (s : Served) (after answered : List ℕ) (n : ℕ)
    → notice ≡ notice_of plan c.latest address → IsServed (served_of c plan target address bytes) s after → IsSay s.answer buffer answered n
    → IsCarried (carried_of c plan target address buffer bytes) (record { client = s.client; answer = s.answer; length = n; notice = notice }) after answered
unfolding carried_of
carry_is c plan target address buffer bytes notice s after answered n e d a =
    record {
      client = d.client;
      answer = d.answer;
      told = a.told ∙ ap (λ (x : Reply). told_length (reply_bytes x) (length buffer)) d.answer;
      notice = e;
      target = d.target;
      buffer = a.said ∙ ap (λ (x : Reply). front_of buffer (reply_bytes x)) d.answer;
    }

-- a plan that refuses, carried out: nothing done or said
pub refused_is : (c : Client) (why : Refusal) → Refuses c why (record { client = c; answer = Err why; length = 0; notice = None })
unfolding served_of
refused_is c why target address buffer =
    carry_is c (Refuse why) target address buffer [] None (record { client = c; answer = Err why }) target buffer 0 refl
    (record { client = refl; answer = refl; target = refl }) (say_refused buffer why)

-- the same carried out, by another name
pub carried_as : (d e : Carried) (r : Stepped) (after answered : List ℕ) → d ≡ e → IsCarried d r after answered → IsCarried e r after answered
carried_as d e r after answered q s = rw q at s

module _ (c : Client) (target marks address buffer datagram : List ℕ) (r : Stepped) (after answered : List ℕ) where
  abbrev whole : Carried
  whole = take_of c target marks address buffer datagram

  pub take_is : (plan : Plan) (bytes : List ℕ) → plan ≡ planned c target marks address buffer datagram → bytes ≡ data_in datagram
      → IsCarried (carried_of c plan target address buffer bytes) r after answered → IsTake c target marks address buffer datagram r after answered
  unfolding take_of
  take_is plan bytes p b s =
      let q : carried_of c plan target address buffer bytes ≡ whole = ap₂ (λ (x : Plan) (y : List ℕ). carried_of c x target address buffer y) p b in
      let t = carried_as _ _ r after answered q s in
      record {
        client = t.client;
        answer = t.answer;
        says = ap answer_number t.answer ∙ take_says_lem c target marks address buffer datagram;
        told = t.told;
        notice = t.notice;
        target_left = t.target;
        said = t.buffer;
      }

-- what is planned with the running bank beside it
module _ (c : Client) (target address buffer bytes : List ℕ) where
  carried_by : (good right : Bool) (plan : Plan)
      → carried_of c (cond good (cond right plan (Refuse BadLength)) (Refuse BadN)) target address buffer bytes
      ≡ cond good (cond right (carried_of c plan target address buffer bytes) (carried_of c (Refuse BadLength) target address buffer []))
      (carried_of c (Refuse BadN) target address buffer [])
  unfolding carried_of served_of
  carried_by true true plan = refl
  carried_by true false plan = refl
  carried_by false right plan = refl

  pub beside_is : (running : ℕ) (marks datagram : List ℕ) (plan : Plan) (r : Stepped) (after answered : List ℕ)
      → plan ≡ planned_beside c running (length target) marks address (length buffer) datagram → bytes ≡ data_in datagram
      → IsCarried (carried_of c plan target address buffer bytes) r after answered → IsCarried (beside_of c running target marks address buffer datagram) r after answered
  unfolding planned_beside beside_of take_of
  beside_is running marks datagram plan r after answered p b s =
      carried_as _ _ r after answered
      (ap (λ (x : Plan). carried_of c x target address buffer bytes) p
      ∙ carried_by (good_n c.fixed.n) (eqb running (bank_size c.fixed.n)) (planned c target marks address buffer datagram)
      ∙ ap (λ (y : List ℕ). cond (good_n c.fixed.n) (cond (eqb running (bank_size c.fixed.n)) (carried_of c (planned c target marks address buffer datagram) target address buffer y) (carried_of c (Refuse BadLength) target address buffer [])) (carried_of c (Refuse BadN) target address buffer [])) b)
      s

-- whichever bank runs
module _ (c : Client) (pair : Banks) (marks address buffer datagram : List ℕ) (r : Stepped) (after answered : List ℕ) where
  pub step_is : (running : Bank) → c.fixed.running ≡ running
      → IsCarried (beside_of c (length (bank_in running pair)) (bank_in (other_of running) pair) marks address buffer datagram) r after answered
      → IsStep c pair.bank0 pair.bank1 marks address buffer datagram r (with_bank (other_of running) after pair).bank0 (with_bank (other_of running) after pair).bank1 answered
  step_is running e s =
      let whole : Carried = step_of c pair marks address buffer datagram in
      let t : IsCarried whole r after answered = rw (← e) at s in
      record {
        client = t.client;
        answer = t.answer;
        says =
            ap answer_number t.answer
            ∙ beside_says_lem c (length (bank_in c.fixed.running pair)) (bank_in (other_of c.fixed.running) pair) marks address buffer datagram;
        told = t.told;
        notice = t.notice;
        bank_zero = ap₂ (λ (x : Bank) (y : List ℕ). (with_bank (other_of x) y pair).bank0) (sym e) t.target;
        bank_one = ap₂ (λ (x : Bank) (y : List ℕ). (with_bank (other_of x) y pair).bank1) (sym e) t.target;
        said = t.buffer;
      }
