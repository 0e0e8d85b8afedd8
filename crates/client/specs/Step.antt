-- One datagram: decided upon, carried out on the target bank, answered (01, 'The client, step by step').
-- Assumes nothing.
use Rattle.std.specs.Prelude.{◌≡◌, None, Some, not, cond, List, [], ℕ, eqb, length}
use Rattle.buffer.specs.Place.{front_of}
use Rattle.frame.specs.Read.{data_in}
use Rattle.layout.specs.Layout.{good_n, bank_size, other_of}
use Rattle.layout.specs.Pair.{Banks, banks, bank_in, with_bank}
use Rattle.exchange.specs.declared.answer.Refusal.{Refusal}
use Rattle.exchange.specs.declared.answer.Refusal.TheVariants.{BadN, BadLength}
use Rattle.exchange.specs.Answer.{Reply, reply_bytes, answer_number, told_length}
use Rattle.exchange.specs.Request.{asked_of}
use Rattle.exchange.specs.State.{is_closed}
use Rattle.decision.specs.declared.plan.Plan.{Plan}
use Rattle.decision.specs.declared.plan.Plan.TheVariants.{Refuse, Keep, Open, Leave, Begin, Store, Wear, Finish}
use Rattle.decision.specs.Plan.{lent_good, plan_of}
use Rattle.client.specs.declared.notice.Notice.TheVariants.{Started, Ended}
use Rattle.client.specs.declared.record.Client.{Client}
use Rattle.client.specs.declared.record.Latest.{Latest}
use Rattle.client.specs.declared.step.Stepped.{Stepped}
use Rattle.client.specs.Notice.{MaybeNotice, latest_number}
use Rattle.client.specs.Perform.{Done, served_of}
use Rattle.client.specs.Record.{standing_of}

-- "host notice 6033 with sender address", "Notice 6034 carries .."; the latest session is the one before the step
abbrev pub notice_of : Plan → Latest → List ℕ → MaybeNotice
notice_of (Refuse why) latest address = None
notice_of (Keep answer) latest address = None
notice_of Open latest address = Some (Started address)
notice_of Leave latest address = Some (Ended (latest_number latest) address)
notice_of Begin latest address = None
notice_of (Store sector) latest address = None
notice_of Wear latest address = None
notice_of Finish latest address = None

-- what a plan leads to, said and done
pub record Carried : Type 0 where
  pub client : Client
  pub answer : Reply
  pub told : ℕ
  pub notice : MaybeNotice
  pub target : List ℕ
  pub buffer : List ℕ

-- the answer goes to the front; "the rest keeps its bytes"
abbrev pub said_of : Done → MaybeNotice → List ℕ → Carried
said_of d notice buffer =
    record {
      client = d.client;
      answer = d.answer;
      told = told_length (reply_bytes d.answer) (length buffer);
      notice = notice;
      target = d.target;
      buffer = front_of buffer (reply_bytes d.answer);
    }

-- a plan carried out on a target, with the data that the datagram has
unfoldable pub carried_of : Client → Plan → List ℕ → List ℕ → List ℕ → List ℕ → Carried
carried_of c plan target address buffer bytes = said_of (served_of c plan target address bytes) (notice_of plan c.latest address) buffer

pub record IsCarried (d : Carried) (r : Stepped) (after answered : List ℕ) : Type 0 where
  pub client : r.client ≡ d.client
  pub answer : r.answer ≡ d.answer
  pub told : r.length ≡ d.told
  pub notice : r.notice ≡ d.notice
  pub target : after ≡ d.target
  pub buffer : answered ≡ d.buffer

-- no answer, and nothing is done, whatever is lent
abbrev pub Refuses : Client → Refusal → Stepped → Type 0
Refuses c why r = (target address buffer : List ℕ) → IsCarried (carried_of c (Refuse why) target address buffer []) r target buffer

-- ---- on the target alone

-- what a datagram leads to, by what is lent with it
abbrev pub planned : Client → List ℕ → List ℕ → List ℕ → List ℕ → List ℕ → Plan
planned c target marks address buffer datagram =
    plan_of (standing_of c) (length target) marks address (length buffer) (asked_of datagram)

unfoldable pub take_of : Client → List ℕ → List ℕ → List ℕ → List ℕ → List ℕ → Carried
take_of c target marks address buffer datagram =
    carried_of c (planned c target marks address buffer datagram) target address buffer (data_in datagram)

-- the paper's number where there is no answer: "3, 2, 1"
abbrev pub take_says : Client → List ℕ → List ℕ → List ℕ → List ℕ → ℕ
take_says c target marks address buffer =
    cond (not (good_n c.fixed.n)) 3
    (cond (not (lent_good c.fixed.n (length target) (length marks) (length address) (length buffer))) 2 (cond (is_closed c.state) 1 0))

pub record IsTake (c : Client) (target marks address buffer datagram : List ℕ) (r : Stepped) (after answered : List ℕ) : Type 0 where
  pub client : r.client ≡ (take_of c target marks address buffer datagram).client
  pub answer : r.answer ≡ (take_of c target marks address buffer datagram).answer
  pub says : answer_number r.answer ≡ take_says c target marks address buffer
  pub told : r.length ≡ (take_of c target marks address buffer datagram).told
  pub notice : r.notice ≡ (take_of c target marks address buffer datagram).notice
  pub target_left : after ≡ (take_of c target marks address buffer datagram).target
  pub said : answered ≡ (take_of c target marks address buffer datagram).buffer

-- ---- with the running bank beside it

-- N and the running bank's length are asked before all else: 3, then 2
unfoldable pub planned_beside : Client → ℕ → ℕ → List ℕ → List ℕ → ℕ → List ℕ → Plan
planned_beside c running target marks address buffer datagram =
    cond (good_n c.fixed.n)
    (cond (eqb running (bank_size c.fixed.n)) (plan_of (standing_of c) target marks address buffer (asked_of datagram)) (Refuse BadLength))
    (Refuse BadN)

unfoldable pub beside_of : Client → ℕ → List ℕ → List ℕ → List ℕ → List ℕ → List ℕ → Carried
beside_of c running target marks address buffer datagram =
    cond (good_n c.fixed.n)
    (cond (eqb running (bank_size c.fixed.n))
    (take_of c target marks address buffer datagram)
    (carried_of c (Refuse BadLength) target address buffer []))
    (carried_of c (Refuse BadN) target address buffer [])

-- "One bank runs, the other is the target"
abbrev pub step_of : Client → Banks → List ℕ → List ℕ → List ℕ → List ℕ → Carried
step_of c pair marks address buffer datagram =
    beside_of c (length (bank_in c.fixed.running pair)) (bank_in (other_of c.fixed.running) pair) marks address buffer datagram

-- the two banks then
abbrev pub banks_after : Client → Banks → Carried → Banks
banks_after c pair r = with_bank (other_of c.fixed.running) r.target pair

abbrev pub beside_says : Client → ℕ → List ℕ → List ℕ → List ℕ → List ℕ → ℕ
beside_says c running target marks address buffer =
    cond (not (good_n c.fixed.n)) 3
    (cond (not (eqb running (bank_size c.fixed.n))) 2 (take_says c target marks address buffer))

abbrev pub step_says : Client → Banks → List ℕ → List ℕ → List ℕ → ℕ
step_says c pair marks address buffer =
    beside_says c (length (bank_in c.fixed.running pair)) (bank_in (other_of c.fixed.running) pair) marks address buffer

pub record IsStep (c : Client) (bank0 bank1 marks address buffer datagram : List ℕ) (r : Stepped) (left0 left1 answered : List ℕ) : Type 0 where
  pub client : r.client ≡ (step_of c (banks bank0 bank1) marks address buffer datagram).client
  pub answer : r.answer ≡ (step_of c (banks bank0 bank1) marks address buffer datagram).answer
  pub says : answer_number r.answer ≡ step_says c (banks bank0 bank1) marks address buffer
  pub told : r.length ≡ (step_of c (banks bank0 bank1) marks address buffer datagram).told
  pub notice : r.notice ≡ (step_of c (banks bank0 bank1) marks address buffer datagram).notice
  pub bank_zero : left0 ≡ (banks_after c (banks bank0 bank1) (step_of c (banks bank0 bank1) marks address buffer datagram)).bank0
  pub bank_one : left1 ≡ (banks_after c (banks bank0 bank1) (step_of c (banks bank0 bank1) marks address buffer datagram)).bank1
  pub said : answered ≡ (step_of c (banks bank0 bank1) marks address buffer datagram).buffer
