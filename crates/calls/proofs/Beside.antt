-- The step is the call on the target, with the running bank beside it: it refuses where N or that bank's length is wrong, and nothing else of
-- that bank bears on it. So what holds of a call holds of a step, and steps one after another are the calls on the target.
-- Assumes nothing.
use mathlib.Core.Path.{◌≡◌, refl, sym, ap, ap₂, ◌∙◌}
use mathlib.Core.Logic.{◌⊎◌, inl, inr}
use mathlib.Core.Bool.{Bool, true, false}
use mathlib.Core.List.{List, [], ◌∷◌}
use Prim.Native.Nat.{ℕ, ◌≤◌}
use native.Mathlib.Omega.{arith}
use lib.Dec.{eqb}
use lib.ListN.{length}
use borrow.Author.Tests.{eq-eqb}
use Rattle.buffer.specs.Place.{front_of}
use Rattle.buffer.proofs.Bools.{split}
use Rattle.frame.specs.Read.{data_in}
use Rattle.flash.specs.Bank.{swept_of}
use Rattle.layout.specs.declared.Bank.{Bank}
use Rattle.layout.specs.Layout.{good_n, bank_size, other_of}
use Rattle.layout.specs.Pair.{Banks, bank_in, with_bank}
use Rattle.layout.proofs.Pairs.{bank_there, bank_beside, pair_same, pair_last}
use Rattle.exchange.specs.declared.answer.Refusal.{Refusal}
use Rattle.exchange.specs.declared.answer.Refusal.TheVariants.{BadN, BadLength}
use Rattle.exchange.specs.Answer.{reply_bytes, told_length}
use Rattle.exchange.specs.Request.{asked_of}
use Rattle.decision.specs.declared.plan.Fixed.{Fixed}
use Rattle.decision.specs.declared.plan.Plan.{Plan}
use Rattle.decision.specs.declared.plan.Plan.TheVariants.{Refuse}
use Rattle.decision.specs.Plan.{plan_of}
use Rattle.client.specs.declared.record.Client.{Client}
use Rattle.client.specs.Perform.{served_of}
use Rattle.client.specs.Record.{standing_of, Stays}
use Rattle.client.specs.Step.{Carried, carried_of, planned, take_of, beside_of}
use Rattle.calls.specs.Call.{Call, Alone, alone, taken, after_calls, came_of_calls, Board, board, stepped, board_after, after_steps, came_of_steps}
use Rattle.calls.proofs.Courses.{Course, still, Alike, alike, same, take_course}
use Rattle.calls.proofs.Keeping.{carried_length, carried_stays, taken_length, take_stays, take_fits}
use Rattle.calls.proofs.Leading.{Finishing, leads}

-- ---- one step

module _ (c : Client) (running : ℕ) (target marks address buffer datagram : List ℕ) where
  abbrev refused : Refusal → Carried
  refused why = carried_of c (Refuse why) target address buffer []

  -- what holds of the call and of a refusal holds of the step
  by_cases : (P : Carried → Type 0) → P (take_of c target marks address buffer datagram) → ((why : Refusal) → P (refused why))
      → P (beside_of c running target marks address buffer datagram)
  unfolding beside_of
  by_cases P t r =
      split P (good_n c.fixed.n) (λ _. split P (eqb running (bank_size c.fixed.n)) (λ _. t) (λ _. r BadLength)) (λ _. r BadN)

  refused_course : (why : Refusal) → Course c target datagram (refused why)
  unfolding carried_of served_of
  refused_course why = still tt refl (λ e. (e, refl))

  pub step_course : Course c target datagram (beside_of c running target marks address buffer datagram)
  step_course = by_cases (Course c target datagram) (take_course c target marks address buffer datagram) refused_course

  pub step_length : length (beside_of c running target marks address buffer datagram).target ≡ length target
  step_length =
      by_cases (λ (r : Carried). length r.target ≡ length target) (taken_length c target marks address buffer datagram)
      (λ why. carried_length c target address buffer [] (Refuse why))

  pub step_stays : Stays c (beside_of c running target marks address buffer datagram).client
  step_stays =
      by_cases (λ (r : Carried). Stays c r.client) (take_stays c target marks address buffer datagram)
      (λ why. carried_stays c target address buffer [] (Refuse why))

  refused_fits : (why : Refusal) → length (reply_bytes (refused why).answer) ≤ length buffer
  unfolding carried_of served_of
  refused_fits why = omega arith

  -- what is said, in the buffer: it always fits
  pub step_fits : length (reply_bytes (beside_of c running target marks address buffer datagram).answer) ≤ length buffer
  step_fits =
      by_cases (λ (r : Carried). length (reply_bytes r.answer) ≤ length buffer) (take_fits c target marks address buffer datagram) refused_fits

  carried_says : (plan : Plan) (bytes : List ℕ)
      → ((carried_of c plan target address buffer bytes).buffer ≡ front_of buffer (reply_bytes (carried_of c plan target address buffer bytes).answer))
      × ((carried_of c plan target address buffer bytes).told ≡ told_length (reply_bytes (carried_of c plan target address buffer bytes).answer) (length buffer))
  unfolding carried_of
  carried_says plan bytes = (refl, refl)

  abbrev Says : Carried → Type 0
  Says r = (r.buffer ≡ front_of buffer (reply_bytes r.answer)) × (r.told ≡ told_length (reply_bytes r.answer) (length buffer))

  take_says_lem : Says (take_of c target marks address buffer datagram)
  unfolding take_of
  take_says_lem = carried_says (planned c target marks address buffer datagram) (data_in datagram)

  says : Says (beside_of c running target marks address buffer datagram)
  says = by_cases Says take_says_lem (λ why. carried_says (Refuse why) [])

  pub step_said : (beside_of c running target marks address buffer datagram).buffer
      ≡ front_of buffer (reply_bytes (beside_of c running target marks address buffer datagram).answer)
  step_said = says.0

  pub step_told : (beside_of c running target marks address buffer datagram).told
      ≡ told_length (reply_bytes (beside_of c running target marks address buffer datagram).answer) (length buffer)
  step_told = says.1

-- ---- two targets of one length, and running banks of one length

module _ (c : Client) (running : ℕ) (one two marks address buffer datagram : List ℕ) (l : length one ≡ length two)
    (swept : Finishing c (length one) → swept_of one c.fixed.n c.received ≡ swept_of two c.fixed.n c.received) where
  -- the same plan on either board: it looks at lengths alone
  same_plan : planned c one marks address buffer datagram ≡ planned c two marks address buffer datagram
  same_plan = ap (λ (x : ℕ). plan_of (standing_of c) x marks address (length buffer) (asked_of datagram)) l

  take_alike : Alike (take_of c one marks address buffer datagram) (take_of c two marks address buffer datagram)
  unfolding take_of
  take_alike = rw (← same_plan) (alike c one two address buffer datagram l swept _ (leads c one marks address buffer datagram))

  refused_alike : (why : Refusal)
      → Alike (carried_of c (Refuse why) one address buffer []) (carried_of c (Refuse why) two address buffer [])
  unfolding carried_of served_of
  refused_alike why = record { client = refl; notice = refl; answer = same refl }

  pub step_alike : Alike (beside_of c running one marks address buffer datagram) (beside_of c running two marks address buffer datagram)
  unfolding beside_of
  step_alike = by (good_n c.fixed.n) refl (eqb running (bank_size c.fixed.n)) refl
    where
      by : (g : Bool) → good_n c.fixed.n ≡ g → (e : Bool) → eqb running (bank_size c.fixed.n) ≡ e
          → Alike (beside_of c running one marks address buffer datagram) (beside_of c running two marks address buffer datagram)
      by true g true e = rw (g, e) take_alike
      by true g false e = rw (g, e) (refused_alike BadLength)
      by false g e f = rw g (refused_alike BadN)

-- ---- steps one after another

-- the running bank has its length, or N is bad and every call is refused
abbrev pub Right : Client → List ℕ → Type 0
Right c running = (good_n c.fixed.n ≡ false) ⊎ (length running ≡ bank_size c.fixed.n)

pub step_taken : (c : Client) (running target marks address buffer datagram : List ℕ) → Right c running
    → beside_of c (length running) target marks address buffer datagram ≡ take_of c target marks address buffer datagram
unfolding beside_of take_of carried_of served_of plan_of
step_taken c running target marks address buffer datagram (inl g) = rw g
step_taken c running target marks address buffer datagram (inr e) = by (good_n c.fixed.n) refl
  where
    by : (g : Bool) → good_n c.fixed.n ≡ g
        → beside_of c (length running) target marks address buffer datagram ≡ take_of c target marks address buffer datagram
    by true g = rw (g, eq-eqb (length running) (bank_size c.fixed.n) e)
    by false g = rw g

module _ (x : Bank) where
  abbrev withoutRunning : Board → Alone
  withoutRunning k = alone k.client (bank_in (other_of x) k.pair)

  module _ (k : Board) (runs : k.client.fixed.running ≡ x) (right : Right k.client (bank_in x k.pair)) (call : Call) where
    one-step : stepped k call ≡ taken (withoutRunning k) call
    one-step =
        ap (λ (y : Bank). beside_of k.client (length (bank_in y k.pair)) (bank_in (other_of y) k.pair) call.marks call.address call.buffer call.datagram) runs
        ∙ step_taken k.client (bank_in x k.pair) (bank_in (other_of x) k.pair) call.marks call.address call.buffer call.datagram right

    abbrev r : Carried
    r = taken (withoutRunning k) call

    next_is : board_after k (stepped k call) ≡ board r.client (with_bank (other_of x) r.target k.pair)
    next_is =
        ap (board_after k) one-step
        ∙ ap (λ (y : Bank). board r.client (with_bank (other_of y) r.target k.pair)) runs

    stays : r.client.fixed ≡ k.client.fixed
    stays = take_stays k.client (bank_in (other_of x) k.pair) call.marks call.address call.buffer call.datagram

    next-right : Right r.client (bank_in x (with_bank (other_of x) r.target k.pair))
    next-right = rw (stays, bank_beside x r.target k.pair) right

  -- client and pair are those of the calls on the target; the running bank is as it was
  pub steps_are : (calls : List Call) (k : Board) → k.client.fixed.running ≡ x → Right k.client (bank_in x k.pair)
      → after_steps k calls ≡ board (after_calls (withoutRunning k) calls).client (with_bank (other_of x) (after_calls (withoutRunning k) calls).target k.pair)
  steps_are [] k runs right = ap (board k.client) (sym (pair_same (other_of x)))
  steps_are (call ∷ calls) k runs right =
      let s = r k runs right call in
      let t : Alone = alone s.client s.target in
      let p : Banks = with_bank (other_of x) s.target k.pair in
      let there : withoutRunning (board s.client p) ≡ t = ap (alone s.client) (bank_there (other_of x) k.pair) in
      ap (λ (n : Board). after_steps n calls) (next_is k runs right call)
      ∙ steps_are calls (board s.client p) (ap (λ (f : Fixed). f.running) (stays k runs right call) ∙ runs) (next-right k runs right call)
      ∙ ap (λ (h : Alone). board (after_calls h calls).client (with_bank (other_of x) (after_calls h calls).target p)) there
      ∙ ap (board (after_calls t calls).client) (pair_last (other_of x) s.target (after_calls t calls).target k.pair)

  -- and so is what came of each
  pub steps_came : (calls : List Call) (k : Board) → k.client.fixed.running ≡ x → Right k.client (bank_in x k.pair)
      → came_of_steps k calls ≡ came_of_calls (withoutRunning k) calls
  steps_came [] k runs right = refl
  steps_came (call ∷ calls) k runs right =
      let s = r k runs right call in
      let p : Banks = with_bank (other_of x) s.target k.pair in
      ap₂ ◌∷◌ (one-step k runs right call)
      (ap (λ (n : Board). came_of_steps n calls) (next_is k runs right call)
      ∙ steps_came calls (board s.client p) (ap (λ (f : Fixed). f.running) (stays k runs right call) ∙ runs) (next-right k runs right call)
      ∙ ap (λ (t : List ℕ). came_of_calls (alone s.client t) calls) (bank_there (other_of x) k.pair))
