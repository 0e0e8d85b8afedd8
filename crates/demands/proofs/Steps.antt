-- What one input changes on no board: N, the bank that runs and its bytes, the version, the lengths of the banks. And inputs behind inputs.
-- Assumes nothing.
use mathlib.Core.Path.{◌≡◌, refl, ap, ◌∙◌}
use mathlib.Core.Bool.{not}
use mathlib.Core.List.{List, [], ◌∷◌, ◌++◌}
use Prim.Native.Nat.{ℕ}
use lib.ListN.{length, drop}
use lib.Seq.{length_front}
use Rattle.buffer.proofs.Bools.{split}
use Rattle.layout.specs.declared.Bank.{Bank}
use Rattle.layout.specs.Layout.{good_n, other_of}
use Rattle.layout.specs.Pair.{Banks, bank_in, with_bank}
use Rattle.layout.proofs.Pairs.{bank_beside, pair_length}
use Rattle.decision.specs.declared.plan.Fixed.{Fixed}
use Rattle.exchange.specs.State.{is_closed}
use Rattle.client.specs.declared.host.Hosted.{Hosted}
use Rattle.client.specs.declared.record.Client.{Client}
use Rattle.client.specs.Host.{initiate_of, terminate_of}
use Rattle.client.specs.Record.{Stays}
use Rattle.calls.proofs.Beside.{step_stays, step_length}
use Rattle.calls.specs.Call.{Board}
use Rattle.demands.specs.Board.{LentCall, Input, Initiate, Terminate, Datagram, Machine, after, running_bank, target_bank, lent_target, called, call_outcome, step_machine}
use Rattle.demands.proofs.Lending.{lent_in, back_with}

pub after_both : (machine : Machine) (b : Board) (is js : List Input) → after machine b (is ++ js) ≡ after machine (after machine b is) js
after_both machine b [] js = refl
after_both machine b (i ∷ is) js = after_both machine (machine b i).board is js

initiate_stays : (c : Client) → Stays c (initiate_of c).client
unfolding initiate_of
initiate_stays c =
    let P : Hosted → Type 0 = λ h. Stays c h.client in
    split P (not (good_n c.fixed.n)) (λ _. refl) (λ _. split P (not (is_closed c.state)) (λ _. refl) (λ _. refl))

terminate_stays : (c : Client) → Stays c (terminate_of c).client
unfolding terminate_of
terminate_stays c =
    let P : Hosted → Type 0 = λ h. Stays c h.client in
    split P (not (good_n c.fixed.n)) (λ _. refl) (λ _. split P (is_closed c.state) (λ _. refl) (λ _. refl))

pub machine_stays : (b : Board) (i : Input) → Stays b.client (step_machine b i).board.client
machine_stays b Initiate = initiate_stays b.client
machine_stays b Terminate = terminate_stays b.client
machine_stays b (Datagram call) = step_stays b.client _ (lent_target b call) call.marks call.address call.buffer call.datagram

-- ---- the two banks after a datagram: the target's front came back, the running bank is as it was

module _ (b : Board) (call : LentCall) where
  abbrev other : Bank
  other = other_of b.client.fixed.running

  abbrev behind : List ℕ
  behind = drop (call.lent other) (target_bank b)

  pub pair_next : (call_outcome b call (called b call)).board.pair ≡ with_bank other ((called b call).target ++ behind) b.pair
  pair_next = back_with call.lent b.pair other (called b call).target

  target_long : length ((called b call).target ++ behind) ≡ length (target_bank b)
  target_long =
      length_front (target_bank b) (called b call).target (call.lent other)
      (step_length b.client _ (lent_target b call) call.marks call.address call.buffer call.datagram
      ∙ ap length (lent_in call.lent b.pair other))

running_kept : (b : Board) (i : Input) → running_bank (step_machine b i).board ≡ running_bank b
running_kept b Initiate = ap (λ (f : Fixed). bank_in f.running b.pair) (machine_stays b Initiate)
running_kept b Terminate = ap (λ (f : Fixed). bank_in f.running b.pair) (machine_stays b Terminate)
running_kept b (Datagram call) =
    ap (λ (f : Fixed). bank_in f.running (step_machine b (Datagram call)).board.pair) (machine_stays b (Datagram call))
    ∙ ap (bank_in b.client.fixed.running) (pair_next b call)
    ∙ bank_beside b.client.fixed.running _ b.pair

pub lengths_kept : (b : Board) (i : Input) (x : Bank) → length (bank_in x (step_machine b i).board.pair) ≡ length (bank_in x b.pair)
lengths_kept b Initiate x = refl
lengths_kept b Terminate x = refl
lengths_kept b (Datagram call) x =
    ap (λ (p : Banks). length (bank_in x p)) (pair_next b call)
    ∙ pair_length (other_of b.client.fixed.running) x _ b.pair (target_long b call)

-- ---- over any list of inputs

pub run_stays : (is : List Input) (b : Board) → Stays b.client (after step_machine b is).client
run_stays [] b = refl
run_stays (i ∷ is) b = run_stays is (step_machine b i).board ∙ machine_stays b i

pub run_running : (is : List Input) (b : Board) → running_bank (after step_machine b is) ≡ running_bank b
run_running [] b = refl
run_running (i ∷ is) b = run_running is (step_machine b i).board ∙ running_kept b i
