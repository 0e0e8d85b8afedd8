-- What a call keeps: N, the bank that runs and the version; the target's length; and that an answer always has room.
-- Assumes nothing.
use mathlib.Core.Path.{◌≡◌, refl, ◌∙◌}
use mathlib.Core.List.{List, [], ◌∷◌}
use Prim.Native.Nat.{ℕ, ◌≤◌}
use native.Mathlib.Omega.{arith}
use lib.ListN.{length}
use Rattle.std.specs.Prelude.{Ok, Err}
use Rattle.buffer.proofs.Bools.{split}
use Rattle.frame.specs.Read.{data_in}
use Rattle.flash.specs.Bank.{swept_of}
use Rattle.flash.proofs.Sweeps.{length_sweep}
use Rattle.flash.proofs.Writes.{length_written}
use Rattle.exchange.specs.Answer.{Reply, reply_bytes}
use Rattle.exchange.specs.Request.{asked_of}
use Rattle.exchange.proofs.Saying.{answer_short}
use Rattle.decision.specs.declared.plan.Plan.{Plan}
use Rattle.decision.specs.declared.plan.Plan.TheVariants.{Refuse, Keep, Open, Leave, Begin, Store, Wear, Finish}
use Rattle.decision.proofs.Leading.{Leads as Decided}
use Rattle.client.specs.declared.record.Client.{Client}
use Rattle.client.specs.Perform.{fit_of, Done, store_of, checked_of, served_of}
use Rattle.client.specs.Record.{standing_of, Stays}
use Rattle.client.specs.Step.{carried_of, planned, take_of}
use Rattle.client.proofs.Promising.{heard, decides}
use Rattle.calls.specs.Call.{Call, Alone, after_calls}

-- ---- a plan

module _ (c : Client) (target address buffer bytes : List ℕ) where
  pub carried_length : (plan : Plan) → length (carried_of c plan target address buffer bytes).target ≡ length target
  unfolding carried_of served_of store_of checked_of
  carried_length (Refuse why) = refl
  carried_length (Keep answer) = refl
  carried_length Open = refl
  carried_length Leave = refl
  carried_length Begin = refl
  carried_length (Store sector) = length_written target sector bytes
  carried_length Wear = refl
  carried_length Finish =
      split (λ (d : Done). length d.target ≡ length target) (fit_of c.fixed (swept_of target c.fixed.n c.received))
      (λ _. length_sweep target c.fixed.n c.received)
      (λ _. length_sweep target c.fixed.n c.received)

  pub carried_stays : (plan : Plan) → Stays c (carried_of c plan target address buffer bytes).client
  unfolding carried_of served_of store_of checked_of
  carried_stays (Refuse why) = refl
  carried_stays (Keep answer) = refl
  carried_stays Open = refl
  carried_stays Leave = refl
  carried_stays Begin = refl
  carried_stays (Store sector) = refl
  carried_stays Wear = refl
  carried_stays Finish =
      split (λ (d : Done). Stays c d.client) (fit_of c.fixed (swept_of target c.fixed.n c.received)) (λ _. refl) (λ _. refl)

-- ---- a call

module _ (c : Client) (target marks address buffer datagram : List ℕ) where
  abbrev plan : Plan
  plan = planned c target marks address buffer datagram

  pub taken_length : length (take_of c target marks address buffer datagram).target ≡ length target
  unfolding take_of
  taken_length = carried_length c target address buffer (data_in datagram) plan

  pub take_stays : Stays c (take_of c target marks address buffer datagram).client
  unfolding take_of
  take_stays = carried_stays c target address buffer (data_in datagram) plan

  -- an answer always fits: without room for 14 bytes there is none
  abbrev answered : Plan → Reply
  answered p = (carried_of c p target address buffer (data_in datagram)).answer

  roomy : (reply : Reply) → heard c target marks address buffer datagram → length (reply_bytes reply) ≤ length buffer
  roomy (Err why) h = omega arith
  roomy (Ok answer) h = let short = answer_short answer in let room = h.lengths.roomy in omega arith

  fits : (p : Plan) → Decided (standing_of c) (heard c target marks address buffer datagram) (asked_of datagram) p
      → length (reply_bytes (answered p)) ≤ length buffer
  unfolding carried_of served_of
  fits (Refuse why) h = omega arith
  fits (Keep answer) h = roomy (Ok answer) h.1
  fits Open h = roomy (answered Open) h
  fits Leave h = roomy (answered Leave) h
  fits Begin h = roomy (answered Begin) h
  fits (Store sector) h = roomy (answered (Store sector)) h.0
  fits Wear h = roomy (answered Wear) h
  fits Finish h = roomy (answered Finish) h.0

  pub take_fits : length (reply_bytes (take_of c target marks address buffer datagram).answer) ≤ length buffer
  unfolding take_of
  take_fits = fits plan (decides c target marks address buffer datagram)

-- ---- calls one after another

pub calls_stay : (calls : List Call) (h : Alone) → Stays h.client (after_calls h calls).client
calls_stay [] h = refl
calls_stay (call ∷ calls) h =
    calls_stay calls _ ∙ take_stays h.client h.target call.marks call.address call.buffer call.datagram

pub calls_length : (calls : List Call) (h : Alone) → length (after_calls h calls).target ≡ length h.target
calls_length [] h = refl
calls_length (call ∷ calls) h =
    calls_length calls _ ∙ taken_length h.client h.target call.marks call.address call.buffer call.datagram
