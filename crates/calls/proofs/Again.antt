-- One call more; and one buffer lent again and again: but for the bytes that it leaves there, a step goes by the buffer's length alone.
-- Assumes nothing.
use mathlib.Core.Path.{◌≡◌, refl, ap}
use mathlib.Core.Bool.{Bool, true, false}
use mathlib.Core.List.{List, [], ◌∷◌, ◌++◌}
use Prim.Native.Nat.{ℕ}
use lib.Dec.{eqb}
use lib.ListN.{length}
use Rattle.frame.specs.Read.{data_in}
use Rattle.layout.specs.Layout.{good_n, bank_size}
use Rattle.exchange.specs.declared.answer.Refusal.TheVariants.{BadN, BadLength}
use Rattle.exchange.specs.Answer.{told_length}
use Rattle.decision.specs.declared.plan.Plan.{Plan}
use Rattle.decision.specs.declared.plan.Plan.TheVariants.{Refuse}
use Rattle.client.specs.declared.record.Client.{Client}
use Rattle.client.specs.Step.{Carried, carried_of, planned, take_of, beside_of}
use Rattle.calls.specs.Call.{Call, Board, stepped, board_after, after_steps, came_of_steps}

-- ---- one call more

pub steps_more : (k : Board) (calls : List Call) (call : Call)
    → after_steps k (calls ++ (call ∷ [])) ≡ board_after (after_steps k calls) (stepped (after_steps k calls) call)
steps_more k [] call = refl
steps_more k (x ∷ calls) call = steps_more (board_after k (stepped k x)) calls call

pub cames_more : (k : Board) (calls : List Call) (call : Call)
    → came_of_steps k (calls ++ (call ∷ [])) ≡ came_of_steps k calls ++ (stepped (after_steps k calls) call ∷ [])
cames_more k [] call = refl
cames_more k (x ∷ calls) call = ap (λ (l : List Carried). stepped k x ∷ l) (cames_more (board_after k (stepped k x)) calls call)

-- ---- two buffers of one length

-- all but the buffer's bytes
pub record Likewise (r s : Carried) : Type 0 where
  pub client : r.client ≡ s.client
  pub answer : r.answer ≡ s.answer
  pub told : r.told ≡ s.told
  pub notice : r.notice ≡ s.notice
  pub target : r.target ≡ s.target

module _ (c : Client) (running : ℕ) (target marks address one two datagram : List ℕ) (e : length one ≡ length two) where
  carried_lent : (plan : Plan) (bytes : List ℕ)
      → Likewise (carried_of c plan target address one bytes) (carried_of c plan target address two bytes)
  unfolding carried_of
  carried_lent plan bytes = record { client = refl; answer = refl; told = ap (told_length _) e; notice = refl; target = refl }

  take_lent : Likewise (take_of c target marks address one datagram) (take_of c target marks address two datagram)
  unfolding take_of
  take_lent = rw e (carried_lent (planned c target marks address two datagram) (data_in datagram))

  pub step_lent : Likewise (beside_of c running target marks address one datagram) (beside_of c running target marks address two datagram)
  unfolding beside_of
  step_lent = by (good_n c.fixed.n) refl (eqb running (bank_size c.fixed.n)) refl
    where
      by : (g : Bool) → good_n c.fixed.n ≡ g → (s : Bool) → eqb running (bank_size c.fixed.n) ≡ s
          → Likewise (beside_of c running target marks address one datagram) (beside_of c running target marks address two datagram)
      by true g true s = rw (g, s) take_lent
      by true g false s = rw (g, s) (carried_lent (Refuse BadLength) [])
      by false g s t = rw g (carried_lent (Refuse BadN) [])
