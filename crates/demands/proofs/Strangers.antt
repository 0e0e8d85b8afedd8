-- One gateway at a time: a stranger changes nothing, and an image arrives among strangers.
-- Assumes nothing.
use Rattle.std.specs.Prelude.{Option, Some, None}
use mathlib.Core.Path.{◌≡◌, refl, sym, ap, subst, ◌∙◌}
use mathlib.Core.Logic.{◌⊎◌, inl, inr}
use mathlib.Core.Bool.{Bool, true, false, ◌||◌, false≢true}
use mathlib.Core.List.{List, [], ◌∷◌}
use Prim.Native.Nat.{ℕ, ◌≤◌}
use native.Mathlib.Omega.{arith}
use lib.Dec.{eqb}
use lib.ListN.{length}
use Rattle.buffer.specs.Compare.{same_of}
use Rattle.buffer.specs.Place.{front_of}
use Rattle.buffer.proofs.Comparing.{same_true}
use Rattle.buffer.proofs.Places.{front_none}
use Rattle.frame.specs.Frame.{frame_error}
use Rattle.frame.specs.Read.{read_of}
use Rattle.frame.specs.declared.read.Frame.{Frame}
use Rattle.frame.specs.declared.read.Frame.TheVariants.{Control, Write}
use Rattle.frame.proofs.Writing.{length_error}
use Rattle.layout.specs.Layout.{good_n, bank_size, other_of}
use Rattle.layout.specs.Pair.{bank_in}
use Rattle.exchange.specs.State.{is_closed, is_open}
use Rattle.exchange.specs.declared.state.State.{State}
use Rattle.exchange.specs.declared.state.State.TheVariants as state
use Rattle.decision.specs.declared.plan.Fixed.{Fixed}
use Rattle.decision.specs.Plan.{lent_good}
use Rattle.decision.proofs.Planning.{lent}
use Rattle.calls.specs.Call.{Board}
use Rattle.demands.specs.Board.{LentCall, Input, Initiate, Terminate, Datagram, Outcome, said, after, outcomes, lent_of, lent_target, step_machine}
use Rattle.demands.specs.Demand1.{is_fault, no_request, wrong_length, from_stranger, negative_response, parameter_error, response_code, refused, answered}
use Rattle.demands.specs.Demand2.{Packets, none, more, AllTaken}
use Rattle.demands.specs.Session.{all_blank}
use Rattle.demands.specs.Strangers.{
  OpenFor,
  Strange,
  ToldOff,
  refused as refused-so,
  no_frame,
  no_request_is,
  declined,
  Unheeded,
  AllStrange,
  nobody_sends,
  somebody_sends,
  AllUnheeded,
  none_unheeded,
  more_unheeded,
  MeetsStrangers,
  Among,
  over,
  own,
  stranger,
  own_outcomes,
  Meets2Among,
}
use Rattle.demands.proofs.Demand2.{Busy, said_back, control_short, written_short, begun_busy, next-busy, demand2}
use Rattle.demands.proofs.Rows.{comes}

-- ---- one datagram

pub is_strange : (address : List ℕ) (b : Board) (call : LentCall) → OpenFor address b → Strange address call → from_stranger b.client call.address ≡ true
is_strange address b call o s = by (same_of call.address b.client.opener) refl
  where
    by : (t : Bool) → same_of call.address b.client.opener ≡ t → from_stranger b.client call.address ≡ true
    by true t = absurd (s (same_true call.address b.client.opener t ∙ o.opener))
    by false t = rw (o.mode, t)

negative_short : (r : Option Frame) → length (negative_response r) ≤ 14
negative_short None = omega (arith, length_error)
negative_short (Some (Control code n)) = control_short (response_code code) 0x15
negative_short (Some (Write sector m footer)) = written_short sector 0x15 0x15 0

pub open_live : (s : State) → is_open s ≡ true → is_closed s ≡ false
open_live state.Closed e = absurd (false≢true e)
open_live state.Idle e = refl
open_live state.Control e = refl
open_live state.Write e = refl

module _ (address : List ℕ) (b : Board) (call : LentCall) (open_for : OpenFor address b) (strange : Strange address call) where
  abbrev read : Option Frame
  read = read_of call.datagram

  abbrev runs : Bool
  runs = eqb (length (bank_in b.client.fixed.running (lent_of call.lent b.pair))) (bank_size b.client.fixed.n)

  abbrev lengths : Bool
  lengths = lent_good b.client.fixed.n (length (lent_target b call)) (length call.marks) (length call.address) (length call.buffer)

  abbrev So : Outcome → Type 0
  So o = Unheeded b call o

  module _ (room : 14 ≤ length call.buffer) (answer : List ℕ) (short : length answer ≤ 14) where
    is_said : said (answered b call answer) ≡ answer
    is_said = said_back call answer short room

    told_so : ToldOff read 0 (said (answered b call answer)) → So (answered b call answer)
    told_so t = record { board = refl; notice = refl; buffer = ap (front_of call.buffer) (sym is_said); told = t }

  refused_by : (number : ℕ) → (number ≡ 2) ⊎ (number ≡ 3) → So (refused b call.buffer number)
  refused_by number k = record { board = refl; notice = refl; buffer = sym (front_none call.buffer); told = refused-so k refl }

  pub unheeded_one : So (step_machine b (Datagram call))
  unheeded_one =
      by (good_n b.client.fixed.n) runs lengths (is_fault read) (no_request read) (wrong_length read) refl refl refl refl refl refl
    where
      live : is_closed b.client.state ≡ false
      live = open_live b.client.state open_for.mode

      other : from_stranger b.client call.address ≡ true
      other = is_strange address b call open_for strange

      roomy : lengths ≡ true → 14 ≤ length call.buffer
      roomy e =
          (lent b.client.fixed.n (length (lent_target b call)) (length call.marks) (length call.address) (length call.buffer) e).roomy

      error-short : length frame_error ≤ 14
      error-short = omega (arith, length_error)

      mistaken : 14 ≤ length call.buffer → is_fault read ≡ false → (no_request read || wrong_length read) ≡ true → So (answered b call parameter_error)
      mistaken room f w = told_so room parameter_error (omega arith) (no_request_is refl f w (is_said room parameter_error (omega arith)))

      so : {o : Outcome} → step_machine b (Datagram call) ≡ o → So o → So (step_machine b (Datagram call))
      so e s = subst So (sym e) s

      by : (g u l f c p : Bool) → good_n b.client.fixed.n ≡ g → runs ≡ u → lengths ≡ l → is_fault read ≡ f → no_request read ≡ c → wrong_length read ≡ p
          → So (step_machine b (Datagram call))
      by false u l f c p eg eu el ef ec ep = so (comes b (Datagram call) (refused b call.buffer 3) (rw eg)) (refused_by 3 (inr refl))
      by true false l f c p eg eu el ef ec ep = so (comes b (Datagram call) (refused b call.buffer 2) (rw (eg, eu))) (refused_by 2 (inl refl))
      by true true false f c p eg eu el ef ec ep = so (comes b (Datagram call) (refused b call.buffer 2) (rw (eg, eu, el))) (refused_by 2 (inl refl))
      by true true true true c p eg eu el ef ec ep =
          so (comes b (Datagram call) (answered b call frame_error) (rw (eg, eu, el, live, ef)))
          (told_so (roomy el) frame_error error-short (no_frame refl ef (is_said (roomy el) frame_error error-short)))
      by true true true false true p eg eu el ef ec ep =
          so (comes b (Datagram call) (answered b call parameter_error) (rw (eg, eu, el, live, ef, ec)))
          (mistaken (roomy el) ef (rw ec))
      by true true true false false true eg eu el ef ec ep =
          so (comes b (Datagram call) (answered b call parameter_error) (rw (eg, eu, el, live, ef, ec, ep)))
          (mistaken (roomy el) ef (rw (ec, ep)))
      by true true true false false false eg eu el ef ec ep =
          so (comes b (Datagram call) (answered b call (negative_response read)) (rw (eg, eu, el, live, ef, ec, ep, other)))
          (told_so (roomy el) (negative_response read) (negative_short read)
          (declined refl ef (rw (ec, ep)) (is_said (roomy el) (negative_response read) (negative_short read))))

-- ---- any list of them

pub strangers_met : MeetsStrangers step_machine
strangers_met = record { nothing_changes = unchanged; unheeded = all-unheeded }
  where
    unchanged : (address : List ℕ) (b : Board) (is : List Input) → OpenFor address b → AllStrange address is → after step_machine b is ≡ b
    unchanged address b [] o nobody_sends = refl
    unchanged address b (Datagram call ∷ is) o (somebody_sends h hs) =
        ap (λ (x : Board). after step_machine x is) (unheeded_one address b call o h).board ∙ unchanged address b is o hs
    unchanged address b (Initiate ∷ is) o strange = elim strange [ ]
    unchanged address b (Terminate ∷ is) o strange = elim strange [ ]

    all-unheeded : (address : List ℕ) (b : Board) (is : List Input) → OpenFor address b → AllStrange address is → AllUnheeded b is (outcomes step_machine b is)
    all-unheeded address b [] o nobody_sends = none_unheeded
    all-unheeded address b (Datagram call ∷ is) o (somebody_sends h hs) =
        let one = unheeded_one address b call o h in
        more_unheeded one
        (subst (λ (x : Board). AllUnheeded b is (outcomes step_machine x is)) (sym one.board) (all-unheeded address b is o hs))
    all-unheeded address b (Initiate ∷ is) o strange = elim strange [ ]
    all-unheeded address b (Terminate ∷ is) o strange = elim strange [ ]

-- ---- demand 2 among them

module _ (address : List ℕ) (fixed : Fixed) (good : good_n fixed.n ≡ true) (image : List ℕ) (size : length image ≡ bank_size fixed.n) where
  busy_open : (b : Board) (shown : List ℕ) → Busy address fixed b shown → OpenFor address b
  busy_open b shown busy = record { mode = ap is_open busy.writing; opener = busy.opener }

  -- the packets leave the same board, and are answered alike
  among : {ps : List ℕ} {is js : List Input} → Packets address image fixed.n ps is → (a : Among address is js) → (b : Board) (shown : List ℕ)
      → Busy address fixed b shown
      → (after step_machine b js ≡ after step_machine b is) × (own_outcomes step_machine b a ≡ outcomes step_machine b is)
  among none over b shown busy = (refl, refl)
  among (more {p} {ps} {call} {is} h e l rest) (own a) b shown busy =
      let r = among {ps = ps} rest a (step_machine b (Datagram call)).board _ (next-busy address fixed good image size p h b shown busy call e l) in
      (r.0, ap (λ (os : List Outcome). step_machine b (Datagram call) ∷ os) r.1)
  among {ps = ps} packets (stranger {call} {is} {js} s a) b shown busy =
      let r = among {ps = ps} packets a b shown busy in
      let e : (step_machine b (Datagram call)).board ≡ b = (unheeded_one address b call (busy_open b shown busy) s).board in (
        ap (λ (x : Board). after step_machine x js) e ∙ r.0,
        ap (λ (x : Board). own_outcomes step_machine x a) e ∙ r.1,
      )

pub among_met : Meets2Among step_machine
among_met b image ready fit start ps is js end d a =
    let without = demand2 b image ready fit start ps is end d in
    let r =
    among b.client.opener b.client.fixed ready.good image fit.size d.packets a (step_machine b (Datagram start)).board (all_blank b.client.fixed.n)
    (begun_busy b ready start d.start_sent d.start_comes) in
    let last : after step_machine b (Datagram start ∷ js) ≡ after step_machine b (Datagram start ∷ is) = r.0 in
    record {
      started = without.started;
      taken = subst (AllTaken image b.client.fixed.n ps) (sym r.1) without.taken;
      ended = ap (λ (x : Board). said (step_machine x (Datagram end))) last ∙ without.ended;
      bank = ap (λ (x : Board). bank_in (other_of b.client.fixed.running) (step_machine x (Datagram end)).board.pair) last ∙ without.bank;
      next = ap (λ (x : Board). (step_machine x (Datagram end)).board.client.next) last ∙ without.next;
    }
