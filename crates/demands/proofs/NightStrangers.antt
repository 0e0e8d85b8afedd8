-- The night among strangers: while its mode is open nobody else changes anything, and once the mode was left no request of its own opens it again.
-- Assumes nothing.
use Rattle.std.specs.Prelude.{Option, Some, None}
use mathlib.Core.Path.{◌≡◌, refl, sym, ap, subst, ◌∙◌}
use mathlib.Core.Logic.{◌⊎◌, inl, inr}
use mathlib.Core.Bool.{true, false, not, false≢true}
use mathlib.Core.List.{List, [], ◌∷◌, ◌++◌, append_assoc, append-nil}
use Prim.Native.Nat.{ℕ}
use borrow.Author.Tests.{eqb-true, not-false}
use Rattle.frame.specs.Frame.{control_frame}
use Rattle.frame.specs.Read.{read_of}
use Rattle.frame.specs.declared.read.Footer.{Footer}
use Rattle.frame.specs.declared.read.Frame.{Frame}
use Rattle.frame.specs.declared.read.Frame.TheVariants.{Control, Write}
use Rattle.layout.specs.declared.Bank.{Bank}
use Rattle.sender.specs.declared.request.Request.TheVariants as request
use Rattle.sender.specs.Request.{request_frame}
use Rattle.exchange.specs.declared.state.State.{State}
use Rattle.exchange.specs.declared.state.State.TheVariants as state
use Rattle.exchange.specs.State.{is_closed, is_open}
use Rattle.calls.proofs.Courses.{not_write}
use Rattle.calls.specs.Call.{Board}
use Rattle.night.specs.declared.name.Name.{Name}
use Rattle.night.specs.declared.name.Name.TheVariants.{ModeStart, VersionInfo, BankInfo, WriteStart, Packet, WriteEnd, ModeEnd}
use Rattle.night.specs.Name.{frame_of}
use Rattle.demands.specs.Board.{LentCall, Input, Initiate, Terminate, Datagram, Outcome, said, after, step_machine}
use Rattle.demands.specs.Demand1.{is_fault, from_stranger, accepted_in, refused, after_frame}
use Rattle.demands.specs.Night.{Startable, night_sender}
use Rattle.demands.specs.NightLoop.{
  Passage,
  HostInitiates,
  HostTerminates,
  Arrives,
  Another,
  Arrival,
  call_of,
  input_of,
  NoOther,
}
use Rattle.demands.specs.NightStrangers.{Apart, UntilLeft, to_the_end, still, left, SinceEnd, ended, later, MeetsNightAmong}
use Rattle.demands.specs.Strangers.{Leaves, mode_ended_lem, terminated}
use Rattle.demands.proofs.Arriving.{First, last, first, skip, skips, decides, hosted, roomy, came}
use Rattle.demands.proofs.Asking.{request_read}
use Rattle.demands.proofs.Demand2.{said_back, control_short, end_bytes}
use Rattle.demands.proofs.Fresh.{ended_bytes}
use Rattle.demands.proofs.NightBoard.{is_ending, Writing, Done, Ends, in_control, in_write_lem}
use Rattle.demands.proofs.NightLoop.{at_next, loop-in, updated}
use Rattle.demands.proofs.Rows.{Heard, own_mode}
use Rattle.demands.proofs.Strangers.{unheeded_one}

-- ---- what comes of the inputs that may come behind the write end, in control state

module _ (b : Board) (control : b.client.state ≡ state.Control) where
  initiate_stays : (step_machine b Initiate).board ≡ b
  initiate_stays =
      hosted (λ (o : Outcome). o.board ≡ b) b Initiate
      (first (λ _. refl) (λ _. first (λ _. refl) (λ t. absurd (false≢true (sym t ∙ ap (λ (s : State). not (is_closed s)) control)))))

  terminate_leaves : ((step_machine b Terminate).board ≡ b) ⊎ ((step_machine b Terminate).number ≡ 0)
  terminate_leaves =
      hosted (λ (o : Outcome). (o.board ≡ b) ⊎ (o.number ≡ 0)) b Terminate
      (first (λ _. inl refl) (λ _. first (λ _. inl refl) (λ _. first (λ _. inr refl) (λ _. last))))

  module _ (call : LentCall) where
    by_read : (P : Outcome → Type 0) (code : ℕ) → read_of call.datagram ≡ Some (Control code 0) → ((number : ℕ) → P (refused b call.buffer number))
        → (Heard b call → First P (after_frame b call (Some (Control code 0)))) → P (step_machine b (Datagram call))
    by_read P code e r rows =
        came b call P r (λ t _. absurd (false≢true (sym (ap is_fault e) ∙ t))) (λ _ h. subst (λ (x : Option Frame). First P (after_frame b call x)) (sym e) (rows h))

    write-end-stays : call.datagram ≡ request_frame request.WriteEnd → (step_machine b (Datagram call)).board ≡ b
    write-end-stays e =
        by_read (λ (o : Outcome). o.board ≡ b) 0x45 (ap read_of e ∙ request_read request.WriteEnd) (λ _. refl)
        (λ _.
        skips 2 refl
        (first (λ _. refl)
        (λ _. first (λ _. refl) (λ w. absurd (false≢true (sym w ∙ ap (λ (s : State). not (accepted_in s 0x45)) control))))))

    mode-end-leaves : call.datagram ≡ request_frame request.ModeEnd
        → ((step_machine b (Datagram call)).board ≡ b) ⊎ (said (step_machine b (Datagram call)) ≡ 0x01 ∷ 0x02 ∷ 0x74 ∷ 0x06 ∷ 0x84 ∷ 0x03 ∷ [])
    mode-end-leaves e =
        by_read (λ (o : Outcome). (o.board ≡ b) ⊎ (said o ≡ 0x01 ∷ 0x02 ∷ 0x74 ∷ 0x06 ∷ 0x84 ∷ 0x03 ∷ [])) 0x64 (ap read_of e ∙ request_read request.ModeEnd)
        (λ _. inl refl)
        (λ h.
        skips 2 refl
        (first (λ _. inl refl)
        (λ _.
        first (λ _. inl refl)
        (λ _.
        skips 8 refl (decides refl (inr (said_back call (control_frame 0x74 (0x06 ∷ [])) (control_short 0x74 0x06) (roomy b call h) ∙ ended_bytes)))))))

-- ---- whatever somebody else sends, no write session of ours comes of it

module _ (address : List ℕ) (b : Board) (call : LentCall) (strange : call.address ≡ address → ⊥) where
  abbrev OursThen : Outcome → Type 0
  OursThen o = (o.board.client.state ≡ state.Write) × (o.board.client.opener ≡ address) → o.board ≡ b

  -- the mode is not ours: who is heeded in it is its opener
  not_ours : from_stranger b.client call.address ≡ false → is_open b.client.state ≡ true → b.client.opener ≡ address → ⊥
  not_ours f s e = strange (own_mode b.client call.address f s ∙ e)

  of_control : (code m : ℕ) → First OursThen (after_frame b call (Some (Control code m)))
  of_control code m =
      first (λ _ _. refl)
      (λ _.
      first (λ _ _. refl)
      (λ _.
      first (λ _ _. refl)
      (λ f.
      first (λ _ _. refl)
      (λ s.
      first (λ _ _. refl)
      (λ _.
      skip refl
      (first (λ _ w. absurd (not_write state.Control refl w.0))
      (λ _.
      skip refl
      (first (λ _ w. absurd (not_write state.Control refl w.0))
      (λ _.
      first (λ _ _. refl)
      (λ _.
      first (λ _ _. refl)
      (λ _.
      first
      (λ t w.
      let is : code ≡ 0x40 = eqb-true code 0x40 t in
      let state-is = in_control b.client.state 0x40 refl refl (sym (ap (accepted_in b.client.state) is) ∙ not-false _ s) in
      absurd (not_ours f (ap is_open state-is) w.1))
      (λ _.
      first (λ _ w. absurd (not_write state.Idle refl w.0))
      (λ _.
      first (λ _ w. absurd (not_write state.Control refl w.0))
      (λ _. first (λ _ w. absurd (not_write state.Control refl w.0)) (λ _. last)))))))))))))))

  of_packet : (sector m : ℕ) (footer : Footer) → First OursThen (after_frame b call (Some (Write sector m footer)))
  of_packet sector m footer =
      skips 2 refl
      (first (λ _ _. refl)
      (λ f.
      first (λ _ _. refl)
      (λ s.
      first (λ _ _. refl)
      (λ _.
      first (λ _ _. refl)
      (λ _.
      skip refl
      (decides refl (λ w. absurd (not_ours f (ap is_open (in_write_lem b.client.state (not-false _ s))) w.1))))))))

  pub no_session_of_ours : OursThen (step_machine b (Datagram call))
  no_session_of_ours = came b call OursThen (λ _ _. refl) (λ _ _ _. refl) (λ e _. by (read_of call.datagram) e)
    where
      by : (r : Option Frame) → is_fault r ≡ false → First OursThen (after_frame b call r)
      by None e = absurd (false≢true (sym e))
      by (Some (Control code m)) e = of_control code m
      by (Some (Write sector m footer)) e = of_packet sector m footer

-- ---- what is watched from the write end's answer on

module _ (image : List ℕ) (bank : Bank) (n tries : ℕ) (st : Startable image n tries) (address : List ℕ) (start : Board) where
  abbrev Ours : List ℕ → Type 0
  Ours opener = opener ≡ address

  abbrev Until : Board → List Input → Type 0
  Until b js = UntilLeft step_machine address image bank n start b js

  abbrev Since : Board → List Input → Type 0
  Since b is = SinceEnd step_machine address image bank n start b is

  -- the mode is open still, or was left
  data Watch (is : List Input) (b : Board) : Type 0 where
    in_mode_lem : b.client.state ≡ state.Control → b.client.opener ≡ address → Done image bank n Ours b → after step_machine start is ≡ b
        → ((js : List Input) → Until b js → Since start (is ++ js)) → Watch is b
    over-with : (Writing image bank n Ours b → ⊥) → ((js : List Input) → Since start (is ++ js)) → Watch is b

  -- the whole run from the rest of it
  since : (is : List Input) (b : Board) {js : List Input} → Since (after step_machine b is) js → Since b (is ++ js)
  since [] b s = s
  since (i ∷ is) b s = later (since is (step_machine b i).board s)

  one_more : (is : List Input) (i : Input) (js : List Input) → Since start (is ++ (i ∷ js)) → Since start ((is ++ (i ∷ [])) ++ js)
  one_more is i js s = subst (Since start) (sym (append_assoc is (i ∷ []) js)) s

  watch_begins : (is : List Input) (b : Board) (g asked : List ℕ) (a : Arrival) → Apart address (Arrives a) → asked ≡ request_frame request.WriteEnd
      → after step_machine start is ≡ b → Ends image bank n Ours WriteEnd b g (step_machine b (Datagram (call_of asked a)))
      → Done image bank n Ours (step_machine b (Datagram (call_of asked a))).board
      → Watch (is ++ (Datagram (call_of asked a) ∷ [])) (step_machine b (Datagram (call_of asked a))).board
  watch_begins is b g asked a q f at x d =
      let i : Input = Datagram (call_of asked a) in
      in_mode_lem x.control (x.opener ∙ x.writing.1) d (at_next start is b i at)
      (λ js u.
      one_more is i js
      (since is start
      (subst (λ (c : Board). Since c (i ∷ js)) (sym at) (ended q f (x.answers ∙ end_bytes) u))))

  module _ (is : List Input) (b : Board) (i : Input) (c : b.client.state ≡ state.Control) (o : b.client.opener ≡ address) (d : Done image bank n Ours b)
      (at : after step_machine start is ≡ b) (f : (js : List Input) → Until b js → Since start (is ++ js)) where
    nothing-changed : (step_machine b i).board ≡ b → Watch (is ++ (i ∷ [])) (step_machine b i).board
    nothing-changed e =
        in_mode_lem (ap (λ (x : Board). x.client.state) e ∙ c) (ap (λ (x : Board). x.client.opener) e ∙ o) (subst (Done image bank n Ours) (sym e) d)
        (at_next start is b i at)
        (λ js u. one_more is i js (f (i ∷ js) (still (updated is at d) u)))

    mode-left : Leaves step_machine address b i → Done image bank n Ours (step_machine b i).board
        → Watch (is ++ (i ∷ [])) (step_machine b i).board
    mode-left l e =
        over-with e.resting
        (λ js. one_more is i js (f (i ∷ js) (left (updated is at d) l (updated (is ++ (i ∷ [])) (at_next start is b i at) e))))

  watch_goes : (k : Name) (is : List Input) (b : Board) (asked : List ℕ) (p : Passage) → is_ending k ≡ true → Apart address p → asked ≡ frame_of image bank n k
      → (NoOther p → Done image bank n Ours b → Done image bank n Ours (step_machine b (input_of asked p)).board)
      → (Writing image bank n Ours (step_machine b (input_of asked p)).board → Writing image bank n Ours b)
      → Watch is b → Watch (is ++ (input_of asked p ∷ [])) (step_machine b (input_of asked p)).board
  watch_goes k is b asked p z q f moves back (over-with r g) =
      over-with (λ w. r (back w)) (λ js. one_more is (input_of asked p) js (g (input_of asked p ∷ js)))
  watch_goes k is b asked HostInitiates z q f moves back (in_mode_lem c o d at g) = nothing-changed is b Initiate c o d at g (initiate_stays b c)
  watch_goes k is b asked HostTerminates z q f moves back (in_mode_lem c o d at g) = by (terminate_leaves b c)
    where
      by : ((step_machine b Terminate).board ≡ b) ⊎ ((step_machine b Terminate).number ≡ 0) → Watch (is ++ (Terminate ∷ [])) (step_machine b Terminate).board
      by (inl e) = nothing-changed is b Terminate c o d at g e
      by (inr e) = mode-left is b Terminate c o d at g (terminated e) (moves tt d)
  watch_goes ModeStart is b asked (Arrives a) z q f moves back (in_mode_lem c o d at g) = absurd (false≢true z)
  watch_goes VersionInfo is b asked (Arrives a) z q f moves back (in_mode_lem c o d at g) = absurd (false≢true z)
  watch_goes BankInfo is b asked (Arrives a) z q f moves back (in_mode_lem c o d at g) = absurd (false≢true z)
  watch_goes WriteStart is b asked (Arrives a) z q f moves back (in_mode_lem c o d at g) = absurd (false≢true z)
  watch_goes (Packet p) is b asked (Arrives a) z q f moves back (in_mode_lem c o d at g) = absurd (false≢true z)
  watch_goes WriteEnd is b asked (Arrives a) z q f moves back (in_mode_lem c o d at g) =
      nothing-changed is b (Datagram (call_of asked a)) c o d at g (write-end-stays b c (call_of asked a) f)
  watch_goes ModeEnd is b asked (Arrives a) z q f moves back (in_mode_lem c o d at g) = by (mode-end-leaves b c (call_of asked a) f)
    where
      by : ((step_machine b (Datagram (call_of asked a))).board ≡ b)
          ⊎ (said (step_machine b (Datagram (call_of asked a))) ≡ 0x01 ∷ 0x02 ∷ 0x74 ∷ 0x06 ∷ 0x84 ∷ 0x03 ∷ [])
          → Watch (is ++ (Datagram (call_of asked a) ∷ [])) (step_machine b (Datagram (call_of asked a))).board
      by (inl e) = nothing-changed is b (Datagram (call_of asked a)) c o d at g e
      by (inr e) = mode-left is b (Datagram (call_of asked a)) c o d at g (mode_ended_lem q (ap read_of f ∙ request_read request.ModeEnd) e) (moves tt d)
  watch_goes k is b asked (Another call) z q f moves back (in_mode_lem c o d at g) =
      nothing-changed is b (Datagram call) c o d at g
      (unheeded_one address b call (record { mode = ap is_open c; opener = o }) q).board

  watch_rests : (is : List Input) (b : Board) → Watch is b → Writing image bank n Ours b → ⊥
  watch_rests is b (in_mode_lem c o d at g) w = d.resting w
  watch_rests is b (over-with r g) w = r w

  watched : (is : List Input) (b : Board) → Watch is b → Since start is
  watched is b (in_mode_lem c o d at g) = subst (Since start) (append-nil is) (g [] (to_the_end (updated is at d)))
  watched is b (over-with r g) = subst (Since start) (append-nil is) (g [])

pub night_among_met : MeetsNightAmong night_sender step_machine
night_among_met image bank n tries before address b rs st h hs apart revision e =
    watched image bank n tries st address b _ _
    (loop-in image bank n tries st (λ opener. opener ≡ address) b (Watch image bank n tries st address b) (Apart address) (λ a q. q)
    (watch_rests image bank n tries st address b) (watch_begins image bank n tries st address b) (watch_goes image bank n tries st address b)
    (λ c call q. no_session_of_ours address c call q) before rs h hs apart revision e)
