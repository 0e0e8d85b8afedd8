-- Who is kept, and how long: the address that opened the mode, until it ends the mode or the host terminates.
-- Assumes nothing.
use Rattle.std.specs.Prelude.{Option, Some, None}
use mathlib.Core.Path.{◌≡◌, refl, sym, ap, ◌∙◌}
use mathlib.Core.Logic.{◌⊎◌, inl, inr}
use mathlib.Core.Bool.{Bool, true, false, not, false≢true}
use mathlib.Core.List.{List, [], ◌∷◌}
use Prim.Native.Nat.{ℕ, ◌≤◌}
use native.Mathlib.Omega.{arith}
use lib.Dec.{eqb}
use lib.ListN.{length, take}
use borrow.Author.Tests.{eqb-true, not-false}
use Rattle.buffer.specs.Number.{bytes_of}
use Rattle.buffer.specs.Place.{front_of}
use Rattle.buffer.proofs.Bools.{split, and_false}
use Rattle.frame.specs.Frame.{framed, control_frame, write_frame, frame_error}
use Rattle.frame.specs.Read.{read_of, data_in}
use Rattle.frame.specs.declared.read.Footer.{Footer}
use Rattle.frame.specs.declared.read.Footer.TheVariants.{End}
use Rattle.frame.specs.declared.read.Frame.{Frame}
use Rattle.frame.specs.declared.read.Frame.TheVariants.{Control, Write}
use Rattle.frame.proofs.Writing.{length_error}
use Rattle.flash.specs.Bank.{swept_of}
use Rattle.layout.specs.declared.Bank.{Bank}
use Rattle.layout.specs.Layout.{good_n, bank_size, bank_number, other_of}
use Rattle.exchange.specs.Answer.{version_bytes, written_bytes}
use Rattle.exchange.specs.State.{is_closed, is_open}
use Rattle.exchange.specs.declared.state.State.{State}
use Rattle.exchange.specs.declared.state.State.TheVariants as state
use Rattle.decision.specs.declared.plan.Plan.{Plan}
use Rattle.decision.specs.declared.plan.Plan.TheVariants.{Refuse, Keep, Open, Leave, Begin, Store, Wear, Finish}
use Rattle.client.specs.declared.host.Hosted.{Hosted}
use Rattle.client.specs.declared.record.Client.{Client}
use Rattle.client.specs.Host.{new_of, initiate_of, terminate_of}
use Rattle.client.specs.Perform.{fit_of, Done, store_of, checked_of, served_of}
use Rattle.client.specs.Record.{nobody, opened, mode_ended}
use Rattle.client.specs.Step.{Carried, carried_of, planned, take_of, beside_of}
use Rattle.calls.specs.Call.{Board, board}
use Rattle.demands.specs.Board.{LentCall, Input, Initiate, Terminate, Datagram, Outcome, said, after, lent_target, step_machine}
use Rattle.demands.specs.Demand1.{is_fault, wrong_length, from_stranger, accepted_in, response_code, parameter_error, after_frame}
use Rattle.demands.specs.Session.{is_response}
use Rattle.demands.specs.Strangers.{OpenFor, Leaves, mode_ended_lem, terminated, Forgotten, MeetsKept}
use Rattle.demands.proofs.Arriving.{First, last, first, skip, skips, decides, hosted, roomy, came}
use Rattle.demands.proofs.Demand2.{said_back, control_short, written_short}
use Rattle.demands.proofs.Fresh.{ended_bytes}
use Rattle.demands.proofs.Reading.{bank_short, version_short}
use Rattle.demands.proofs.Rows.{Heard, own_mode}
use Rattle.demands.proofs.Strangers.{open_live}

-- ---- a mode that is open stays so, or is left

no_start : (s : State) → is_open s ≡ true → accepted_in s 0x61 ≡ false
no_start state.Closed e = absurd (false≢true e)
no_start state.Idle e = absurd (false≢true e)
no_start state.Control e = refl
no_start state.Write e = refl

module _ (address : List ℕ) (b : Board) (open_for : OpenFor address b) where
  initiate_keeps : OpenFor address (step_machine b Initiate).board
  initiate_keeps =
      hosted (λ (o : Outcome). OpenFor address o.board) b Initiate
      (first (λ _. open_for)
      (λ _. first (λ _. open_for) (λ t. absurd (false≢true (sym t ∙ ap not (open_live b.client.state open_for.mode))))))

  terminate_keeps : OpenFor address (step_machine b Terminate).board ⊎ ((step_machine b Terminate).number ≡ 0)
  terminate_keeps =
      hosted (λ (o : Outcome). OpenFor address o.board ⊎ (o.number ≡ 0)) b Terminate
      (first (λ _. inl open_for) (λ _. first (λ _. inl open_for) (λ _. first (λ _. inr refl) (λ _. last))))

  module _ (call : LentCall) where
    abbrev LeftSo : Option Frame → List ℕ → Type 0
    LeftSo r answer = (call.address ≡ address) × ((r ≡ Some (Control 0x64 0)) × (answer ≡ 0x01 ∷ 0x02 ∷ 0x74 ∷ 0x06 ∷ 0x84 ∷ 0x03 ∷ []))

    abbrev Keeps : Option Frame → Outcome → Type 0
    Keeps r o = OpenFor address o.board ⊎ LeftSo r (said o)

    of_control : (code m : ℕ) → Heard b call → First (Keeps (Some (Control code m))) (after_frame b call (Some (Control code m)))
    of_control code m h =
        first (λ _. inl open_for)
        (λ _.
        first (λ _. inl open_for)
        (λ l.
        first (λ _. inl open_for)
        (λ f.
        first (λ _. inl open_for)
        (λ s.
        first (λ _. inl open_for)
        (λ _.
        skip refl
        (first (λ _. inl (record { mode = refl; opener = open_for.opener }))
        (λ _.
        skip refl
        (first
        (λ t.
        absurd
        (false≢true
        (sym (no_start b.client.state open_for.mode) ∙ sym (ap (accepted_in b.client.state) (eqb-true code 0x61 t)) ∙ not-false _ s)))
        (λ _.
        first (λ _. inl open_for)
        (λ _.
        first (λ _. inl open_for)
        (λ _.
        first (λ _. inl (record { mode = refl; opener = open_for.opener }))
        (λ _.
        first (λ t. inr (left_so (eqb-true code 0x64 t) l f))
        (λ _.
        first (λ _. inl (record { mode = refl; opener = open_for.opener }))
        (λ _. first (λ _. inl (record { mode = refl; opener = open_for.opener })) (λ _. last)))))))))))))))
      where
        left_so : code ≡ 0x64 → wrong_length (Some (Control code m)) ≡ false → from_stranger b.client call.address ≡ false
            → LeftSo (Some (Control code m)) (take (length (control_frame 0x74 (0x06 ∷ []))) (front_of call.buffer (control_frame 0x74 (0x06 ∷ []))))
        left_so is l f = (
          own_mode b.client call.address f open_for.mode ∙ open_for.opener,
          (
            rw is (ap (λ (x : ℕ). Some (Control 0x64 x)) (eqb-true m 0 (not-false _ (rw is at l)))),
            said_back call (control_frame 0x74 (0x06 ∷ [])) (control_short 0x74 0x06) (roomy b call h) ∙ ended_bytes,
          ),
        )

    of_packet : (sector m : ℕ) (footer : Footer) → First (Keeps (Some (Write sector m footer))) (after_frame b call (Some (Write sector m footer)))
    of_packet sector m footer =
        skips 2 refl
        (first (λ _. inl open_for)
        (λ _.
        first (λ _. inl open_for)
        (λ _.
        first (λ _. inl open_for)
        (λ _.
        first (λ _. inl open_for)
        (λ _.
        skip refl
        (decides refl (inl (record { mode = open_for.mode; opener = open_for.opener }))))))))

    datagram-keeps : Keeps (read_of call.datagram) (step_machine b (Datagram call))
    datagram-keeps =
        came b call (Keeps (read_of call.datagram)) (λ _. inl open_for) (λ _ _. inl open_for) (λ e h. by (read_of call.datagram) e h)
      where
        by : (r : Option Frame) → is_fault r ≡ false → Heard b call → First (Keeps r) (after_frame b call r)
        by None e h = absurd (false≢true (sym e))
        by (Some (Control code m)) e h = of_control code m h
        by (Some (Write sector m footer)) e h = of_packet sector m footer

pub keeps_open : (address : List ℕ) (b : Board) (i : Input) → OpenFor address b → OpenFor address (step_machine b i).board ⊎ Leaves step_machine address b i
keeps_open address b Initiate o = inl (initiate_keeps address b o)
keeps_open address b Terminate o = by (terminate_keeps address b o)
  where
    by : OpenFor address (step_machine b Terminate).board ⊎ ((step_machine b Terminate).number ≡ 0)
        → OpenFor address (step_machine b Terminate).board ⊎ Leaves step_machine address b Terminate
    by (inl k) = inl k
    by (inr e) = inr (terminated e)
keeps_open address b (Datagram call) o = by (datagram-keeps address b o call)
  where
    by : OpenFor address (step_machine b (Datagram call)).board ⊎ LeftSo address b o call (read_of call.datagram) (said (step_machine b (Datagram call)))
        → OpenFor address (step_machine b (Datagram call)).board ⊎ Leaves step_machine address b (Datagram call)
    by (inl k) = inl k
    by (inr e) = inr (mode_ended_lem e.0 e.1.0 e.1.1)

-- ---- what an answer 06 to a mode start, or to a mode end, tells

-- in a command's response with 06: the code is all that there is to see
module _ (b : Board) (call : LentCall) (c : ℕ) (Q : Board → Type 0) (error : eqb 0xE0 c ≡ false) (bank : eqb 0x72 c ≡ false) (version : eqb 0x78 c ≡ false)
    (begun : eqb 0x70 c ≡ false) (ended : eqb 0x75 c ≡ false) (start : eqb 0x71 c ≡ true → Q (board (opened call.address b.client) b.pair))
    (over : eqb 0x74 c ≡ true → Q (board (mode_ended b.client) b.pair)) where
  abbrev Tells : Outcome → Type 0
  Tells o = is_response c 0x06 (said o) ≡ true → Q o.board

  module _ (room : 14 ≤ length call.buffer) where
    abbrev front : List ℕ → List ℕ
    front answer = take (length answer) (front_of call.buffer answer)

    -- another answer
    another : {A : Type 0} (answer : List ℕ) → length answer ≤ 14 → is_response c 0x06 answer ≡ false → is_response c 0x06 (front answer) ≡ true → A
    another answer l n e = absurd (false≢true (sym n ∙ sym (ap (is_response c 0x06) (said_back call answer l room)) ∙ e))

    -- with this code and another result, or another code
    other_result : (code result : ℕ) → eqb result 0x06 ≡ false → is_response c 0x06 (control_frame code (result ∷ [])) ≡ false
    unfolding control_frame framed
    other_result code result e = rw e (and_false (eqb code c))

    other_code : (code : ℕ) (results : List ℕ) → eqb code c ≡ false → is_response c 0x06 (control_frame code results) ≡ false
    unfolding control_frame framed
    other_code code results e = rw e

    no-packet : (sector result write crc : ℕ) → is_response c 0x06 (write_frame sector (written_bytes result write crc) End) ≡ false
    unfolding write_frame framed bytes_of
    no-packet sector result write crc = refl

    no-error : is_response c 0x06 parameter_error ≡ false
    no-error = and_false (eqb 0xE0 c)

    mistaken : {A : Type 0} → is_response c 0x06 (front parameter_error) ≡ true → A
    mistaken e = another parameter_error (omega arith) no-error e

    declined : {A : Type 0} (code : ℕ) → is_response c 0x06 (front (control_frame code (0x15 ∷ []))) ≡ true → A
    declined code e = another (control_frame code (0x15 ∷ [])) (control_short code 0x15) (other_result code 0x15 refl) e

    own_code : (code : ℕ) (P : Type 0) → (eqb code c ≡ true → P) → is_response c 0x06 (front (control_frame code (0x06 ∷ []))) ≡ true → P
    own_code code P f e = by (eqb code c) refl
      where
        by : (t : Bool) → eqb code c ≡ t → P
        by true t = f t
        by false t = another (control_frame code (0x06 ∷ [])) (control_short code 0x06) (other_code code (0x06 ∷ []) t) e

    of-command : (code m : ℕ) → First Tells (after_frame b call (Some (Control code m)))
    of-command code m =
        let x : Client = b.client in
        first (λ _ e. mistaken e)
        (λ _.
        first (λ _ e. mistaken e)
        (λ _.
        first (λ _ e. declined (response_code code) e)
        (λ _.
        first (λ _ e. declined (response_code code) e)
        (λ _.
        first (λ _ e. mistaken e)
        (λ _.
        skip refl
        (first (λ _ e. another (control_frame 0x75 (0x1C ∷ [])) (control_short 0x75 0x1C) (other_code 0x75 (0x1C ∷ []) ended) e)
        (λ _.
        skip refl
        (first (λ _ e. own_code 0x71 (Q (board (opened call.address x) b.pair)) start e)
        (λ _.
        first
        (λ _ e.
        another (control_frame 0x72 (0x06 ∷ bank_number (other_of x.fixed.running) ∷ [])) (bank_short (other_of x.fixed.running))
        (other_code 0x72 (0x06 ∷ bank_number (other_of x.fixed.running) ∷ []) bank) e)
        (λ _.
        first
        (λ _ e.
        another (control_frame 0x78 (version_bytes x.fixed.major x.fixed.minor x.fixed.revision))
        (version_short x.fixed.major x.fixed.minor x.fixed.revision)
        (other_code 0x78 (version_bytes x.fixed.major x.fixed.minor x.fixed.revision) version) e)
        (λ _.
        first (λ _ e. another (control_frame 0x70 (0x06 ∷ [])) (control_short 0x70 0x06) (other_code 0x70 (0x06 ∷ []) begun) e)
        (λ _.
        first (λ _ e. own_code 0x74 (Q (board (mode_ended x) b.pair)) over e)
        (λ _.
        first (λ _ e. another (control_frame 0x75 (0x06 ∷ [])) (control_short 0x75 0x06) (other_code 0x75 (0x06 ∷ []) ended) e)
        (λ _.
        first (λ _ e. another (control_frame 0x75 (0x1E ∷ [])) (control_short 0x75 0x1E) (other_code 0x75 (0x1E ∷ []) ended) e)
        (λ _. last)))))))))))))))

    of-write : (sector m : ℕ) (footer : Footer) → First Tells (after_frame b call (Some (Write sector m footer)))
    of-write sector m footer =
        skips 2 refl
        (first (λ _ e. none_said sector 0x15 0x15 0 e)
        (λ _.
        first (λ _ e. none_said sector 0x15 0x15 0 e)
        (λ _.
        first (λ _ e. mistaken e)
        (λ _.
        first (λ _ e. none_said sector 0x06 0x1C 0 e)
        (λ _. skip refl (decides refl (λ e. none_said sector 0x06 _ _ e)))))))
      where
        none_said : {A : Type 0} (sector result write crc : ℕ) → is_response c 0x06 (front (write_frame sector (written_bytes result write crc) End)) ≡ true → A
        none_said sector result write crc e =
            another (write_frame sector (written_bytes result write crc) End) (written_short sector result write crc) (no-packet sector result write crc) e

  answer_tells : Tells (step_machine b (Datagram call))
  unfolding frame_error
  answer_tells =
      came b call Tells (λ _ e. absurd (false≢true e))
      (λ _ h e. another (roomy b call h) frame_error (omega (arith, length_error)) (and_false (eqb 0xE0 c)) e) (λ f h. by (read_of call.datagram) f h)
    where
      by : (r : Option Frame) → is_fault r ≡ false → Heard b call → First Tells (after_frame b call r)
      by None f h = absurd (false≢true (sym f))
      by (Some (Control code m)) f h = of-command (roomy b call h) code m
      by (Some (Write sector m footer)) f h = of-write (roomy b call h) sector m footer

-- ---- nobody while no mode is open

abbrev Forgets : Client → Type 0
Forgets c = is_open c.state ≡ false → c.opener ≡ nobody

-- a mode that is open keeps somebody
kept_open : {A : Type 0} → true ≡ false → A
kept_open e = absurd (false≢true (sym e))

module _ (c : Client) (f : Forgets c) where
  carried_forgets : (plan : Plan) (target address buffer bytes : List ℕ) → Forgets (carried_of c plan target address buffer bytes).client
  unfolding carried_of served_of store_of checked_of
  carried_forgets (Refuse why) target address buffer bytes = f
  carried_forgets (Keep answer) target address buffer bytes = f
  carried_forgets Open target address buffer bytes = kept_open
  carried_forgets Leave target address buffer bytes = λ _. refl
  carried_forgets Begin target address buffer bytes = kept_open
  carried_forgets (Store sector) target address buffer bytes = f
  carried_forgets Wear target address buffer bytes = kept_open
  carried_forgets Finish target address buffer bytes =
      split (λ (d : Done). Forgets d.client) (fit_of c.fixed (swept_of target c.fixed.n c.received)) (λ _. kept_open) (λ _. kept_open)

  step_forgets : (running : ℕ) (target marks address buffer datagram : List ℕ) → Forgets (beside_of c running target marks address buffer datagram).client
  unfolding beside_of take_of
  step_forgets running target marks address buffer datagram =
      let P : Carried → Type 0 = λ r. Forgets r.client in
      split P (good_n c.fixed.n)
      (λ _.
      split P (eqb running (bank_size c.fixed.n))
      (λ _. carried_forgets (planned c target marks address buffer datagram) target address buffer (data_in datagram))
      (λ _. carried_forgets _ target address buffer []))
      (λ _. carried_forgets _ target address buffer [])

  -- a closed client has no mode open
  closed_shut : (s : State) → is_closed s ≡ true → is_open s ≡ false
  closed_shut state.Closed e = refl
  closed_shut state.Idle e = absurd (false≢true e)
  closed_shut state.Control e = absurd (false≢true e)
  closed_shut state.Write e = absurd (false≢true e)

  initiate_forgets : Forgets (initiate_of c).client
  unfolding initiate_of
  initiate_forgets =
      let P : Hosted → Type 0 = λ h. Forgets h.client in
      split P (not (good_n c.fixed.n)) (λ _. f)
      (λ _. split P (not (is_closed c.state)) (λ _. f) (λ e _. f (closed_shut c.state (not-false _ e))))

  terminate_forgets : Forgets (terminate_of c).client
  unfolding terminate_of
  terminate_forgets =
      let P : Hosted → Type 0 = λ h. Forgets h.client in
      split P (not (good_n c.fixed.n)) (λ _. f) (λ _. split P (is_closed c.state) (λ _. f) (λ _ _. refl))

forgotten_so : (b : Board) (is : List Input) → Forgotten b → Forgotten (after step_machine b is)
forgotten_so b [] f = f
forgotten_so b (i ∷ is) f = forgotten_so (step_machine b i).board is (one i)
  where
    one : (i : Input) → Forgotten (step_machine b i).board
    one Initiate = initiate_forgets b.client f
    one Terminate = terminate_forgets b.client f
    one (Datagram call) = step_forgets b.client f _ (lent_target b call) call.marks call.address call.buffer call.datagram

made_nobody : (n : ℕ) (running : Bank) (major minor revision : ℕ) → Forgets (new_of n running major minor revision).client
unfolding new_of
made_nobody n running major minor revision = λ _. refl

-- ---- all of it

pub kept_met : MeetsKept step_machine
kept_met =
    record {
      opens = λ b call e.
          answer_tells b call 0x71 (OpenFor call.address) refl refl refl refl refl (λ _. record { mode = refl; opener = refl }) (λ t. absurd (false≢true t))
          (ap (is_response 0x71 0x06) e);
      keeps = keeps_open;
      ends = left-shut;
      made = λ n running major minor revision pair. made_nobody n running major minor revision;
      forgotten = forgotten_so;
    }
  where
    left-shut : (address : List ℕ) (b : Board) (i : Input) → OpenFor address b → Leaves step_machine address b i → is_open (step_machine b i).board.client.state ≡ false
    left-shut address b (Datagram call) o (mode_ended_lem from reads e) =
        answer_tells b call 0x74 (λ (x : Board). is_open x.client.state ≡ false) refl refl refl refl refl (λ t. absurd (false≢true t)) (λ _. refl)
        (ap (is_response 0x74 0x06) e)
    left-shut address b Initiate o leaves = elim leaves [ ]
    left-shut address b Terminate o (terminated e) =
        hosted (λ (x : Outcome). x.number ≡ 0 → is_open x.board.client.state ≡ false) b Terminate
        (first (λ _ z. absurd (omega (arith, z))) (λ _. first (λ _ z. absurd (omega (arith, z))) (λ _. first (λ _ _. refl) (λ _. last)))) e
