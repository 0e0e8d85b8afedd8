-- Demand 1 is met: each way through the deciding ends in the first row of the table whose test holds.
-- Assumes nothing.
use Rattle.std.specs.Prelude.{Option, Some, None}
use mathlib.Core.Path.{◌≡◌, refl, sym, ap, ap₂, subst, ◌∙◌}
use mathlib.Core.Bool.{Bool, true, false, cond, false≢true}
use mathlib.Core.List.{List, [], ◌∷◌, ◌++◌}
use Prim.Native.Nat.{ℕ, ◌-◌, ◌≤◌}
use native.Mathlib.Omega.{arith}
use lib.Dec.{eqb}
use lib.ListN.{length, get_or, drop}
use borrow.Author.Tests.{eqb-true}
use Rattle.std.specs.Prelude.{None, Ok, Err}
use Rattle.buffer.specs.Compare.{same_of, blank_of}
use Rattle.buffer.specs.Number.{number_at}
use Rattle.buffer.specs.Place.{front_of}
use Rattle.buffer.proofs.Places.{front_none}
use Rattle.crc.specs.Crc.{crc_of}
use Rattle.frame.specs.Checksum.{taken_away, checksum_of}
use Rattle.frame.specs.Frame.{framed, control_frame, frame_error}
use Rattle.frame.specs.Read.{read_of, parameters_in, data_in}
use Rattle.frame.specs.declared.read.Footer.{Footer}
use Rattle.frame.specs.declared.read.Frame.{Frame}
use Rattle.frame.specs.declared.read.Frame.TheVariants.{Control, Write}
use Rattle.flash.specs.Bank.{with_sector}
use Rattle.flash.specs.Sector.{padded_of}
use Rattle.flash.proofs.Writes.{FitsAt, written_with, written_here, already_same}
use Rattle.layout.specs.declared.Bank.{Bank}
use Rattle.layout.specs.Layout.{good_n, bank_size, other_of, sector_of}
use Rattle.layout.specs.Pair.{Banks, bank_in, with_bank}
use Rattle.layout.proofs.Pairs.{pair_same}
use Rattle.commands.specs.declared.Command.TheVariants.{ModeStart, BankInfo, VersionInfo, WriteStart, WriteEnd, ModeEnd}
use Rattle.commands.specs.Command.{coded_by}
use Rattle.exchange.specs.declared.answer.Answer.{Answer}
use Rattle.exchange.specs.declared.answer.Answer.TheVariants.{FrameError, ParameterError, Response, BankIs, VersionIs, Written}
use Rattle.exchange.specs.declared.answer.Refusal.{Refusal}
use Rattle.exchange.specs.declared.answer.Refusal.TheVariants.{BadN, BadLength, Closed}
use Rattle.exchange.specs.declared.state.State.{State}
use Rattle.exchange.specs.declared.state.State.TheVariants as state
use Rattle.exchange.specs.Answer.{Reply, refusal_number, answer_number, answer_bytes, reply_bytes, told_length}
use Rattle.exchange.specs.Request.{counted, asked_by}
use Rattle.exchange.specs.State.{is_closed}
use Rattle.exchange.proofs.Saying.{answer_short, told_whole}
use Rattle.decision.specs.declared.plan.Fixed.{Fixed}
use Rattle.decision.specs.declared.plan.Plan.TheVariants.{Refuse}
use Rattle.decision.specs.Plan.{
  lent_good,
  is_worn,
  any_worn,
  values_good,
  addresses_good,
  plan_start,
  plan_end,
  plan_packet,
  plan_control,
  plan_good,
  is_stranger,
  plan_request,
  plan_asked,
  plan_of,
}
use Rattle.decision.proofs.Planning.{lent}
use Rattle.client.specs.declared.record.Client.{Client}
use Rattle.client.specs.declared.record.Latest.{Latest}
use Rattle.client.specs.Host.{initiate_of, terminate_of}
use Rattle.client.specs.Notice.{MaybeNotice}
use Rattle.client.specs.Perform.{fit_of, store_result, store_of, checked_of, served_of}
use Rattle.client.specs.Record.{standing_of, marked}
use Rattle.client.specs.Step.{Carried, carried_of, take_of, beside_of}
use Rattle.calls.proofs.Leading.{fits_stored, storing}
use Rattle.calls.specs.Call.{Board, board}
use Rattle.demands.specs.Board.{LentCall, Input, Initiate, Terminate, Datagram, Outcome, lent_of, back_in, lent_target, call_outcome, step_machine}
use Rattle.demands.specs.Demand1.{first_of, is_fault, from_stranger, refused, changed, answered, stored, parameter_error, after_frame, call_rows, table_of, swept_target, Meets1}
use Rattle.demands.proofs.Lending.{back_with, whole_again}
use Rattle.demands.proofs.Steps.{run_stays, run_running}

-- the six bytes of E0 with 05
pub parameter_bytes : control_frame 0xE0 (0x05 ∷ []) ≡ parameter_error
unfolding control_frame framed checksum_of taken_away
parameter_bytes = refl

-- ---- what came of a call, as the rows put it

module _ (b : Board) (call : LentCall) where
  abbrev other : Bank
  other = other_of b.client.fixed.running

  -- the pair with another target, and with the one that was lent
  abbrev back : List ℕ → Banks
  back target = back_in call.lent b.pair (with_bank other target (lent_of call.lent b.pair))

  put : (target : List ℕ) → back target ≡ with_bank other (target ++ drop (call.lent other) (bank_in other b.pair)) b.pair
  put target = back_with call.lent b.pair other target

  left_alone : (target : List ℕ) → target ≡ lent_target b call → back target ≡ b.pair
  left_alone target t =
      put target
      ∙ ap (λ (l : List ℕ). with_bank other l b.pair)
      (ap (λ (l : List ℕ). l ++ drop (call.lent other) (bank_in other b.pair)) t ∙ whole_again call.lent b.pair other)
      ∙ pair_same other

  -- what the three parts of a step say together
  pub record Said (r : Carried) (answer : Answer) : Type 0 where
    pub answers : r.answer ≡ Ok answer
    pub tells : r.told ≡ length (reply_bytes r.answer)
    pub fills : r.buffer ≡ front_of call.buffer (reply_bytes r.answer)

  stored_is : (r : Carried) (c : Client) (target : List ℕ) (answer : Answer) → Said r answer → r.client ≡ c → r.target ≡ target → r.notice ≡ None
      → call_outcome b call r ≡ stored b call c target (answer_bytes answer)
  stored_is r c target answer s e t n =
      λ k. record {
        board = board (e k) ((ap back t ∙ put target) k);
        number = ap answer_number s.answers k;
        told = (s.tells ∙ ap (λ (x : Reply). length (reply_bytes x)) s.answers) k;
        buffer = (s.fills ∙ ap (λ (x : Reply). front_of call.buffer (reply_bytes x)) s.answers) k;
        notice = n k;
      }

  changed_is : (r : Carried) (c : Client) (notice : MaybeNotice) (answer : Answer) → Said r answer → r.client ≡ c → r.target ≡ lent_target b call → r.notice ≡ notice
      → call_outcome b call r ≡ changed b call c notice (answer_bytes answer)
  changed_is r c notice answer s e t n =
      λ k. record {
        board = board (e k) (left_alone r.target t k);
        number = ap answer_number s.answers k;
        told = (s.tells ∙ ap (λ (x : Reply). length (reply_bytes x)) s.answers) k;
        buffer = (s.fills ∙ ap (λ (x : Reply). front_of call.buffer (reply_bytes x)) s.answers) k;
        notice = n k;
      }

  -- nothing changes and nothing is said
  refused_is : (r : Carried) (why : Refusal) → r.answer ≡ Err why → r.client ≡ b.client → r.target ≡ lent_target b call → r.notice ≡ None
      → r.told ≡ 0 → r.buffer ≡ call.buffer → call_outcome b call r ≡ refused b call.buffer (refusal_number why)
  refused_is r why a e t n l f =
      λ k. record {
        board = board (e k) (left_alone r.target t k);
        number = ap answer_number a k;
        told = l k;
        buffer = f k;
        notice = n k;
      }

-- ---- a datagram, as it is read

-- the board in each state, so that a state's row computes
module _ (fixed : Fixed) (next : Bank) (latest : Latest) (opener : List ℕ) (received : List Bool) (pair : Banks) (call : LentCall) where
  abbrev c : State → Client
  c s = record { fixed = fixed; next = next; state = s; latest = latest; opener = opener; received = received }

  abbrev at : State → Board
  at s = board (c s) pair

  abbrev d : List ℕ
  d = call.datagram

  abbrev comesOf : State → Option Frame → Outcome
  comesOf s r =
      call_outcome (at s) call
      (carried_of (c s) (plan_asked (standing_of (c s)) (asked_by (parameters_in d) r) call.marks call.address) (lent_target (at s) call) call.address call.buffer (data_in d))

  abbrev Holds : State → Option Frame → Type 0
  Holds s r = first_of (after_frame (at s) call r) ≡ Some (comesOf s r)

  closed_not : {A : Type 0} → is_closed state.Closed ≡ false → A
  closed_not e = absurd (false≢true (sym e))

  module _ (room : 14 ≤ length call.buffer) where
    -- how many bytes are told, and where they stand
    Tells : Carried → Type 0
    Tells r =
        (r.told ≡ told_length (reply_bytes r.answer) (length call.buffer)) × (r.buffer ≡ front_of call.buffer (reply_bytes r.answer))

    says : (s : State) (r : Carried) (answer : Answer) → r.answer ≡ Ok answer → Tells r → Said (at s) call r answer
    unfolding Tells
    says s r answer a f =
        let short = answer_short answer in
        record { answers = a; tells = f.0 ∙ told_whole r.answer (length call.buffer) (rw a (omega arith)); fills = f.1 }

    -- what was said of a target that was left alone, and of one that was not
    kept : (s : State) (answer : Answer) (r : Carried) → r.answer ≡ Ok answer → Tells r → r.target ≡ lent_target (at s) call
        → Some (changed (at s) call r.client r.notice (answer_bytes answer)) ≡ Some (call_outcome (at s) call r)
    kept s answer r a f t = ap Some (sym (changed_is (at s) call r r.client r.notice answer (says s r answer a f) refl t refl))

    -- E0 with 05
    faulty : (s : State) (r : Carried) → r.answer ≡ Ok ParameterError → Tells r → r.target ≡ lent_target (at s) call
        → Some (changed (at s) call r.client r.notice parameter_error) ≡ Some (call_outcome (at s) call r)
    unfolding answer_bytes
    faulty s r a f t = ap (λ (x : List ℕ). Some (changed (at s) call r.client r.notice x)) (sym parameter_bytes) ∙ kept s ParameterError r a f t

    left : (s : State) (answer : Answer) (r : Carried) → r.answer ≡ Ok answer → Tells r → r.notice ≡ None
        → Some (stored (at s) call r.client r.target (answer_bytes answer)) ≡ Some (call_outcome (at s) call r)
    left s answer r a f n = ap Some (sym (stored_is (at s) call r r.client r.target answer (says s r answer a f) refl refl n))

    -- from the address that opened the mode, or while none is open
    abbrev strange : State → Bool
    strange s = from_stranger (c s) call.address

    code-61 : (m : ℕ) (t x : Bool) (s : State) → eqb m 0 ≡ t → strange s ≡ x → is_closed s ≡ false → Holds s (Some (Control 0x61 m))
    unfolding Tells asked_by coded_by counted plan_asked plan_request is_stranger plan_good plan_control carried_of served_of answer_bytes
    code-61 m false x s z y l = rw z (faulty s _ refl (refl, refl) refl)
    code-61 m true true s z y l = rw (z, y) (kept s (Response ModeStart 0x15) _ refl (refl, refl) refl)
    code-61 m true false state.Closed z y l = closed_not l
    code-61 m true false state.Idle z y l = rw z (kept state.Idle (Response ModeStart 0x06) _ refl (refl, refl) refl)
    code-61 m true false state.Control z y l = rw (z, y) (kept state.Control (Response ModeStart 0x15) _ refl (refl, refl) refl)
    code-61 m true false state.Write z y l = rw (z, y) (kept state.Write (Response ModeStart 0x15) _ refl (refl, refl) refl)

    code-62 : (m : ℕ) (t x : Bool) (s : State) → eqb m 0 ≡ t → strange s ≡ x → is_closed s ≡ false → Holds s (Some (Control 0x62 m))
    unfolding Tells asked_by coded_by counted plan_asked plan_request is_stranger plan_good plan_control carried_of served_of answer_bytes
    code-62 m false x s z y l = rw z (faulty s _ refl (refl, refl) refl)
    code-62 m true true s z y l = rw (z, y) (kept s (Response BankInfo 0x15) _ refl (refl, refl) refl)
    code-62 m true false state.Closed z y l = closed_not l
    code-62 m true false state.Idle z y l = rw z (kept state.Idle (Response BankInfo 0x15) _ refl (refl, refl) refl)
    code-62 m true false state.Control z y l = rw (z, y) (kept state.Control (BankIs (other_of fixed.running)) _ refl (refl, refl) refl)
    code-62 m true false state.Write z y l = rw (z, y) (kept state.Write (Response BankInfo 0x15) _ refl (refl, refl) refl)

    code-68 : (m : ℕ) (t x : Bool) (s : State) → eqb m 0 ≡ t → strange s ≡ x → is_closed s ≡ false → Holds s (Some (Control 0x68 m))
    unfolding Tells asked_by coded_by counted plan_asked plan_request is_stranger plan_good plan_control carried_of served_of answer_bytes
    code-68 m false x s z y l = rw z (faulty s _ refl (refl, refl) refl)
    code-68 m true true s z y l = rw (z, y) (kept s (Response VersionInfo 0x15) _ refl (refl, refl) refl)
    code-68 m true false state.Closed z y l = closed_not l
    code-68 m true false state.Idle z y l = rw z (kept state.Idle (Response VersionInfo 0x15) _ refl (refl, refl) refl)
    code-68 m true false state.Control z y l = rw (z, y) (kept state.Control (VersionIs fixed.major fixed.minor fixed.revision) _ refl (refl, refl) refl)
    code-68 m true false state.Write z y l = rw (z, y) (kept state.Write (Response VersionInfo 0x15) _ refl (refl, refl) refl)

    code-64 : (m : ℕ) (t x : Bool) (s : State) → eqb m 0 ≡ t → strange s ≡ x → is_closed s ≡ false → Holds s (Some (Control 0x64 m))
    unfolding Tells asked_by coded_by counted plan_asked plan_request is_stranger plan_good plan_control carried_of served_of answer_bytes
    code-64 m false x s z y l = rw z (faulty s _ refl (refl, refl) refl)
    code-64 m true true s z y l = rw (z, y) (kept s (Response ModeEnd 0x15) _ refl (refl, refl) refl)
    code-64 m true false state.Closed z y l = closed_not l
    code-64 m true false state.Idle z y l = rw z (kept state.Idle (Response ModeEnd 0x15) _ refl (refl, refl) refl)
    code-64 m true false state.Control z y l = rw (z, y) (kept state.Control (Response ModeEnd 0x06) _ refl (refl, refl) refl)
    code-64 m true false state.Write z y l = rw (z, y) (kept state.Write (Response ModeEnd 0x15) _ refl (refl, refl) refl)

    -- the address pair
    abbrev pair-good : Bool
    pair-good = addresses_good fixed.n fixed.running (number_at 4 (parameters_in d) 0) (number_at 4 (parameters_in d) 4)

    code-40 : (m : ℕ) (t x : Bool) (s : State) (v : Bool) → eqb m 8 ≡ t → strange s ≡ x → pair-good ≡ v → is_closed s ≡ false → Holds s (Some (Control 0x40 m))
    unfolding Tells asked_by coded_by counted plan_asked plan_request is_stranger plan_good plan_control carried_of served_of answer_bytes plan_start
    code-40 m false x s v z y a l = rw z (faulty s _ refl (refl, refl) refl)
    code-40 m true true s v z y a l = rw (z, y) (kept s (Response WriteStart 0x15) _ refl (refl, refl) refl)
    code-40 m true false state.Closed v z y a l = closed_not l
    code-40 m true false state.Idle v z y a l = rw z (kept state.Idle (Response WriteStart 0x15) _ refl (refl, refl) refl)
    code-40 m true false state.Control false z y a l = rw (z, y, a) (faulty state.Control _ refl (refl, refl) refl)
    code-40 m true false state.Control true z y a l = rw (z, y, a) (kept state.Control (Response WriteStart 0x06) _ refl (refl, refl) refl)
    code-40 m true false state.Write v z y a l = rw (z, y) (kept state.Write (Response WriteStart 0x15) _ refl (refl, refl) refl)

    -- the worn marks, and then what the sweep left
    code-45 : (m : ℕ) (t x : Bool) (s : State) (w f : Bool) → eqb m 0 ≡ t → strange s ≡ x → any_worn call.marks ≡ w
        → fit_of fixed (swept_target (at state.Write) call) ≡ f → is_closed s ≡ false → Holds s (Some (Control 0x45 m))
    unfolding Tells asked_by coded_by counted plan_asked plan_request is_stranger plan_good plan_control carried_of served_of answer_bytes plan_end checked_of
    code-45 m false x s w f z y a e l = rw z (faulty s _ refl (refl, refl) refl)
    code-45 m true true s w f z y a e l = rw (z, y) (kept s (Response WriteEnd 0x15) _ refl (refl, refl) refl)
    code-45 m true false state.Closed w f z y a e l = closed_not l
    code-45 m true false state.Idle w f z y a e l = rw z (kept state.Idle (Response WriteEnd 0x15) _ refl (refl, refl) refl)
    code-45 m true false state.Control w f z y a e l = rw (z, y) (kept state.Control (Response WriteEnd 0x15) _ refl (refl, refl) refl)
    code-45 m true false state.Write true f z y a e l = rw (z, y, a) (kept state.Write (Response WriteEnd 0x1C) _ refl (refl, refl) refl)
    code-45 m true false state.Write false true z y a e l = rw (z, y, a, e) (left state.Write (Response WriteEnd 0x06) _ refl (refl, refl) refl)
    code-45 m true false state.Write false false z y a e l = rw (z, y, a, e) (left state.Write (Response WriteEnd 0x1E) _ refl (refl, refl) refl)

    -- none of the six
    code_other : (code m : ℕ) (s : State) → eqb code 0x61 ≡ false → eqb code 0x62 ≡ false → eqb code 0x68 ≡ false → eqb code 0x40 ≡ false
        → eqb code 0x45 ≡ false → eqb code 0x64 ≡ false → Holds s (Some (Control code m))
    unfolding Tells asked_by coded_by plan_asked carried_of served_of answer_bytes
    code_other code m s e f g h i j = rw (e, f, g, h, i, j) (faulty s _ refl (refl, refl) refl)

    control : (code m : ℕ) (s : State) → is_closed s ≡ false → Holds s (Some (Control code m))
    control code m s l = by61 (eqb code 0x61) refl
      where
        one_of : (known : ℕ) → eqb code known ≡ true → Holds s (Some (Control known m)) → Holds s (Some (Control code m))
        one_of known e h = subst (λ (x : ℕ). Holds s (Some (Control x m))) (sym (eqb-true code known e)) h

        by64 : (a : Bool) → eqb code 0x64 ≡ a → eqb code 0x61 ≡ false → eqb code 0x62 ≡ false → eqb code 0x68 ≡ false → eqb code 0x40 ≡ false
            → eqb code 0x45 ≡ false → Holds s (Some (Control code m))
        by64 true j e f g h i = one_of 0x64 j (code-64 m _ _ s refl refl l)
        by64 false j e f g h i = code_other code m s e f g h i j

        by45 : (a : Bool) → eqb code 0x45 ≡ a → eqb code 0x61 ≡ false → eqb code 0x62 ≡ false → eqb code 0x68 ≡ false → eqb code 0x40 ≡ false
            → Holds s (Some (Control code m))
        by45 true i e f g h = one_of 0x45 i (code-45 m _ _ s _ _ refl refl refl refl l)
        by45 false i e f g h = by64 (eqb code 0x64) refl e f g h i

        by40 : (a : Bool) → eqb code 0x40 ≡ a → eqb code 0x61 ≡ false → eqb code 0x62 ≡ false → eqb code 0x68 ≡ false → Holds s (Some (Control code m))
        by40 true h e f g = one_of 0x40 h (code-40 m _ _ s _ refl refl refl l)
        by40 false h e f g = by45 (eqb code 0x45) refl e f g h

        by68 : (a : Bool) → eqb code 0x68 ≡ a → eqb code 0x61 ≡ false → eqb code 0x62 ≡ false → Holds s (Some (Control code m))
        by68 true g e f = one_of 0x68 g (code-68 m _ _ s refl refl l)
        by68 false g e f = by40 (eqb code 0x40) refl e f g

        by62 : (a : Bool) → eqb code 0x62 ≡ a → eqb code 0x61 ≡ false → Holds s (Some (Control code m))
        by62 true f e = one_of 0x62 f (code-62 m _ _ s refl refl l)
        by62 false f e = by68 (eqb code 0x68) refl e f

        by61 : (a : Bool) → eqb code 0x61 ≡ a → Holds s (Some (Control code m))
        by61 true e = one_of 0x61 e (code-61 m _ _ s refl refl l)
        by61 false e = by62 (eqb code 0x62) refl e

    -- ---- a packet

    module _ (sector m : ℕ) (footer : Footer) (reads : read_of d ≡ Some (Write sector m footer)) (good : good_n fixed.n ≡ true)
        (whole : length (lent_target (at state.Write) call) ≡ bank_size fixed.n) where
      abbrev bytes : List ℕ
      bytes = data_in d

      abbrev before : List ℕ
      before = lent_target (at state.Write) call

      fits : values_good fixed.n sector m ≡ true → FitsAt before sector bytes
      fits v =
          fits_stored (c state.Write) before d sector (storing (c state.Write) (length before) d sector m footer reads refl good whole v)

      packet : (s : State) (x v w : Bool) → strange s ≡ x → values_good fixed.n sector m ≡ v → is_worn (get_or call.marks (sector - 1) 0) ≡ w → is_closed s ≡ false
          → Holds s (Some (Write sector m footer))
      unfolding Tells asked_by plan_asked plan_request is_stranger plan_good plan_packet carried_of served_of store_of answer_bytes
      packet s true v w y a e l = rw y (kept s (Written sector 0x15 0x15 0) _ refl (refl, refl) refl)
      packet state.Closed false v w y a e l = closed_not l
      packet state.Idle false v w y a e l = kept state.Idle (Written sector 0x15 0x15 0) _ refl (refl, refl) refl
      packet state.Control false v w y a e l = rw y (kept state.Control (Written sector 0x15 0x15 0) _ refl (refl, refl) refl)
      packet state.Write false false w y a e l = rw (y, a) (faulty state.Write _ refl (refl, refl) refl)
      packet state.Write false true true y a e l = rw (y, a, e) (kept state.Write (Written sector 0x06 0x1C 0) _ refl (refl, refl) refl)
      packet state.Write false true false y a e l =
          let answer : Answer =
          Written sector 0x06 (store_result (blank_of bytes) (same_of (sector_of before sector) (padded_of bytes))) (crc_of (padded_of bytes)) in
          rw (y, a, e)
          (ap Some
          (sym
          (stored_is (at state.Write) call _ (marked sector (c state.Write)) (with_sector before sector (padded_of bytes)) answer
          (says state.Write _ answer
          (ap₂ (λ (x y : ℕ). Ok (Written sector 0x06 x y)) (ap (store_result (blank_of bytes)) (already_same before sector bytes (fits a)))
          (ap crc_of (written_here before sector bytes (fits a))))
          (refl, refl))
          refl (written_with before sector bytes (fits a)) refl)))

    -- ---- the whole table

    module _ (good : good_n fixed.n ≡ true) (s : State) (live : is_closed s ≡ false) (whole : length (lent_target (at s) call) ≡ bank_size fixed.n) where
      read-on : (r : Option Frame) → read_of d ≡ r
          → cond (is_fault r) (Some (answered (at s) call frame_error)) (first_of (after_frame (at s) call r)) ≡ Some (comesOf s r)
      unfolding Tells asked_by plan_asked carried_of served_of answer_bytes
      read-on None e = kept s FrameError _ refl (refl, refl) refl
      read-on (Some (Control code m)) e = control code m s live
      read-on (Some (Write sector m footer)) e = packet sector m footer e good whole s _ _ _ refl refl refl live

  abbrev runs-good : Bool
  runs-good = eqb (length (bank_in fixed.running (lent_of call.lent pair))) (bank_size fixed.n)

  abbrev lengths-good : State → Bool
  lengths-good s =
      lent_good fixed.n (length (lent_target (at s) call)) (length call.marks) (length call.address) (length call.buffer)

  silent : (why : Refusal) → told_length (reply_bytes (Err why)) (length call.buffer) ≡ 0
  unfolding answer_bytes
  silent why = told_whole (Err why) (length call.buffer) (omega arith)

  refuses : (s : State) (why : Refusal) (bytes : List ℕ)
      → Some (refused (at s) call.buffer (refusal_number why))
      ≡ Some (call_outcome (at s) call (carried_of (c s) (Refuse why) (lent_target (at s) call) call.address call.buffer bytes))
  unfolding carried_of served_of answer_bytes
  refuses s why bytes = ap Some (sym (refused_is (at s) call _ why refl refl refl refl (silent why) (front_none call.buffer)))

  call_table : (g e l : Bool) (s : State) (o : Bool) → good_n fixed.n ≡ g → runs-good ≡ e → lengths-good s ≡ l → is_closed s ≡ o
      → first_of (call_rows (at s) call) ≡ Some (step_machine (at s) (Datagram call))
  unfolding beside_of take_of plan_of
  call_table false e l s o g r f q = rw g (refuses s BadN _)
  call_table true false l s o g r f q = rw (g, r) (refuses s BadLength _)
  call_table true true false s o g r f q = rw (g, r, f) (refuses s BadLength _)
  call_table true true true s true g r f q = rw (g, r, f, q) (refuses s Closed _)
  call_table true true true s false g r f q =
      let t = lent fixed.n (length (lent_target (at s) call)) (length call.marks) (length call.address) (length call.buffer) f in
      rw (g, r, f, q) (read-on t.roomy g s q t.whole_target (read_of d) refl)

host_table : (b : Board) (g o : Bool) → good_n b.client.fixed.n ≡ g → is_closed b.client.state ≡ o
    → (first_of (table_of b Initiate) ≡ Some (step_machine b Initiate)) × (first_of (table_of b Terminate) ≡ Some (step_machine b Terminate))
unfolding initiate_of terminate_of
host_table b false o e d = (rw e, rw e)
host_table b true false e d = (rw (e, d), rw (e, d))
host_table b true true e d = (rw (e, d), rw (e, d))

pub table : (b : Board) (i : Input) → first_of (table_of b i) ≡ Some (step_machine b i)
table b Initiate = (host_table b _ _ refl refl).0
table b Terminate = (host_table b _ _ refl refl).1
table b (Datagram call) =
    let c : Client = b.client in
    call_table c.fixed c.next c.latest c.opener c.received b.pair call _ _ _ c.state _ refl refl refl refl

pub demand1 : Meets1 step_machine
demand1 = record { table = table; kept = λ b is. record { client = run_stays is b; bytes = run_running is b } }
