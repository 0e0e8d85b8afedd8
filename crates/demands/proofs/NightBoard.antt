-- What a board does with the requests of a night, whatever is lent with them, and with its host's commands: a session that shows nothing but sectors of the
-- image stays one, and what an answer says to the night sender is so.
-- Assumes nothing.
use Rattle.std.specs.Prelude.{Option, Some, None}
use mathlib.Core.Path.{◌≡◌, refl, sym, ap, subst, ◌∙◌}
use mathlib.Core.Logic.{◌⊎◌, inl, inr}
use mathlib.Core.Bool.{Bool, true, false, not, ◌&&◌, ◌||◌, or-true, false≢true}
use mathlib.Core.List.{List, [], ◌∷◌}
use Prim.Native.Nat.{ℕ, zero, suc, ◌*◌, ◌^◌, ◌≤◌, ◌<◌}
use native.Mathlib.Decide.{ℕ_discrete}
use native.Mathlib.Omega.{arith}
use lib.Dec.{eqb}
use lib.ListN.{length, take, drop}
use Rattle.buffer.proofs.Bools.{and_false}
use lib.Seq.{length-take-le}
use borrow.Author.Tests.{not-false}
use Rattle.std.specs.Prelude.{None, Some}
use Rattle.buffer.specs.Compare.{blank_of, same_of}
use Rattle.buffer.specs.Number.{bytes_of}
use Rattle.buffer.specs.Place.{front_of}
use Rattle.crc.specs.Crc.{crc_of}
use Rattle.crc.proofs.Laws.{of_lt}
use Rattle.frame.specs.Frame.{framed, control_frame, write_frame}
use Rattle.frame.specs.Read.{read_of, data_in}
use Rattle.frame.specs.declared.read.Footer.{Footer}
use Rattle.frame.specs.declared.read.Footer.TheVariants.{End}
use Rattle.frame.specs.declared.read.Frame.{Frame}
use Rattle.frame.specs.declared.read.Frame.TheVariants.{Control, Write}
use Rattle.flash.specs.Bank.{with_sector, blank_sector}
use Rattle.flash.specs.Sector.{padded_of}
use Rattle.flash.proofs.Blanks.{blank_whole, sector_blanks}
use Rattle.flash.proofs.Sectors.{Lies, ext_sector, with_here, with_other}
use Rattle.flash.proofs.Sweeps.{length_sweep}
use Rattle.layout.specs.declared.Bank.{Bank}
use Rattle.layout.specs.Layout.{good_n, bank_size, bank_number, other_of, sector_of}
use Rattle.layout.proofs.Layouts.{good_high}
use Rattle.commands.specs.declared.Command.{Command}
use Rattle.commands.specs.declared.Command.TheVariants as command
use Rattle.commands.specs.Command.{response_code}
use Rattle.response.specs.declared.read.Response.{Response}
use Rattle.response.specs.declared.read.Response.TheVariants.{Plain, Error, Target, Firmware, Written}
use Rattle.response.specs.Response.{may_carry, added_of, repeats_of, stored_of, crc_fits, response_in, response_of}
use Rattle.response.proofs.Answers.{plain_back, error_back, bank_back, version_back, written_back}
use Rattle.sender.specs.declared.request.Request.TheVariants as request
use Rattle.sender.specs.Packet.{packet_count, packet_sector, footer_of, packet_frame}
use Rattle.sender.specs.Request.{request_frame}
use Rattle.sender.proofs.Image.{SentAt, used_sent, packet_read, packet_data}
use Rattle.sender.proofs.Packets.{Sent, sent_in, sector_length}
use Rattle.exchange.specs.declared.state.State.{State}
use Rattle.exchange.specs.declared.state.State.TheVariants as state
use Rattle.exchange.specs.Answer.{version_bytes, written_bytes, answer_bytes}
use Rattle.exchange.specs.State.{is_open}
use Rattle.client.specs.Perform.{Accepted, store_result}
use Rattle.client.specs.declared.notice.Notice.TheVariants.{Started, Ended}
use Rattle.client.specs.declared.record.Client.{Client}
use Rattle.client.specs.Notice.{MaybeNotice, latest_number}
use Rattle.client.specs.Record.{nobody, none_received, starting, in_state, lately, opened_by, having, initiated, terminated, opened, mode_ended, begun, ended}
use Rattle.client.specs.declared.record.Latest.{Latest}
use Rattle.client.specs.declared.record.Latest.TheVariants.{Nothing, Good}
use Rattle.decision.specs.declared.plan.Fixed.{Fixed}
use Rattle.calls.proofs.Courses.{accepted, in_write, not_write}
use Rattle.calls.specs.Call.{Board, board}
use Rattle.demands.specs.Board.{LentCall, Initiate, Terminate, Datagram, Outcome, said, target_bank, sectors_in, lent_target, step_machine}
use Rattle.demands.specs.Demand1.{
  accepted_in,
  takes_packets,
  is_fault,
  no_request,
  wrong_length,
  from_stranger,
  wrong_state,
  negative_response,
  parameter_error,
  host_done,
  answered,
  changed,
  stored,
  packet_stored,
  swept_target,
  refused,
  after_frame,
}
use Rattle.demands.specs.Session.{is_begin, is_stored, ends_session, all_blank, exchanged, noted}
use Rattle.night.specs.declared.name.Name.{Name}
use Rattle.night.specs.declared.name.Name.TheVariants.{ModeStart, VersionInfo, BankInfo, WriteStart, Packet, WriteEnd, ModeEnd}
use Rattle.demands.proofs.Arriving.{First, last, first, skip, skips, decides, hosted, roomy, came}
use Rattle.demands.proofs.Asking.{request_read, start_read, pair_good, start_tells}
use Rattle.demands.proofs.Demand1.{parameter_bytes}
use Rattle.demands.proofs.Demand2.{said_back, control_short, written_short, padded_whole, begins_blank}
use Rattle.demands.proofs.Bytes.{written_begin, written_stored}
use Rattle.demands.proofs.Reading.{bank_short, version_short}
use Rattle.demands.proofs.Rows.{Heard, own_mode}
use Rattle.demands.proofs.Sessions.{Session, Shows, step_shows, step_closes}

-- ---- when a request may go out: before the packets, or behind them

abbrev pub is_early : Name → Bool
is_early ModeStart = true
is_early VersionInfo = true
is_early BankInfo = true
is_early WriteStart = true
is_early (Packet p) = false
is_early WriteEnd = false
is_early ModeEnd = false

abbrev pub is_ending : Name → Bool
is_ending ModeStart = false
is_ending VersionInfo = false
is_ending BankInfo = false
is_ending WriteStart = false
is_ending (Packet p) = false
is_ending WriteEnd = true
is_ending ModeEnd = true

pub ending_late : (k : Name) → is_ending k ≡ true → is_early k ≡ false
ending_late ModeStart e = absurd (false≢true e)
ending_late VersionInfo e = absurd (false≢true e)
ending_late BankInfo e = absurd (false≢true e)
ending_late WriteStart e = absurd (false≢true e)
ending_late (Packet p) e = refl
ending_late WriteEnd e = refl
ending_late ModeEnd e = refl

-- ---- what an answer may tell the night sender of the board

-- neither a version, nor a sector stored, nor a session ended with 06
abbrev is_end : Command → Bool
is_end command.ModeStart = false
is_end command.BankInfo = false
is_end command.VersionInfo = false
is_end command.WriteStart = false
is_end command.WriteEnd = true
is_end command.ModeEnd = false

abbrev idle : Option Response → Bool
idle None = true
idle (Some (Plain c r)) = not (is_end c && eqb r 0x06)
idle (Some (Error r)) = true
idle (Some (Target x)) = true
idle (Some (Firmware id major minor revision)) = false
idle (Some (Written s r w crc)) = not (eqb r 0x06 && (eqb w 0x06 || eqb w 0x1D))

empty_idle : idle (response_of []) ≡ true
unfolding read_of response_in
empty_idle = refl

-- ---- the sessions of this image

module _ (image : List ℕ) (bank : Bank) (n : ℕ) where
  -- a session for this bank and N, which shows sectors of the image and 0xFF
  pub record Ours (b : Board) (g : List ℕ) : Type 0 where
    pub session : Session b g
    pub sectors : b.client.fixed.n ≡ n
    pub target : other_of b.client.fixed.running ≡ bank
    pub made : (s : ℕ) → 1 ≤ s → s ≤ n → (sector_of g s ≡ sector_of image s) ⊎ (sector_of g s ≡ blank_sector)

  -- each sector that is sent is shown
  abbrev pub AllIn : List ℕ → Type 0
  AllIn g = (q : ℕ) → q < packet_count image n → sector_of g (packet_sector image n q) ≡ sector_of image (packet_sector image n q)

-- P tells the openers whose modes count: every address, or one
module _ (image : List ℕ) (bank : Bank) (n : ℕ) (P : List ℕ → Type 0) where
  abbrev pub Writing : Board → Type 0
  Writing b = (b.client.state ≡ state.Write) × P b.client.opener

  abbrev pub Clean : Board → List ℕ → Type 0
  Clean b g = Writing b → Ours image bank n b g

  -- the update is in, and no session is under way
  pub record Done (b : Board) : Type 0 where
    pub sectors : b.client.fixed.n ≡ n
    pub target : other_of b.client.fixed.running ≡ bank
    pub is_image : sectors_in n b ≡ image
    pub starts_next : b.client.next ≡ bank
    pub resting : Writing b → ⊥

  -- a write end that is answered 06: before it g was shown
  pub record Ends (k : Name) (b : Board) (g : List ℕ) (o : Outcome) : Type 0 where
    pub hand : k ≡ WriteEnd
    pub writing : Writing b
    pub answers : said o ≡ control_frame 0x75 (0x06 ∷ [])
    pub control : o.board.client.state ≡ state.Control
    pub opener : o.board.client.opener ≡ b.client.opener
    pub done : Clean b g → AllIn image bank n g → Done o.board

  -- what a response of this board says, where the request of this name arrived: before it g was shown, and now h is
  abbrev pub Says : Name → Board → List ℕ → Outcome → List ℕ → Option Response → Type 0
  Says k b g o h None = Unit {0}
  Says k b g o h (Some (Plain command.ModeStart r)) = Unit {0}
  Says k b g o h (Some (Plain command.BankInfo r)) = Unit {0}
  Says k b g o h (Some (Plain command.VersionInfo r)) = Unit {0}
  Says k b g o h (Some (Plain command.WriteStart r)) = Unit {0}
  Says k b g o h (Some (Plain command.WriteEnd r)) = r ≡ 0x06 → Ends k b g o
  Says k b g o h (Some (Plain command.ModeEnd r)) = Unit {0}
  Says k b g o h (Some (Error r)) = Unit {0}
  Says k b g o h (Some (Target x)) = Unit {0}
  Says k b g o h (Some (Firmware id major minor revision)) = Clean o.board h
  Says k b g o h (Some (Written s r w crc)) =
      r ≡ 0x06 → Accepted w → (is_early k ≡ false) × (Clean b g → Writing o.board → sector_of h s ≡ sector_of image s)

  -- what one input does while the request of this name is at hand
  pub record Moves (k : Name) (b : Board) (g : List ℕ) (o : Outcome) (h : List ℕ) : Type 0 where
    pub clean : Clean b g → Clean o.board h
    pub kept : is_early k ≡ false → Clean b g → Writing o.board
        → Writing b × ((s : ℕ) → 1 ≤ s → s ≤ n → sector_of g s ≡ sector_of image s → sector_of h s ≡ sector_of image s)
    pub done : is_ending k ≡ true → Done b → Done o.board
    pub says : Says k b g o h (response_of (said o))

-- ---- answers that tell nothing

plain_idle : (c : Command) (r : ℕ) → may_carry false r ≡ true → added_of c r ≡ 0 → idle (Some (Plain c r)) ≡ true
    → idle (response_of (control_frame (response_code c) (r ∷ []))) ≡ true
plain_idle c r m z i = ap idle (sym (plain_back c r m z)) ∙ i

error_idle : idle (response_of parameter_error) ≡ true
unfolding may_carry
error_idle = ap (λ (l : List ℕ). idle (response_of l)) (sym parameter_bytes) ∙ ap idle (sym (error_back 0x05 refl))

declined_idle : (s : ℕ) → s < 65536 → idle (response_of (write_frame s (written_bytes 0x15 0x15 0) End)) ≡ true
unfolding may_carry repeats_of crc_fits
declined_idle s h = ap idle (sym (written_back s 0x15 0x15 0 h (omega arith) refl refl refl refl))

worn_idle : (s : ℕ) → s < 65536 → idle (response_of (write_frame s (written_bytes 0x06 0x1C 0) End)) ≡ true
unfolding may_carry repeats_of crc_fits
worn_idle s h = ap idle (sym (written_back s 0x06 0x1C 0 h (omega arith) refl refl refl refl))

pub stored_back : (s w crc : ℕ) → s < 65536 → crc < 2 ^ 32 → Accepted w
    → response_of (write_frame s (written_bytes 0x06 w crc) End) ≡ Some (Written s 0x06 w crc)
unfolding may_carry repeats_of crc_fits stored_of
stored_back s w crc h c (inl e) = rw e (sym (written_back s 0x06 0x06 crc h c refl refl refl (or-true (eqb crc 0))))
stored_back s w crc h c (inr e) = rw e (sym (written_back s 0x06 0x1D crc h c refl refl refl (or-true (eqb crc 0))))

-- a write response that tells of no sector stored
other_stored : (s r w crc : ℕ) → (eqb r 0x06 && (eqb w 0x06 || eqb w 0x1D)) ≡ false → is_stored (write_frame s (written_bytes r w crc) End) ≡ false
unfolding write_frame framed bytes_of
other_stored s r w crc e = e

stored_shows : (n : ℕ) (g datagram : List ℕ) (s w crc : ℕ) (footer : Footer) → Accepted w → read_of datagram ≡ Some (Write s 512 footer)
    → exchanged n g datagram (write_frame s (written_bytes 0x06 w crc) End) ≡ with_sector g s (padded_of (data_in datagram))
unfolding answer_bytes
stored_shows n g datagram s w crc footer a e = rw (written_begin s 0x06 w crc, written_stored s w crc a, e)

ends_so : ends_session (control_frame 0x75 (0x06 ∷ [])) ≡ true
unfolding control_frame framed
ends_so = refl

-- 15 in a command's own response
declined_begin : (code : ℕ) → is_begin (control_frame code (0x15 ∷ [])) ≡ false
unfolding control_frame framed
declined_begin code = and_false (eqb code 0x70)

declined_stored : (code : ℕ) → is_stored (control_frame code (0x15 ∷ [])) ≡ false
unfolding control_frame framed
declined_stored code = refl

declined_plain : (c : Command) → idle (Some (Plain c 0x15)) ≡ true
declined_plain c = ap not (and_false (is_end c))

-- ---- states

pub in_control : (s : State) (code : ℕ) → accepted_in state.Idle code ≡ false → accepted_in state.Write code ≡ false → accepted_in s code ≡ true
    → s ≡ state.Control
in_control state.Closed code i w e = absurd (false≢true e)
in_control state.Idle code i w e = absurd (false≢true (sym i ∙ e))
in_control state.Control code i w e = refl
in_control state.Write code i w e = absurd (false≢true (sym w ∙ e))

pub in_write_lem : (s : State) → takes_packets s ≡ true → s ≡ state.Write
in_write_lem state.Closed e = absurd (false≢true e)
in_write_lem state.Idle e = absurd (false≢true e)
in_write_lem state.Control e = absurd (false≢true e)
in_write_lem state.Write e = refl

ends_write : (s : State) → accepted_in s 0x45 ≡ true → s ≡ state.Write
ends_write state.Closed e = absurd (false≢true e)
ends_write state.Idle e = absurd (false≢true e)
ends_write state.Control e = absurd (false≢true e)
ends_write state.Write e = refl

module _ (image : List ℕ) (bank : Bank) (n : ℕ) (P : List ℕ → Type 0) where
  -- the update is in still where the record changes in these alone, and not to a write session
  still_done : (b : Board) (s : State) (latest : Latest) (opener : List ℕ) (received : List Bool) → in_write s ≡ false → Done image bank n P b
      → Done image bank n P (board (in_state s (lately latest (opened_by opener (having received b.client)))) b.pair)
  still_done b s latest opener received e d =
      record { sectors = d.sectors; target = d.target; is_image = d.is_image; starts_next = d.starts_next; resting = λ w. not_write s e w.0 }

  idle_says : (k : Name) (b : Board) (g : List ℕ) (o : Outcome) (h : List ℕ) (r : Option Response) → idle r ≡ true → Says image bank n P k b g o h r
  idle_says k b g o h None e = tt
  idle_says k b g o h (Some (Plain command.ModeStart r)) e = tt
  idle_says k b g o h (Some (Plain command.BankInfo r)) e = tt
  idle_says k b g o h (Some (Plain command.VersionInfo r)) e = tt
  idle_says k b g o h (Some (Plain command.WriteStart r)) e = tt
  idle_says k b g o h (Some (Plain command.WriteEnd r)) e = λ q. absurd (false≢true (sym (ap (λ (x : ℕ). not (eqb x 0x06)) q) ∙ e))
  idle_says k b g o h (Some (Plain command.ModeEnd r)) e = tt
  idle_says k b g o h (Some (Error r)) e = tt
  idle_says k b g o h (Some (Target x)) e = tt
  idle_says k b g o h (Some (Firmware id major minor revision)) e = absurd (false≢true e)
  idle_says k b g o h (Some (Written s r w crc)) e = λ q a. absurd (false≢true (sym (told q a) ∙ e))
    where
      told : r ≡ 0x06 → Accepted w → not (eqb r 0x06 && (eqb w 0x06 || eqb w 0x1D)) ≡ false
      told q (inl a) = rw (q, a)
      told q (inr a) = rw (q, a)

  module _ (k : Name) (b : Board) (g : List ℕ) (o : Outcome) (h : List ℕ) where
    -- nothing changed
    stands : o.board ≡ b → h ≡ g → Says image bank n P k b g o h (response_of (said o)) → Moves image bank n P k b g o h
    stands e q says =
        record {
          clean = λ c. subst (λ (x : Board). Clean image bank n P x h) (sym e) (subst (λ (x : List ℕ). Clean image bank n P b x) (sym q) c);
          kept = λ _ _ w. (subst (Writing image bank n P) e w, λ s l u z. ap (λ (x : List ℕ). sector_of x s) q ∙ z);
          done = λ _ d. subst (Done image bank n P) (sym e) d;
          says = says;
        }

    stays : o.board ≡ b → h ≡ g → idle (response_of (said o)) ≡ true → Moves image bank n P k b g o h
    stays e q i = stands e q (idle_says k b g o h (response_of (said o)) i)

    -- the session, if there was one, is over
    rests : (o.board.client.state ≡ state.Write → ⊥) → (is_ending k ≡ true → Done image bank n P b → Done image bank n P o.board)
        → Says image bank n P k b g o h (response_of (said o)) → Moves image bank n P k b g o h
    rests r d s = record { clean = λ _ w. absurd (r w.0); kept = λ _ _ w. absurd (r w.0); done = d; says = s }

  -- ---- what an answer leaves shown

  module _ (k : Name) (b : Board) (g : List ℕ) (call : LentCall) where
    abbrev shown : Outcome → List ℕ
    shown o = noted b.client.fixed.n g (Datagram call) o

    abbrev Fine : Outcome → Type 0
    Fine o = step_machine b (Datagram call) ≡ o → Moves image bank n P k b g o (shown o)

    refused-fine : (number : ℕ) → Fine (refused b call.buffer number)
    refused-fine number _ = stays k b g (refused b call.buffer number) g refl refl empty_idle

    abbrev spoken : List ℕ → List ℕ
    spoken answer = take (length answer) (front_of call.buffer answer)

    quietly : (answer : List ℕ) → spoken answer ≡ answer → is_begin answer ≡ false → is_stored answer ≡ false
        → exchanged b.client.fixed.n g call.datagram (spoken answer) ≡ g
    quietly answer e i s = ap (exchanged b.client.fixed.n g call.datagram) e ∙ rw (i, s)

    module _ (room : 14 ≤ length call.buffer) where
      answered-fine : (answer : List ℕ) → length answer ≤ 14 → is_begin answer ≡ false → is_stored answer ≡ false → idle (response_of answer) ≡ true
          → Fine (answered b call answer)
      answered-fine answer l i s d _ =
          let e : spoken answer ≡ answer = said_back call answer l room in
          stays k b g (answered b call answer) (shown (answered b call answer)) refl (quietly answer e i s) (ap (λ (x : List ℕ). idle (response_of x)) e ∙ d)

      parameter-fine : Fine (answered b call parameter_error)
      parameter-fine = answered-fine parameter_error (omega arith) refl refl error_idle

      -- a response with a result alone, and a record that is no session's
      changed-fine : (c : Client) (notice : MaybeNotice) (answer : List ℕ) → length answer ≤ 14 → idle (response_of answer) ≡ true
          → (c.state ≡ state.Write → ⊥) → (is_ending k ≡ true → Done image bank n P b → Done image bank n P (board c b.pair)) → Fine (changed b call c notice answer)
      changed-fine c notice answer l d r e _ =
          let o : Outcome = changed b call c notice answer in
          rests k b g o (shown o) r e
          (idle_says k b g o (shown o) (response_of (said o)) (ap (λ (x : List ℕ). idle (response_of x)) (said_back call answer l room) ∙ d))

  -- ---- the requests, one by one

  module _ (b : Board) (g : List ℕ) (call : LentCall) where
    abbrev Arrived : Name → Type 0
    Arrived k = Moves image bank n P k b g (step_machine b (Datagram call)) (shown k b g call (step_machine b (Datagram call)))

    by_rows : (k : Name) (r : Option Frame) → read_of call.datagram ≡ r → is_fault r ≡ false
        → (Heard b call → First (Fine k b g call) (after_frame b call r)) → Arrived k
    by_rows k r e f rows =
        came b call (Fine k b g call) (refused-fine k b g call) (λ t _. absurd (false≢true (sym (ap is_fault e ∙ f) ∙ t)))
        (λ _ h. subst (λ (x : Option Frame). First (Fine k b g call) (after_frame b call x)) (sym e) (rows h)) refl

    -- a control frame: from a stranger, and out of its state, it is answered 15, and then come the rows behind the state
    by-control : (k : Name) (c : Command) (code m : ℕ) → read_of call.datagram ≡ Some (Control code m) → no_request (Some (Control code m)) ≡ false
        → wrong_length (Some (Control code m)) ≡ false → negative_response (Some (Control code m)) ≡ control_frame (response_code c) (0x15 ∷ [])
        → (Heard b call → from_stranger b.client call.address ≡ false → wrong_state b.client.state (Some (Control code m)) ≡ false
        → First (Fine k b g call) (drop 4 (after_frame b call (Some (Control code m)))))
        → Arrived k
    unfolding may_carry added_of
    by-control k c code m e n l r rows =
        by_rows k (Some (Control code m)) e refl
        (λ h.
        let declined : Fine k b g call (answered b call (negative_response (Some (Control code m)))) =
        subst (λ (x : List ℕ). Fine k b g call (answered b call x)) (sym r)
        (answered-fine k b g call (roomy b call h) (control_frame (response_code c) (0x15 ∷ [])) (control_short (response_code c) 0x15)
        (declined_begin (response_code c)) (declined_stored (response_code c)) (plain_idle c 0x15 refl refl (declined_plain c))) in
        skip n (skip l (first (λ _. declined) (λ o. first (λ _. declined) (λ w. rows h o w)))))

    pub mode-start-moves : call.datagram ≡ request_frame request.ModeStart → Arrived ModeStart
    unfolding control_frame framed may_carry added_of
    mode-start-moves e =
        by-control ModeStart command.ModeStart 0x61 0 (ap read_of e ∙ request_read request.ModeStart) refl refl refl
        (λ h _ _.
        skips 4 refl
        (decides refl
        (changed-fine ModeStart b g call (roomy b call h) (opened call.address b.client) (Some (Started call.address)) (control_frame 0x71 (0x06 ∷ []))
        (control_short 0x71 0x06) (plain_idle command.ModeStart 0x06 refl refl refl) (not_write state.Control refl) (λ x. absurd (false≢true x)))))

    -- a version is told in control state
    version-fine : b.client.fixed.revision < 2 ^ 32 → 14 ≤ length call.buffer → b.client.state ≡ state.Control
        → Fine VersionInfo b g call (answered b call (control_frame 0x78 (version_bytes b.client.fixed.major b.client.fixed.minor b.client.fixed.revision)))
    unfolding control_frame framed bytes_of
    version-fine revision room c _ =
        let f : Fixed = b.client.fixed in
        let answer : List ℕ = control_frame 0x78 (version_bytes f.major f.minor f.revision) in
        let o : Outcome = answered b call answer in
        let e : said o ≡ answer = said_back call answer (version_short f.major f.minor f.revision) room in
        let reads : response_of (said o) ≡ Some (Firmware 0x0400 f.major f.minor f.revision) =
        ap response_of e ∙ sym (version_back 0x0400 f.major f.minor f.revision (omega arith) revision) in
        stands VersionInfo b g o (shown VersionInfo b g call o) refl (quietly VersionInfo b g call answer e refl refl)
        (subst (Says image bank n P VersionInfo b g o (shown VersionInfo b g call o)) (sym reads) (λ w. absurd (not_write state.Control refl (sym c ∙ w.0))))

    pub version-moves : b.client.fixed.revision < 2 ^ 32 → call.datagram ≡ request_frame request.VersionInfo → Arrived VersionInfo
    unfolding control_frame framed may_carry added_of
    version-moves revision e =
        by-control VersionInfo command.VersionInfo 0x68 0 (ap read_of e ∙ request_read request.VersionInfo) refl refl refl
        (λ h _ w.
        skips 6 refl (decides refl (version-fine revision (roomy b call h) (in_control b.client.state 0x68 refl refl (not-false _ w)))))

    pub bank-moves : call.datagram ≡ request_frame request.BankInfo → Arrived BankInfo
    unfolding control_frame framed may_carry added_of
    bank-moves e =
        let target : Bank = other_of b.client.fixed.running in
        by-control BankInfo command.BankInfo 0x62 0 (ap read_of e ∙ request_read request.BankInfo) refl refl refl
        (λ h _ _.
        skips 5 refl
        (decides refl
        (answered-fine BankInfo b g call (roomy b call h) (control_frame 0x72 (0x06 ∷ bank_number target ∷ [])) (bank_short target) refl refl
        (ap idle (sym (bank_back target))))))

    pub mode-end-moves : call.datagram ≡ request_frame request.ModeEnd → Arrived ModeEnd
    unfolding control_frame framed may_carry added_of
    mode-end-moves e =
        by-control ModeEnd command.ModeEnd 0x64 0 (ap read_of e ∙ request_read request.ModeEnd) refl refl refl
        (λ h _ _.
        skips 8 refl
        (decides refl
        (changed-fine ModeEnd b g call (roomy b call h) (mode_ended b.client) (Some (Ended (latest_number b.client.latest) call.address))
        (control_frame 0x74 (0x06 ∷ [])) (control_short 0x74 0x06) (plain_idle command.ModeEnd 0x06 refl refl refl) (not_write state.Idle refl)
        (λ _ d. still_done b state.Idle Nothing nobody none_received refl d))))

    -- ---- a session begins

    -- what is shown then
    shows_then : (o : Outcome) → step_machine b (Datagram call) ≡ o → Shows b g → Shows o.board (noted b.client.fixed.n g (Datagram call) o)
    shows_then o e v =
        subst (λ (x : Outcome). Shows x.board (noted b.client.fixed.n g (Datagram call) x)) e (step_shows b g (Datagram call) v)

    begun-fine : 14 ≤ length call.buffer → b.client.state ≡ state.Control → other_of b.client.fixed.running ≡ bank → b.client.fixed.n ≡ n
        → Fine WriteStart b g call (changed b call (begun (starting b.client.fixed.running b.client)) None (control_frame 0x70 (0x06 ∷ [])))
    unfolding may_carry added_of
    begun-fine room c target sectors e =
        let o : Outcome = changed b call (begun (starting b.client.fixed.running b.client)) None (control_frame 0x70 (0x06 ∷ [])) in
        let s : said o ≡ control_frame 0x70 (0x06 ∷ []) = said_back call (control_frame 0x70 (0x06 ∷ [])) (control_short 0x70 0x06) room in
        let h : List ℕ = shown WriteStart b g call o in
        let blank : h ≡ all_blank n =
        ap (exchanged b.client.fixed.n g call.datagram) s ∙ begins_blank b.client.fixed.n g call.datagram ∙ ap all_blank sectors in
        record {
          clean = λ _ w.
              record {
                session = shows_then o e (λ x. absurd (not_write state.Control refl (sym c ∙ x))) w.0;
                sectors = sectors;
                target = target;
                made = λ k l u. inr (ap (λ (x : List ℕ). sector_of x k) blank ∙ sector_blanks n k l u);
              };
          kept = λ x. absurd (false≢true (sym x));
          done = λ x. absurd (false≢true x);
          says =
              idle_says WriteStart b g o h (response_of (said o))
              (ap (λ (x : List ℕ). idle (response_of x)) s ∙ plain_idle command.WriteStart 0x06 refl refl refl);
        }

    pub write-start-moves : good_n n ≡ true → call.datagram ≡ request_frame (request.WriteStart bank n) → Arrived WriteStart
    unfolding control_frame framed may_carry added_of
    write-start-moves good e =
        by-control WriteStart command.WriteStart 0x40 8 (ap read_of e ∙ start_read bank n) refl refl refl
        (λ h _ w.
        first (λ _. parameter-fine WriteStart b g call (roomy b call h))
        (λ v.
        let told = start_tells b.client.fixed bank n good h.good (subst (pair_good b.client.fixed) e (not-false _ v)) in
        skips 6 refl (decides refl (begun-fine (roomy b call h) (in_control b.client.state 0x40 refl refl (not-false _ w)) told.0 told.1))))

  -- ---- a session of ours

  -- the session's image has n sectors
  ours_long : (b : Board) (g : List ℕ) → Ours image bank n b g → length g ≡ bank_size n
  ours_long b g o =
      let s = o.session in
      sym (ap length s.shows)
      ∙ length_sweep (sectors_in b.client.fixed.n b) b.client.fixed.n b.client.received
      ∙ length-take-le (bank_size b.client.fixed.n) (target_bank b) s.room
      ∙ ap bank_size o.sectors

  -- all that is sent is shown, and nothing else but 0xFF: it is the image
  pub whole_image : length image ≡ bank_size n → (b : Board) (g : List ℕ) → Ours image bank n b g → AllIn image bank n g → g ≡ image
  whole_image size b g o all = ext_sector g image n (ours_long b g o) size each
    where
      each : (s : ℕ) → 1 ≤ s → s ≤ n → sector_of g s ≡ sector_of image s
      each zero a l = absurd (omega arith)
      each (suc j) a l = by (blank_of (sector_of image (suc j))) refl (o.made (suc j) a l)
        where
          by : (t : Bool) → blank_of (sector_of image (suc j)) ≡ t → (sector_of g (suc j) ≡ sector_of image (suc j)) ⊎ (sector_of g (suc j) ≡ blank_sector)
              → sector_of g (suc j) ≡ sector_of image (suc j)
          by t e (inl m) = m
          by true e (inr m) = m ∙ sym (blank_whole (sector_of image (suc j)) (sector_length image n (omega (arith, size)) (suc j) a l) e)
          by false e (inr m) =
              let s : SentAt image n (suc j) (packet_count image j) = used_sent image n j l e in
              sym (ap (sector_of g) s.sector) ∙ all (packet_count image j) s.below ∙ ap (sector_of image) s.sector

  -- ---- a packet

  module _ (good : good_n n ≡ true) (size : length image ≡ bank_size n) (p : ℕ) (there : p < packet_count image n) where
    abbrev k : ℕ
    k = packet_sector image n p

    sent : Sent image n k
    sent = sent_in image n p there

    by_sectors : length image ≡ 512 * n
    by_sectors = omega (arith, size)

    small : k < 65536
    small = omega (arith, sent.high, good_high n good)

    full : length (sector_of image k) ≡ 512
    full = sector_length image n by_sectors k sent.low sent.high

    module _ (b : Board) (g : List ℕ) (call : LentCall) (brings : call.datagram ≡ packet_frame image n p) where
      pub reads : read_of call.datagram ≡ Some (Write k 512 (footer_of (packet_count image n) p))
      reads = ap read_of brings ∙ sym (packet_read image n p good by_sectors there)

      pub padded_are : padded_of (data_in call.datagram) ≡ sector_of image k
      padded_are = ap padded_of (ap data_in brings ∙ packet_data image n p) ∙ padded_whole (sector_of image k) full

      -- the sector is shown, and the others as before
      module _ (o : Ours image bank n b g) where
        lies : (s : ℕ) → 1 ≤ s → s ≤ n → Lies (length g) s
        lies s l u = record { first = l; last = omega (arith, ours_long b g o) }

        here : sector_of (with_sector g k (sector_of image k)) k ≡ sector_of image k
        here = with_here g k (sector_of image k) (lies k sent.low sent.high) full

        others : (s : ℕ) → 1 ≤ s → s ≤ n → (s ≡ k → ⊥) → sector_of (with_sector g k (sector_of image k)) s ≡ sector_of g s
        others s l u ne = with_other g k (sector_of image k) (lies k sent.low sent.high) full s (lies s l u) ne

        still-made : (s : ℕ) → 1 ≤ s → s ≤ n → (sector_of g s ≡ sector_of image s) ⊎ (sector_of g s ≡ blank_sector)
            → (sector_of (with_sector g k (sector_of image k)) s ≡ sector_of image s) ⊎ (sector_of (with_sector g k (sector_of image k)) s ≡ blank_sector)
        still-made s l u m = by (ℕ_discrete s k) m
          where
            by : Dec (s ≡ k) → (sector_of g s ≡ sector_of image s) ⊎ (sector_of g s ≡ blank_sector)
                → (sector_of (with_sector g k (sector_of image k)) s ≡ sector_of image s) ⊎ (sector_of (with_sector g k (sector_of image k)) s ≡ blank_sector)
            by (yes e) m = inl (ap (sector_of (with_sector g k (sector_of image k))) e ∙ here ∙ ap (sector_of image) (sym e))
            by (no ne) (inl m) = inl (others s l u ne ∙ m)
            by (no ne) (inr m) = inr (others s l u ne ∙ m)

        still-in : (s : ℕ) → 1 ≤ s → s ≤ n → sector_of g s ≡ sector_of image s → sector_of (with_sector g k (sector_of image k)) s ≡ sector_of image s
        still-in s l u m = by (ℕ_discrete s k)
          where
            by : Dec (s ≡ k) → sector_of (with_sector g k (sector_of image k)) s ≡ sector_of image s
            by (yes e) = ap (sector_of (with_sector g k (sector_of image k))) e ∙ here ∙ ap (sector_of image) (sym e)
            by (no ne) = others s l u ne ∙ m

      stored-fine : 14 ≤ length call.buffer → b.client.state ≡ state.Write
          → Fine (Packet p) b g call (packet_stored b call (Some (Write k 512 (footer_of (packet_count image n) p))))
      unfolding may_carry repeats_of crc_fits stored_of
      stored-fine room w e =
          let o : Outcome = packet_stored b call (Some (Write k 512 (footer_of (packet_count image n) p))) in
          let bytes : List ℕ = data_in call.datagram in
          let already : Bool = same_of (sector_of (lent_target b call) k) (padded_of bytes) in
          let result : ℕ = store_result (blank_of bytes) already in
          let crc : ℕ = crc_of (padded_of bytes) in
          let answer : List ℕ = write_frame k (written_bytes 0x06 result crc) End in
          let s : said o ≡ answer = said_back call answer (written_short k 0x06 result crc) room in
          let taken : Accepted result = accepted (blank_of bytes) already in
          let h : List ℕ = shown (Packet p) b g call o in
          let is : h ≡ with_sector g k (sector_of image k) =
          ap (exchanged b.client.fixed.n g call.datagram) s
          ∙ stored_shows b.client.fixed.n g call.datagram k result crc (footer_of (packet_count image n) p) taken reads
          ∙ ap (with_sector g k) padded_are in
          let says-stored : response_of (said o) ≡ Some (Written k 0x06 result crc) = ap response_of s ∙ stored_back k result crc small (of_lt (padded_of bytes)) taken in
          record {
            clean = λ c v.
                let ours = c (w, v.1) in
                record {
                  session = shows_then b g call o e (λ _. ours.session) v.0;
                  sectors = ours.sectors;
                  target = ours.target;
                  made = λ j l u.
                      subst (λ (x : List ℕ). (sector_of x j ≡ sector_of image j) ⊎ (sector_of x j ≡ blank_sector)) (sym is) (still-made ours j l u (ours.made j l u));
                };
            kept = λ _ c v. ((w, v.1), λ j l u m. ap (λ (x : List ℕ). sector_of x j) is ∙ still-in (c (w, v.1)) j l u m);
            done = λ x. absurd (false≢true x);
            says =
                subst (Says image bank n P (Packet p) b g o h) (sym says-stored)
                (λ _ _. (refl, λ c v. ap (λ (x : List ℕ). sector_of x k) is ∙ here (c (w, v.1))));
          }

      pub packet-moves : Moves image bank n P (Packet p) b g (step_machine b (Datagram call)) (shown (Packet p) b g call (step_machine b (Datagram call)))
      unfolding answer_bytes
      packet-moves =
          by_rows b g call (Packet p) (Some (Write k 512 (footer_of (packet_count image n) p))) reads refl
          (λ h.
          let room = roomy b call h in
          let declined =
          answered-fine (Packet p) b g call room (write_frame k (written_bytes 0x15 0x15 0) End) (written_short k 0x15 0x15 0)
          (written_begin k 0x15 0x15 0) (other_stored k 0x15 0x15 0 refl) (declined_idle k small) in
          skips 2 refl
          (first (λ _. declined)
          (λ _.
          first (λ _. declined)
          (λ w.
          first (λ _. parameter-fine (Packet p) b g call room)
          (λ _.
          first
          (λ _.
          answered-fine (Packet p) b g call room (write_frame k (written_bytes 0x06 0x1C 0) End) (written_short k 0x06 0x1C 0)
          (written_begin k 0x06 0x1C 0) (other_stored k 0x06 0x1C 0 refl) (worn_idle k small))
          (λ _. skip refl (decides refl (stored-fine room (in_write_lem b.client.state (not-false _ w))))))))))

  -- ---- the write end

  module _ (size : length image ≡ bank_size n) (b : Board) (g : List ℕ) (call : LentCall) where
    -- a session is over, without 06
    over-fine : 14 ≤ length call.buffer → Writing image bank n P b → (result : ℕ) → (o : Outcome) → o.board.client.state ≡ state.Control
        → said o ≡ control_frame 0x75 (result ∷ []) → idle (response_of (control_frame 0x75 (result ∷ []))) ≡ true → Fine WriteEnd b g call o
    over-fine room w result o c s d _ =
        rests WriteEnd b g o (shown WriteEnd b g call o) (λ x. absurd (not_write state.Control refl (sym c ∙ x))) (λ _ d. absurd (d.resting w))
        (idle_says WriteEnd b g o (shown WriteEnd b g call o) (response_of (said o)) (ap (λ (x : List ℕ). idle (response_of x)) s ∙ d))

    abbrev goodEnd : Outcome
    goodEnd = stored b call (starting (other_of b.client.fixed.running) (ended Good b.client)) (swept_target b call) (control_frame 0x75 (0x06 ∷ []))

    ended-fine : 14 ≤ length call.buffer → Writing image bank n P b → Fine WriteEnd b g call goodEnd
    unfolding may_carry added_of
    ended-fine room w e =
        let o : Outcome = goodEnd in
        let h : List ℕ = shown WriteEnd b g call o in
        let s : said o ≡ control_frame 0x75 (0x06 ∷ []) = said_back call (control_frame 0x75 (0x06 ∷ [])) (control_short 0x75 0x06) room in
        let reads : response_of (said o) ≡ Some (Plain command.WriteEnd 0x06) = ap response_of s ∙ sym (plain_back command.WriteEnd 0x06 refl refl) in
        rests WriteEnd b g o h (not_write state.Control refl) (λ _ d. absurd (d.resting w))
        (subst (Says image bank n P WriteEnd b g o h) (sym reads)
        (λ _.
        record {
          hand = refl;
          writing = w;
          answers = s;
          control = refl;
          opener = refl;
          done = λ c all.
              let ours = c w in
              let closed : sectors_in b.client.fixed.n o.board ≡ g =
              subst (λ (x : Outcome). sectors_in b.client.fixed.n x.board ≡ g) e
              (step_closes b g (Datagram call) (λ _. ours.session) (ap (λ (x : Outcome). ends_session (said x)) e ∙ ap ends_session s ∙ ends_so)) in
              record {
                sectors = ours.sectors;
                target = ours.target;
                is_image = ap (λ (x : ℕ). sectors_in x o.board) (sym ours.sectors) ∙ closed ∙ whole_image size b g ours all;
                starts_next = ours.target;
                resting = λ x. not_write state.Control refl x.0;
              };
        }))

    pub write-end-moves : P call.address → call.datagram ≡ request_frame request.WriteEnd
        → Moves image bank n P WriteEnd b g (step_machine b (Datagram call)) (shown WriteEnd b g call (step_machine b (Datagram call)))
    unfolding control_frame framed may_carry added_of
    write-end-moves own e =
        by-control b g call WriteEnd command.WriteEnd 0x45 0 (ap read_of e ∙ request_read request.WriteEnd) refl refl refl
        (λ h o v.
        let room = roomy b call h in
        let s = ends_write b.client.state (not-false _ v) in
        let w : Writing image bank n P b = (s, subst P (own_mode b.client call.address o (ap is_open s)) own) in
        skips 2 refl
        (first
        (λ _.
        over-fine room w 0x1C _ refl (said_back call (control_frame 0x75 (0x1C ∷ [])) (control_short 0x75 0x1C) room)
        (plain_idle command.WriteEnd 0x1C refl refl refl))
        (λ _.
        skips 6 refl
        (first (λ _. ended-fine room w)
        (λ _.
        decides refl
        (over-fine room w 0x1E _ refl (said_back call (control_frame 0x75 (0x1E ∷ [])) (control_short 0x75 0x1E) room)
        (plain_idle command.WriteEnd 0x1E refl refl refl)))))))

  -- ---- the host

  module _ (k : Name) (b : Board) (g : List ℕ) where
    refused-host : (number : ℕ) → Moves image bank n P k b g (refused b [] number) g
    refused-host number = stays k b g (refused b [] number) g refl refl empty_idle

    done-host : (c : Client) → (c.state ≡ state.Write → ⊥) → (Done image bank n P b → Done image bank n P (board c b.pair))
        → Moves image bank n P k b g (host_done b c) g
    done-host c r d = rests k b g (host_done b c) g r (λ _. d) (idle_says k b g (host_done b c) g (response_of []) empty_idle)

    pub initiate-moves : Moves image bank n P k b g (step_machine b Initiate) g
    initiate-moves =
        hosted (λ (o : Outcome). Moves image bank n P k b g o g) b Initiate
        (first (λ _. refused-host 3)
        (λ _.
        first (λ _. refused-host 4)
        (λ _.
        first
        (λ _.
        done-host (initiated b.client) (not_write state.Idle refl)
        (still_done b state.Idle b.client.latest b.client.opener b.client.received refl))
        (λ _. last))))

    pub terminate-moves : Moves image bank n P k b g (step_machine b Terminate) g
    terminate-moves =
        hosted (λ (o : Outcome). Moves image bank n P k b g o g) b Terminate
        (first (λ _. refused-host 3)
        (λ _.
        first (λ _. refused-host 4)
        (λ _.
        first
        (λ _.
        done-host (terminated b.client) (not_write state.Closed refl)
        (still_done b state.Closed Nothing nobody none_received refl))
        (λ _. last))))
