-- A board that waits serves each request of a night: the answer to one that arrives settles it, whether it came before or not.
-- Assumes nothing.
use Rattle.std.specs.Prelude.{Option, Some}
use mathlib.Core.Path.{◌≡◌, refl, sym, ap, subst, ◌∙◌}
use mathlib.Core.Logic.{◌⊎◌, inl, inr}
use mathlib.Core.Bool.{Bool, true, false, false≢true}
use mathlib.Core.List.{List, [], ◌∷◌}
use Prim.Native.Nat.{ℕ, ◌-◌, ◌^◌, ◌≤◌, ◌<◌}
use native.Mathlib.Omega.{arith}
use lib.Dec.{leb}
use lib.ListN.{length, get_or, take, get_or-replicate}
use borrow.Author.Tests.{le-leb}
use Rattle.buffer.specs.Compare.{blank_of, same_of}
use Rattle.buffer.specs.Number.{bytes_of}
use Rattle.buffer.specs.Place.{front_of}
use Rattle.crc.specs.Crc.{crc_of}
use Rattle.crc.proofs.Laws.{of_lt}
use Rattle.frame.specs.Frame.{control_frame, write_frame}
use Rattle.frame.specs.Read.{read_of, data_in}
use Rattle.frame.specs.declared.read.Footer.TheVariants.{End}
use Rattle.flash.specs.Sector.{padded_of}
use Rattle.layout.specs.declared.Bank.{Bank}
use Rattle.layout.specs.Layout.{good_n, bank_size, bank_number, other_of, sector_of}
use Rattle.layout.specs.Pair.{bank_in}
use Rattle.layout.proofs.Layouts.{good_high}
use Rattle.commands.specs.declared.Command.TheVariants as command
use Rattle.response.specs.declared.read.Response.{Response}
use Rattle.response.specs.declared.read.Response.TheVariants.{Target, Written}
use Rattle.response.specs.Response.{may_carry, added_of, response_of}
use Rattle.response.proofs.Answers.{plain_back, bank_back, version_back}
use Rattle.sender.specs.declared.request.Request.TheVariants as request
use Rattle.sender.specs.Packet.{packet_count, packet_sector, footer_of}
use Rattle.sender.specs.Request.{request_frame}
use Rattle.sender.proofs.Packets.{Sent, sent_in}
use Rattle.exchange.specs.declared.state.State.{State}
use Rattle.exchange.specs.declared.state.State.TheVariants as state
use Rattle.exchange.specs.Answer.{version_bytes, written_bytes}
use Rattle.exchange.specs.State.{is_closed, is_open}
use Rattle.client.specs.Perform.{Accepted, fit_of, store_result}
use Rattle.decision.specs.declared.plan.Fixed.{Fixed}
use Rattle.decision.specs.Plan.{is_worn, any_worn, values_good}
use Rattle.decision.proofs.Planning.{values-words}
use Rattle.calls.proofs.Courses.{accepted}
use Rattle.calls.specs.Call.{Board}
use Rattle.night.specs.declared.name.Name.{Name}
use Rattle.night.specs.declared.name.Name.TheVariants.{ModeStart, VersionInfo, BankInfo, WriteStart, Packet, WriteEnd, ModeEnd}
use Rattle.night.specs.Name.{number_of, frame_of}
use Rattle.night.proofs.Judged.{Settling, done_own, ended_own, settled_version, settled_bank, settled_packet}
use Rattle.demands.specs.Board.{LentCall, Input, Datagram, Outcome, said, lent_target, step_machine}
use Rattle.demands.specs.Demand1.{from_stranger, swept_target}
use Rattle.demands.specs.Demand2.{Lends, SentFrom}
use Rattle.demands.specs.Night.{Startable}
use Rattle.demands.proofs.Asking.{request_read, start_read, pair_good, start_addressed}
use Rattle.demands.proofs.Demand2.{lent_whole, heard, no_mark, said_back, control_short, written_short}
use Rattle.demands.proofs.NightBoard.{Ours, whole_image, reads, padded_are, stored_back}
use Rattle.demands.proofs.NightLoop.{clean-heard, all-heard, Anyone, UpdateIn, Known}
use Rattle.demands.proofs.Reading.{bank_short, version_short}
use Rattle.demands.proofs.Rows.{
  Heard,
  from_opener_lem,
  write_start,
  packet,
  write_end,
  mode_start,
  mode_end,
  version,
  bank_told,
  mode_start_declined,
  write_start_declined,
  mode_end_declined,
}
use Rattle.demands.proofs.Sessions.{lent_shows}
use Rattle.demands.proofs.Steps.{machine_stays, lengths_kept}

module _ (image : List ℕ) (bank : Bank) (n tries : ℕ) (st : Startable image n tries) where
  abbrev count : ℕ
  count = packet_count image n

  size : length image ≡ bank_size n
  size = omega (arith, st.whole)

  -- ---- a board that this image is for

  pub record Fitting (b : Board) : Type 0 where
    pub sectors : b.client.fixed.n ≡ n
    pub target : other_of b.client.fixed.running ≡ bank
    pub sound : fit_of b.client.fixed image ≡ true
    pub revision : b.client.fixed.revision < 2 ^ 32
    pub whole : (x : Bank) → length (bank_in x b.pair) ≡ bank_size n

  pub still_fitting : (b : Board) (i : Input) → Fitting b → Fitting (step_machine b i).board
  still_fitting b i f =
      let e = sym (machine_stays b i) in
      record {
        sectors = subst (λ (x : Fixed). x.n ≡ n) e f.sectors;
        target = subst (λ (x : Fixed). other_of x.running ≡ bank) e f.target;
        sound = subst (λ (x : Fixed). fit_of x image ≡ true) e f.sound;
        revision = subst (λ (x : Fixed). x.revision < 2 ^ 32) e f.revision;
        whole = λ x. lengths_kept b i x ∙ f.whole x;
      }

  -- ---- who opened the mode, where one is open

  abbrev pub Held : List ℕ → Board → Type 0
  Held address b = is_open b.client.state ≡ true → b.client.opener ≡ address

  -- ---- its state, by the request at hand and how often that has gone out

  abbrev pub Phase : Name → ℕ → Board → Type 0
  Phase ModeStart gone b = (b.client.state ≡ state.Idle) ⊎ ((b.client.state ≡ state.Control) × (2 ≤ gone))
  Phase VersionInfo gone b = b.client.state ≡ state.Control
  Phase BankInfo gone b = b.client.state ≡ state.Control
  Phase WriteStart gone b = (b.client.state ≡ state.Control) ⊎ ((b.client.state ≡ state.Write) × (2 ≤ gone))
  Phase (Packet p) gone b = b.client.state ≡ state.Write
  Phase WriteEnd gone b = b.client.state ≡ state.Write
  Phase ModeEnd gone b = (b.client.state ≡ state.Control) ⊎ ((b.client.state ≡ state.Idle) × (2 ≤ gone))

  -- and once it has arrived
  abbrev pub state_after : Name → State
  state_after ModeStart = state.Control
  state_after VersionInfo = state.Control
  state_after BankInfo = state.Control
  state_after WriteStart = state.Write
  state_after (Packet p) = state.Write
  state_after WriteEnd = state.Control
  state_after ModeEnd = state.Idle

  abbrev pub SettledBy : Name → ℕ → List ℕ → Type 0
  SettledBy k gone answer = Settling k (leb 2 gone) bank image (packet_sector image n (number_of k)) (response_of answer)

  pub record Served (address : List ℕ) (k : Name) (gone : ℕ) (o : Outcome) : Type 0 where
    pub settles : SettledBy k gone (said o)
    pub then : o.board.client.state ≡ state_after k
    pub held : Held address o.board

  version_settles : (major minor revision gone : ℕ) → revision < 2 ^ 32
      → SettledBy VersionInfo gone (control_frame 0x78 (version_bytes major minor revision))
  unfolding bytes_of
  version_settles major minor revision gone h =
      subst (λ (r : Option Response). Settling VersionInfo (leb 2 gone) bank image (packet_sector image n 0) r) (version_back 0x0400 major minor revision (omega arith) h)
      (settled_version 0x0400 major minor revision)

  -- ---- each request that arrives

  module _ (address : List ℕ) (b : Board) (f : Fitting b) (holds : Held address b) (call : LentCall) (comes : SentFrom address n call) where
    l : Lends n call
    l = comes.lends

    -- ours, or no mode is open
    own : from_stranger b.client call.address ≡ false
    own = by (is_open b.client.state) refl
      where
        by : (t : Bool) → is_open b.client.state ≡ t → from_stranger b.client call.address ≡ false
        by true e = from_opener_lem b.client call.address (comes.sender ∙ sym (holds e))
        by false e = rw e

    good : good_n b.client.fixed.n ≡ true
    good = ap good_n f.sectors ∙ st.good

    lends : Lends b.client.fixed.n call
    lends = subst (λ (x : ℕ). Lends x call) (sym f.sectors) l

    all : (x : Bank) → length (bank_in x b.pair) ≡ bank_size b.client.fixed.n
    all x = f.whole x ∙ ap bank_size (sym f.sectors)

    in-state : (s : State) → is_closed s ≡ false → b.client.state ≡ s → Heard b call
    in-state s c e = heard b call good lends all (ap is_closed e ∙ c)

    back : (answer : List ℕ) → length answer ≤ 14 → take (length answer) (front_of call.buffer answer) ≡ answer
    back answer h = said_back call answer h l.room

    served : (k : Name) (gone : ℕ) (o : Outcome) (answer : List ℕ) → step_machine b (Datagram call) ≡ o → said o ≡ answer → SettledBy k gone answer
        → o.board.client.state ≡ state_after k → Held address o.board → Served address k gone (step_machine b (Datagram call))
    served k gone o answer e s t w m =
        record {
          settles = subst (λ (x : List ℕ). SettledBy k gone x) (sym (ap said e ∙ s)) t;
          then = ap (λ (x : Outcome). x.board.client.state) e ∙ w;
          held = subst (λ (x : Outcome). Held address x.board) (sym e) m;
        }

    -- the mode goes on
    goes_on : (s : State) → is_open s ≡ true → b.client.state ≡ s → b.client.opener ≡ address
    goes_on s t e = holds (ap is_open e ∙ t)

    serve-mode-start : (gone : ℕ) → call.datagram ≡ request_frame request.ModeStart → Phase ModeStart gone b
        → Served address ModeStart gone (step_machine b (Datagram call))
    unfolding may_carry added_of
    serve-mode-start gone e (inl i) =
        served ModeStart gone _ (control_frame 0x71 (0x06 ∷ []))
        (mode_start b call (in-state state.Idle refl i) i (ap read_of e ∙ request_read request.ModeStart))
        (back (control_frame 0x71 (0x06 ∷ [])) (control_short 0x71 0x06))
        (done_own command.ModeStart (leb 2 gone) _ (inl (sym (plain_back command.ModeStart 0x06 refl refl)))) refl (λ _. comes.sender)
    serve-mode-start gone e (inr c) =
        served ModeStart gone _ (control_frame 0x71 (0x15 ∷ []))
        (mode_start_declined b call (in-state state.Control refl c.0) c.0 (ap read_of e ∙ request_read request.ModeStart))
        (back (control_frame 0x71 (0x15 ∷ [])) (control_short 0x71 0x15))
        (done_own command.ModeStart (leb 2 gone) _ (inr (sym (plain_back command.ModeStart 0x15 refl refl), le-leb 2 gone c.1))) c.0 holds

    serve-version : (gone : ℕ) → call.datagram ≡ request_frame request.VersionInfo → Phase VersionInfo gone b
        → Served address VersionInfo gone (step_machine b (Datagram call))
    serve-version gone e c =
        let x : Fixed = b.client.fixed in
        served VersionInfo gone _ (control_frame 0x78 (version_bytes x.major x.minor x.revision))
        (version b call (in-state state.Control refl c) own c (ap read_of e ∙ request_read request.VersionInfo))
        (back (control_frame 0x78 (version_bytes x.major x.minor x.revision)) (version_short x.major x.minor x.revision))
        (version_settles x.major x.minor x.revision gone f.revision) c holds

    serve-bank : (gone : ℕ) → call.datagram ≡ request_frame request.BankInfo → Phase BankInfo gone b
        → Served address BankInfo gone (step_machine b (Datagram call))
    serve-bank gone e c =
        let target : Bank = other_of b.client.fixed.running in
        served BankInfo gone _ (control_frame 0x72 (0x06 ∷ bank_number target ∷ []))
        (bank_told b call (in-state state.Control refl c) own c (ap read_of e ∙ request_read request.BankInfo))
        (back (control_frame 0x72 (0x06 ∷ bank_number target ∷ [])) (bank_short target))
        (settled_bank bank _ (sym (bank_back target) ∙ ap (λ (x : Bank). Some (Target x)) f.target)) c holds

    serve-write-start : (gone : ℕ) → call.datagram ≡ request_frame (request.WriteStart bank n) → Phase WriteStart gone b
        → Served address WriteStart gone (step_machine b (Datagram call))
    unfolding may_carry added_of
    serve-write-start gone e (inl c) =
        let asks : call.datagram ≡ request_frame (request.WriteStart (other_of b.client.fixed.running) b.client.fixed.n) =
        e
        ∙ ap (λ (x : Bank). request_frame (request.WriteStart x n)) (sym f.target)
        ∙ ap (λ (x : ℕ). request_frame (request.WriteStart (other_of b.client.fixed.running) x)) (sym f.sectors) in
        served WriteStart gone _ (control_frame 0x70 (0x06 ∷ []))
        (write_start b call (in-state state.Control refl c) own c (ap read_of e ∙ start_read bank n)
        (subst (pair_good b.client.fixed) (sym asks) (start_addressed b.client.fixed good)))
        (back (control_frame 0x70 (0x06 ∷ [])) (control_short 0x70 0x06))
        (done_own command.WriteStart (leb 2 gone) _ (inl (sym (plain_back command.WriteStart 0x06 refl refl)))) refl
        (λ _. goes_on state.Control refl c)
    serve-write-start gone e (inr w) =
        served WriteStart gone _ (control_frame 0x70 (0x15 ∷ []))
        (write_start_declined b call (in-state state.Write refl w.0) w.0 (ap read_of e ∙ start_read bank n))
        (back (control_frame 0x70 (0x15 ∷ [])) (control_short 0x70 0x15))
        (done_own command.WriteStart (leb 2 gone) _ (inr (sym (plain_back command.WriteStart 0x15 refl refl), le-leb 2 gone w.1))) w.0 holds

    -- the packet's sector is stored, or was so already
    serve-packet : (p gone : ℕ) → p < count → call.datagram ≡ frame_of image bank n (Packet p) → Phase (Packet p) gone b
        → Served address (Packet p) gone (step_machine b (Datagram call))
    serve-packet p gone h e w =
        let k : ℕ = packet_sector image n p in
        let s : Sent image n k = sent_in image n p h in
        let low = s.low in
        let high = s.high in
        let most = good_high n st.good in
        let padded : padded_of (data_in call.datagram) ≡ sector_of image k = padded_are image bank n Anyone st.good size p h b [] call e in
        let already : Bool = same_of (sector_of (lent_target b call) k) (padded_of (data_in call.datagram)) in
        let result : ℕ = store_result (blank_of (data_in call.datagram)) already in
        let crc : ℕ = crc_of (padded_of (data_in call.datagram)) in
        let taken : Accepted result = accepted (blank_of (data_in call.datagram)) already in
        let is : Some (Written k 0x06 result (crc_of (sector_of image k))) ≡ response_of (write_frame k (written_bytes 0x06 result crc) End) =
        ap (λ (l : List ℕ). Some (Written k 0x06 result (crc_of l))) (sym padded)
        ∙ sym (stored_back k result crc (omega arith) (of_lt (padded_of (data_in call.datagram))) taken) in
        served (Packet p) gone _ (write_frame k (written_bytes 0x06 result crc) End)
        (packet b call (in-state state.Write refl w) k 512 (footer_of count p) own w (reads image bank n Anyone st.good size p h b [] call e)
        (ap (λ (x : ℕ). values_good x k 512) f.sectors ∙ sym (values-words n k 512 low high (omega arith) (omega arith)))
        (ap (λ (m : List ℕ). is_worn (get_or m (k - 1) 0)) l.marks ∙ ap is_worn (get_or-replicate {A = ℕ} n (k - 1) 0 0 (omega arith))))
        (back (write_frame k (written_bytes 0x06 result crc) End) (written_short k 0x06 result crc))
        (subst (λ (r : Option Response). Settling (Packet p) (leb 2 gone) bank image k r) is (settled_packet image k result taken)) w
        (λ _. goes_on state.Write refl w)

    serve-mode-end : (gone : ℕ) → call.datagram ≡ request_frame request.ModeEnd → Phase ModeEnd gone b
        → Served address ModeEnd gone (step_machine b (Datagram call))
    unfolding may_carry added_of
    serve-mode-end gone e (inl c) =
        served ModeEnd gone _ (control_frame 0x74 (0x06 ∷ []))
        (mode_end b call (in-state state.Control refl c) own c (ap read_of e ∙ request_read request.ModeEnd))
        (back (control_frame 0x74 (0x06 ∷ [])) (control_short 0x74 0x06))
        (done_own command.ModeEnd (leb 2 gone) _ (inl (sym (plain_back command.ModeEnd 0x06 refl refl)))) refl
        (λ t. absurd (false≢true t))
    serve-mode-end gone e (inr i) =
        served ModeEnd gone _ (control_frame 0x74 (0x15 ∷ []))
        (mode_end_declined b call (in-state state.Idle refl i.0) i.0 (ap read_of e ∙ request_read request.ModeEnd))
        (back (control_frame 0x74 (0x15 ∷ [])) (control_short 0x74 0x15))
        (done_own command.ModeEnd (leb 2 gone) _ (inr (sym (plain_back command.ModeEnd 0x15 refl refl), le-leb 2 gone i.1))) i.0 holds

    -- every packet was heard to be stored, so the session shows the image, which is fit
    serve-write-end : (gone : ℕ) → call.datagram ≡ request_frame request.WriteEnd → Phase WriteEnd gone b → (start : Board) (is : List Input)
        (answers : List (List ℕ)) → Known image bank n tries st start WriteEnd is b answers → Served address WriteEnd gone (step_machine b (Datagram call))
    unfolding may_carry added_of
    serve-write-end gone e w start is answers v =
        let ours : Ours image bank n b v.ghost =
        clean-heard image bank n tries st Anyone start (UpdateIn image bank n tries st start) WriteEnd is b answers v v.past.0 (w, tt) in
        let shown : v.ghost ≡ image =
        whole_image image bank n Anyone size b v.ghost ours
        (all-heard image bank n tries st Anyone start (UpdateIn image bank n tries st start) WriteEnd is b answers v (w, tt) v.past.1) in
        let swept : swept_target b call ≡ image =
        lent_shows b call v.ghost (λ _. ours.session)
        (record { writing = w; good = good; whole = lent_whole b call b.client.fixed.n lends all (other_of b.client.fixed.running) })
        ∙ shown in
        served WriteEnd gone _ (control_frame 0x75 (0x06 ∷ []))
        (write_end b call (in-state state.Write refl w) own w (ap read_of e ∙ request_read request.WriteEnd)
        (ap any_worn l.marks ∙ no_mark n) (ap (fit_of b.client.fixed) swept ∙ f.sound))
        (back (control_frame 0x75 (0x06 ∷ [])) (control_short 0x75 0x06))
        (ended_own command.WriteEnd (leb 2 gone) _ (sym (plain_back command.WriteEnd 0x06 refl refl))) refl
        (λ _. goes_on state.Write refl w)

    pub serve : (k : Name) (gone : ℕ) → number_of k < count → call.datagram ≡ frame_of image bank n k → Phase k gone b → (start : Board) (is : List Input)
        (answers : List (List ℕ)) → Known image bank n tries st start k is b answers → Served address k gone (step_machine b (Datagram call))
    serve ModeStart gone h e p start is answers v = serve-mode-start gone e p
    serve VersionInfo gone h e p start is answers v = serve-version gone e p
    serve BankInfo gone h e p start is answers v = serve-bank gone e p
    serve WriteStart gone h e p start is answers v = serve-write-start gone e p
    serve (Packet q) gone h e p start is answers v = serve-packet q gone h e p
    serve WriteEnd gone h e p start is answers v = serve-write-end gone e p start is answers v
    serve ModeEnd gone h e p start is answers v = serve-mode-end gone e p
