-- Demand 2 is met: a sector of the session's image is the image's already, or its packet is still to come.
-- Assumes nothing.
use Rattle.std.specs.Prelude.{Some}
use mathlib.Core.Path.{◌≡◌, refl, sym, ap, subst, ◌∙◌}
use mathlib.Core.Logic.{◌⊎◌, inl, inr}
use mathlib.Core.Bool.{Bool, true, false}
use mathlib.Core.List.Memᴰ
use mathlib.Core.List.{List, [], ◌∷◌, append-nil, Memᴰ}
use Prim.Native.Nat.{ℕ, zero, suc, ◌-◌, ◌*◌, ◌≤◌, ◌<◌}
use native.Mathlib.Decide.{ℕ_discrete}
use native.Mathlib.Omega.{arith}
use lib.ListN.{length, get_or, take, replicate, length-replicate, get_or-replicate}
use lib.Seq.{length-take-le, take_all}
use borrow.Author.Tests.{eq-eqb}
use Rattle.std.specs.Prelude.{None}
use Rattle.buffer.specs.Compare.{same_of, blank_of}
use Rattle.buffer.specs.Place.{front_of}
use Rattle.buffer.proofs.Places.{front_take}
use Rattle.frame.specs.Checksum.{taken_away, checksum_of}
use Rattle.crc.specs.Crc.{crc_of}
use Rattle.frame.specs.Frame.{framed, control_frame, write_frame}
use Rattle.frame.specs.Read.{read_of, data_in}
use Rattle.frame.proofs.Writing.{length_control}
use Rattle.frame.specs.declared.read.Footer.TheVariants.{End}
use Rattle.frame.specs.declared.read.Frame.TheVariants.{Write}
use Rattle.flash.specs.Bank.{with_sector}
use Rattle.flash.specs.Sector.{padded_of}
use Rattle.flash.proofs.Blanks.{blank_whole, sector_blanks}
use Rattle.flash.proofs.Sectors.{Lies, ext_sector, with_here, with_other}
use Rattle.flash.proofs.Sweeps.{length_sweep}
use Rattle.layout.specs.declared.Bank.{Bank}
use Rattle.layout.specs.Layout.{good_n, bank_size, other_of, sector_of}
use Rattle.layout.specs.Pair.{Banks, bank_in}
use Rattle.sender.specs.declared.request.Request.TheVariants.{WriteStart, WriteEnd}
use Rattle.sender.specs.Packet.{packet_count, packet_sector, footer_of, packet_frame}
use Rattle.sender.specs.Request.{request_frame}
use Rattle.sender.proofs.Image.{SentAt, used_sent, packet_read, packet_data}
use Rattle.sender.proofs.Packets.{Sent, sent_in, sector_length}
use Rattle.exchange.specs.declared.answer.Answer.TheVariants.{Written}
use Rattle.client.specs.declared.record.Latest.TheVariants.{Good}
use Rattle.exchange.specs.declared.state.State.TheVariants as state
use Rattle.exchange.specs.Answer.{written_bytes, answer_bytes}
use Rattle.exchange.specs.State.{is_closed}
use Rattle.client.specs.Perform.{Accepted, fit_of, store_result}
use Rattle.decision.specs.declared.plan.Fixed.{Fixed}
use Rattle.decision.specs.Plan.{is_worn, any_worn, values_good}
use Rattle.client.specs.Record.{starting, begun, ended}
use Rattle.calls.proofs.Courses.{accepted, not_write}
use Rattle.exchange.proofs.Saying.{answer_short}
use Rattle.decision.proofs.Planning.{lent_good_lem, values-words}
use Rattle.calls.specs.Call.{Board}
use Rattle.demands.specs.Board.{LentCall, Input, Datagram, Outcome, said, after, outcomes, target_bank, sectors_in, lent_of, lent_target, step_machine}
use Rattle.demands.specs.Session.{ends_session, all_blank, exchanged, noted}
use Rattle.demands.specs.Demand1.{changed, stored, packet_stored, swept_target}
use Rattle.demands.specs.Demand2.{Lends, SentFrom, Packets, none, more, Ready, Fit, Delivery, Taken, AllTaken, none_taken, more_taken, Meets2}
use Rattle.demands.proofs.Asking.{request_read, start_read, pair_good, start_addressed}
use Rattle.demands.proofs.Bytes.{response_begin, written_begin, written_stored}
use Rattle.demands.proofs.Lending.{lent_in}
use Rattle.demands.proofs.Rows.{Heard, from_opener_lem, write_start, packet, write_end}
use Rattle.demands.proofs.Sessions.{Session, Shows, lent_shows, step_shows, step_closes}
use Rattle.demands.proofs.Steps.{machine_stays, lengths_kept}

-- ---- what a call lends

abbrev pub Whole : ℕ → Banks → Type 0
Whole n pair = (x : Bank) → length (bank_in x pair) ≡ bank_size n

-- each bank is lent whole
pub lent_whole : (b : Board) (call : LentCall) (n : ℕ) → Lends n call → Whole n b.pair → (x : Bank) → length (bank_in x (lent_of call.lent b.pair)) ≡ bank_size n
lent_whole b call n l whole x =
    ap length (lent_in call.lent b.pair x)
    ∙ length-take-le (call.lent x) (bank_in x b.pair) (omega (arith, l.banks x, whole x))
    ∙ l.banks x

module _ (b : Board) (call : LentCall) (good : good_n b.client.fixed.n ≡ true) (l : Lends b.client.fixed.n call) (whole : Whole b.client.fixed.n b.pair) where
  pub heard : is_closed b.client.state ≡ false → Heard b call
  heard live =
      let n : ℕ = b.client.fixed.n in
      let lengths = lent_whole b call n l whole in
      record {
        good = good;
        runs = eq-eqb _ _ (lengths b.client.fixed.running);
        lengths =
            lent_good_lem n (length (lent_target b call)) (length call.marks) (length call.address) (length call.buffer)
            (record {
              whole_target = lengths (other_of b.client.fixed.running);
              marked = ap length l.marks ∙ length-replicate {A = ℕ} n 0;
              addressed = l.address;
              roomy = l.room;
            });
        live = live;
      }

pub no_mark : (n : ℕ) → any_worn (replicate n 0) ≡ false
unfolding any_worn
no_mark zero = refl
no_mark (suc n) = no_mark n

-- ---- what was said

pub said_back : (call : LentCall) (answer : List ℕ) → length answer ≤ 14 → 14 ≤ length call.buffer → take (length answer) (front_of call.buffer answer) ≡ answer
said_back call answer s r = front_take call.buffer answer (omega arith)

pub control_short : (code result : ℕ) → length (control_frame code (result ∷ [])) ≤ 14
control_short code result = omega (arith, length_control code (result ∷ []))

pub written_short : (sector result write crc : ℕ) → length (write_frame sector (written_bytes result write crc) End) ≤ 14
unfolding answer_bytes
written_short sector result write crc = answer_short (Written sector result write crc)

-- ---- a whole sector

pub padded_whole : (bytes : List ℕ) → length bytes ≡ 512 → padded_of bytes ≡ bytes
unfolding padded_of
padded_whole bytes e = rw e (append-nil bytes)

-- ---- a session under way on a board, in a mode that this address opened

pub record Busy (address : List ℕ) (fixed : Fixed) (b : Board) (image : List ℕ) : Type 0 where
  pub stays : b.client.fixed ≡ fixed
  pub opener : b.client.opener ≡ address
  pub writing : b.client.state ≡ state.Write
  pub whole : Whole fixed.n b.pair
  pub session : Session b image

busy_size : (address : List ℕ) (fixed : Fixed) (b : Board) (image : List ℕ) → Busy address fixed b image → length image ≡ bank_size fixed.n
busy_size address fixed b image h =
    let s = h.session in
    sym (ap length s.shows)
    ∙ length_sweep (sectors_in b.client.fixed.n b) b.client.fixed.n b.client.received
    ∙ length-take-le (bank_size b.client.fixed.n) (target_bank b) s.room
    ∙ ap (λ (f : Fixed). bank_size f.n) h.stays

-- a step that goes on writing: what it notes is shown
goes_on : (address : List ℕ) (fixed : Fixed) (b : Board) (image now : List ℕ) (i : Input) → b.client.fixed ≡ fixed → Whole fixed.n b.pair → Shows b image
    → (step_machine b i).board.client.opener ≡ address
    → (step_machine b i).board.client.state ≡ state.Write → noted b.client.fixed.n image i (step_machine b i) ≡ now
    → Busy address fixed (step_machine b i).board now
goes_on address fixed b image now i stays whole shows o w e =
    record {
      stays = machine_stays b i ∙ stays;
      opener = o;
      writing = w;
      whole = λ x. lengths_kept b i x ∙ whole x;
      session = subst (Session (step_machine b i).board) e (step_shows b image i shows w);
    }

-- what is lent, and what is whole, by the board's own N
own_lends : (fixed : Fixed) (b : Board) (call : LentCall) → b.client.fixed ≡ fixed → Lends fixed.n call → Lends b.client.fixed.n call
own_lends fixed b call e l = subst (λ (f : Fixed). Lends f.n call) (sym e) l

own_whole : (fixed : Fixed) (b : Board) → b.client.fixed ≡ fixed → Whole fixed.n b.pair → Whole b.client.fixed.n b.pair
own_whole fixed b e w = subst (λ (f : Fixed). Whole f.n b.pair) (sym e) w

-- ---- the start

pub begins_blank : (n : ℕ) (image datagram : List ℕ) → exchanged n image datagram (control_frame 0x70 (0x06 ∷ [])) ≡ all_blank n
unfolding answer_bytes
begins_blank n image datagram = rw response_begin

module _ (b : Board) (r : Ready b) (call : LentCall) (sent : call.datagram ≡ request_frame (WriteStart (other_of b.client.fixed.running) b.client.fixed.n))
    (l : SentFrom b.client.opener b.client.fixed.n call) where
  pub begun_is : step_machine b (Datagram call)
      ≡ changed b call (begun (starting b.client.fixed.running b.client)) None (control_frame 0x70 (0x06 ∷ []))
  begun_is =
      write_start b call (heard b call r.good l.lends r.whole (ap is_closed r.control)) (from_opener_lem b.client call.address l.sender) r.control
      (ap read_of sent ∙ start_read (other_of b.client.fixed.running) b.client.fixed.n)
      (subst (pair_good b.client.fixed) (sym sent) (start_addressed b.client.fixed r.good))

  pub begun_said : said (step_machine b (Datagram call)) ≡ control_frame 0x70 (0x06 ∷ [])
  begun_said = ap said begun_is ∙ said_back call (control_frame 0x70 (0x06 ∷ [])) (control_short 0x70 0x06) l.lends.room

  pub begun_busy : Busy b.client.opener b.client.fixed (step_machine b (Datagram call)).board (all_blank b.client.fixed.n)
  begun_busy =
      goes_on b.client.opener b.client.fixed b (all_blank b.client.fixed.n) (all_blank b.client.fixed.n) (Datagram call) refl r.whole
      (λ w. absurd (not_write state.Control refl (sym r.control ∙ w)))
      (ap (λ (o : Outcome). o.board.client.opener) begun_is)
      (ap (λ (o : Outcome). o.board.client.state) begun_is)
      (ap (exchanged b.client.fixed.n (all_blank b.client.fixed.n) call.datagram) begun_said ∙ begins_blank b.client.fixed.n (all_blank b.client.fixed.n) call.datagram)

start_bytes : control_frame 0x70 (0x06 ∷ []) ≡ 0x01 ∷ 0x02 ∷ 0x70 ∷ 0x06 ∷ 0x88 ∷ 0x03 ∷ []
unfolding control_frame framed checksum_of taken_away
start_bytes = refl

pub end_bytes : control_frame 0x75 (0x06 ∷ []) ≡ 0x01 ∷ 0x02 ∷ 0x75 ∷ 0x06 ∷ 0x83 ∷ 0x03 ∷ []
unfolding control_frame framed checksum_of taken_away
end_bytes = refl

-- ---- a packet

module _ (address : List ℕ) (fixed : Fixed) (good : good_n fixed.n ≡ true) (image : List ℕ) (size : length image ≡ bank_size fixed.n) (p : ℕ) (h : p < packet_count image fixed.n) where
  abbrev n : ℕ
  n = fixed.n

  abbrev k : ℕ
  k = packet_sector image n p

  sent : Sent image n k
  sent = sent_in image n p h

  by_sectors : length image ≡ 512 * n
  by_sectors = omega (arith, size)

  whole : length (sector_of image k) ≡ 512
  whole = sector_length image n by_sectors k sent.low sent.high

  values : values_good n k 512 ≡ true
  values = sym (values-words n k 512 sent.low sent.high (omega arith) (omega arith))

  module _ (b : Board) (g : List ℕ) (busy : Busy address fixed b g) (call : LentCall) (brings : call.datagram ≡ packet_frame image n p) (comes : SentFrom address n call) where
    l : Lends n call
    l = comes.lends

    reads : read_of call.datagram ≡ Some (Write k 512 (footer_of (packet_count image n) p))
    reads = ap read_of brings ∙ sym (packet_read image n p good by_sectors h)

    bytes_are : data_in call.datagram ≡ sector_of image k
    bytes_are = ap data_in brings ∙ packet_data image n p

    padded_are : padded_of (data_in call.datagram) ≡ sector_of image k
    padded_are = ap padded_of bytes_are ∙ padded_whole (sector_of image k) whole

    unworn : is_worn (get_or call.marks (k - 1) 0) ≡ false
    unworn =
        let low = sent.low in
        let high = sent.high in
        ap (λ (m : List ℕ). is_worn (get_or m (k - 1) 0)) l.marks ∙ ap is_worn (get_or-replicate {A = ℕ} n (k - 1) 0 0 (omega arith))

    pub stored_is : step_machine b (Datagram call) ≡ packet_stored b call (Some (Write k 512 (footer_of (packet_count image n) p)))
    stored_is =
        packet b call
        (heard b call (ap (λ (f : Fixed). good_n f.n) busy.stays ∙ good) (own_lends fixed b call busy.stays l) (own_whole fixed b busy.stays busy.whole)
        (ap is_closed busy.writing))
        k 512 (footer_of (packet_count image n) p) (from_opener_lem b.client call.address (comes.sender ∙ sym busy.opener)) busy.writing reads (ap (λ (f : Fixed). values_good f.n k 512) busy.stays ∙ values) unworn

    abbrev result : ℕ
    result = store_result (blank_of (data_in call.datagram)) (same_of (sector_of (lent_target b call) k) (padded_of (data_in call.datagram)))

    is-accepted : Accepted result
    is-accepted = accepted (blank_of (data_in call.datagram)) (same_of (sector_of (lent_target b call) k) (padded_of (data_in call.datagram)))

    stored_said : said (step_machine b (Datagram call)) ≡ write_frame k (written_bytes 0x06 result (crc_of (sector_of image k))) End
    stored_said =
        ap said stored_is
        ∙ said_back call (write_frame k (written_bytes 0x06 result (crc_of (padded_of (data_in call.datagram)))) End)
        (written_short k 0x06 result (crc_of (padded_of (data_in call.datagram)))) l.room
        ∙ ap (λ (s : List ℕ). write_frame k (written_bytes 0x06 result (crc_of s)) End) padded_are

    pub taken : Taken image n p (step_machine b (Datagram call))
    taken = record { write = result; accepted = is-accepted; answer = stored_said }

    shown-next : exchanged b.client.fixed.n g call.datagram (write_frame k (written_bytes 0x06 result (crc_of (sector_of image k))) End) ≡ with_sector g k (sector_of image k)
    unfolding answer_bytes
    shown-next =
        rw (written_begin k 0x06 result (crc_of (sector_of image k)), written_stored k result (crc_of (sector_of image k)) is-accepted, reads)
        (ap (with_sector g k) padded_are)

    pub next-busy : Busy address fixed (step_machine b (Datagram call)).board (with_sector g k (sector_of image k))
    next-busy =
        goes_on address fixed b g (with_sector g k (sector_of image k)) (Datagram call) busy.stays busy.whole (λ _. busy.session)
        (ap (λ (o : Outcome). o.board.client.opener) stored_is ∙ busy.opener)
        (ap (λ (o : Outcome). o.board.client.state) stored_is ∙ busy.writing)
        (ap (exchanged b.client.fixed.n g call.datagram) stored_said ∙ shown-next)

-- ---- all of them

module _ (address : List ℕ) (fixed : Fixed) (good : good_n fixed.n ≡ true) (image : List ℕ) (size : length image ≡ bank_size fixed.n) where
  abbrev sectors : ℕ
  sectors = fixed.n

  -- the packet of sector k is among those to come
  record Coming (sector : ℕ) (ps : List ℕ) : Type 0 where
    number : ℕ
    brings : packet_sector image sectors number ≡ sector
    among : Memᴰ number ps

  abbrev Due : List ℕ → List ℕ → Type 0
  Due shown ps = (j : ℕ) → 1 ≤ j → j ≤ sectors → (sector_of shown j ≡ sector_of image j) ⊎ Coming j ps

  got : (shown : List ℕ) → Due shown [] → (j : ℕ) → 1 ≤ j → j ≤ sectors → sector_of shown j ≡ sector_of image j
  got shown due j a l = by (due j a l)
    where
      by : (sector_of shown j ≡ sector_of image j) ⊎ Coming j [] → sector_of shown j ≡ sector_of image j
      by (inl e) = e
      by (inr c) = absurd (Memᴰ.not-nil c.among)

  -- one of them has come
  due_next : (p : ℕ) (ps shown : List ℕ) → p < packet_count image sectors → length shown ≡ bank_size sectors → Due shown (p ∷ ps)
      → Due (with_sector shown (packet_sector image sectors p) (sector_of image (packet_sector image sectors p))) ps
  due_next p ps shown h size-shown due j a l = by (ℕ_discrete j s) (due j a l)
    where
      s : ℕ
      s = packet_sector image sectors p

      i : Sent image sectors s
      i = sent_in image sectors p h

      lies-s : Lies (length shown) s
      lies-s =
          let low = i.low in
          let high = i.high in
          record { first = low; last = omega arith }

      w : length (sector_of image s) ≡ 512
      w = sector_length image sectors (omega (arith, size)) s i.low i.high

      later : Coming j (p ∷ ps) → (j ≡ s → ⊥) → Coming j ps
      later c ne = tail (Memᴰ.cases_cons c.among)
        where
          tail : (c.number ≡ p) ⊎ Memᴰ c.number ps → Coming j ps
          tail (inl e) = absurd (ne (sym c.brings ∙ ap (packet_sector image sectors) e))
          tail (inr m) = record { number = c.number; brings = c.brings; among = m }

      by : Dec (j ≡ s) → (sector_of shown j ≡ sector_of image j) ⊎ Coming j (p ∷ ps) → (sector_of (with_sector shown s (sector_of image s)) j ≡ sector_of image j) ⊎ Coming j ps
      by (yes e) d =
          inl
          (ap (sector_of (with_sector shown s (sector_of image s))) e
          ∙ with_here shown s (sector_of image s) lies-s w
          ∙ ap (sector_of image) (sym e))
      by (no ne) (inl e) =
          inl (with_other shown s (sector_of image s) lies-s w j (record { first = a; last = omega arith }) ne ∙ e)
      by (no ne) (inr c) = inr (later c ne)

  deliver : {ps : List ℕ} {is : List Input} → Packets address image sectors ps is → (b : Board) (shown : List ℕ) → Busy address fixed b shown → Due shown ps
      → Busy address fixed (after step_machine b is) image × AllTaken image sectors ps (outcomes step_machine b is)
  deliver none b shown busy due =
      (subst (Busy address fixed b) (ext_sector shown image sectors (busy_size address fixed b shown busy) size (got shown due)) busy, none_taken)
  deliver (more {p} {ps} {call} {is} h e l rest) b shown busy due =
      let r =
      deliver rest (step_machine b (Datagram call)).board _ (next-busy address fixed good image size p h b shown busy call e l)
      (due_next p ps shown h (busy_size address fixed b shown busy) due) in
      (r.0, more_taken (taken address fixed good image size p h b shown busy call e l) r.1)

  -- at the start nothing but 0xFF is shown, and each sector that has another byte has its packet
  due_first : (ps : List ℕ) → ((p : ℕ) → p < packet_count image sectors → Memᴰ p ps) → Due (all_blank sectors) ps
  due_first ps each zero a l = absurd (omega arith)
  due_first ps each (suc j) a l = by (blank_of (sector_of image (suc j))) refl
    where
      by : (t : Bool) → blank_of (sector_of image (suc j)) ≡ t → (sector_of (all_blank sectors) (suc j) ≡ sector_of image (suc j)) ⊎ Coming (suc j) ps
      by true t =
          inl
          (sector_blanks sectors (suc j) a l
          ∙ sym (blank_whole (sector_of image (suc j)) (sector_length image sectors (omega (arith, size)) (suc j) a l) t))
      by false t =
          let s : SentAt image sectors (suc j) (packet_count image j) = used_sent image sectors j l t in
          inr (record { number = packet_count image j; brings = s.sector; among = each (packet_count image j) s.below })

  -- ---- the end

  module _ (b : Board) (busy : Busy address fixed b image) (sound : fit_of fixed image ≡ true) (call : LentCall) (asks : call.datagram ≡ request_frame WriteEnd)
      (comes : SentFrom address fixed.n call) where
    lends : Lends b.client.fixed.n call
    lends = own_lends fixed b call busy.stays comes.lends

    own : Whole b.client.fixed.n b.pair
    own = own_whole fixed b busy.stays busy.whole

    good-own : good_n b.client.fixed.n ≡ true
    good-own = ap (λ (f : Fixed). good_n f.n) busy.stays ∙ good

    swept-is : swept_target b call ≡ image
    swept-is =
        lent_shows b call image (λ _. busy.session)
        (record { writing = busy.writing; good = good-own; whole = lent_whole b call _ lends own (other_of b.client.fixed.running) })

    ended_is : step_machine b (Datagram call)
        ≡ stored b call (starting (other_of b.client.fixed.running) (ended Good b.client)) (swept_target b call) (control_frame 0x75 (0x06 ∷ []))
    ended_is =
        write_end b call (heard b call good-own lends own (ap is_closed busy.writing))
        (from_opener_lem b.client call.address (comes.sender ∙ sym busy.opener)) busy.writing
        (ap read_of asks ∙ request_read WriteEnd)
        (ap any_worn comes.lends.marks ∙ no_mark fixed.n)
        (ap (fit_of b.client.fixed) swept-is ∙ ap (λ (f : Fixed). fit_of f image) busy.stays ∙ sound)

    ended-said : said (step_machine b (Datagram call)) ≡ 0x01 ∷ 0x02 ∷ 0x75 ∷ 0x06 ∷ 0x83 ∷ 0x03 ∷ []
    ended-said = ap said ended_is ∙ said_back call (control_frame 0x75 (0x06 ∷ [])) (control_short 0x75 0x06) comes.lends.room ∙ end_bytes

    ended-next : (step_machine b (Datagram call)).board.client.next ≡ other_of fixed.running
    ended-next = ap (λ (o : Outcome). o.board.client.next) ended_is ∙ ap (λ (f : Fixed). other_of f.running) busy.stays

    ended-bank : bank_in (other_of fixed.running) (step_machine b (Datagram call)).board.pair ≡ image
    ended-bank =
        let next : Board = (step_machine b (Datagram call)).board in
        let size = lengths_kept b (Datagram call) (other_of next.client.fixed.running) ∙ own (other_of next.client.fixed.running) in
        ap (λ (f : Fixed). bank_in (other_of f.running) next.pair) (sym (machine_stays b (Datagram call) ∙ busy.stays))
        ∙ sym (take_all (bank_size b.client.fixed.n) (target_bank next) (omega arith))
        ∙ step_closes b image (Datagram call) (λ _. busy.session) (ap ends_session ended-said)

-- the board behind the end: in control state, in the same mode, and the session ended with 06
pub record Over (address : List ℕ) (b : Board) (fixed : Fixed) : Type 0 where
  pub stays : b.client.fixed ≡ fixed
  pub opener : b.client.opener ≡ address
  pub control : b.client.state ≡ state.Control
  pub latest : b.client.latest ≡ Good
  pub whole : Whole fixed.n b.pair

module _ (b : Board) (image : List ℕ) (ready : Ready b) (fit : Fit image b.client.fixed) (start : LentCall) (ps : List ℕ) (is : List Input) (end : LentCall)
    (d : Delivery b.client.opener b image start ps is end) where
  all : Busy b.client.opener b.client.fixed (after step_machine b (Datagram start ∷ is)) image
      × AllTaken image b.client.fixed.n ps (outcomes step_machine (step_machine b (Datagram start)).board is)
  all =
      deliver b.client.opener b.client.fixed ready.good image fit.size d.packets (step_machine b (Datagram start)).board (all_blank b.client.fixed.n)
      (begun_busy b ready start d.start_sent d.start_comes) (due_first b.client.opener b.client.fixed ready.good image fit.size ps d.each)

  pub over : Over b.client.opener (step_machine (after step_machine b (Datagram start ∷ is)) (Datagram end)).board b.client.fixed
  over =
      let last : Board = after step_machine b (Datagram start ∷ is) in
      let e = ended_is b.client.opener b.client.fixed ready.good image fit.size last all.0 fit.sound end d.end_sent d.end_comes in
      record {
        stays = machine_stays last (Datagram end) ∙ all.0.stays;
        opener = ap (λ (o : Outcome). o.board.client.opener) e ∙ all.0.opener;
        control = ap (λ (o : Outcome). o.board.client.state) e;
        latest = ap (λ (o : Outcome). o.board.client.latest) e;
        whole = λ x. lengths_kept last (Datagram end) x ∙ all.0.whole x;
      }

pub demand2 : Meets2 step_machine
demand2 b image ready fit start ps is end d =
    let fixed : Fixed = b.client.fixed in
    let done = all b image ready fit start ps is end d in
    record {
      started = begun_said b ready start d.start_sent d.start_comes ∙ start_bytes;
      taken = done.1;
      ended = ended-said b.client.opener fixed ready.good image fit.size _ done.0 fit.sound end d.end_sent d.end_comes;
      bank = ended-bank b.client.opener fixed ready.good image fit.size _ done.0 fit.sound end d.end_sent d.end_comes;
      next = ended-next b.client.opener fixed ready.good image fit.size _ done.0 fit.sound end d.end_sent d.end_comes;
    }
