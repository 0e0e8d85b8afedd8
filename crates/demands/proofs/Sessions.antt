-- A session under way: the write end would now make of the target what the session showed. Each step keeps that, and the end does it.
-- Assumes nothing.
use mathlib.Core.Path.{◌≡◌, refl, sym, ap, ap₂, subst, ◌∙◌}
use mathlib.Core.Bool.{Bool, true, false, not, false≢true}
use mathlib.Core.List.{List, ◌++◌}
use Prim.Native.Nat.{ℕ, ◌-◌, ◌≤◌, ◌<◌}
use native.Mathlib.Omega.{arith}
use lib.ListN.{length, get_or, take, drop, set, length-append, length-set, length-replicate, get_or-replicate, take-append-drop}
use lib.Seq.{take_at, length-take-le}
use Rattle.buffer.proofs.Bools.{split}
use Rattle.buffer.proofs.Places.{front_take}
use Rattle.crc.specs.Crc.{crc_of}
use Rattle.frame.specs.Read.{data_in}
use Rattle.flash.specs.Bank.{with_sector, written_at, swept_of}
use Rattle.flash.specs.Sector.{padded_of}
use Rattle.flash.proofs.Received.{swept_written}
use Rattle.flash.proofs.Sectors.{lies_still}
use Rattle.flash.proofs.Sweeps.{length_sweep, swept_blank}
use Rattle.flash.proofs.Writes.{FitsAt, length_written, written_with}
use Rattle.layout.specs.declared.Bank.{Bank}
use Rattle.layout.specs.Layout.{most_sectors, good_n, bank_size, other_of}
use Rattle.layout.specs.Pair.{bank_in}
use Rattle.layout.proofs.Layouts.{good_high}
use Rattle.layout.proofs.Pairs.{bank_there}
use Rattle.exchange.specs.declared.state.State.TheVariants as state
use Rattle.exchange.specs.Answer.{Reply, reply_bytes}
use Rattle.exchange.specs.State.{is_closed}
use Rattle.exchange.proofs.Saying.{told_whole}
use Rattle.decision.specs.declared.plan.Fixed.{Fixed}
use Rattle.decision.proofs.Planning.{values_low, values-high}
use Rattle.client.specs.declared.host.Hosted.{Hosted}
use Rattle.client.specs.declared.record.Client.{Client}
use Rattle.client.specs.Host.{initiate_of, terminate_of}
use Rattle.client.specs.Record.{none_received}
use Rattle.client.specs.Step.{Carried}
use Rattle.calls.proofs.Courses.{Course, still, begins, stores, ends, not_write}
use Rattle.calls.proofs.Leading.{Finishing, fits_stored, packed_in}
use Rattle.calls.proofs.Beside.{step_course, step_stays, step_told, step_said, step_fits}
use Rattle.calls.specs.Call.{Board}
use Rattle.demands.specs.Board.{LentCall, Input, Initiate, Terminate, Datagram, said, target_bank, sectors_in, lent_target, host_outcome, call_outcome, called, step_machine}
use Rattle.demands.specs.Session.{ends_session, all_blank, exchanged, noted}
use Rattle.demands.proofs.Bytes.{
  quiet_begin,
  quiet_end,
  quiet_stored,
  response_begin,
  response_start_end,
  written_begin,
  written_end,
  written_stored,
}
use Rattle.demands.proofs.Lending.{front_of, lent_in, whole_again}
use Rattle.demands.proofs.Steps.{pair_next}

pub record Session (b : Board) (image : List ℕ) : Type 0 where
  pub good : good_n b.client.fixed.n ≡ true
  pub marked : length b.client.received ≡ most_sectors
  pub room : bank_size b.client.fixed.n ≤ length (target_bank b)
  pub shows : swept_of (sectors_in b.client.fixed.n b) b.client.fixed.n b.client.received ≡ image

abbrev pub Shows : Board → List ℕ → Type 0
Shows b image = b.client.state ≡ state.Write → Session b image

none_received_lem : (i : ℕ) → i < most_sectors → get_or none_received i false ≡ false
unfolding none_received
none_received_lem i h = get_or-replicate {A = Bool} most_sectors i false false h

pub length_none : length none_received ≡ most_sectors
unfolding none_received
length_none = length-replicate {A = Bool} most_sectors false

make : (b : Board) (n : ℕ) (received : List Bool) (part rest image : List ℕ) → b.client.fixed.n ≡ n → b.client.received ≡ received
    → target_bank b ≡ part ++ rest → length part ≡ bank_size n → good_n n ≡ true → length received ≡ most_sectors → swept_of part n received ≡ image
    → Session b image
make b n received part rest image en er et l good marked shows =
    let p : sectors_in n b ≡ part = ap (take (bank_size n)) et ∙ take_at part rest (bank_size n) l in
    record {
      good = ap good_n en ∙ good;
      marked = ap length er ∙ marked;
      room = omega (arith, en, ap length et, length-append part rest, l);
      shows = ap (λ (x : ℕ). swept_of (sectors_in x b) x b.client.received) en
          ∙ ap (swept_of (sectors_in n b) n) er
          ∙ ap (λ (x : List ℕ). swept_of x n received) p
          ∙ shows;
    }

-- ---- a datagram

module _ (b : Board) (call : LentCall) where
  abbrev n : ℕ
  n = b.client.fixed.n

  abbrev other : Bank
  other = other_of b.client.fixed.running

  -- what lies behind what is lent of the target, what came of the call
  abbrev behind : List ℕ
  behind = drop (call.lent other) (target_bank b)

  abbrev r : Carried
  r = called b call

  abbrev next : Board
  next = (call_outcome b call (called b call)).board

  pub said_is : said (call_outcome b call (called b call)) ≡ reply_bytes (called b call).answer
  said_is =
      let fits = step_fits b.client _ (lent_target b call) call.marks call.address call.buffer call.datagram in
      ap₂ (λ (k : ℕ) (l : List ℕ). take k l)
      (step_told b.client _ (lent_target b call) call.marks call.address call.buffer call.datagram ∙ told_whole (called b call).answer _ fits)
      (step_said b.client _ (lent_target b call) call.marks call.address call.buffer call.datagram)
      ∙ front_take call.buffer (reply_bytes (called b call).answer) fits

  stays : next.client.fixed ≡ b.client.fixed
  stays = step_stays b.client _ (lent_target b call) call.marks call.address call.buffer call.datagram

  stays_n : next.client.fixed.n ≡ n
  stays_n = ap (λ (f : Fixed). f.n) stays

  target_next : target_bank next ≡ r.target ++ behind
  target_next =
      ap (λ (f : Fixed). bank_in (other_of f.running) next.pair) stays
      ∙ ap (bank_in other) (pair_next b call)
      ∙ bank_there other b.pair

  target_kept : r.target ≡ (lent_target b call) → target_bank next ≡ target_bank b
  target_kept e = target_next ∙ ap (λ (l : List ℕ). l ++ behind) e ∙ whole_again call.lent b.pair other

  -- a target lent whole is its n sectors
  lent_whole : length (lent_target b call) ≡ bank_size n → (lent_target b call) ≡ sectors_in n b
  lent_whole e =
      let t = lent_in call.lent b.pair other in
      t ∙ front_of (call.lent other) (target_bank b) ∙ ap (λ (i : ℕ). take i (target_bank b)) (sym (ap length t) ∙ e)

  -- what the end would make of what is lent
  pub lent_shows : (image : List ℕ) → Shows b image → Finishing b.client (length (lent_target b call)) → swept_of (lent_target b call) n b.client.received ≡ image
  lent_shows image shows h =
      ap (λ (l : List ℕ). swept_of l n b.client.received) (lent_whole h.whole) ∙ (shows h.writing).shows

  abbrev Kept : List ℕ → List ℕ → Type 0
  Kept image answer = Shows next (exchanged n image call.datagram answer)

  module _ (image : List ℕ) (shows : Shows b image) where
    abbrev now : List ℕ
    now = exchanged n image call.datagram (reply_bytes r.answer)

    -- the bank as it was, the record's marks as they were
    quietly : exchanged n image call.datagram (reply_bytes r.answer) ≡ image → r.target ≡ (lent_target b call)
        → (r.client.state ≡ state.Write → (b.client.state ≡ state.Write) × (r.client.received ≡ b.client.received))
        → Shows next now
    quietly e t w s =
        let v : Session b image = shows (w s).0 in
        make next n b.client.received (sectors_in n b) (drop (bank_size n) (target_bank b)) now stays_n (w s).1
        (target_kept t ∙ sym (take-append-drop (bank_size n) (target_bank b)))
        (length-take-le (bank_size n) (target_bank b) v.room)
        v.good v.marked (v.shows ∙ sym e)

    keeps : Course b.client (lent_target b call) call.datagram r → Shows next now
    keeps (still q t w) s = quietly (rw (quiet_begin r.answer q, quiet_stored r.answer q)) t w s
    keeps (begins a t m h) s =
        let e : now ≡ all_blank n = rw (a, response_begin) in
        make next n none_received (lent_target b call) behind now stays_n m (target_next ∙ ap (λ (l : List ℕ). l ++ behind) t) h.whole h.good length_none
        (swept_blank (lent_target b call) n none_received h.good h.whole (λ i l. let most = good_high n h.good in none_received_lem i (omega arith)) ∙ sym e)
    keeps (stores sector write h v a t k) s =
        let bytes : List ℕ = data_in call.datagram in
        let o : Session b image = shows h.writing in
        let f : FitsAt (lent_target b call) sector bytes = fits_stored b.client (lent_target b call) call.datagram sector h in
        let p : swept_of (lent_target b call) n b.client.received ≡ image =
        lent_shows image shows (record { writing = h.writing; good = h.good; whole = h.whole }) in
        let g : FitsAt image sector bytes =
        record {
          good = f.good;
          inside = lies_still (sym (ap length p) ∙ length_sweep (lent_target b call) n b.client.received) f.inside;
          short = f.short;
          words = f.words;
        } in
        let low = values_low n sector h.m h.values in
        let high = values-high n sector h.m h.values in
        let most = good_high n h.good in
        let marked = o.marked in
        let e : now ≡ with_sector image sector (padded_of bytes) =
        rw (a, written_begin sector 0x06 write (crc_of (padded_of bytes)), written_stored sector write (crc_of (padded_of bytes)) v, (packed_in call.datagram sector h.m h.asks).reads) in
        make next n (set b.client.received (sector - 1) true) (written_at (lent_target b call) sector bytes) behind now stays_n (ap (λ (x : Client). x.received) k)
        (target_next ∙ ap (λ (l : List ℕ). l ++ behind) t)
        (length_written (lent_target b call) sector bytes ∙ h.whole)
        h.good
        (length-set b.client.received (sector - 1) true ∙ marked)
        (swept_written (lent_target b call) n sector bytes b.client.received h.good h.whole f (omega arith)
        ∙ ap (λ (l : List ℕ). written_at l sector bytes) p
        ∙ written_with image sector bytes g
        ∙ sym e)
    keeps (ends result u a t x h) s = absurd (not_write state.Control refl (sym x ∙ s))

    -- the end leaves what the session showed
    closes : Course b.client (lent_target b call) call.datagram r → ends_session (reply_bytes r.answer) ≡ true → sectors_in n next ≡ image
    closes (still q t w) e = absurd (false≢true (sym (quiet_end r.answer q) ∙ e))
    closes (begins a t m h) e = absurd (false≢true (sym (ap (λ (x : Reply). ends_session (reply_bytes x)) a ∙ response_start_end) ∙ e))
    closes (stores sector write h v a t k) e =
        absurd (false≢true (sym (ap (λ (x : Reply). ends_session (reply_bytes x)) a ∙ written_end sector 0x06 write (crc_of (padded_of (data_in call.datagram)))) ∙ e))
    closes (ends result u a t x h) e =
        let p : r.target ≡ image = t ∙ lent_shows image shows h in
        let l : length r.target ≡ bank_size n = ap length t ∙ length_sweep (lent_target b call) n b.client.received ∙ h.whole in
        ap (take (bank_size n)) target_next ∙ take_at r.target behind (bank_size n) l ∙ p

-- ---- each input

-- the host's commands end a session or leave it
initiate_keeps : (b : Board) (image : List ℕ) → Shows b image → Shows (host_outcome b (initiate_of b.client)).board image
unfolding initiate_of
initiate_keeps b image v =
    let P : Hosted → Type 0 = λ h. Shows (host_outcome b h).board image in
    split P (not (good_n b.client.fixed.n)) (λ _. v) (λ _. split P (not (is_closed b.client.state)) (λ _. v) (λ _ s. absurd (not_write state.Idle refl s)))

terminate_keeps : (b : Board) (image : List ℕ) → Shows b image → Shows (host_outcome b (terminate_of b.client)).board image
unfolding terminate_of
terminate_keeps b image v =
    let P : Hosted → Type 0 = λ h. Shows (host_outcome b h).board image in
    split P (not (good_n b.client.fixed.n)) (λ _. v) (λ _. split P (is_closed b.client.state) (λ _. v) (λ _ s. absurd (not_write state.Closed refl s)))

pub step_shows : (b : Board) (image : List ℕ) (i : Input) → Shows b image → Shows (step_machine b i).board (noted b.client.fixed.n image i (step_machine b i))
step_shows b image Initiate v = initiate_keeps b image v
step_shows b image Terminate v = terminate_keeps b image v
step_shows b image (Datagram call) v =
    let k = step_course b.client _ (lent_target b call) call.marks call.address call.buffer call.datagram in
    subst (Kept b call image) (sym (said_is b call)) (keeps b call image v k)

pub step_closes : (b : Board) (image : List ℕ) (i : Input) → Shows b image → ends_session (said (step_machine b i)) ≡ true
    → sectors_in b.client.fixed.n (step_machine b i).board ≡ image
step_closes b image Initiate v e = absurd (false≢true e)
step_closes b image Terminate v e = absurd (false≢true e)
step_closes b image (Datagram call) v e =
    let k = step_course b.client _ (lent_target b call) call.marks call.address call.buffer call.datagram in
    closes b call image v k (sym (ap ends_session (said_is b call)) ∙ e)
