-- The class of machines that handle the first packet only has a member: the client that only answers the packets behind the first.
-- Assumes nothing.
use mathlib.Core.Path.{◌≡◌, refl, sym, ap, ◌∙◌}
use mathlib.Core.Logic.{◌⊎◌, inl, inr}
use mathlib.Core.Bool.{Bool, true, ◌&&◌, ◌||◌, or-true, false≢true}
use mathlib.Core.List.{List, [], ◌∷◌}
use Prim.Native.Nat.{ℕ, zero, suc, ◌-◌, ◌<◌}
use native.Mathlib.Omega.{arith}
use lib.ListN.{length, set}
use Rattle.buffer.proofs.Bools.{split, and_left}
use Rattle.crc.specs.Crc.{crc_of}
use Rattle.frame.specs.Read.{read_of, data_in}
use Rattle.flash.specs.Sector.{padded_of}
use Rattle.layout.proofs.Layouts.{good_high}
use Rattle.client.specs.declared.record.Client.{Client}
use Rattle.exchange.specs.Answer.{Reply, reply_bytes}
use Rattle.client.specs.Record.{none_received}
use Rattle.layout.specs.Layout.{most_sectors, other_of}
use Rattle.layout.specs.Pair.{bank_in}
use Rattle.commands.specs.declared.Command.TheVariants.{WriteStart, WriteEnd}
use Rattle.calls.proofs.Courses.{Course, still, begins, stores, ends}
use Rattle.calls.proofs.Beside.{step_course}
use Rattle.decision.proofs.Planning.{values_low, values-high}
use Rattle.calls.specs.Call.{Board}
use Rattle.demands.specs.Board.{LentCall, Input, Datagram, Outcome, said, after, lent_target, called, step_machine}
use Rattle.demands.specs.Demand1.{is_packet}
use Rattle.demands.specs.Session.{is_begin, is_stored}
use Rattle.demands.specs.ShutOut.{SameButBytes, none_alike, more_alike, bringing, FirstOnly, any_of, acknowledging}
use Rattle.demands.proofs.Bytes.{quiet_begin, quiet_stored, ended_begin, response_stored, written_begin}
use Rattle.demands.proofs.Sessions.{length_none, said_is}

-- a packet has come
abbrev Some : Board → Type 0
Some b = any_of b.client.received ≡ true

any_set : (l : List Bool) (i : ℕ) → i < length l → any_of (set l i true) ≡ true
any_set [] i h = absurd (omega arith)
any_set (x ∷ xs) zero h = refl
any_set (x ∷ xs) (suc i) h = ap (λ (t : Bool). x || t) (any_set xs i (omega arith)) ∙ or-true x

-- ---- the client, by its answers

module _ (b : Board) (call : LentCall) where
  abbrev next : Board
  next = (step_machine b (Datagram call)).board

  begun_none : is_begin (said (step_machine b (Datagram call))) ≡ true → next.client.received ≡ none_received
  begun_none e =
      by (step_course b.client _ (lent_target b call) call.marks call.address call.buffer call.datagram) (sym (ap is_begin (said_is b call)) ∙ e)
    where
      by : Course b.client (lent_target b call) call.datagram (called b call) → is_begin (reply_bytes (called b call).answer) ≡ true
          → next.client.received ≡ none_received
      by (still q t w) f = absurd (false≢true (sym (quiet_begin (called b call).answer q) ∙ f))
      by (begins a t m h) f = m
      by (stores sector write h v a t k) f =
          absurd
          (false≢true
          (sym (ap (λ (x : Reply). is_begin (reply_bytes x)) a ∙ written_begin sector 0x06 write (crc_of (padded_of (data_in call.datagram)))) ∙ f))
      by (ends result u a t x h) f = absurd (false≢true (sym (ap (λ (y : Reply). is_begin (reply_bytes y)) a ∙ ended_begin result) ∙ f))

  stored_some : length b.client.received ≡ most_sectors → is_stored (said (step_machine b (Datagram call))) ≡ true → Some next
  stored_some l e =
      by (step_course b.client _ (lent_target b call) call.marks call.address call.buffer call.datagram) (sym (ap is_stored (said_is b call)) ∙ e)
    where
      by : Course b.client (lent_target b call) call.datagram (called b call) → is_stored (reply_bytes (called b call).answer) ≡ true → Some next
      by (still q t w) f = absurd (false≢true (sym (quiet_stored (called b call).answer q) ∙ f))
      by (begins a t m h) f = absurd (false≢true (sym (ap (λ (x : Reply). is_stored (reply_bytes x)) a ∙ response_stored WriteStart 0x06) ∙ f))
      by (stores sector write h v a t k) f =
          let most = good_high b.client.fixed.n h.good in
          let low = values_low b.client.fixed.n sector h.m h.values in
          let high = values-high b.client.fixed.n sector h.m h.values in
          ap (λ (c : Client). any_of c.received) k ∙ any_set b.client.received (sector - 1) (omega arith)
      by (ends result u a t x h) f = absurd (false≢true (sym (ap (λ (y : Reply). is_stored (reply_bytes y)) a ∙ response_stored WriteEnd result) ∙ f))

-- ---- the machine

module _ (b : Board) (call : LentCall) where
  -- it answers as the client does
  said_alike : said (acknowledging b (Datagram call)) ≡ said (step_machine b (Datagram call))
  said_alike =
      split (λ (o : Outcome). said o ≡ said (step_machine b (Datagram call))) (any_of b.client.received && is_packet (read_of call.datagram)) (λ _. refl)
      (λ _. refl)

  left : Some b → is_packet (read_of call.datagram) ≡ true → (acknowledging b (Datagram call)).board ≡ b
  left s p = rw (s, p)

  -- at an accepted start no packet has come, or the machine took it for one more of them
  started : is_begin (said (acknowledging b (Datagram call))) ≡ true
      → Some (acknowledging b (Datagram call)).board ⊎ ((acknowledging b (Datagram call)).board.client.received ≡ none_received)
  started e =
      split (λ (o : Outcome). Some o.board ⊎ (o.board.client.received ≡ none_received)) (any_of b.client.received && is_packet (read_of call.datagram))
      (λ t. inl (and_left (any_of b.client.received) (is_packet (read_of call.datagram)) t))
      (λ _. inr (begun_none b call (sym (ap is_begin said_alike) ∙ e)))

  handled : Some b ⊎ (b.client.received ≡ none_received) → is_packet (read_of call.datagram) ≡ true
      → is_stored (said (acknowledging b (Datagram call))) ≡ true → Some (acknowledging b (Datagram call)).board
  handled (inl s) p e = ap (λ (x : Board). any_of x.client.received) (left s p) ∙ s
  handled (inr n) p e =
      split (λ (o : Outcome). Some o.board) (any_of b.client.received && is_packet (read_of call.datagram))
      (λ t. and_left (any_of b.client.received) (is_packet (read_of call.datagram)) t)
      (λ _. stored_some b call (ap length n ∙ length_none) (sym (ap is_stored said_alike) ∙ e))

-- the rest changes nothing, whatever it carries
rest_left : (b : Board) → Some b → {is js : List Input} → SameButBytes is js → (after acknowledging b is ≡ b) × (after acknowledging b js ≡ b)
rest_left b s none_alike = (refl, refl)
rest_left b s (more_alike {call} {datagram} {is} {js} sector size footer one other same) =
    let r = rest_left b s same in (
      ap (λ (x : Board). after acknowledging x is) (left b call s (ap is_packet one)) ∙ r.0,
      ap (λ (x : Board). after acknowledging x js) (left b (bringing datagram call) s (ap is_packet other)) ∙ r.1,
    )

pub acknowledging_first_only : FirstOnly acknowledging
acknowledging_first_only b start first end is js h asks same =
    let begun : Board = (acknowledging b (Datagram start)).board in
    let r = rest_left _ (handled begun first (started b start h.begins) h.packet h.handled) same in
    ap
    (λ (x : Board).
    bank_in (other_of b.client.fixed.running) (acknowledging x (Datagram end)).board.pair)
    (r.0 ∙ sym r.1)
