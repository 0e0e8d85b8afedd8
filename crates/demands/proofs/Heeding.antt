-- What is shut out by the strangers' sentence alone: every machine that heeds a stranger. Four of them, each the client but for whom it takes for
-- the opener.
-- Assumes nothing.
use Rattle.std.specs.Prelude.{Some}
use mathlib.Core.Path.{◌≡◌, refl, sym, ap, subst, ◌∙◌}
use mathlib.Core.Bool.{Bool, true, false, false≢true}
use mathlib.Core.List.{List, [], ◌∷◌, ◌++◌}
use Prim.Native.Nat.{ℕ, ◌-◌, ◌<◌}
use native.Mathlib.Omega.{arith}
use lib.Dec.{eqb}
use lib.ListN.{length, get_or, set, replicate}
use Rattle.buffer.specs.Compare.{same_of}
use Rattle.frame.specs.Read.{read_of}
use Rattle.frame.specs.declared.read.Frame.TheVariants.{Control, Write}
use Rattle.layout.specs.declared.Bank.TheVariants.{Zero, One}
use Rattle.layout.specs.Layout.{good_n, bank_size}
use Rattle.sender.specs.declared.request.Request.TheVariants.{WriteStart, WriteEnd}
use Rattle.sender.specs.Packet.{packet_count, packet_sector, footer_of, packet_frame}
use Rattle.sender.specs.Request.{request_frame}
use Rattle.sender.proofs.Image.{packet_read}
use Rattle.exchange.specs.declared.state.State.TheVariants as state
use Rattle.exchange.specs.State.{is_closed, is_open}
use Rattle.decision.specs.declared.plan.Fixed.{Fixed}
use Rattle.decision.specs.Plan.{any_worn}
use Rattle.client.specs.Host.{fixed_of}
use Rattle.client.specs.Perform.{fit_of}
use Rattle.client.specs.Record.{nobody, none_received}
use Rattle.calls.proofs.Courses.{not_write}
use Rattle.calls.specs.Call.{Board}
use Rattle.demands.specs.Board.{LentCall, Datagram, Outcome, Machine, step_machine}
use Rattle.demands.specs.Demand1.{is_code, is_packet, from_stranger, packet_stored, swept_target}
use Rattle.demands.specs.Demand2.{Lends}
use Rattle.demands.specs.Session.{all_blank}
use Rattle.demands.specs.Strangers.{
  nobody_sends,
  somebody_sends,
  MeetsStrangers,
  Heeds,
  from_opener,
  taking,
  takes_all,
  compares_fifteen,
  ends_for_anyone,
  stores_for_anyone,
}
use Rattle.demands.proofs.Asking.{request_read}
use Rattle.demands.proofs.Demand2.{Busy, heard, no_mark, begun_is, begun_busy, stored_is}
use Rattle.demands.proofs.Rows.{Heard, from_opener_lem, write_end, write_end_unsound}
use Rattle.demands.proofs.Witness.{image, image_size, two_packets, two_good, sectors_are, witness_board, calling, lends, comes, ready}

pub no_heed : (m : Machine) → Heeds m → MeetsStrangers m → ⊥
no_heed m h meets = h.changes (meets.nothing_changes h.address h.at (Datagram h.call ∷ []) h.open_for (somebody_sends h.strange nobody_sends))

-- ---- a stranger whose address differs from the opener's in the last byte

unfoldable stranger : List ℕ
stranger = replicate 15 0 ++ (1 ∷ [])

unfoldable stranger_call : List ℕ → LentCall
stranger_call datagram = record { datagram = datagram; address = stranger; marks = replicate 2 0; buffer = replicate 14 0; lent = λ x. 1024 }

is_other : (datagram : List ℕ) → (stranger_call datagram).address ≡ witness_board.client.opener → ⊥
unfolding stranger stranger_call witness_board nobody
is_other datagram e = absurd (omega (arith, ap (λ (l : List ℕ). get_or l 15 0) e))

-- taken for the opener's, it is the opener's call
taken_so : (datagram : List ℕ) → from_opener witness_board (stranger_call datagram) ≡ calling datagram
unfolding stranger_call witness_board calling nobody
taken_so datagram = refl

-- ---- in control state: a stranger begins a session

abbrev start_frame : List ℕ
start_frame = request_frame (WriteStart One 2)

begins : (step_machine witness_board (Datagram (calling start_frame))).board.client.state ≡ state.Write
unfolding witness_board calling
begins = ap (λ (o : Outcome). o.board.client.state) (begun_is witness_board ready (calling start_frame) refl (comes start_frame))

heeds_start : (m : Machine) → m witness_board (Datagram (stranger_call start_frame)) ≡ step_machine witness_board (Datagram (calling start_frame)) → Heeds m
unfolding witness_board
heeds_start m e =
    record {
      address = witness_board.client.opener;
      at = witness_board;
      call = stranger_call start_frame;
      open_for = record { mode = refl; opener = refl };
      strange = is_other start_frame;
      changes = λ same. not_write state.Control refl (sym (ap (λ (b : Board). b.client.state) same) ∙ ap (λ (o : Outcome). o.board.client.state) e ∙ begins);
    }

pub all_heeded : Heeds takes_all
unfolding witness_board stranger stranger_call
all_heeded = heeds_start takes_all (ap (λ (c : LentCall). step_machine witness_board (Datagram c)) (taken_so start_frame))

pub fifteen_heeded : Heeds compares_fifteen
unfolding witness_board stranger stranger_call nobody same_of
fifteen_heeded = heeds_start compares_fifteen (ap (λ (c : LentCall). step_machine witness_board (Datagram c)) (taken_so start_frame))

-- ---- in write state: a stranger ends the session, or has a packet stored

abbrev in_session : Board
in_session = (step_machine witness_board (Datagram (calling start_frame))).board

writing : Busy witness_board.client.opener (fixed_of 2 Zero 1 0 0) in_session (all_blank 2)
unfolding witness_board calling
writing = begun_busy witness_board ready (calling start_frame) refl (comes start_frame)

-- taken for the opener's in the session too
taken_in_session : (datagram : List ℕ) → from_opener in_session (stranger_call datagram) ≡ calling datagram
taken_in_session datagram = ap opened-as writing.opener ∙ taken_so datagram
  where
    opened-as : List ℕ → LentCall
    opened-as opener =
        let call : LentCall = stranger_call datagram in
        record { datagram = call.datagram; address = opener; marks = call.marks; buffer = call.buffer; lent = call.lent }

heeds_session : (m : Machine) (datagram : List ℕ) → m in_session (Datagram (stranger_call datagram)) ≡ step_machine in_session (Datagram (calling datagram))
    → ((step_machine in_session (Datagram (calling datagram))).board ≡ in_session → ⊥) → Heeds m
heeds_session m datagram e changes =
    record {
      address = witness_board.client.opener;
      at = in_session;
      call = stranger_call datagram;
      open_for = record { mode = ap is_open writing.writing; opener = writing.opener };
      strange = is_other datagram;
      changes = λ same. changes (sym (ap (λ (o : Outcome). o.board) e) ∙ same);
    }

own_call : (datagram : List ℕ) → from_stranger in_session.client (calling datagram).address ≡ false
own_call datagram = from_opener_lem in_session.client (calling datagram).address ((comes datagram).sender ∙ sym writing.opener)

end_heard : Heard in_session (calling (request_frame WriteEnd))
end_heard =
    heard in_session (calling (request_frame WriteEnd)) (ap (λ (f : Fixed). good_n f.n) writing.stays ∙ two_good)
    (subst (λ (f : Fixed). Lends f.n (calling (request_frame WriteEnd))) (sym writing.stays) (lends (request_frame WriteEnd)))
    (λ x. writing.whole x ∙ ap (λ (f : Fixed). bank_size f.n) (sym writing.stays)) (ap is_closed writing.writing)

unworn : any_worn (calling (request_frame WriteEnd)).marks ≡ false
unfolding calling
unworn = no_mark 2

end_read : read_of (calling (request_frame WriteEnd)).datagram ≡ Some (Control 0x45 0)
unfolding calling
end_read = request_read WriteEnd

ends : (step_machine in_session (Datagram (calling (request_frame WriteEnd)))).board.client.state ≡ state.Control
ends = by (fit_of in_session.client.fixed (swept_target in_session (calling (request_frame WriteEnd)))) refl
  where
    by : (t : Bool) → fit_of in_session.client.fixed (swept_target in_session (calling (request_frame WriteEnd))) ≡ t
        → (step_machine in_session (Datagram (calling (request_frame WriteEnd)))).board.client.state ≡ state.Control
    by true t =
        ap (λ (o : Outcome). o.board.client.state)
        (write_end in_session (calling (request_frame WriteEnd)) end_heard (own_call (request_frame WriteEnd)) writing.writing end_read unworn t)
    by false t =
        ap (λ (o : Outcome). o.board.client.state)
        (write_end_unsound in_session (calling (request_frame WriteEnd)) end_heard (own_call (request_frame WriteEnd)) writing.writing end_read unworn t)

sixteen : (datagram : List ℕ) → eqb (length (stranger_call datagram).address) 16 ≡ true
unfolding stranger stranger_call
sixteen datagram = refl

-- in the session whatever passes the test is taken so
taken_if : (test : Board → LentCall → Bool) (datagram : List ℕ) → test in_session (stranger_call datagram) ≡ true
    → taking test in_session (Datagram (stranger_call datagram)) ≡ step_machine in_session (Datagram (calling datagram))
taken_if test datagram t = rw (ap is_open writing.writing, sixteen datagram, t) (ap (λ (c : LentCall). step_machine in_session (Datagram c)) (taken_in_session datagram))

pub end_heeded : Heeds ends_for_anyone
unfolding stranger_call
end_heeded =
    heeds_session ends_for_anyone (request_frame WriteEnd)
    (taken_if (λ b call. is_code 0x45 (read_of call.datagram)) (request_frame WriteEnd) (ap (is_code 0x45) (request_read WriteEnd)))
    (λ same. not_write state.Control refl (sym ends ∙ ap (λ (b : Board). b.client.state) same ∙ writing.writing))

-- the first packet of an image counts as received then, and did not before
first_packet : 0 < packet_count image 2
first_packet = omega (arith, two_packets)

packet_is : step_machine in_session (Datagram (calling (packet_frame image 2 0)))
    ≡ packet_stored in_session (calling (packet_frame image 2 0)) (Some (Write (packet_sector image 2 0) 512 (footer_of (packet_count image 2) 0)))
unfolding calling
packet_is =
    stored_is witness_board.client.opener (fixed_of 2 Zero 1 0 0) two_good image image_size 0 first_packet in_session (all_blank 2) writing
    (calling (packet_frame image 2 0)) refl (comes (packet_frame image 2 0))

received_none : get_or in_session.client.received 0 false ≡ false
unfolding witness_board calling none_received
received_none =
    ap (λ (o : Outcome). get_or o.board.client.received 0 false) (begun_is witness_board ready (calling start_frame) refl (comes start_frame))

received_one : get_or (step_machine in_session (Datagram (calling (packet_frame image 2 0)))).board.client.received 0 false ≡ true
unfolding witness_board calling none_received
received_one =
    ap (λ (o : Outcome). get_or o.board.client.received 0 false) packet_is
    ∙ ap (λ (k : ℕ). get_or (set in_session.client.received (k - 1) true) 0 false) sectors_are.0
    ∙ ap (λ (l : List Bool). get_or (set l 0 true) 0 false)
    (ap (λ (o : Outcome). o.board.client.received) (begun_is witness_board ready (calling start_frame) refl (comes start_frame)))

packet_reads : is_packet (read_of (packet_frame image 2 0)) ≡ true
packet_reads = ap is_packet (sym (packet_read image 2 0 two_good image_size first_packet))

pub packet_heeded : Heeds stores_for_anyone
unfolding stranger_call
packet_heeded =
    heeds_session stores_for_anyone (packet_frame image 2 0) (taken_if (λ b call. is_packet (read_of call.datagram)) (packet_frame image 2 0) packet_reads)
    (λ same. false≢true (sym received_none ∙ ap (λ (b : Board). get_or b.client.received 0 false) (sym same) ∙ received_one))
