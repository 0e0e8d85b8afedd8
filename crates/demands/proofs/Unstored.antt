-- What demand 3 shuts out, from the demand alone: every machine that stores nothing and says that it does. One of them answers as the client does.
-- Assumes nothing.
use mathlib.Core.Path.{◌≡◌, refl, sym, ap, ap₂, ◌∙◌}
use mathlib.Core.Bool.{Bool, true, false}
use mathlib.Core.List.{List, [], ◌∷◌}
use Prim.Native.Nat.{ℕ, ◌≤◌}
use native.Mathlib.Omega.{arith}
use lib.ListN.{length, get_or, take, replicate, length-replicate, get_or-replicate}
use lib.Seq.{get_or-take}
use Rattle.std.specs.Prelude.{None}
use Rattle.frame.specs.Frame.{framed, control_frame}
use Rattle.layout.specs.declared.Bank.{Bank}
use Rattle.layout.specs.declared.Bank.TheVariants.{Zero, One}
use Rattle.layout.specs.Layout.{good_n, bank_size, other_of}
use Rattle.layout.specs.Pair.{Banks, banks, bank_in}
use Rattle.sender.specs.declared.request.Request.TheVariants.{WriteStart, WriteEnd}
use Rattle.sender.specs.Request.{request_frame}
use Rattle.exchange.specs.declared.state.State.TheVariants as state
use Rattle.decision.specs.declared.plan.Fixed.{Fixed}
use Rattle.client.specs.Perform.{fit_of}
use Rattle.client.specs.Host.{fixed_of}
use Rattle.client.specs.Record.{nobody, closed_client, in_state, starting, begun}
use Rattle.calls.proofs.Courses.{not_write}
use Rattle.calls.specs.Call.{Board, board}
use Rattle.demands.specs.Board.{LentCall, Input, Datagram, Outcome, said, Machine, after, target_bank, sectors_in, step_machine}
use Rattle.demands.specs.Demand1.{from_stranger, changed, swept_target}
use Rattle.demands.specs.Demand2.{Lends, SentFrom, Ready}
use Rattle.demands.specs.Demand3.{Meets3}
use Rattle.demands.specs.Session.{is_begin, ends_session, all_blank}
use Rattle.demands.specs.ShutOut.{StoresNothing, unstored, stores_nothing}
use Rattle.demands.proofs.Asking.{request_read}
use Rattle.demands.proofs.Demand2.{heard, no_mark, said_back, control_short, begun_is, begun_said}
use Rattle.demands.proofs.Rows.{Heard, from_opener_lem, write_end, write_end_unsound}

-- one sector, and zeros in both banks
unfoldable zeros : Board
zeros =
    record {
      client = in_state state.Control (closed_client (fixed_of 1 Zero 1 0 0) Zero);
      pair = banks (replicate 512 0) (replicate 512 0);
    }

small_call : List ℕ → LentCall
small_call datagram = record { datagram = datagram; address = replicate 16 0; marks = replicate 1 0; buffer = replicate 14 0; lent = λ x. 512 }

small_lends : (datagram : List ℕ) → Lends 1 (small_call datagram)
unfolding small_call
small_lends datagram =
    record { address = length-replicate {A = ℕ} 16 0; marks = refl; room = omega (arith, length-replicate {A = ℕ} 14 0); banks = λ x. refl }

small_comes : (datagram : List ℕ) → SentFrom zeros.client.opener 1 (small_call datagram)
unfolding zeros small_call nobody
small_comes datagram = record { sender = refl; lends = small_lends datagram }

begins_small : LentCall
begins_small = small_call (request_frame (WriteStart One 1))

ends_small : LentCall
ends_small = small_call (request_frame WriteEnd)

zeros_ready : Ready zeros
unfolding zeros good_n
zeros_ready = record { good = refl; control = refl; whole = both }
  where
    both : (x : Bank) → length (bank_in x (banks (replicate 512 0) (replicate 512 0))) ≡ 512
    both Zero = length-replicate {A = ℕ} 512 0
    both One = length-replicate {A = ℕ} 512 0

-- the board in its session
abbrev in_session : Board
in_session = board (begun (starting Zero zeros.client)) zeros.pair

session_begun : step_machine zeros (Datagram begins_small)
    ≡ changed zeros begins_small (begun (starting Zero zeros.client)) None (control_frame 0x70 (0x06 ∷ []))
unfolding zeros begins_small small_call
session_begun = begun_is zeros zeros_ready (small_call (request_frame (WriteStart One 1))) refl (small_comes (request_frame (WriteStart One 1)))

begun_said_small : said (step_machine zeros (Datagram begins_small)) ≡ control_frame 0x70 (0x06 ∷ [])
unfolding zeros begins_small small_call
begun_said_small = begun_said zeros zeros_ready (small_call (request_frame (WriteStart One 1))) refl (small_comes (request_frame (WriteStart One 1)))

end_heard : Heard in_session ends_small
unfolding zeros ends_small small_call
end_heard =
    heard in_session ends_small zeros_ready.good (small_lends (request_frame WriteEnd)) zeros_ready.whole refl

end_said : ends_session (said (step_machine in_session (Datagram ends_small))) ≡ true
unfolding zeros ends_small small_call control_frame framed
end_said = by (fit_of in_session.client.fixed (swept_target in_session ends_small)) refl
  where
    room : 14 ≤ length ends_small.buffer
    room = (small_lends (request_frame WriteEnd)).room

    own : from_stranger in_session.client ends_small.address ≡ false
    own = from_opener_lem in_session.client ends_small.address (small_comes (request_frame WriteEnd)).sender

    by : (t : Bool) → fit_of in_session.client.fixed (swept_target in_session ends_small) ≡ t
        → ends_session (said (step_machine in_session (Datagram ends_small))) ≡ true
    by true t =
        ap (λ (o : Outcome). ends_session (said o)) (write_end in_session ends_small end_heard own refl (request_read WriteEnd) (no_mark 1) t)
        ∙ ap ends_session (said_back ends_small (control_frame 0x75 (0x06 ∷ [])) (control_short 0x75 0x06) room)
    by false t =
        ap (λ (o : Outcome). ends_session (said o)) (write_end_unsound in_session ends_small end_heard own refl (request_read WriteEnd) (no_mark 1) t)
        ∙ ap ends_session (said_back ends_small (control_frame 0x75 (0x1E ∷ [])) (control_short 0x75 0x1E) room)

session_next : (stores_nothing zeros (Datagram begins_small)).board ≡ in_session
unfolding zeros
session_next = ap (λ (o : Outcome). (unstored zeros o).board) session_begun

-- it is one of them
pub one_keeper : StoresNothing stores_nothing
unfolding zeros control_frame framed
one_keeper =
    record {
      never = λ b i. refl;
      at = zeros;
      resting = λ s. not_write state.Control refl s;
      place = 0;
      low = omega arith;
      byte = λ e. absurd (omega (arith, e));
      start = begins_small;
      end = ends_small;
      begins = ap is_begin begun_said_small;
      ends = ap (λ (b : Board). ends_session (said (step_machine b (Datagram ends_small)))) session_next ∙ end_said;
    }

pub no_store : (m : Machine) → StoresNothing m → Meets3 m → ⊥
no_store m s meets =
    let n : ℕ = s.at.client.fixed.n in
    let is : List Input = Datagram s.start ∷ [] in
    let last : Board = (m (after m s.at is) (Datagram s.end)).board in
    let same = meets s.at s.at (record { client = refl; lengths = λ x. refl; resting = s.resting }) in
    let image : sectors_in n last ≡ all_blank n = ((same is).ended (Datagram s.end) s.ends).first ∙ rw s.begins in
    let pair : last.pair ≡ s.at.pair = s.never _ _ ∙ s.never _ _ in
    let stays = (same (Datagram s.start ∷ Datagram s.end ∷ [])).first_kept.client in
    let target : target_bank last ≡ target_bank s.at =
    ap₂ (λ (f : Fixed) (p : Banks). bank_in (other_of f.running) p) stays pair in
    s.byte
    (sym (get_or-take (bank_size n) (target_bank s.at) s.place 0xFF s.low)
    ∙ ap (λ (l : List ℕ). get_or (take (bank_size n) l) s.place 0xFF) (sym target)
    ∙ ap (λ (l : List ℕ). get_or l s.place 0xFF) image
    ∙ get_or-replicate (bank_size n) s.place 0xFF 0xFF s.low)
