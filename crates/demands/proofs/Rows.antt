-- What comes of a datagram of the sender's, read off the table of demand 1: the first row whose test holds.
-- Assumes nothing.
use Rattle.std.specs.Prelude.{Some, None, Option}
use mathlib.Core.Path.{◌≡◌, refl, sym, ap, ◌∙◌}
use mathlib.Core.Bool.{Bool, true, false, not, ◌&&◌, cond}
use mathlib.Core.List.{List, [], ◌∷◌}
use Prim.Native.Nat.{ℕ, ◌-◌}
use lib.Dec.{eqb}
use lib.ListN.{length, get_or}
use borrow.Author.Tests.{not-false}
use Rattle.std.specs.Prelude.{None, Some}
use Rattle.buffer.proofs.Bools.{and_false}
use Rattle.buffer.specs.Compare.{same_of}
use Rattle.buffer.proofs.Comparing.{same_self, same_true}
use Rattle.frame.specs.Frame.{control_frame, frame_error}
use Rattle.buffer.specs.Number.{number_at}
use Rattle.frame.specs.Read.{read_of, parameters_in}
use Rattle.frame.specs.declared.read.Footer.{Footer}
use Rattle.frame.specs.declared.read.Frame.TheVariants.{Control, Write}
use Rattle.layout.specs.Layout.{good_n, bank_size, bank_number, other_of}
use Rattle.layout.specs.Pair.{bank_in}
use Rattle.client.specs.declared.notice.Notice.TheVariants.{Started, Ended}
use Rattle.client.specs.declared.record.Client.{Client}
use Rattle.client.specs.declared.record.Latest.TheVariants.{Good, Otherwise}
use Rattle.exchange.specs.declared.state.State.{State}
use Rattle.exchange.specs.declared.state.State.TheVariants as state
use Rattle.exchange.specs.Answer.{version_bytes}
use Rattle.exchange.specs.State.{is_closed, is_open}
use Rattle.client.specs.Notice.{latest_number}
use Rattle.client.specs.Perform.{fit_of}
use Rattle.decision.specs.Plan.{lent_good, is_worn, any_worn, values_good, addresses_good}
use Rattle.client.specs.Record.{starting, initiated, opened, mode_ended, begun, ended}
use Rattle.calls.specs.Call.{Board}
use Rattle.demands.specs.Board.{LentCall, Input, Initiate, Datagram, Outcome, lent_of, lent_target, step_machine}
use Rattle.demands.specs.Demand1.{first_of, table_of, is_request, from_stranger, parameter_error, host_done, answered, changed, stored, packet_stored, swept_target, accepted_in, takes_packets}
use Rattle.demands.proofs.Demand1.{table}

abbrev pub given : Outcome → Option Outcome → Outcome
given o None = o
given o (Some p) = p

pub comes : (b : Board) (i : Input) (o : Outcome) → first_of (table_of b i) ≡ Some o → step_machine b i ≡ o
comes b i o e = ap (given o) (sym (table b i) ∙ e)

-- from the address that opened the mode
pub from_opener_lem : (c : Client) (address : List ℕ) → address ≡ c.opener → from_stranger c address ≡ false
from_opener_lem c address e = rw (e, same_self c.opener) (and_false (is_open c.state))

-- and whose the mode is where no stranger asks
pub own_mode : (c : Client) (address : List ℕ) → from_stranger c address ≡ false → is_open c.state ≡ true → address ≡ c.opener
own_mode c address e o =
    same_true address c.opener (not-false _ (sym (ap (λ (x : Bool). x && not (same_of address c.opener)) o) ∙ e))

-- a call that is not refused: N, the lengths, the state
pub record Heard (b : Board) (call : LentCall) : Type 0 where
  pub good : good_n b.client.fixed.n ≡ true
  pub runs : eqb (length (bank_in b.client.fixed.running (lent_of call.lent b.pair))) (bank_size b.client.fixed.n) ≡ true
  pub lengths : lent_good b.client.fixed.n (length (lent_target b call)) (length call.marks) (length call.address) (length call.buffer) ≡ true
  pub live : is_closed b.client.state ≡ false

module _ (b : Board) (call : LentCall) (h : Heard b call) where
  -- it comes from the opener, or no mode is open
  abbrev Own : Type 0
  Own = from_stranger b.client call.address ≡ false

  pub write_start : Own → b.client.state ≡ state.Control → read_of call.datagram ≡ Some (Control 0x40 8) → addresses_good b.client.fixed.n b.client.fixed.running (number_at 4 (parameters_in call.datagram) 0) (number_at 4 (parameters_in call.datagram) 4) ≡ true
      → step_machine b (Datagram call) ≡ changed b call (begun (starting b.client.fixed.running b.client)) None (control_frame 0x70 (0x06 ∷ []))
  write_start o s r a =
      let t : accepted_in b.client.state 0x40 ≡ true = ap (λ (x : State). accepted_in x 0x40) s in
      comes b (Datagram call) _ (rw (h.good, h.runs, h.lengths, h.live, r, o, t, a))

  pub packet : (sector m : ℕ) (footer : Footer) → Own → b.client.state ≡ state.Write → read_of call.datagram ≡ Some (Write sector m footer)
      → values_good b.client.fixed.n sector m ≡ true → is_worn (get_or call.marks (sector - 1) 0) ≡ false
      → step_machine b (Datagram call) ≡ packet_stored b call (Some (Write sector m footer))
  packet sector m footer o s r v w =
      let t : takes_packets b.client.state ≡ true = ap takes_packets s in
      comes b (Datagram call) _ (rw (h.good, h.runs, h.lengths, h.live, r, o, t, v, w))

  pub write_end : Own → b.client.state ≡ state.Write → read_of call.datagram ≡ Some (Control 0x45 0) → any_worn call.marks ≡ false → fit_of b.client.fixed (swept_target b call) ≡ true
      → step_machine b (Datagram call) ≡ stored b call (starting (other_of b.client.fixed.running) (ended Good b.client)) (swept_target b call) (control_frame 0x75 (0x06 ∷ []))
  write_end o s r w f =
      let t : accepted_in b.client.state 0x45 ≡ true = ap (λ (x : State). accepted_in x 0x45) s in
      comes b (Datagram call) _ (rw (h.good, h.runs, h.lengths, h.live, r, o, t, w, f))

  pub write_end_unsound : Own → b.client.state ≡ state.Write → read_of call.datagram ≡ Some (Control 0x45 0) → any_worn call.marks ≡ false → fit_of b.client.fixed (swept_target b call) ≡ false
      → step_machine b (Datagram call) ≡ stored b call (ended Otherwise b.client) (swept_target b call) (control_frame 0x75 (0x1E ∷ []))
  write_end_unsound o s r w f =
      let t : accepted_in b.client.state 0x45 ≡ true = ap (λ (x : State). accepted_in x 0x45) s in
      comes b (Datagram call) _ (rw (h.good, h.runs, h.lengths, h.live, r, o, t, w, f))

  pub mode_start : b.client.state ≡ state.Idle → read_of call.datagram ≡ Some (Control 0x61 0)
      → step_machine b (Datagram call) ≡ changed b call (opened call.address b.client) (Some (Started call.address)) (control_frame 0x71 (0x06 ∷ []))
  mode_start s r =
      let t : accepted_in b.client.state 0x61 ≡ true = ap (λ (x : State). accepted_in x 0x61) s in
      comes b (Datagram call) _ (rw (h.good, h.runs, h.lengths, h.live, r, ap is_open s, t))

  pub mode_end : Own → b.client.state ≡ state.Control → read_of call.datagram ≡ Some (Control 0x64 0)
      → step_machine b (Datagram call) ≡ changed b call (mode_ended b.client) (Some (Ended (latest_number b.client.latest) call.address)) (control_frame 0x74 (0x06 ∷ []))
  mode_end o s r =
      let t : accepted_in b.client.state 0x64 ≡ true = ap (λ (x : State). accepted_in x 0x64) s in
      comes b (Datagram call) _ (rw (h.good, h.runs, h.lengths, h.live, r, o, t))

  pub version : Own → b.client.state ≡ state.Control → read_of call.datagram ≡ Some (Control 0x68 0)
      → step_machine b (Datagram call) ≡ answered b call (control_frame 0x78 (version_bytes b.client.fixed.major b.client.fixed.minor b.client.fixed.revision))
  version o s r =
      let t : accepted_in b.client.state 0x68 ≡ true = ap (λ (x : State). accepted_in x 0x68) s in
      comes b (Datagram call) _ (rw (h.good, h.runs, h.lengths, h.live, r, o, t))

  pub bank_told : Own → b.client.state ≡ state.Control → read_of call.datagram ≡ Some (Control 0x62 0)
      → step_machine b (Datagram call) ≡ answered b call (control_frame 0x72 (0x06 ∷ bank_number (other_of b.client.fixed.running) ∷ []))
  bank_told o s r =
      let t : accepted_in b.client.state 0x62 ≡ true = ap (λ (x : State). accepted_in x 0x62) s in
      comes b (Datagram call) _ (rw (h.good, h.runs, h.lengths, h.live, r, o, t))

  -- out of its state: 15, to a stranger and to the opener
  either : {o : Option Outcome} → cond (from_stranger b.client call.address) o o ≡ o
  either {o} = by (from_stranger b.client call.address)
    where
      by : (x : Bool) → cond x o o ≡ o
      by true = refl
      by false = refl

  pub mode_start_declined : b.client.state ≡ state.Control → read_of call.datagram ≡ Some (Control 0x61 0)
      → step_machine b (Datagram call) ≡ answered b call (control_frame 0x71 (0x15 ∷ []))
  mode_start_declined s r =
      let t : accepted_in b.client.state 0x61 ≡ false = ap (λ (x : State). accepted_in x 0x61) s in
      comes b (Datagram call) _ (rw (h.good, h.runs, h.lengths, h.live, r, t) either)

  pub write_start_declined : b.client.state ≡ state.Write → read_of call.datagram ≡ Some (Control 0x40 8)
      → step_machine b (Datagram call) ≡ answered b call (control_frame 0x70 (0x15 ∷ []))
  write_start_declined s r =
      let t : accepted_in b.client.state 0x40 ≡ false = ap (λ (x : State). accepted_in x 0x40) s in
      comes b (Datagram call) _ (rw (h.good, h.runs, h.lengths, h.live, r, t) either)

  pub mode_end_declined : b.client.state ≡ state.Idle → read_of call.datagram ≡ Some (Control 0x64 0)
      → step_machine b (Datagram call) ≡ answered b call (control_frame 0x74 (0x15 ∷ []))
  mode_end_declined s r =
      let t : accepted_in b.client.state 0x64 ≡ false = ap (λ (x : State). accepted_in x 0x64) s in
      comes b (Datagram call) _ (rw (h.good, h.runs, h.lengths, h.live, r, ap is_open s, t))

  -- refusals
  pub fault : read_of call.datagram ≡ None → step_machine b (Datagram call) ≡ answered b call frame_error
  fault r = comes b (Datagram call) _ (rw (h.good, h.runs, h.lengths, h.live, r))

  pub no_request_is : (code n : ℕ) → read_of call.datagram ≡ Some (Control code n) → is_request code ≡ false
      → step_machine b (Datagram call) ≡ answered b call parameter_error
  no_request_is code n r e = comes b (Datagram call) _ (rw (h.good, h.runs, h.lengths, h.live, r, e))

  pub packet_wrong : (sector m : ℕ) (footer : Footer) → Own → b.client.state ≡ state.Write → read_of call.datagram ≡ Some (Write sector m footer)
      → values_good b.client.fixed.n sector m ≡ false
      → step_machine b (Datagram call) ≡ answered b call parameter_error
  packet_wrong sector m footer o s r v =
      let t : takes_packets b.client.state ≡ true = ap takes_packets s in
      comes b (Datagram call) _ (rw (h.good, h.runs, h.lengths, h.live, r, o, t, v))

-- a host command on a closed client
pub initiate : (b : Board) → good_n b.client.fixed.n ≡ true → is_closed b.client.state ≡ true → step_machine b Initiate ≡ host_done b (initiated b.client)
initiate b g s = comes b Initiate _ (rw (g, s))
