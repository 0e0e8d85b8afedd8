-- Machines that a demand shuts out (01, 'How much each function must say', "Show that these are shut out").
-- Assumes nothing.
use Rattle.std.specs.Prelude.{◌≡◌, Bool, true, false, not, ◌&&◌, ◌||◌, cond, List, [], ◌∷◌, ℕ, ◌<◌, eqb, length, get_or, Some}
use Rattle.buffer.specs.Number.{byte_at}
use Rattle.frame.specs.Frame.{frame_error}
use Rattle.frame.specs.Read.{read_of}
use Rattle.frame.specs.declared.read.Footer.{Footer}
use Rattle.frame.specs.declared.read.Frame.TheVariants.{Write}
use Rattle.sender.specs.declared.request.Request.TheVariants.{WriteEnd}
use Rattle.sender.specs.Request.{request_frame}
use Rattle.layout.specs.Layout.{good_n, bank_size, other_of}
use Rattle.layout.specs.Pair.{bank_in}
use Rattle.exchange.specs.declared.state.State.TheVariants as state
use Rattle.exchange.specs.State.{is_closed}
use Rattle.decision.specs.Plan.{lent_good}
use Rattle.client.specs.declared.record.Client.{Client}
use Rattle.calls.specs.Call.{Board, board}
use Rattle.demands.specs.Board.{LentCall, Input, Initiate, Terminate, Datagram, Outcome, said, Machine, after, target_bank, lent_of, lent_target, step_machine}
use Rattle.demands.specs.Demand1.{is_packet, refused, answered}
use Rattle.demands.specs.Session.{is_begin, is_stored, ends_session}

-- a response with 06: a control response has its result behind the code, a write response its response result behind sector and length
abbrev pub says06 : List ℕ → Bool
says06 answer =
    (eqb (byte_at answer 0) 0x01 && eqb (byte_at answer 3) 0x06) || (eqb (byte_at answer 0) 0x02 && eqb (byte_at answer 5) 0x06)

-- one that refuses everything: no answer of it carries 06
abbrev pub RefusesAll : Machine → Type 0
RefusesAll m = (b : Board) (call : LentCall) → says06 (said (m b (Datagram call))) ≡ true → ⊥

-- one with a single fixed answer: where it says anything, it says that; it may refuse with a number, rightly or not
pub record OneAnswer (m : Machine) : Type 0 where
  pub answer : List ℕ
  pub always : (b : Board) (call : LentCall) → (said (m b (Datagram call)) ≡ [] → ⊥) → said (m b (Datagram call)) ≡ answer

-- one of both: it refuses as the client does, 3, 2, 1, and takes all else for a frame fault
abbrev pub faults_only : Machine
faults_only b Initiate = step_machine b Initiate
faults_only b Terminate = step_machine b Terminate
faults_only b (Datagram call) =
    let c : Client = b.client in
    cond (not (good_n c.fixed.n)) (refused b call.buffer 3)
    (cond (not (eqb (length (bank_in c.fixed.running (lent_of call.lent b.pair))) (bank_size c.fixed.n))) (refused b call.buffer 2)
    (cond (not (lent_good c.fixed.n (length (lent_target b call)) (length call.marks) (length call.address) (length call.buffer)))
    (refused b call.buffer 2)
    (cond (is_closed c.state) (refused b call.buffer 1) (answered b call frame_error))))

-- one that never changes a bank
abbrev pub NeverStores : Machine → Type 0
NeverStores m = (b : Board) (i : Input) → (m b i).board.pair ≡ b.pair

-- one that stores nothing and says that it does: on one board with no session under way, and a byte other than 0xFF in its target, a session
-- begins with 06 and ends at once, with 06 or 1E
pub record StoresNothing (m : Machine) : Type 0 where
  pub never : NeverStores m
  pub at : Board
  pub resting : at.client.state ≡ state.Write → ⊥
  pub place : ℕ
  pub low : place < bank_size at.client.fixed.n
  pub byte : get_or (target_bank at) place 0xFF ≡ 0xFF → ⊥
  pub start : LentCall
  pub end : LentCall
  pub begins : is_begin (said (m at (Datagram start))) ≡ true
  pub ends : ends_session (said (m (m at (Datagram start)).board (Datagram end))) ≡ true

-- the same outcome, but the banks stay
abbrev pub unstored : Board → Outcome → Outcome
unstored b o =
    record { board = board o.board.client b.pair; number = o.number; told = o.told; buffer = o.buffer; notice = o.notice }

-- one of them: it answers as the client does
abbrev pub stores_nothing : Machine
stores_nothing b i = unstored b (step_machine b i)

-- ---- one that stores the first packet and "only acknowledges the rest"

-- the same call with another datagram
abbrev pub bringing : List ℕ → LentCall → LentCall
bringing datagram call =
    record { datagram = datagram; address = call.address; marks = call.marks; buffer = call.buffer; lent = call.lent }

-- packets that differ in their bytes alone: each goes to the same sector, is as long, has the same footer and comes with the same things lent
pub data SameButBytes : List Input → List Input → Type 0 where
  none_alike : SameButBytes [] []
  more_alike : {call : LentCall} {datagram : List ℕ} {is js : List Input} (sector size : ℕ) (footer : Footer)
      → read_of call.datagram ≡ Some (Write sector size footer) → read_of datagram ≡ Some (Write sector size footer) → SameButBytes is js
      → SameButBytes (Datagram call ∷ is) (Datagram (bringing datagram call) ∷ js)

-- a session is begun and its first packet handled: the answers say so
pub record FirstHandled (m : Machine) (b : Board) (start first : LentCall) : Type 0 where
  pub begins : is_begin (said (m b (Datagram start))) ≡ true
  pub packet : is_packet (read_of first.datagram) ≡ true
  pub handled : is_stored (said (m (m b (Datagram start)).board (Datagram first))) ≡ true

-- the target when the session is over
abbrev pub target_after : Machine → Board → LentCall → LentCall → List Input → LentCall → List ℕ
target_after m b start first rest end =
    bank_in (other_of b.client.fixed.running) (m (after m b (Datagram start ∷ Datagram first ∷ rest)) (Datagram end)).board.pair

-- Who only acknowledges a packet makes nothing of its bytes: they may be others, and the bank is the same at the write end. The class asks no
-- more than that. What such a machine makes of the first packet, how it answers the rest, and what it notes of their sectors and their number
-- is its own affair.
abbrev pub FirstOnly : Machine → Type 0
FirstOnly m =
    (b : Board) (start first end : LentCall) (is js : List Input) → FirstHandled m b start first
    → end.datagram ≡ request_frame WriteEnd → SameButBytes is js
    → target_after m b start first is end ≡ target_after m b start first js end

-- one of them: the client, but behind the first packet of a session it answers each packet and leaves the board as it is
abbrev pub any_of : List Bool → Bool
any_of [] = false
any_of (x ∷ xs) = x || any_of xs

abbrev pub answered_only : Board → Outcome → Outcome
answered_only b o = record { board = b; number = o.number; told = o.told; buffer = o.buffer; notice = o.notice }

abbrev pub acknowledging : Machine
acknowledging b Initiate = step_machine b Initiate
acknowledging b Terminate = step_machine b Terminate
acknowledging b (Datagram call) =
    cond (any_of b.client.received && is_packet (read_of call.datagram))
    (answered_only b (step_machine b (Datagram call)))
    (step_machine b (Datagram call))
