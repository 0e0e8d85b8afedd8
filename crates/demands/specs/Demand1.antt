-- Demand 1. Whatever is put to a board, it does what the paper's table says and nothing else. The table is written here row by row: a test and
-- what comes of it, in the paper's order, so that the first row whose test holds decides (01, 'What comes back when it is no', "Order in the
-- client", and 'The client, step by step'; 02 §3 and §5). And whatever list of inputs comes, N, the version, which bank runs and every byte of that bank stay.
-- Assumes nothing.
use Rattle.std.specs.Prelude.{◌≡◌, None, Some, Bool, true, false, not, ◌&&◌, ◌||◌, cond, List, [], ◌∷◌, ◌++◌, ℕ, ◌-◌, eqb, length, get_or, drop, Option}
use Rattle.buffer.specs.Compare.{same_of, blank_of}
use Rattle.buffer.specs.Number.{number_at}
use Rattle.buffer.specs.Place.{front_of}
use Rattle.crc.specs.Crc.{crc_of}
use Rattle.frame.specs.Frame.{control_frame, write_frame, frame_error}
use Rattle.frame.specs.Read.{read_of, parameters_in, data_in}
use Rattle.frame.specs.declared.read.Footer.TheVariants.{End}
use Rattle.frame.specs.declared.read.Frame.{Frame}
use Rattle.frame.specs.declared.read.Frame.TheVariants.{Control, Write}
use Rattle.flash.specs.Bank.{with_sector, swept_of}
use Rattle.flash.specs.Sector.{padded_of}
use Rattle.layout.specs.declared.Bank.{Bank}
use Rattle.layout.specs.Layout.{good_n, bank_size, bank_number, other_of, sector_of}
use Rattle.layout.specs.Pair.{Banks, bank_in, with_bank}
use Rattle.client.specs.declared.notice.Notice.TheVariants.{Started, Ended}
use Rattle.client.specs.declared.record.Client.{Client}
use Rattle.client.specs.declared.record.Latest.TheVariants.{Good, Otherwise}
use Rattle.exchange.specs.declared.state.State.{State}
use Rattle.exchange.specs.declared.state.State.TheVariants as state
use Rattle.exchange.specs.Answer.{version_bytes, written_bytes}
use Rattle.exchange.specs.State.{is_closed, is_open}
use Rattle.client.specs.Notice.{MaybeNotice, latest_number}
use Rattle.client.specs.Perform.{fit_of, store_result}
use Rattle.decision.specs.Plan.{lent_good, is_worn, any_worn, values_good, addresses_good}
use Rattle.client.specs.Record.{Stays, starting, initiated, terminated, opened, mode_ended, begun, marked, ended}
use Rattle.calls.specs.Call.{Board, board}
use Rattle.demands.specs.Board.{LentCall, Input, Initiate, Terminate, Datagram, Outcome, Machine, after, running_bank, lent_of, lent_target}

-- ---- rows

pub record Row : Type 0 where
  pub when : Bool
  pub comes : Outcome

abbrev pub row : Bool → Outcome → Row
row when comes = record { when = when; comes = comes }

-- the first row whose test holds
abbrev pub first_of : List Row → Option Outcome
first_of [] = None
first_of (r ∷ rows) = cond r.when (Some r.comes) (first_of rows)

-- ---- the table of commands, column by column

-- "code not one of the six requests"
abbrev pub is_request : ℕ → Bool
is_request code = eqb code 0x61 || (eqb code 0x62 || (eqb code 0x68 || (eqb code 0x40 || (eqb code 0x45 || eqb code 0x64))))

-- 61 → 71, 62 → 72, 68 → 78, 40 → 70, 45 → 75, 64 → 74
abbrev pub response_code : ℕ → ℕ
response_code code =
    cond (eqb code 0x61) 0x71
    (cond (eqb code 0x62) 0x72 (cond (eqb code 0x68) 0x78 (cond (eqb code 0x40) 0x70 (cond (eqb code 0x45) 0x75 0x74))))

-- "start (4), end (4)", or none
abbrev pub parameter_bytes : ℕ → ℕ
parameter_bytes code = cond (eqb code 0x40) 8 0

-- "Accepted in"
abbrev pub accepted_in : State → ℕ → Bool
accepted_in state.Closed code = false
accepted_in state.Idle code = eqb code 0x61
accepted_in state.Control code = eqb code 0x62 || (eqb code 0x68 || (eqb code 0x40 || eqb code 0x64))
accepted_in state.Write code = eqb code 0x45

-- "Write packet in write state"
abbrev pub takes_packets : State → Bool
takes_packets state.Closed = false
takes_packets state.Idle = false
takes_packets state.Control = false
takes_packets state.Write = true

-- ---- the tests, of a datagram as it is read

abbrev pub is_fault : Option Frame → Bool
is_fault None = true
is_fault (Some (Control code n)) = false
is_fault (Some (Write sector m footer)) = false

abbrev pub is_packet : Option Frame → Bool
is_packet None = false
is_packet (Some (Control code n)) = false
is_packet (Some (Write sector m footer)) = true

abbrev pub is_code : ℕ → Option Frame → Bool
is_code asked None = false
is_code asked (Some (Control code n)) = eqb code asked
is_code asked (Some (Write sector m footer)) = false

abbrev pub no_request : Option Frame → Bool
no_request None = false
no_request (Some (Control code n)) = not (is_request code)
no_request (Some (Write sector m footer)) = false

-- "parameter length (control)"
abbrev pub wrong_length : Option Frame → Bool
wrong_length None = false
wrong_length (Some (Control code n)) = not (eqb n (parameter_bytes code))
wrong_length (Some (Write sector m footer)) = false

-- "Any other address" than "the address that opened the mode", all 16 bytes of it (02 §5)
abbrev pub from_stranger : Client → List ℕ → Bool
from_stranger c address = is_open c.state && not (same_of address c.opener)

abbrev pub wrong_state : State → Option Frame → Bool
wrong_state s None = false
wrong_state s (Some (Control code n)) = not (accepted_in s code)
wrong_state s (Some (Write sector m footer)) = not (takes_packets s)

-- value faults: addresses that are not the target's, a packet's sector, the number of its bytes
abbrev pub wrong_values : Client → List ℕ → Option Frame → Bool
wrong_values c datagram None = false
wrong_values c datagram (Some (Control code n)) =
    eqb code 0x40
    && not (addresses_good c.fixed.n c.fixed.running (number_at 4 (parameters_in datagram) 0) (number_at 4 (parameters_in datagram) 4))
wrong_values c datagram (Some (Write sector m footer)) = not (values_good c.fixed.n sector m)

-- the packet's own sector; a write end has a row of its own
abbrev pub worn_sector : List ℕ → Option Frame → Bool
worn_sector marks None = false
worn_sector marks (Some (Control code n)) = false
worn_sector marks (Some (Write sector m footer)) = is_worn (get_or marks (sector - 1) 0)

-- 15, J11's negative response, "in the command's own response"; of a packet "the write result repeats it", and the CRC field is 0
abbrev pub negative_response : Option Frame → List ℕ
negative_response None = frame_error
negative_response (Some (Control code n)) = control_frame (response_code code) (0x15 ∷ [])
negative_response (Some (Write sector m footer)) = write_frame sector (written_bytes 0x15 0x15 0) End

-- "E0 with 05": a code that is no request, and every parameter fault (02 §3)
abbrev pub parameter_error : List ℕ
parameter_error = 0x01 ∷ 0x02 ∷ 0xE0 ∷ 0x05 ∷ 0x19 ∷ 0x03 ∷ []

-- ---- what comes of it

-- "nothing changes", and the number
abbrev pub refused : Board → List ℕ → ℕ → Outcome
refused b buffer number = record { board = b; number = number; told = 0; buffer = buffer; notice = None }

-- an answer at the front of the buffer, the record and the notice; the banks stay
abbrev pub changed : Board → LentCall → Client → MaybeNotice → List ℕ → Outcome
changed b call c notice answer =
    record { board = board c b.pair; number = 0; told = length answer; buffer = front_of call.buffer answer; notice = notice }

-- nothing changes but the buffer
abbrev pub answered : Board → LentCall → List ℕ → Outcome
answered b call answer = changed b call b.client None answer

-- the same with another target: the front that was lent, and what lies behind it
abbrev pub stored : Board → LentCall → Client → List ℕ → List ℕ → Outcome
stored b call c target answer =
    record {
      board =
          (let other : Bank = other_of b.client.fixed.running in
          board c (with_bank other (target ++ drop (call.lent other) (bank_in other b.pair)) b.pair));
      number = 0;
      told = length answer;
      buffer = front_of call.buffer answer;
      notice = None;
    }

-- the data and then 0xFF are the sector, which "counts as received", with 06 or 1D and the CRC of the sector
abbrev pub packet_stored : Board → LentCall → Option Frame → Outcome
packet_stored b call None = answered b call []
packet_stored b call (Some (Control code n)) = answered b call []
packet_stored b call (Some (Write sector m footer)) =
    let bytes : List ℕ = data_in call.datagram in
    let result : ℕ = store_result (blank_of bytes) (same_of (sector_of (lent_target b call) sector) (padded_of bytes)) in
    stored b call (marked sector b.client) (with_sector (lent_target b call) sector (padded_of bytes))
    (write_frame sector (written_bytes 0x06 result (crc_of (padded_of bytes))) End)

-- "response result 06 and write result 1C"
abbrev pub packet_worn : Board → LentCall → Option Frame → Outcome
packet_worn b call None = answered b call []
packet_worn b call (Some (Control code n)) = answered b call []
packet_worn b call (Some (Write sector m footer)) = answered b call (write_frame sector (written_bytes 0x06 0x1C 0) End)

-- what was not received since the write start is 0xFF
abbrev pub swept_target : Board → LentCall → List ℕ
swept_target b call = swept_of (lent_target b call) b.client.fixed.n b.client.received

-- ---- the rows of a datagram, as it is read

abbrev pub after_frame : Board → LentCall → Option Frame → List Row
after_frame b call r =
    let c : Client = b.client in
    -- code, parameter length, address, state, values, worn
    row (no_request r) (answered b call parameter_error)
    ∷ row (wrong_length r) (answered b call parameter_error)
    ∷ row (from_stranger c call.address) (answered b call (negative_response r))
    ∷ row (wrong_state c.state r) (answered b call (negative_response r))
    ∷ row (wrong_values c call.datagram r) (answered b call parameter_error)
    ∷ row (worn_sector call.marks r) (packet_worn b call r)
    ∷ row (is_code 0x45 r && any_worn call.marks) (changed b call (ended Otherwise c) None (control_frame 0x75 (0x1C ∷ [])))
    -- what is left is answered 06, but for an unsound bank
    ∷ row (is_packet r) (packet_stored b call r)
    ∷ row (is_code 0x61 r) (changed b call (opened call.address c) (Some (Started call.address)) (control_frame 0x71 (0x06 ∷ [])))
    ∷ row (is_code 0x62 r) (answered b call (control_frame 0x72 (0x06 ∷ bank_number (other_of c.fixed.running) ∷ [])))
    ∷ row (is_code 0x68 r) (answered b call (control_frame 0x78 (version_bytes c.fixed.major c.fixed.minor c.fixed.revision)))
    ∷ row (is_code 0x40 r) (changed b call (begun (starting c.fixed.running c)) None (control_frame 0x70 (0x06 ∷ [])))
    ∷ row (is_code 0x64 r) (changed b call (mode_ended c) (Some (Ended (latest_number c.latest) call.address)) (control_frame 0x74 (0x06 ∷ [])))
    ∷ row (is_code 0x45 r && fit_of c.fixed (swept_target b call)) (stored b call (starting (other_of c.fixed.running) (ended Good c)) (swept_target b call) (control_frame 0x75 (0x06 ∷ [])))
    ∷ row (is_code 0x45 r) (stored b call (ended Otherwise c) (swept_target b call) (control_frame 0x75 (0x1E ∷ [])))
    ∷ []

-- 3, 2, 1, frame, and then the others
abbrev pub call_rows : Board → LentCall → List Row
call_rows b call =
    let c : Client = b.client in
    let lent : Banks = lent_of call.lent b.pair in
    row (not (good_n c.fixed.n)) (refused b call.buffer 3)
    ∷ row (not (eqb (length (bank_in c.fixed.running lent)) (bank_size c.fixed.n))) (refused b call.buffer 2)
    ∷ row (not (lent_good c.fixed.n (length (lent_target b call)) (length call.marks) (length call.address) (length call.buffer)))
    (refused b call.buffer 2)
    ∷ row (is_closed c.state) (refused b call.buffer 1)
    ∷ row (is_fault (read_of call.datagram)) (answered b call frame_error)
    ∷ after_frame b call (read_of call.datagram)

-- a host command that is done has no number, no answer and no notice
abbrev pub host_done : Board → Client → Outcome
host_done b c = record { board = board c b.pair; number = 0; told = 0; buffer = []; notice = None }

-- "Host commands: 3, 4"
abbrev pub table_of : Board → Input → List Row
table_of b Initiate =
    row (not (good_n b.client.fixed.n)) (refused b [] 3)
    ∷ row (not (is_closed b.client.state)) (refused b [] 4)
    ∷ row true (host_done b (initiated b.client))
    ∷ []
table_of b Terminate =
    row (not (good_n b.client.fixed.n)) (refused b [] 3)
    ∷ row (is_closed b.client.state) (refused b [] 4)
    ∷ row true (host_done b (terminated b.client))
    ∷ []
table_of b (Datagram call) = call_rows b call

-- ---- the demand

pub record Unchanged (before after : Board) : Type 0 where
  pub client : Stays before.client after.client
  pub bytes : running_bank after ≡ running_bank before

pub record Meets1 (m : Machine) : Type 0 where
  pub table : (b : Board) (i : Input) → first_of (table_of b i) ≡ Some (m b i)
  pub kept : (b : Board) (is : List Input) → Unchanged b (after m b is)
