-- The paper's worked examples 1 to 11 as one table with one claim (01, 'Worked examples to hold'; 7 and 8 as 02 §3 reads them).
-- Assumes nothing.
use Rattle.std.specs.Prelude.{◌≡◌, Bool, true, false, not, ◌&&◌, List, [], ◌∷◌, ◌++◌, ℕ, ◌+◌, ◌*◌, ◌%◌, ◌≤◌, eqb, leb, length, replicate, Some, Result, Ok, Err}
use Rattle.buffer.specs.Number.{byte_at}
use Rattle.crc.specs.Crc.{crc_of}
use Rattle.frame.specs.Frame.{write_frame}
use Rattle.frame.specs.Read.{read_of, data_in}
use Rattle.frame.specs.declared.read.Footer.{Footer}
use Rattle.frame.specs.declared.read.Footer.TheVariants.{End}
use Rattle.frame.specs.declared.read.Frame.TheVariants.{Control, Write}
use Rattle.flash.specs.Sector.{padded_of}
use Rattle.layout.specs.declared.Bank.{Bank}
use Rattle.layout.specs.declared.Bank.TheVariants.{One}
use Rattle.layout.specs.Layout.{sector_size, good_n, bank_size}
use Rattle.layout.specs.Pair.{bank_in}
use Rattle.hex_text.specs.declared.fault.Kind.TheVariants.{H6}
use Rattle.hex_text.specs.declared.read.ReadError.{ReadError}
use Rattle.hex_text.specs.declared.read.ReadError.TheVariants.{Line}
use Rattle.hex_text.specs.Read.{text_read}
use Rattle.sender.specs.declared.request.Request.{Request}
use Rattle.sender.specs.declared.request.Request.TheVariants.{ModeStart, WriteStart}
use Rattle.sender.specs.Request.{request_frame}
use Rattle.exchange.specs.declared.state.State.{State}
use Rattle.exchange.specs.declared.state.State.TheVariants as state
use Rattle.exchange.specs.Answer.{written_bytes}
use Rattle.exchange.specs.State.{is_closed}
use Rattle.calls.specs.Call.{Board}
use Rattle.demands.specs.Board.{LentCall, Datagram, said, step_machine}
use Rattle.demands.specs.Demand2.{Lends, SentFrom}
use Rattle.demands.specs.Session.{is_stored}

pub data Example : Type 0 where
  -- the sender's request is these bytes
  Sends : Request → List ℕ → Example
  -- a write frame with this sector and these bytes has this checksum
  Sums : ℕ → List ℕ → ℕ → Example
  -- in such a state this datagram has this answer
  Answers : (State → Bool) → List ℕ → List ℕ → Example
  -- in such a state a control frame with this code has this answer, whatever parameters it has
  Codes : (State → Bool) → ℕ → List ℕ → Example
  -- with so many sectors a packet for this sector is taken, or refused by E0 with 05, whatever good number of bytes it has
  Sector : ℕ → ℕ → Bool → Example
  -- a packet with so many bytes is taken, or refused by E0 with 05, whatever sector of the bank it is for
  Length : ℕ → Bool → Example
  -- a packet that was accepted, sent once more at once, is answered 06 and 1D, with the CRC of the sector
  Again : Example
  -- this text has this answer
  Reads : List ℕ → Result (Unit {0}) ReadError → Example

-- a call on a board: N from 1 to 491, banks of the right length, lent whole, no sector worn
pub record Calls (b : Board) (call : LentCall) : Type 0 where
  pub good : good_n b.client.fixed.n ≡ true
  pub whole : (x : Bank) → length (bank_in x b.pair) ≡ bank_size b.client.fixed.n
  pub lends : Lends b.client.fixed.n call

-- a packet in write state, from the address that opened the mode
pub record Brings (b : Board) (call : LentCall) (sector m : ℕ) : Type 0 where
  pub calls : Calls b call
  pub sender : call.address ≡ b.client.opener
  pub writing : b.client.state ≡ state.Write
  pub footer : Footer
  pub reads : read_of call.datagram ≡ Some (Write sector m footer)

-- taken with 06 or 1D, or refused
abbrev pub PacketTaken : Bool → Board → LentCall → Type 0
PacketTaken true b call = is_stored (said (step_machine b (Datagram call))) ≡ true
PacketTaken false b call = said (step_machine b (Datagram call)) ≡ 0x01 ∷ 0x02 ∷ 0xE0 ∷ 0x05 ∷ 0x19 ∷ 0x03 ∷ []

-- other numbers of bytes are wrong
abbrev pub good_length : ℕ → Bool
good_length m = leb 1 m && (leb m 512 && eqb (m % 4) 0)

abbrev pub Holds : Example → Type 0
Holds (Sends request bytes) = request_frame request ≡ bytes
Holds (Sums sector bytes sum) = (footer : Footer) → byte_at (write_frame sector bytes footer) (5 + length bytes) ≡ sum
Holds (Answers states datagram answer) =
    (b : Board) (call : LentCall) → Calls b call → states b.client.state ≡ true → call.datagram ≡ datagram
    → said (step_machine b (Datagram call)) ≡ answer
Holds (Codes states code answer) =
    (b : Board) (call : LentCall) (m : ℕ) → Calls b call → states b.client.state ≡ true → read_of call.datagram ≡ Some (Control code m)
    → said (step_machine b (Datagram call)) ≡ answer
Holds (Sector n sector good) =
    (b : Board) (call : LentCall) (m : ℕ) → b.client.fixed.n ≡ n → good_length m ≡ true → Brings b call sector m → PacketTaken good b call
Holds (Length m good) =
    (b : Board) (call : LentCall) (sector : ℕ) → 1 ≤ sector → sector ≤ b.client.fixed.n → Brings b call sector m → PacketTaken good b call
Holds Again =
    (b : Board) (call again : LentCall) (sector m : ℕ) → Brings b call sector m → is_stored (said (step_machine b (Datagram call))) ≡ true
    → again.datagram ≡ call.datagram → SentFrom b.client.opener b.client.fixed.n again
    → said (step_machine (step_machine b (Datagram call)).board (Datagram again))
    ≡ write_frame sector (written_bytes 0x06 0x1D (crc_of (padded_of (data_in call.datagram)))) End
Holds (Reads text answer) =
    (bank : Bank) (n : ℕ) (image : List ℕ) → good_n n ≡ true → length image ≡ sector_size * n → (text_read text bank n image).answer ≡ answer

pub data AllHold : List Example → Type 0 where
  none : AllHold []
  also : {r : Example} {rows : List Example} → Holds r → AllHold rows → AllHold (r ∷ rows)

abbrev pub is_idle : State → Bool
is_idle state.Closed = false
is_idle state.Idle = true
is_idle state.Control = false
is_idle state.Write = false

abbrev pub live : State → Bool
live s = not (is_closed s)

abbrev pub rows : List Example
rows =
    -- 1
    Sends ModeStart (0x01 ∷ 0x01 ∷ 0x61 ∷ 0x9E ∷ 0x03 ∷ [])
    ∷ Answers is_idle (0x01 ∷ 0x01 ∷ 0x61 ∷ 0x9E ∷ 0x03 ∷ []) (0x01 ∷ 0x02 ∷ 0x71 ∷ 0x06 ∷ 0x87 ∷ 0x03 ∷ [])
    -- 2
    ∷ Sums 1 (0xFF ∷ 0x80 ∷ 0x40 ∷ 0x22 ∷ []) 0x1A
    -- 3
    ∷ Answers live (0x01 ∷ 0x01 ∷ 0x60 ∷ 0x9F ∷ 0x03 ∷ []) (0x01 ∷ 0x02 ∷ 0xE0 ∷ 0x05 ∷ 0x19 ∷ 0x03 ∷ [])
    ∷ Codes live 0x60 (0x01 ∷ 0x02 ∷ 0xE0 ∷ 0x05 ∷ 0x19 ∷ 0x03 ∷ [])
    -- 4
    ∷ Sends (WriteStart One 491) (0x01 ∷ 0x09 ∷ 0x40 ∷ 0x14 ∷ 0x00 ∷ 0x0A ∷ 0x00 ∷ 0x14 ∷ 0x03 ∷ 0xDF ∷ 0xFF ∷ 0xA4 ∷ 0x03 ∷ [])
    -- 5
    ∷ Sends (WriteStart One 32) (0x01 ∷ 0x09 ∷ 0x40 ∷ 0x14 ∷ 0x00 ∷ 0x0A ∷ 0x00 ∷ 0x14 ∷ 0x00 ∷ 0x49 ∷ 0xFF ∷ 0x3D ∷ 0x03 ∷ [])
    -- 6
    ∷ Answers live [] (0x01 ∷ 0x02 ∷ 0xE0 ∷ 0x07 ∷ 0x17 ∷ 0x03 ∷ [])
    -- 7
    ∷ Sector 491 491 true
    ∷ Sector 491 492 false
    ∷ Sector 491 0 false
    -- 8
    ∷ Length 512 true
    ∷ Length 516 false
    ∷ Length 0 false
    ∷ Length 6 false
    -- 9
    ∷ Again
    -- 10
    ∷ Reads [] (Err (Line (record { kind = H6; line = 1; byte = 1 })))
    ∷ Reads (0x3A ∷ 48 ∷ 48 ∷ 48 ∷ 48 ∷ 48 ∷ 48 ∷ 48 ∷ 49 ∷ 70 ∷ 70 ∷ []) (Ok tt)
    -- 11
    ∷ Sums 3 ((0x01 ∷ 0x02 ∷ 0x03 ∷ 0x04 ∷ []) ++ replicate 508 0xFF) 0xED
    ∷ []

abbrev pub Examples : Type 0
Examples = AllHold rows
