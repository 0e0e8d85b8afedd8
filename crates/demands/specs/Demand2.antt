-- Demand 2. A good image arrives, in whatever order and however often its packets come. A board in control state, with N from 1 to 491 and whole
-- banks, is sent what the sender makes: its write start, then its packets of a fit image, each at least once, and its write end, all from "the
-- address that opened the mode" (02 §5). No sector is worn, and each call lends what the paper asks for. Then the start is answered 06, every
-- packet 06 or 1D with the right CRC, and the end 06; the target bank is the image, byte for byte, and starts next. Told by the bytes that are
-- sent back.
-- Assumes nothing.
use Rattle.std.specs.Prelude.{◌≡◌, true, ℕ, ◌≤◌, ◌<◌, length, replicate}
use mathlib.Core.List.{List, [], ◌∷◌, Memᴰ}
use Rattle.crc.specs.Crc.{crc_of}
use Rattle.frame.specs.Frame.{write_frame}
use Rattle.frame.specs.declared.read.Footer.TheVariants.{End}
use Rattle.layout.specs.declared.Bank.{Bank}
use Rattle.layout.specs.Layout.{good_n, bank_size, other_of, sector_of}
use Rattle.layout.specs.Pair.{bank_in}
use Rattle.sender.specs.declared.request.Request.TheVariants.{WriteStart, WriteEnd}
use Rattle.sender.specs.Packet.{packet_count, packet_sector, packet_frame}
use Rattle.sender.specs.Request.{request_frame}
use Rattle.exchange.specs.declared.state.State.TheVariants.{Control}
use Rattle.exchange.specs.Answer.{written_bytes}
use Rattle.decision.specs.declared.plan.Fixed.{Fixed}
use Rattle.client.specs.Perform.{Accepted, fit_of}
use Rattle.calls.specs.Call.{Board}
use Rattle.demands.specs.Board.{LentCall, Input, Datagram, Outcome, said, Machine, after, outcomes}

-- what a call lends: a 16-byte address, n marks that are zero ("non-zero means worn"), room for an answer, all of both banks
pub record Lends (n : ℕ) (call : LentCall) : Type 0 where
  pub address : length call.address ≡ 16
  pub marks : call.marks ≡ replicate n 0
  pub room : 14 ≤ length call.buffer
  pub banks : (x : Bank) → call.lent x ≡ bank_size n

-- and from which address it comes
pub record SentFrom (address : List ℕ) (n : ℕ) (call : LentCall) : Type 0 where
  pub sender : call.address ≡ address
  pub lends : Lends n call

-- calls that bring the packets with these numbers, in this order, as the sender makes them
pub data Packets (address image : List ℕ) (n : ℕ) : List ℕ → List Input → Type 0 where
  none : Packets address image n [] []
  more : {p : ℕ} {ps : List ℕ} {call : LentCall} {is : List Input} → p < packet_count image n → call.datagram ≡ packet_frame image n p
      → SentFrom address n call → Packets address image n ps is → Packets address image n (p ∷ ps) (Datagram call ∷ is)

-- a board that takes a write start
pub record Ready (b : Board) : Type 0 where
  pub good : good_n b.client.fixed.n ≡ true
  pub control : b.client.state ≡ Control
  pub whole : (x : Bank) → length (bank_in x b.pair) ≡ bank_size b.client.fixed.n

-- an image of that size that this client may start
pub record Fit (image : List ℕ) (fixed : Fixed) : Type 0 where
  pub size : length image ≡ bank_size fixed.n
  pub sound : fit_of fixed image ≡ true

-- the whole delivery from one address: start, packets of which none is missing, end
pub record Delivery (address : List ℕ) (b : Board) (image : List ℕ) (start : LentCall) (ps : List ℕ) (is : List Input) (end : LentCall) : Type 0 where
  pub start_sent : start.datagram ≡ request_frame (WriteStart (other_of b.client.fixed.running) b.client.fixed.n)
  pub start_comes : SentFrom address b.client.fixed.n start
  pub packets : Packets address image b.client.fixed.n ps is
  pub each : (p : ℕ) → p < packet_count image b.client.fixed.n → Memᴰ p ps
  pub end_sent : end.datagram ≡ request_frame WriteEnd
  pub end_comes : SentFrom address b.client.fixed.n end

-- a packet's answer: its sector, 06, then 06 or 1D, and the CRC of the sector as the image has it
pub record Taken (image : List ℕ) (n p : ℕ) (o : Outcome) : Type 0 where
  pub write : ℕ
  pub accepted : Accepted write
  pub answer : said o ≡ write_frame (packet_sector image n p) (written_bytes 0x06 write (crc_of (sector_of image (packet_sector image n p)))) End

pub data AllTaken (image : List ℕ) (n : ℕ) : List ℕ → List Outcome → Type 0 where
  none_taken : AllTaken image n [] []
  more_taken : {p : ℕ} {ps : List ℕ} {o : Outcome} {os : List Outcome} → Taken image n p o → AllTaken image n ps os → AllTaken image n (p ∷ ps) (o ∷ os)

-- what comes of it: `is` is all that came between start and end, and `os` the outcomes of the packets among it
pub record DeliveredBy (m : Machine) (b : Board) (image : List ℕ) (start : LentCall) (ps : List ℕ) (os : List Outcome) (is : List Input) (end : LentCall) : Type 0 where
  pub started : said (m b (Datagram start)) ≡ 0x01 ∷ 0x02 ∷ 0x70 ∷ 0x06 ∷ 0x88 ∷ 0x03 ∷ []
  pub taken : AllTaken image b.client.fixed.n ps os
  pub ended : said (m (after m b (Datagram start ∷ is)) (Datagram end)) ≡ 0x01 ∷ 0x02 ∷ 0x75 ∷ 0x06 ∷ 0x83 ∷ 0x03 ∷ []
  pub bank : bank_in (other_of b.client.fixed.running) (m (after m b (Datagram start ∷ is)) (Datagram end)).board.pair ≡ image
  pub next : (m (after m b (Datagram start ∷ is)) (Datagram end)).board.client.next ≡ other_of b.client.fixed.running

-- the packets alone
abbrev pub Delivered : Machine → Board → List ℕ → LentCall → List ℕ → List Input → LentCall → Type 0
Delivered m b image start ps is end = DeliveredBy m b image start ps (outcomes m (m b (Datagram start)).board is) is end

abbrev pub Meets2 : Machine → Type 0
Meets2 m =
    (b : Board) (image : List ℕ) → Ready b → Fit image b.client.fixed
    → (start : LentCall) (ps : List ℕ) (is : List Input) (end : LentCall) → Delivery b.client.opener b image start ps is end
    → Delivered m b image start ps is end
