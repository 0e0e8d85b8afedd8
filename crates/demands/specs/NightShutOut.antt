-- Night senders that are shut out (02 §4; from the order and the bound, from finished exactly when every request was settled, and from giving up
-- for its tries exactly when they were spent). Each class asks for one run on something that a start accepts.
-- Assumes nothing.
use Rattle.std.specs.Prelude.{◌≡◌, false, cond, List, [], ◌∷◌, ℕ, suc, ◌+◌, ◌≤◌, ◌<◌, eqb, length, replicate, Result, Ok, Option, Some}
use Rattle.buffer.specs.Place.{front_of}
use Rattle.crc.specs.Crc.{crc_of}
use Rattle.frame.specs.Frame.{write_frame}
use Rattle.frame.specs.declared.read.Footer.TheVariants.{End}
use Rattle.layout.specs.declared.Bank.{Bank}
use Rattle.layout.specs.Layout.{sector_of}
use Rattle.response.specs.declared.read.Response.{Response}
use Rattle.response.specs.declared.read.Response.TheVariants.{Written}
use Rattle.response.specs.Response.{response_of}
use Rattle.exchange.specs.Answer.{written_bytes}
use Rattle.sender.specs.Made.{room}
use Rattle.sender.specs.Packet.{packet_count, packet_sector}
use Rattle.night.specs.declared.name.Name.{Name}
use Rattle.night.specs.declared.name.Name.TheVariants.{ModeStart, Packet}
use Rattle.night.specs.declared.record.Next.{Next}
use Rattle.night.specs.declared.record.Next.TheVariants.{Send, Finished, GaveUp}
use Rattle.night.specs.declared.record.Refusal.{Refusal}
use Rattle.night.specs.declared.record.Why.TheVariants.{Tries}
use Rattle.night.specs.Call.{Heard, Silence}
use Rattle.night.specs.Name.{frame_of}
use Rattle.demands.specs.Night.{Told, NightSender, Given, Roomy, Startable, first, later, ends_with, names_of, is_over, Turn, turn, turns_of}

-- what a start accepts, with a buffer
pub record Begin : Type 0 where
  pub image : List ℕ
  pub bank : Bank
  pub n : ℕ
  pub tries : ℕ
  pub before : List ℕ
  pub starts : Startable image n tries
  pub roomy : room ≤ length before

abbrev pub ends_from : {S : Type 0} → NightSender S → Begin → List Given → Result Next Refusal
ends_from m b gs = ends_with m b.image b.bank b.n b.tries b.before gs

-- ---- one that says finished at once

pub record FinishedAtOnce {S : Type 0} (m : NightSender S) : Type 0 where
  pub begin : Begin
  pub tells : ends_from m begin [] ≡ Ok Finished

-- one of them
abbrev pub tells : Result Next Refusal → List ℕ → Told (Unit {0})
tells next before = record { record_then = tt; next = next; buffer = before }

abbrev pub finished_at_once : NightSender (Unit {0})
finished_at_once = record { start = λ image bank n tries before. tells (Ok Finished) before; event = λ r event image before. tells (Ok Finished) before }

-- ---- one that never ends, whatever the events

pub record NeverEnds {S : Type 0} (m : NightSender S) : Type 0 where
  pub begin : Begin
  pub never : (gs : List Given) → Roomy gs → is_over (ends_from m begin gs) ≡ false

-- one of them: mode start, again and again
abbrev pub never_ending : NightSender (Unit {0})
never_ending =
    record {
      start = λ image bank n tries before. tells (Ok (Send ModeStart 5)) before;
      event = λ r event image before. tells (Ok (Send ModeStart 5)) before;
    }

-- ---- one that skips a packet that was answered with a wrong CRC

-- the packet's own sector, and another CRC than that of the image's 512 bytes
pub record WrongCrc (image : List ℕ) (sector : ℕ) (r : Option Response) : Type 0 where
  pub result : ℕ
  pub write : ℕ
  pub crc : ℕ
  pub reads : r ≡ Some (Written sector result write crc)
  pub other : crc ≡ crc_of (sector_of image sector) → ⊥

-- while packet p was at hand, nothing came but silence and such answers
pub data OnlyWrong (image : List ℕ) (n p : ℕ) : List Turn → Type 0 where
  no_turn : OnlyWrong image n p []
  elsewhere : {t : Turn} {ts : List Turn} → ((size : ℕ) → t.hand ≡ Ok (Send (Packet p) size) → ⊥) → OnlyWrong image n p ts → OnlyWrong image n p (t ∷ ts)
  silence : {hand : Result Next Refusal} {ts : List Turn} → OnlyWrong image n p ts → OnlyWrong image n p (turn hand Silence ∷ ts)
  wrong : {hand : Result Next Refusal} {datagram : List ℕ} {ts : List Turn} → WrongCrc image (packet_sector image n p) (response_of datagram) → OnlyWrong image n p ts
      → OnlyWrong image n p (turn hand (Heard datagram) ∷ ts)

pub record SkipsPacket {S : Type 0} (m : NightSender S) : Type 0 where
  pub begin : Begin
  pub events : List Given
  pub roomy : Roomy events
  pub finishes : ends_from m begin events ≡ Ok Finished
  pub packet : ℕ
  pub there : packet < packet_count begin.image begin.n
  pub skipped : OnlyWrong begin.image begin.n packet
      (turns_of m begin.image (first m begin.image begin.bank begin.n begin.tries begin.before events) events)

-- one of them: it sends every request once, in their order and in the sender's own frames, and goes on whatever comes
pub record Going : Type 0 where
  pub bank : Bank
  pub n : ℕ
  pub names : List Name

abbrev pub going_on : Bank → ℕ → List ℕ → List ℕ → List Name → Told Going
going_on bank n image before [] = record { record_then = record { bank = bank; n = n; names = [] }; next = Ok Finished; buffer = before }
going_on bank n image before (name ∷ names) =
    record {
      record_then = record { bank = bank; n = n; names = names };
      next = Ok (Send name (length (frame_of image bank n name)));
      buffer = front_of before (frame_of image bank n name);
    }

abbrev pub heedless : NightSender Going
heedless =
    record {
      start = λ image bank n tries before. going_on bank n image before (names_of (packet_count image n));
      event = λ r event image before. going_on r.bank r.n image before r.names;
    }

-- an answer to packet 0 with another CRC, and as many of them as there are requests
abbrev pub other_crc : ℕ → ℕ
other_crc crc = cond (eqb crc 0) 1 0

abbrev pub wrong_answer : List ℕ → ℕ → List ℕ
wrong_answer image sector = write_frame sector (written_bytes 0x06 0x06 (other_crc (crc_of (sector_of image sector)))) End

abbrev pub wrong_answers : List ℕ → ℕ → List Given
wrong_answers image n =
    replicate (packet_count image n + 6) (record { event = Heard (wrong_answer image (packet_sector image n 0)); buffer = replicate room 0 })

-- ---- one that gives up for its tries before the request has gone out T times

-- how often this request went out
pub data Times {S : Type 0} (name : Name) : ℕ → List (Told S) → Type 0 where
  no_time : Times name 0 []
  another : {k : ℕ} {o : Told S} {os : List (Told S)} → ((size : ℕ) → o.next ≡ Ok (Send name size) → ⊥) → Times name k os → Times name k (o ∷ os)
  once_more : {k size : ℕ} {o : Told S} {os : List (Told S)} → o.next ≡ Ok (Send name size) → Times name k os → Times name (suc k) (o ∷ os)

pub record GivesUpEarly {S : Type 0} (m : NightSender S) : Type 0 where
  pub begin : Begin
  pub events : List Given
  pub roomy : Roomy events
  pub name : Name
  pub gives_up : ends_from m begin events ≡ Ok (GaveUp name Tries)
  pub times : ℕ
  pub counted : Times name times
      (first m begin.image begin.bank begin.n begin.tries begin.before events
      ∷ later m begin.image begin.bank begin.n begin.tries begin.before events)
  pub fewer : times < begin.tries

-- one of them: mode start is given up at once
abbrev pub hopeless : NightSender (Unit {0})
hopeless =
    record {
      start = λ image bank n tries before. tells (Ok (GaveUp ModeStart Tries)) before;
      event = λ r event image before. tells (Ok (GaveUp ModeStart Tries)) before;
    }
