-- The night sender (02 §4). A night sender is any two functions over a record of its own: what comes of a start, and what comes of an event.
-- Each sentence is said of such a pair, whatever it does; the one that is made here consists of the very definitions that the contracts of
-- `night` cite. A run is one image, and one event after another, each with a request buffer of its own.
-- Assumes nothing.
use Rattle.std.specs.Prelude.{◌≡◌, Bool, true, false, List, [], ◌∷◌, ◌++◌, ◌⊎◌, ℕ, zero, suc, ◌+◌, ◌*◌, ◌≤◌, ◌<◌, length, take, replicate, Result, Ok, Err, Option, Some}
use Rattle.crc.specs.Crc.{crc_of}
use Rattle.commands.specs.declared.Command.TheVariants as command
use Rattle.layout.specs.declared.Bank.{Bank}
use Rattle.layout.specs.Layout.{sector_size, good_n, sector_of}
use Rattle.response.specs.declared.read.Response.{Response}
use Rattle.response.specs.declared.read.Response.TheVariants.{Plain, Target, Firmware, Written}
use Rattle.response.specs.Response.{response_of}
use Rattle.sender.specs.Made.{room}
use Rattle.sender.specs.Packet.{packet_count, packet_sector}
use Rattle.client.specs.Perform.{Accepted}
use Rattle.night.specs.declared.name.Name.{Name}
use Rattle.night.specs.declared.name.Name.TheVariants.{ModeStart, VersionInfo, BankInfo, WriteStart, Packet, WriteEnd, ModeEnd}
use Rattle.night.specs.declared.record.Called.{Called}
use Rattle.night.specs.declared.record.Next.{Next}
use Rattle.night.specs.declared.record.Next.TheVariants.{NotBegun, Send, Finished, GaveUp}
use Rattle.night.specs.declared.record.Night.{Night}
use Rattle.night.specs.declared.record.Refusal.{Refusal}
use Rattle.night.specs.declared.record.Stand.TheVariants.{At}
use Rattle.night.specs.Call.{Event, Heard, Silence, heard_in, step_of, start_of, buffer_by, lent_says, step_says}
use Rattle.night.specs.Name.{frame_of}
use Rattle.night.specs.Record.{next_number}
use Rattle.demands.specs.Written.{AreBytes}

-- ---- a night sender

-- what comes of a call: the record, what is told, the request buffer
pub record Told (S : Type 0) : Type 0 where
  pub record_then : S
  pub next : Result Next Refusal
  pub buffer : List ℕ

pub record NightSender (S : Type 0) : Type 0 where
  -- image, bank, N, T, request buffer
  pub start : List ℕ → Bank → ℕ → ℕ → List ℕ → Told S
  -- record, event, image, request buffer
  pub event : S → Event → List ℕ → List ℕ → Told S

-- the one of the contracts
abbrev pub told_by : List ℕ → List ℕ → Called → Told Night
told_by image before c = record { record_then = c.night; next = c.next; buffer = buffer_by image before c }

abbrev pub night_sender : NightSender Night
night_sender =
    record {
      start = λ image bank n tries before. told_by image before (start_of image bank n tries (length before));
      event = λ night event image before. told_by image before (step_of night (heard_in event) image (length before));
    }

-- ---- of an arbitrary record

-- a refusal changes nothing (01, "nothing changes")
pub record Keeps {S : Type 0} (r : S) (before : List ℕ) (o : Told S) : Type 0 where
  pub same : o.record_then ≡ r
  pub buffer : o.buffer ≡ before

abbrev pub RefusesInVain : {S : Type 0} → NightSender S → Type 0
RefusesInVain {S} m =
    (r : S) (event : Event) (image before : List ℕ) → (next_number (m.event r event image before).next ≡ 0 → ⊥) → Keeps r before (m.event r event image before)

-- each refusal by its number, the first that applies; and a refused start begins nothing, whatever is lent afterwards
pub record NotBegunAt (r : Night) (before : List ℕ) (o : Told Night) : Type 0 where
  pub told : o.next ≡ Ok NotBegun
  pub keeps : Keeps r before o

pub record MeetsRefusals (m : NightSender Night) : Type 0 where
  pub start_says : (image : List ℕ) (bank : Bank) (n tries : ℕ) (before : List ℕ)
      → next_number (m.start image bank n tries before).next ≡ lent_says image n tries (length before) 0
  pub start_keeps : (image : List ℕ) (bank : Bank) (n tries : ℕ) (before : List ℕ) → (next_number (m.start image bank n tries before).next ≡ 0 → ⊥)
      → (m.start image bank n tries before).buffer ≡ before
  pub not_begun : (image : List ℕ) (bank : Bank) (n tries : ℕ) (before : List ℕ) → (next_number (m.start image bank n tries before).next ≡ 0 → ⊥)
      → (event : Event) (other buffer : List ℕ)
      → NotBegunAt (m.start image bank n tries before).record_then buffer (m.event (m.start image bank n tries before).record_then event other buffer)
  pub event_says : (r : Night) (event : Event) (image before : List ℕ)
      → next_number (m.event r event image before).next ≡ step_says image r (length before) r.stand

-- a request that has gone out T times or more does not go out again
abbrev pub NotOnceMore : NightSender Night → Type 0
NotOnceMore m =
    (r : Night) (name : Name) (gone size : ℕ) (event : Event) (image before : List ℕ) → r.stand ≡ At name gone → r.tries ≤ gone
    → (m.event r event image before).next ≡ Ok (Send name size) → ⊥

-- ---- a run

-- an event, and the request buffer that is lent with it
pub record Given : Type 0 where
  pub event : Event
  pub buffer : List ℕ

-- each buffer has room
pub data Roomy : List Given → Type 0 where
  none : Roomy []
  more : {g : Given} {gs : List Given} → room ≤ length g.buffer → Roomy gs → Roomy (g ∷ gs)

-- what is heard is bytes
abbrev pub BytesIn : Event → Type 0
BytesIn (Heard datagram) = AreBytes datagram
BytesIn Silence = Unit {0}

pub data Bytewise : List Given → Type 0 where
  unheard : Bytewise []
  heard : {g : Given} {gs : List Given} → BytesIn g.event → Bytewise gs → Bytewise (g ∷ gs)

-- what came of each event
abbrev pub tolds : {S : Type 0} → NightSender S → List ℕ → S → List Given → List (Told S)
tolds m image r [] = []
tolds m image r (g ∷ gs) =
    m.event r g.event image g.buffer ∷ tolds m image (m.event r g.event image g.buffer).record_then gs

-- what was told last
abbrev pub last_told : {S : Type 0} → Told S → List (Told S) → Told S
last_told o [] = o
last_told o (p ∷ ps) = last_told p ps

-- ---- refused calls between

-- a call that may lend any image
pub record Call : Type 0 where
  pub event : Event
  pub image : List ℕ
  pub buffer : List ℕ

-- the record behind such calls, and behind events with one image
abbrev pub after_calls : {S : Type 0} → NightSender S → S → List Call → S
after_calls m r [] = r
after_calls m r (c ∷ cs) = after_calls m (m.event r c.event c.image c.buffer).record_then cs

abbrev pub after_events : {S : Type 0} → NightSender S → List ℕ → S → List Given → S
after_events m image r [] = r
after_events m image r (g ∷ gs) = after_events m image (m.event r g.event image g.buffer).record_then gs

-- the same run with refused calls in it, anywhere, whatever they lend: left out are only such
pub data LeftOut {S : Type 0} (m : NightSender S) (image : List ℕ) : S → List Call → List Given → Type 0 where
  no_more : {r : S} → LeftOut m image r [] []
  kept : {r : S} {g : Given} {cs : List Call} {gs : List Given}
      → LeftOut m image (m.event r g.event image g.buffer).record_then cs gs
      → LeftOut m image r (record { event = g.event; image = image; buffer = g.buffer } ∷ cs) (g ∷ gs)
  refused : {r : S} {c : Call} {cs : List Call} {gs : List Given} → (next_number (m.event r c.event c.image c.buffer).next ≡ 0 → ⊥)
      → LeftOut m image (m.event r c.event c.image c.buffer).record_then cs gs → LeftOut m image r (c ∷ cs) gs

-- what came of the calls that are kept
abbrev pub kept_tolds : {S : Type 0} {m : NightSender S} {image : List ℕ} {r : S} {cs : List Call} {gs : List Given} → LeftOut m image r cs gs → List (Told S)
kept_tolds no_more = []
kept_tolds {m = m} {image = image} (kept {r = r} {g = g} rest) = m.event r g.event image g.buffer ∷ kept_tolds rest
kept_tolds (refused h rest) = kept_tolds rest

-- no event is used up: the record is as without the refused ones, and so is all that is told at the others
pub record AsWithout {S : Type 0} (m : NightSender S) (image : List ℕ) (r : S) (cs : List Call) (gs : List Given) (l : LeftOut m image r cs gs) : Type 0 where
  pub record_is : after_calls m r cs ≡ after_events m image r gs
  pub told_is : kept_tolds l ≡ tolds m image r gs

abbrev pub UsesUpNothing : {S : Type 0} → NightSender S → Type 0
UsesUpNothing {S} m =
    (image : List ℕ) (r : S) (cs : List Call) (gs : List Given) (l : LeftOut m image r cs gs) → AsWithout m image r cs gs l

-- what a start accepts
pub record Startable (image : List ℕ) (n tries : ℕ) : Type 0 where
  pub good : good_n n ≡ true
  pub whole : length image ≡ sector_size * n
  pub low : 1 ≤ tries
  pub high : tries ≤ 9
  pub some : 0 < packet_count image n

-- a run from a start: the start's outcome, and those of the events
module _ {S : Type 0} (m : NightSender S) (image : List ℕ) (bank : Bank) (n tries : ℕ) (before : List ℕ) (gs : List Given) where
  abbrev pub first : Told S
  first = m.start image bank n tries before

  abbrev pub later : List (Told S)
  later = tolds m image first.record_then gs

  abbrev pub ends_with : Result Next Refusal
  ends_with = (last_told first later).next

-- ---- 1. the requests in their order, and an end

-- "through mode, version, bank, write start, P sector packets, write end, mode end"
abbrev pub packets_from : ℕ → ℕ → List Name
packets_from p zero = []
packets_from p (suc k) = Packet p ∷ packets_from (suc p) k

abbrev pub names_of : ℕ → List Name
names_of count = ModeStart ∷ VersionInfo ∷ BankInfo ∷ WriteStart ∷ (packets_from 0 count ++ (WriteEnd ∷ ModeEnd ∷ []))

-- a request that went out: its name, and the bytes at the buffer's front
pub record Sent : Type 0 where
  pub name : Name
  pub bytes : List ℕ

abbrev pub sent : Name → List ℕ → Sent
sent name bytes = record { name = name; bytes = bytes }

abbrev pub went_out : Result Next Refusal → List ℕ → List Sent
went_out (Err why) buffer = []
went_out (Ok NotBegun) buffer = []
went_out (Ok (Send name size)) buffer = sent name (take size buffer) ∷ []
went_out (Ok Finished) buffer = []
went_out (Ok (GaveUp name why)) buffer = []

abbrev pub all_sent : {S : Type 0} → List (Told S) → List Sent
all_sent [] = []
all_sent (o ∷ os) = went_out o.next o.buffer ++ all_sent os

-- each request of the list at most so often, none before the one in front of it, each the sender's own frame
pub data InOrder (tries : ℕ) (frame : Name → List ℕ) : List Name → List Sent → Type 0 where
  over : {names : List Name} → InOrder tries frame names []
  each : {name : Name} {names : List Name} {rest : List Sent} (times : ℕ) → 1 ≤ times → times ≤ tries → InOrder tries frame names rest
      → InOrder tries frame (name ∷ names) (replicate times (sent name (frame name)) ++ rest)

abbrev pub is_over : Result Next Refusal → Bool
is_over (Err why) = false
is_over (Ok NotBegun) = false
is_over (Ok (Send name size)) = false
is_over (Ok Finished) = true
is_over (Ok (GaveUp name why)) = true

-- "within T·(P + 6) events"
pub record MeetsOrder {S : Type 0} (m : NightSender S) : Type 0 where
  pub order : (image : List ℕ) (bank : Bank) (n tries : ℕ) (before : List ℕ) (gs : List Given) → Startable image n tries → room ≤ length before → Roomy gs
      → InOrder tries (frame_of image bank n) (names_of (packet_count image n)) (all_sent (first m image bank n tries before gs ∷ later m image bank n tries before gs))
  pub bounded : (image : List ℕ) (bank : Bank) (n tries : ℕ) (before : List ℕ) (gs : List Given) → Startable image n tries → room ≤ length before → Roomy gs
      → tries * (packet_count image n + 6) ≤ length gs → is_over (ends_with m image bank n tries before gs) ≡ true

-- that many can come: after one event less it need not be over
pub record StillRuns {S : Type 0} (m : NightSender S) (image : List ℕ) (bank : Bank) (n tries : ℕ) (before : List ℕ) : Type 0 where
  pub events : List Given
  pub roomy : Roomy events
  pub bytes : Bytewise events
  pub many : suc (length events) ≡ tries * (packet_count image n + 6)
  pub runs : is_over (ends_with m image bank n tries before events) ≡ false

abbrev pub BoundReached : {S : Type 0} → NightSender S → Type 0
BoundReached m =
    (image : List ℕ) (bank : Bank) (n tries : ℕ) (before : List ℕ) → Startable image n tries → room ≤ length before
    → StillRuns m image bank n tries before

-- ---- 2. finished exactly when every request was settled

-- an event, and what had been told last before it came: the request at hand
pub record Turn : Type 0 where
  pub hand : Result Next Refusal
  pub event : Event

abbrev pub turn : Result Next Refusal → Event → Turn
turn hand event = record { hand = hand; event = event }

abbrev pub turns_of : {S : Type 0} → NightSender S → List ℕ → Told S → List Given → List Turn
turns_of m image o [] = []
turns_of m image o (g ∷ gs) = turn o.next g.event ∷ turns_of m image (m.event o.record_then g.event image g.buffer) gs

-- the awaited response, as it reads
pub data AnyVersion : Option Response → Type 0 where
  version : (id major minor revision : ℕ) → AnyVersion (Some (Firmware id major minor revision))

pub record Stored (image : List ℕ) (sector : ℕ) (r : Option Response) : Type 0 where
  pub write : ℕ
  pub accepted : Accepted write
  pub reads : r ≡ Some (Written sector 0x06 write (crc_of (sector_of image sector)))

abbrev pub Awaited : List ℕ → Bank → ℕ → Name → Option Response → Type 0
Awaited image bank n ModeStart r = r ≡ Some (Plain command.ModeStart 0x06)
Awaited image bank n VersionInfo r = AnyVersion r
Awaited image bank n BankInfo r = r ≡ Some (Target bank)
Awaited image bank n WriteStart r = r ≡ Some (Plain command.WriteStart 0x06)
Awaited image bank n (Packet p) r = Stored image (packet_sector image n p) r
Awaited image bank n WriteEnd r = r ≡ Some (Plain command.WriteEnd 0x06)
Awaited image bank n ModeEnd r = r ≡ Some (Plain command.ModeEnd 0x06)

-- 15 that "counts as done"
abbrev pub Declined : Name → Option Response → Type 0
Declined ModeStart r = r ≡ Some (Plain command.ModeStart 0x15)
Declined VersionInfo r = ⊥
Declined BankInfo r = ⊥
Declined WriteStart r = r ≡ Some (Plain command.WriteStart 0x15)
Declined (Packet p) r = ⊥
Declined WriteEnd r = ⊥
Declined ModeEnd r = r ≡ Some (Plain command.ModeEnd 0x15)

-- the same request was at hand one event before: it has gone out at least twice
pub data Repeated (name : Name) : Result Next Refusal → Type 0 where
  again : {size : ℕ} → Repeated name (Ok (Send name size))

module _ (image : List ℕ) (bank : Bank) (n : ℕ) where
  abbrev pub Settles : Name → Result Next Refusal → Option Response → Type 0
  Settles name last r = Awaited image bank n name r ⊎ (Declined name r × Repeated name last)

  -- while this request was at hand there was an event that settles it; `last` is what was at hand one event before the first of the list
  pub data SettledIn (name : Name) : Result Next Refusal → List Turn → Type 0 where
    here : {last : Result Next Refusal} {size : ℕ} {datagram : List ℕ} {rest : List Turn} → Settles name last (response_of datagram)
        → SettledIn name last (turn (Ok (Send name size)) (Heard datagram) ∷ rest)
    after : {last : Result Next Refusal} {t : Turn} {rest : List Turn} → SettledIn name t.hand rest → SettledIn name last (t ∷ rest)

  pub data EachSettled : List Name → Result Next Refusal → List Turn → Type 0 where
    all : {last : Result Next Refusal} {ts : List Turn} → EachSettled [] last ts
    one : {name : Name} {names : List Name} {last : Result Next Refusal} {ts : List Turn} → SettledIn name last ts → EachSettled names last ts
        → EachSettled (name ∷ names) last ts

pub record MeetsSettled {S : Type 0} (m : NightSender S) : Type 0 where
  pub only : (image : List ℕ) (bank : Bank) (n tries : ℕ) (before : List ℕ) (gs : List Given) → Startable image n tries → room ≤ length before → Roomy gs
      → ends_with m image bank n tries before gs ≡ Ok Finished
      → EachSettled image bank n (names_of (packet_count image n)) (Ok NotBegun) (turns_of m image (first m image bank n tries before gs) gs)
  pub always : (image : List ℕ) (bank : Bank) (n tries : ℕ) (before : List ℕ) (gs : List Given) → Startable image n tries → room ≤ length before → Roomy gs
      → EachSettled image bank n (names_of (packet_count image n)) (Ok NotBegun) (turns_of m image (first m image bank n tries before gs) gs)
      → ends_with m image bank n tries before gs ≡ Ok Finished

-- "Finished means the write end was answered 06": these six bytes, heard while the write end was at hand
pub data EndAnswered : List Turn → Type 0 where
  answered : {size : ℕ} {rest : List Turn} → EndAnswered (turn (Ok (Send WriteEnd size)) (Heard (0x01 ∷ 0x02 ∷ 0x75 ∷ 0x06 ∷ 0x83 ∷ 0x03 ∷ [])) ∷ rest)
  later_answered : {t : Turn} {rest : List Turn} → EndAnswered rest → EndAnswered (t ∷ rest)

abbrev pub FinishedMeansEnded : {S : Type 0} → NightSender S → Type 0
FinishedMeansEnded m =
    (image : List ℕ) (bank : Bank) (n tries : ℕ) (before : List ℕ) (gs : List Given) → Startable image n tries → room ≤ length before → Roomy gs
    → Bytewise gs → ends_with m image bank n tries before gs ≡ Ok Finished
    → EndAnswered (turns_of m image (first m image bank n tries before gs) gs)
