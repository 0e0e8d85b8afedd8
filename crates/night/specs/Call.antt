-- The calls of a night (02 §4, "takes an event (a response, or silence) and gives the next request").
-- Assumes nothing.
use Rattle.std.specs.Prelude.{◌≡◌, Bool, not, cond, List, ℕ, leb, ltb, length, Result, Ok, Err, Option, None}
use Rattle.buffer.specs.Place.{front_of}
use Rattle.layout.specs.declared.Bank.{Bank}
use Rattle.layout.specs.Layout.{good_n}
use Rattle.response.specs.declared.read.Response.{Response}
use Rattle.response.specs.Response.{response_of}
use Rattle.sender.specs.declared.made.Place.{Place}
use Rattle.sender.specs.declared.made.Refusal.{Refusal as Unmade}
use Rattle.sender.specs.Packet.{packet_count}
use Rattle.night.specs.declared.name.Name.{Name}
use Rattle.night.specs.declared.name.Name.TheVariants.{ModeStart}
use Rattle.night.specs.declared.record.Called.{Called}
use Rattle.night.specs.declared.record.Next.{Next}
use Rattle.night.specs.declared.record.Next.TheVariants.{NotBegun, Send, Finished, GaveUp}
use Rattle.night.specs.declared.record.Night.{Night}
use Rattle.night.specs.declared.record.Refusal.{Refusal}
use Rattle.night.specs.declared.record.Stand.{Stand}
use Rattle.night.specs.declared.record.Stand.TheVariants as stand
use Rattle.night.specs.Judge.{judge_of}
use Rattle.night.specs.Lent.{tries_good, lengths_good, looked_of}
use Rattle.night.specs.Name.{number_of, frame_of}
use Rattle.night.specs.Record.{taken_over, moved_of, standing, next_number}

-- a response's bytes, or silence
pub data Event : Type 0 where
  Heard : List ℕ → Event
  Silence : Event

-- silence says as little as a response that cannot be read
abbrev pub heard_in : Event → Option Response
heard_in (Heard datagram) = response_of datagram
heard_in Silence = None

-- the packet that an image has to have, by where the record stands
abbrev pub stands_at : Stand → ℕ
stands_at stand.NotBegun = 0
stands_at (stand.At name gone) = number_of name
stands_at stand.Finished = 0
stands_at (stand.GaveUp name why) = number_of name

abbrev pub called : Night → Result Next Refusal → Called
called night next = record { night = night; next = next }

-- what a record tells: the request that goes out, or its end
abbrev pub next_of : List ℕ → Bank → ℕ → Stand → Next
next_of image bank n stand.NotBegun = NotBegun
next_of image bank n (stand.At name gone) = Send name (length (frame_of image bank n name))
next_of image bank n stand.Finished = Finished
next_of image bank n (stand.GaveUp name why) = GaveUp name why

abbrev pub gone_on : List ℕ → Night → Called
gone_on image night = called night (Ok (next_of image night.bank night.n night.stand))

-- "changes nothing": an end is told again
abbrev pub end_told : Night → Next → Result Place Refusal → Called
end_told night end (Err why) = called night (Err why)
end_told night end (Ok place) = called night (Ok end)

unfoldable pub over_of : Night → ℕ → Next → List ℕ → ℕ → Called
over_of night p end image size = end_told night end (looked_of image night.n night.tries size p)

-- the event is judged, and the record moves; "repeated" means gone out at least twice
abbrev pub judged : Night → Name → ℕ → Option Response → List ℕ → Result Place Refusal → Called
judged night name gone response image (Err why) = called night (Err why)
judged night name gone response image (Ok place) =
    gone_on image (standing (moved_of name gone night.tries place.count (judge_of name (leb 2 gone) night.bank image place.sector response)) night)

unfoldable pub at_hand_of : Night → Name → ℕ → Option Response → List ℕ → ℕ → Called
at_hand_of night name gone response image size =
    judged night name gone response image (looked_of image night.n night.tries size (number_of name))

-- a record whose start was refused is told so, whatever is lent
abbrev pub by_stand : Night → Option Response → List ℕ → ℕ → Stand → Called
by_stand night response image size stand.NotBegun = called night (Ok NotBegun)
by_stand night response image size (stand.At name gone) = at_hand_of night name gone response image size
by_stand night response image size stand.Finished = over_of night 0 Finished image size
by_stand night response image size (stand.GaveUp name why) = over_of night (number_of name) (GaveUp name why) image size

abbrev pub step_of : Night → Option Response → List ℕ → ℕ → Called
step_of night response image size = by_stand night response image size night.stand

abbrev pub night_of : Bank → ℕ → ℕ → Stand → Night
night_of bank n tries stand = record { bank = bank; n = n; tries = tries; stand = stand }

-- the first request comes "without an event"
abbrev pub begun : List ℕ → Bank → ℕ → ℕ → Result Place Refusal → Called
begun image bank n tries (Err why) = called (night_of bank n tries stand.NotBegun) (Err why)
begun image bank n tries (Ok place) = gone_on image (night_of bank n tries (stand.At ModeStart 1))

unfoldable pub start_of : List ℕ → Bank → ℕ → ℕ → ℕ → Called
start_of image bank n tries size = begun image bank n tries (looked_of image n tries size 0)

-- the buffer then: a request at its front, else as it was
abbrev pub buffer_after : List ℕ → Bank → ℕ → List ℕ → Result Next Refusal → List ℕ
buffer_after image bank n before (Err why) = before
buffer_after image bank n before (Ok NotBegun) = before
buffer_after image bank n before (Ok (Send name size)) = front_of before (frame_of image bank n name)
buffer_after image bank n before (Ok Finished) = before
buffer_after image bank n before (Ok (GaveUp name why)) = before

abbrev pub buffer_by : List ℕ → List ℕ → Called → List ℕ
buffer_by image before c = buffer_after image c.night.bank c.night.n before c.next

-- ---- the refusals once more, in the paper's numbers: the first that applies

unfoldable pub refusal_says : Bool → Bool → Bool → Bool → ℕ
refusal_says badN badLength badTries noPacket = cond badN 3 (cond badLength 2 (cond badTries 7 (cond noPacket 8 0)))

abbrev pub lent_says : List ℕ → ℕ → ℕ → ℕ → ℕ → ℕ
lent_says image n tries size p =
    refusal_says (not (good_n n)) (not (lengths_good image n size)) (not (tries_good tries)) (not (ltb p (packet_count image n)))

abbrev pub step_says : List ℕ → Night → ℕ → Stand → ℕ
step_says image night size stand.NotBegun = 0
step_says image night size (stand.At name gone) = lent_says image night.n night.tries size (number_of name)
step_says image night size stand.Finished = lent_says image night.n night.tries size 0
step_says image night size (stand.GaveUp name why) = lent_says image night.n night.tries size (number_of name)

-- ---- the contracts

-- what goes out when a frame was made
abbrev pub sent_by : Name → Result ℕ Unmade → Result Next Refusal
sent_by name (Err why) = Err (taken_over why)
sent_by name (Ok size) = Ok (Send name size)

pub record IsMake (name : Name) (bank : Bank) (n : ℕ) (image before : List ℕ) (r : Result Next Refusal) (after : List ℕ) : Type 0 where
  pub answered : r ≡ Ok (Send name (length (frame_of image bank n name)))
  pub stands : after ≡ front_of before (frame_of image bank n name)

pub record IsGoesOn (night : Night) (image before : List ℕ) (r : Called) (after : List ℕ) : Type 0 where
  pub answered : r ≡ gone_on image night
  pub stands : after ≡ buffer_by image before (gone_on image night)

pub record IsAtHand (night : Night) (name : Name) (gone : ℕ) (response : Option Response) (image before : List ℕ) (r : Called) (after : List ℕ) : Type 0 where
  pub answered : r ≡ at_hand_of night name gone response image (length before)
  pub stands : after ≡ buffer_by image before (at_hand_of night name gone response image (length before))

pub record IsStep (night : Night) (response : Option Response) (image before : List ℕ) (r : Called) (after : List ℕ) : Type 0 where
  pub answered : r ≡ step_of night response image (length before)
  pub says : next_number r.next ≡ step_says image night (length before) night.stand
  pub stands : after ≡ buffer_by image before (step_of night response image (length before))

pub record IsStart (image : List ℕ) (bank : Bank) (n tries : ℕ) (before : List ℕ) (r : Called) (after : List ℕ) : Type 0 where
  pub answered : r ≡ start_of image bank n tries (length before)
  pub says : next_number r.next ≡ lent_says image n tries (length before) 0
  pub stands : after ≡ buffer_by image before (start_of image bank n tries (length before))

-- an event: a response's bytes, or silence
pub record IsHeard (night : Night) (datagram image before : List ℕ) (r : Called) (after : List ℕ) : Type 0 where
  pub answered : r ≡ step_of night (heard_in (Heard datagram)) image (length before)
  pub says : next_number r.next ≡ step_says image night (length before) night.stand
  pub stands : after ≡ buffer_by image before (step_of night (heard_in (Heard datagram)) image (length before))

pub record IsSilent (night : Night) (image before : List ℕ) (r : Called) (after : List ℕ) : Type 0 where
  pub answered : r ≡ step_of night (heard_in Silence) image (length before)
  pub says : next_number r.next ≡ step_says image night (length before) night.stand
  pub stands : after ≡ buffer_by image before (step_of night (heard_in Silence) image (length before))
