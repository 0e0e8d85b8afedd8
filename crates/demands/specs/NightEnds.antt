-- How a night sender gives up (02 §4): with each reason exactly when it is so. Told by turns, of any night sender, over any run from a start; what
-- an event is comes from its response as it reads.
-- Assumes nothing.
use Rattle.std.specs.Prelude.{◌≡◌, true, List, [], ◌∷◌, ◌⊎◌, ℕ, zero, suc, ◌≤◌, length, Result, Ok, Option, Some}
use Rattle.commands.specs.declared.Command.TheVariants as command
use Rattle.layout.specs.declared.Bank.{Bank}
use Rattle.layout.specs.Layout.{other_of}
use Rattle.response.specs.declared.read.Response.{Response}
use Rattle.response.specs.declared.read.Response.TheVariants.{Plain, Target}
use Rattle.response.specs.Response.{response_of}
use Rattle.sender.specs.Made.{room}
use Rattle.night.specs.declared.name.Name.{Name}
use Rattle.night.specs.declared.name.Name.TheVariants.{BankInfo, WriteEnd}
use Rattle.night.specs.declared.record.Next.{Next}
use Rattle.night.specs.declared.record.Next.TheVariants.{NotBegun, Send, GaveUp}
use Rattle.night.specs.declared.record.Night.{Night}
use Rattle.night.specs.declared.record.Refusal.{Refusal}
use Rattle.night.specs.declared.record.Stand.TheVariants as stand
use Rattle.night.specs.declared.record.Why.{Why}
use Rattle.night.specs.declared.record.Why.TheVariants.{Tries, WrongBank, Unknown}
use Rattle.night.specs.Call.{Event, Heard, Silence}
use Rattle.night.specs.Record.{standing, next_number}
use Rattle.demands.specs.Night.{
  Told,
  NightSender,
  Given,
  Roomy,
  tolds,
  last_told,
  Startable,
  first,
  later,
  ends_with,
  is_over,
  Turn,
  turn,
  turns_of,
  Awaited,
  Declined,
  Repeated,
}

-- the event is a response, and as it reads this holds of it
abbrev pub Brings : Event → (Option Response → Type 0) → Type 0
Brings (Heard datagram) P = P (response_of datagram)
Brings Silence P = ⊥

module _ (image : List ℕ) (bank : Bank) (n : ℕ) where
  -- what stops the night at this request, tries left or not: a bank that isn't the image's, 15 to a repeated write end
  abbrev pub Stops : Why → Name → Type 0 → Option Response → Type 0
  Stops Tries name repeated r = ⊥
  Stops WrongBank name repeated r = (name ≡ BankInfo) × (r ≡ Some (Target (other_of bank)))
  Stops Unknown name repeated r = (name ≡ WriteEnd) × (r ≡ Some (Plain command.WriteEnd 0x15)) × repeated

  -- what settles it, as in `Settles`
  abbrev pub Done : Name → Type 0 → Option Response → Type 0
  Done name repeated r = Awaited image bank n name r ⊎ (Declined name r × repeated)

  -- what else comes "spends a try"
  pub record Spends (name : Name) (repeated : Type 0) (event : Event) : Type 0 where
    pub unsettled : Brings event (Done name repeated) → ⊥
    pub unstopped : (why : Why) → Brings event (Stops why name repeated) → ⊥

  module _ (Rest : List Turn → Type 0) where
    -- so many turns in a row this request was at hand, each time in vain, and of the turns after them `Rest` holds; `last` is what was at hand one
    -- event before the first of the list
    pub data InVain (name : Name) : ℕ → Result Next Refusal → List Turn → Type 0 where
      enough : {last : Result Next Refusal} {ts : List Turn} → Rest ts → InVain name zero last ts
      in-vain : {k : ℕ} {last : Result Next Refusal} {size : ℕ} {event : Event} {rest : List Turn} → Spends name (Repeated name last) event → InVain name k (Ok (Send name size)) rest
          → InVain name (suc k) last (turn (Ok (Send name size)) event ∷ rest)

    -- somewhere in the run, from when it first was at hand
    pub data TriedInVain (name : Name) (tries : ℕ) : Result Next Refusal → List Turn → Type 0 where
      from-here : {last : Result Next Refusal} {ts : List Turn} → (Repeated name last → ⊥) → InVain name tries last ts → TriedInVain name tries last ts
      from-later : {last : Result Next Refusal} {t : Turn} {rest : List Turn} → TriedInVain name tries t.hand rest → TriedInVain name tries last (t ∷ rest)

  -- while this request was at hand there was an event that stops the night
  pub data Stopped (why : Why) (name : Name) : Result Next Refusal → List Turn → Type 0 where
    stopped-here : {last : Result Next Refusal} {size : ℕ} {event : Event} {rest : List Turn} → Brings event (Stops why name (Repeated name last))
        → Stopped why name last (turn (Ok (Send name size)) event ∷ rest)
    stopped-later : {last : Result Next Refusal} {t : Turn} {rest : List Turn} → Stopped why name t.hand rest → Stopped why name last (t ∷ rest)

-- at each of these turns this was what had been told last
pub data AllTold (end : Result Next Refusal) : List Turn → Type 0 where
  told_none : AllTold end []
  told_more : {event : Event} {rest : List Turn} → AllTold end rest → AllTold end (turn end event ∷ rest)

abbrev pub Whatever : List Turn → Type 0
Whatever ts = Unit {0}

-- each of these tells this end, and each buffer is as it was lent
pub data Stays {S : Type 0} (end : Result Next Refusal) : List Given → List (Told S) → Type 0 where
  stays_none : Stays end [] []
  stays_more : {g : Given} {gs : List Given} {o : Told S} {os : List (Told S)} → o.next ≡ end → o.buffer ≡ g.buffer → Stays end gs os
      → Stays end (g ∷ gs) (o ∷ os)

module _ {S : Type 0} (m : NightSender S) where
  module _ (image : List ℕ) (bank : Bank) (n tries : ℕ) (before : List ℕ) (gs : List Given) where
    abbrev pub runTurns : List Turn
    runTurns = turns_of m image (first m image bank n tries before gs) gs

    -- T times in vain, and from then on it is told so
    abbrev pub TiredOut : Name → Type 0
    TiredOut name = TriedInVain image bank n (AllTold (Ok (GaveUp name Tries))) name tries (Ok NotBegun) runTurns

    -- T times in vain, whatever comes then
    abbrev pub Tired : Name → Type 0
    Tired name = TriedInVain image bank n Whatever name tries (Ok NotBegun) runTurns

    abbrev pub StoppedBy : Why → Name → Type 0
    StoppedBy why name = Stopped image bank n why name (Ok NotBegun) runTurns

    -- with whatever comes afterwards
    abbrev pub EndStays : Type 0
    EndStays =
        (more : List Given) → Roomy more
        → Stays (ends_with m image bank n tries before gs) more
        (tolds m image (last_told (first m image bank n tries before gs) (later m image bank n tries before gs)).record_then more)

  pub record MeetsGivingUp : Type 0 where
    pub why-tries : (image : List ℕ) (bank : Bank) (n tries : ℕ) (before : List ℕ) (gs : List Given) (name : Name) → Startable image n tries
        → room ≤ length before → Roomy gs → ends_with m image bank n tries before gs ≡ Ok (GaveUp name Tries) → TiredOut image bank n tries before gs name
    pub tries-end : (image : List ℕ) (bank : Bank) (n tries : ℕ) (before : List ℕ) (gs : List Given) (name : Name) → Startable image n tries
        → room ≤ length before → Roomy gs → Tired image bank n tries before gs name → ends_with m image bank n tries before gs ≡ Ok (GaveUp name Tries)
    pub why-bank : (image : List ℕ) (bank : Bank) (n tries : ℕ) (before : List ℕ) (gs : List Given) (name : Name) → Startable image n tries
        → room ≤ length before → Roomy gs → ends_with m image bank n tries before gs ≡ Ok (GaveUp name WrongBank)
        → StoppedBy image bank n tries before gs WrongBank name
    pub bank-stops : (image : List ℕ) (bank : Bank) (n tries : ℕ) (before : List ℕ) (gs : List Given) (name : Name) → Startable image n tries
        → room ≤ length before → Roomy gs → StoppedBy image bank n tries before gs WrongBank name
        → ends_with m image bank n tries before gs ≡ Ok (GaveUp name WrongBank)
    pub why-unknown : (image : List ℕ) (bank : Bank) (n tries : ℕ) (before : List ℕ) (gs : List Given) (name : Name) → Startable image n tries
        → room ≤ length before → Roomy gs → ends_with m image bank n tries before gs ≡ Ok (GaveUp name Unknown)
        → StoppedBy image bank n tries before gs Unknown name
    pub unknown-stops : (image : List ℕ) (bank : Bank) (n tries : ℕ) (before : List ℕ) (gs : List Given) (name : Name) → Startable image n tries
        → room ≤ length before → Roomy gs → StoppedBy image bank n tries before gs Unknown name
        → ends_with m image bank n tries before gs ≡ Ok (GaveUp name Unknown)
    -- "an event after finishing or giving up changes nothing": the same end is told, and the buffer keeps its bytes
    pub over-stays : (image : List ℕ) (bank : Bank) (n tries : ℕ) (before : List ℕ) (gs : List Given) → Startable image n tries
        → room ≤ length before → Roomy gs → is_over (ends_with m image bank n tries before gs) ≡ true → EndStays image bank n tries before gs

-- ---- of an arbitrary record

-- gone out T times or more: where nothing is refused, and the event settles nothing and stops nothing, it is given up
pub record GivenUp (r : Night) (name : Name) (before : List ℕ) (o : Told Night) : Type 0 where
  pub told : o.next ≡ Ok (GaveUp name Tries)
  pub stands : o.record_then ≡ standing (stand.GaveUp name Tries) r
  pub buffer : o.buffer ≡ before

abbrev pub GivesUpAtLast : NightSender Night → Type 0
GivesUpAtLast m =
    (r : Night) (name : Name) (gone : ℕ) (event : Event) (image before : List ℕ) → r.stand ≡ stand.At name gone → r.tries ≤ gone
    → next_number (m.event r event image before).next ≡ 0 → Spends image r.bank r.n name (2 ≤ gone) event
    → GivenUp r name before (m.event r event image before)
