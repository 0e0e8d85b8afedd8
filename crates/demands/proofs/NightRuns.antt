-- A run of the night sender, by where its record stands: every event moves it, and what is told, what goes out and what is at hand follow.
-- Assumes nothing.
use mathlib.Core.Path.{◌≡◌, refl, sym, ap, ap₂, ◌∙◌}
use mathlib.Core.List.{List, [], ◌∷◌, ◌++◌}
use Prim.Native.Nat.{ℕ, zero, suc, ◌+◌, ◌-◌, ◌≤◌, ◌<◌}
use native.Mathlib.Numerals.{add-one}
use native.Mathlib.Omega.{arith}
use lib.Dec.{leb, ltb}
use lib.ListN.{length}
use borrow.Author.Tests.{ltb-true, ltb-false}
use Rattle.std.specs.Prelude.{Ok}
use Rattle.buffer.proofs.Bools.{split}
use Rattle.buffer.proofs.Places.{front_take}
use Rattle.layout.specs.declared.Bank.{Bank}
use Rattle.sender.specs.declared.request.Request.TheVariants as request
use Rattle.sender.specs.Made.{room}
use Rattle.sender.specs.Packet.{packet_count, packet_sector}
use Rattle.night.specs.declared.name.Name.{Name}
use Rattle.night.specs.declared.name.Name.TheVariants.{ModeStart, VersionInfo, BankInfo, WriteStart, Packet, WriteEnd, ModeEnd}
use Rattle.night.specs.declared.record.Night.{Night}
use Rattle.night.specs.declared.record.Stand.{Stand}
use Rattle.night.specs.declared.record.Stand.TheVariants.{NotBegun, At, Finished, GaveUp}
use Rattle.night.specs.declared.record.Why.{Why}
use Rattle.night.specs.Call.{Event, heard_in, gone_on, night_of, next_of}
use Rattle.night.specs.Judge.{judge_of}
use Rattle.night.specs.Name.{number_of, frame_of}
use Rattle.night.specs.Record.{following_of, moved_of}
use Rattle.night.proofs.Going.{Fits, start_goes, hand_goes, finished_again, gave_up_again}
use Rattle.night.proofs.Judged.{Settling, Moved, onward, again, up, moved_by}
use Rattle.demands.specs.Night.{
  Told,
  night_sender,
  told_by,
  Given,
  Roomy,
  none,
  more,
  tolds,
  last_told,
  Startable,
  first,
  later,
  ends_with,
  packets_from,
  Sent,
  sent,
  went_out,
  all_sent,
  Turn,
  turn,
  turns_of,
}
use Rattle.demands.proofs.Packets.{packet_long}
use Rattle.demands.proofs.Requests.{short}

-- ---- the names behind a name

abbrev pub behind : ℕ → Name → List Name
behind count ModeStart = VersionInfo ∷ BankInfo ∷ WriteStart ∷ (packets_from 0 count ++ (WriteEnd ∷ ModeEnd ∷ []))
behind count VersionInfo = BankInfo ∷ WriteStart ∷ (packets_from 0 count ++ (WriteEnd ∷ ModeEnd ∷ []))
behind count BankInfo = WriteStart ∷ (packets_from 0 count ++ (WriteEnd ∷ ModeEnd ∷ []))
behind count WriteStart = packets_from 0 count ++ (WriteEnd ∷ ModeEnd ∷ [])
behind count (Packet p) = packets_from (p + 1) (count - (p + 1)) ++ (WriteEnd ∷ ModeEnd ∷ [])
behind count WriteEnd = ModeEnd ∷ []
behind count ModeEnd = []

packets_more : (p k : ℕ) → 0 < k → packets_from p k ≡ Packet p ∷ packets_from (p + 1) (k - 1)
packets_more p zero h = absurd (omega arith)
packets_more p (suc k) h =
    let less : k ≡ suc k - 1 = omega arith in
    ap₂ (λ (x y : ℕ). Packet p ∷ packets_from x y) (sym (add-one p)) less

pub packets_next : (count p k : ℕ) → k ≡ count - p → p < count → packets_from p k ++ (WriteEnd ∷ ModeEnd ∷ []) ≡ Packet p ∷ behind count (Packet p)
packets_next count p k e h =
    let less : k - 1 ≡ count - (p + 1) = omega arith in
    ap (λ (l : List Name). l ++ (WriteEnd ∷ ModeEnd ∷ [])) (packets_more p k (omega arith))
    ∙ ap (λ (i : ℕ). Packet p ∷ (packets_from (p + 1) i ++ (WriteEnd ∷ ModeEnd ∷ []))) less

-- ---- where a record of a run stands

module _ (count tries : ℕ) where
  abbrev pub Right : Stand → Type 0
  Right NotBegun = ⊥
  Right (At name gone) = (1 ≤ gone) × (gone ≤ tries) × (number_of name < count)
  Right Finished = Unit {0}
  Right (GaveUp name why) = number_of name < count

  -- each way in which an event moves it
  pub data Goes (name : Name) (gone : ℕ) (settling : Type 0) : Stand → Type 0 where
    onto : {next : Name} → settling → behind count name ≡ next ∷ behind count next → Right (At next 1) → Goes name gone settling (At next 1)
    done : settling → behind count name ≡ [] → Goes name gone settling Finished
    repeats : (settling → ⊥) → gone < tries → Goes name gone settling (At name (gone + 1))
    ends : {why : Why} → (settling → ⊥) → Goes name gone settling (GaveUp name why)

  module _ (gone : ℕ) (settling : Type 0) (low : 1 ≤ tries) (t : settling) where
    onto-next : (name next : Name) → behind count name ≡ next ∷ behind count next → number_of next < count → Goes name gone settling (At next 1)
    onto-next name next e h = onto t e (omega arith, low, h)

    pub follows : (name : Name) → number_of name < count → Goes name gone settling (following_of name count)
    follows ModeStart h = onto-next ModeStart VersionInfo refl h
    follows VersionInfo h = onto-next VersionInfo BankInfo refl h
    follows BankInfo h = onto-next BankInfo WriteStart refl h
    follows WriteStart h = onto-next WriteStart (Packet 0) (packets_next count 0 count (omega arith) h) h
    follows (Packet p) h =
        split (Goes (Packet p) gone settling) (ltb (p + 1) count)
        (λ m. let more = ltb-true (p + 1) count m in onto-next (Packet p) (Packet (p + 1)) (packets_next count (p + 1) (count - (p + 1)) refl more) more)
        (λ l.
        let least = ltb-false (p + 1) count l in
        let no_more : count - (p + 1) ≡ 0 = omega arith in
        onto-next (Packet p) WriteEnd (ap (λ (k : ℕ). packets_from (p + 1) k ++ (WriteEnd ∷ ModeEnd ∷ [])) no_more) (omega arith))
    follows WriteEnd h = onto-next WriteEnd ModeEnd refl h
    follows ModeEnd h = done t refl

  goes : (name : Name) (gone : ℕ) (settling : Type 0) {stand : Stand} → Right (At name gone) → Moved count tries name gone settling stand
      → Goes name gone settling stand
  goes name gone settling r (onward t) = follows gone settling (omega arith) t name r.2
  goes name gone settling r (again n h) = repeats n h
  goes name gone settling r (up n) = ends n

  goes_right : (name : Name) (gone : ℕ) (settling : Type 0) {stand : Stand} → Right (At name gone) → Goes name gone settling stand → Right stand
  goes_right name gone settling r (onto t e h) = h
  goes_right name gone settling r (done t e) = tt
  goes_right name gone settling r (repeats n h) = (omega arith, omega arith, r.2)
  goes_right name gone settling r (ends n) = r.2

-- ---- what every event does

module _ (image : List ℕ) (bank : Bank) (n tries : ℕ) where
  -- this event settles the request, if it is at hand
  abbrev pub SettlesAt : Name → ℕ → Event → Type 0
  SettlesAt name gone event = Settling name (leb 2 gone) bank image (packet_sector image n (number_of name)) (heard_in event)

  abbrev pub moves : Stand → Event → Stand
  moves NotBegun event = NotBegun
  moves (At name gone) event =
      moved_of name gone tries (packet_count image n)
      (judge_of name (leb 2 gone) bank image (packet_sector image n (number_of name)) (heard_in event))
  moves Finished event = Finished
  moves (GaveUp name why) event = GaveUp name why

  abbrev pub lastStand : Stand → List Given → Stand
  lastStand stand [] = stand
  lastStand stand (g ∷ gs) = lastStand (moves stand g.event) gs

  abbrev pub toldAt : List ℕ → Stand → Told Night
  toldAt before stand = told_by image before (gone_on image (night_of bank n tries stand))

  abbrev pub toldsAt : Stand → List Given → List (Told Night)
  toldsAt stand [] = []
  toldsAt stand (g ∷ gs) = toldAt g.buffer (moves stand g.event) ∷ toldsAt (moves stand g.event) gs

  abbrev pub turnsAt : Stand → List Given → List Turn
  turnsAt stand [] = []
  turnsAt stand (g ∷ gs) = turn (Ok (next_of image bank n stand)) g.event ∷ turnsAt (moves stand g.event) gs

  abbrev pub sentAt : Stand → List Sent
  sentAt NotBegun = []
  sentAt (At name gone) = sent name (frame_of image bank n name) ∷ []
  sentAt Finished = []
  sentAt (GaveUp name why) = []

  abbrev pub sentsAt : Stand → List Given → List Sent
  sentsAt stand [] = []
  sentsAt stand (g ∷ gs) = sentAt (moves stand g.event) ++ sentsAt (moves stand g.event) gs

  module _ (s : Startable image n tries) where
    fits : (before : List ℕ) → room ≤ length before → Fits image n tries (length before)
    fits before h = record { good = s.good; whole = s.whole; low = s.low; high = s.high; roomy = h }

    pub goes_at : (name : Name) (gone : ℕ) (event : Event) → Right (packet_count image n) tries (At name gone)
        → Goes (packet_count image n) tries name gone (SettlesAt name gone event) (moves (At name gone) event)
    goes_at name gone event r =
        goes (packet_count image n) tries name gone (SettlesAt name gone event) r
        (moved_by name gone bank image (packet_sector image n (number_of name)) (heard_in event) (packet_count image n) tries)

    pub stays-right : (stand : Stand) (event : Event) → Right (packet_count image n) tries stand
        → Right (packet_count image n) tries (moves stand event)
    stays-right NotBegun event r = r
    stays-right (At name gone) event r = goes_right (packet_count image n) tries name gone (SettlesAt name gone event) r (goes_at name gone event r)
    stays-right Finished event r = r
    stays-right (GaveUp name why) event r = r

    pub begins-right : Right (packet_count image n) tries (At ModeStart 1)
    begins-right = (omega arith, s.low, s.some)

    -- ---- the calls are these moves

    pub start_is : (before : List ℕ) → room ≤ length before → night_sender.start image bank n tries before ≡ toldAt before (At ModeStart 1)
    start_is before h = ap (told_by image before) (start_goes image n tries (length before) (fits before h) bank s.some)

    pub event-is : (stand : Stand) (event : Event) (before : List ℕ) → Right (packet_count image n) tries stand → room ≤ length before
        → night_sender.event (night_of bank n tries stand) event image before ≡ toldAt before (moves stand event)
    event-is NotBegun event before r h = absurd r
    event-is (At name gone) event before r h =
        ap (told_by image before)
        (hand_goes (night_of bank n tries (At name gone)) (heard_in event) image (length before) (fits before h) name gone refl r.2)
    event-is Finished event before r h =
        ap (told_by image before) (finished_again (night_of bank n tries Finished) (heard_in event) image (length before) (fits before h) refl s.some)
    event-is (GaveUp name why) event before r h =
        ap (told_by image before)
        (gave_up_again (night_of bank n tries (GaveUp name why)) (heard_in event) image (length before) (fits before h) name why refl r)

    pub tolds-are : (stand : Stand) (gs : List Given) → Right (packet_count image n) tries stand → Roomy gs
        → tolds night_sender image (night_of bank n tries stand) gs ≡ toldsAt stand gs
    tolds-are stand [] r none = refl
    tolds-are stand (g ∷ gs) r (more h hs) =
        ap (λ (o : Told Night). o ∷ tolds night_sender image o.record_then gs) (event-is stand g.event g.buffer r h)
        ∙ ap (λ (l : List (Told Night)). toldAt g.buffer (moves stand g.event) ∷ l)
        (tolds-are (moves stand g.event) gs (stays-right stand g.event r) hs)

    turns-are : (before : List ℕ) (stand : Stand) (gs : List Given) → Right (packet_count image n) tries stand → Roomy gs
        → turns_of night_sender image (toldAt before stand) gs ≡ turnsAt stand gs
    turns-are before stand [] r none = refl
    turns-are before stand (g ∷ gs) r (more h hs) =
        ap (λ (o : Told Night). turn (Ok (next_of image bank n stand)) g.event ∷ turns_of night_sender image o gs) (event-is stand g.event g.buffer r h)
        ∙ ap (λ (l : List Turn). turn (Ok (next_of image bank n stand)) g.event ∷ l)
        (turns-are g.buffer (moves stand g.event) gs (stays-right stand g.event r) hs)

    last-is : (before : List ℕ) (stand : Stand) (gs : List Given)
        → (last_told (toldAt before stand) (toldsAt stand gs)).next ≡ Ok (next_of image bank n (lastStand stand gs))
    last-is before stand [] = refl
    last-is before stand (g ∷ gs) = last-is g.buffer (moves stand g.event) gs

    stands-last : (before : List ℕ) (stand : Stand) (gs : List Given)
        → (last_told (toldAt before stand) (toldsAt stand gs)).record_then ≡ night_of bank n tries (lastStand stand gs)
    stands-last before stand [] = refl
    stands-last before stand (g ∷ gs) = stands-last g.buffer (moves stand g.event) gs

    -- ---- what goes out

    pub frame_short : (name : Name) → number_of name < packet_count image n → length (frame_of image bank n name) ≤ room
    frame_short ModeStart h = short request.ModeStart
    frame_short VersionInfo h = short request.VersionInfo
    frame_short BankInfo h = short request.BankInfo
    frame_short WriteStart h = short (request.WriteStart bank n)
    frame_short (Packet p) h = omega (arith, packet_long image n p s.whole h)
    frame_short WriteEnd h = short request.WriteEnd
    frame_short ModeEnd h = short request.ModeEnd

    went-out : (before : List ℕ) (stand : Stand) → Right (packet_count image n) tries stand → room ≤ length before
        → went_out (toldAt before stand).next (toldAt before stand).buffer ≡ sentAt stand
    went-out before NotBegun r h = refl
    went-out before (At name gone) r h =
        let f = frame_short name r.2 in
        ap (λ (l : List ℕ). sent name l ∷ []) (front_take before (frame_of image bank n name) (omega arith))
    went-out before Finished r h = refl
    went-out before (GaveUp name why) r h = refl

    all-went-out : (stand : Stand) (gs : List Given) → Right (packet_count image n) tries stand → Roomy gs
        → all_sent (toldsAt stand gs) ≡ sentsAt stand gs
    all-went-out stand [] r none = refl
    all-went-out stand (g ∷ gs) r (more h hs) =
        let q = stays-right stand g.event r in
        ap₂ (λ (a b : List Sent). a ++ b) (went-out g.buffer (moves stand g.event) q h) (all-went-out (moves stand g.event) gs q hs)

    -- ---- a run from a start

    module _ (before : List ℕ) (gs : List Given) (h : room ≤ length before) (hs : Roomy gs) where
      run_is : first night_sender image bank n tries before gs ∷ later night_sender image bank n tries before gs
          ≡ toldAt before (At ModeStart 1) ∷ toldsAt (At ModeStart 1) gs
      run_is =
          ap (λ (o : Told Night). o ∷ tolds night_sender image o.record_then gs) (start_is before h)
          ∙ ap (λ (l : List (Told Night)). toldAt before (At ModeStart 1) ∷ l) (tolds-are (At ModeStart 1) gs begins-right hs)

      pub run-sends : all_sent (first night_sender image bank n tries before gs ∷ later night_sender image bank n tries before gs)
          ≡ sent ModeStart (frame_of image bank n ModeStart) ∷ sentsAt (At ModeStart 1) gs
      run-sends =
          ap all_sent run_is
          ∙ ap₂ (λ (a b : List Sent). a ++ b) (went-out before (At ModeStart 1) begins-right h) (all-went-out (At ModeStart 1) gs begins-right hs)

      pub run_ends : ends_with night_sender image bank n tries before gs ≡ Ok (next_of image bank n (lastStand (At ModeStart 1) gs))
      run_ends =
          ap (λ (o : Told Night). (last_told o (tolds night_sender image o.record_then gs)).next) (start_is before h)
          ∙ ap (λ (l : List (Told Night)). (last_told (toldAt before (At ModeStart 1)) l).next) (tolds-are (At ModeStart 1) gs begins-right hs)
          ∙ last-is before (At ModeStart 1) gs

      pub run-stands : (last_told (first night_sender image bank n tries before gs) (later night_sender image bank n tries before gs)).record_then
          ≡ night_of bank n tries (lastStand (At ModeStart 1) gs)
      run-stands =
          ap (λ (o : Told Night). (last_told o (tolds night_sender image o.record_then gs)).record_then) (start_is before h)
          ∙ ap (λ (l : List (Told Night)). (last_told (toldAt before (At ModeStart 1)) l).record_then) (tolds-are (At ModeStart 1) gs begins-right hs)
          ∙ stands-last before (At ModeStart 1) gs

      pub run-turns : turns_of night_sender image (first night_sender image bank n tries before gs) gs ≡ turnsAt (At ModeStart 1) gs
      run-turns =
          ap (λ (o : Told Night). turns_of night_sender image o gs) (start_is before h) ∙ turns-are before (At ModeStart 1) gs begins-right hs
