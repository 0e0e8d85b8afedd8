-- It gets there: each request is settled by the try that goes through both ways, and the board's state is the next one's.
-- Assumes nothing.
use mathlib.Core.Path.{◌≡◌, refl, sym, ap, subst, ◌∙◌}
use mathlib.Core.Logic.{inl, inr}
use mathlib.Core.Bool.{true, false≢true}
use mathlib.Core.List.{List, [], ◌∷◌, ◌++◌, append-nil}
use Prim.Native.Nat.{ℕ, suc, ◌+◌, ◌-◌, ◌≤◌, ◌<◌}
use native.Mathlib.Omega.{arith}
use lib.Dec.{leb, ltb}
use lib.ListN.{length, length-append}
use lib.Seq.{get_or_at}
use borrow.Author.Tests.{ltb-true, ltb-false}
use Rattle.std.specs.Prelude.{Ok}
use Rattle.buffer.proofs.Bools.{split, no_way}
use Rattle.layout.specs.declared.Bank.{Bank}
use Rattle.sender.specs.Made.{room}
use Rattle.sender.specs.Packet.{packet_count, packet_sector}
use Rattle.exchange.specs.declared.state.State.{State}
use Rattle.exchange.specs.State.{is_open}
use Rattle.calls.specs.Call.{Board}
use Rattle.night.specs.declared.name.Name.{Name}
use Rattle.night.specs.declared.name.Name.TheVariants.{ModeStart, VersionInfo, BankInfo, WriteStart, Packet, WriteEnd, ModeEnd}
use Rattle.night.specs.declared.record.Next.TheVariants as next
use Rattle.night.specs.declared.record.Night.{Night}
use Rattle.night.specs.declared.record.Stand.{Stand}
use Rattle.night.specs.declared.record.Stand.TheVariants.{At, Finished}
use Rattle.night.specs.Call.{Event, Heard, Silence}
use Rattle.night.specs.Name.{number_of, frame_of}
use Rattle.night.specs.Record.{following_of, moved_of}
use Rattle.night.proofs.Judged.{silence_repeats}
use Rattle.demands.specs.Board.{Input, Datagram, Outcome, said, after, outcomes, step_machine}
use Rattle.demands.specs.Demand2.{SentFrom}
use Rattle.demands.specs.Night.{Told, night_sender, Startable, packets_from}
use Rattle.demands.specs.NightLoop.{
  Arrival,
  EachIn,
  no_passage,
  passage_more,
  NoOther,
  call_of,
  inputs_of,
  Answer,
  Round,
  Loop,
  request_after,
  said_in,
  event_by,
  round,
  rounds,
  begins,
  Try,
  RequestLost,
  AnswerLost,
  Through,
  round_of,
  arrived,
  Right,
  may_lose,
  Fails,
  request_lost,
  answer_lost,
  Goes,
  home,
  fails,
  through,
  MeetsArrival,
}
use Rattle.demands.proofs.NightLoop.{
  event_from,
  lastName,
  request_then,
  first_request,
  InvAt,
  first_known,
  event_keeps,
  Anyone,
  UpdateIn,
  Known,
  known_on,
}
use Rattle.demands.proofs.NightRuns.{behind, packets_next, moves, toldAt, stays-right, begins-right, start_is, event-is}
use Rattle.demands.proofs.NightRuns.{Right as RightStand}
use Rattle.demands.proofs.NightServed.{Fitting, still_fitting, Held, Phase, state_after, Served, serve}

first_or : Name → List Name → Name
first_or name [] = name
first_or name (x ∷ xs) = x

rest_of : List Name → List Name
rest_of [] = []
rest_of (x ∷ xs) = xs

module _ (image : List ℕ) (bank : Bank) (n tries : ℕ) (st : Startable image n tries) (start : Board) where
  abbrev count : ℕ
  count = packet_count image n

  abbrev KnownSo : Name → Loop Night → Type 0
  KnownSo k l = Known image bank n tries st start k l.inputs l.board l.answers

  abbrev Fits : Board → Type 0
  Fits b = Fitting image bank n tries st b

  abbrev In : Name → ℕ → Board → Type 0
  In k gone b = Phase image bank n tries st k gone b

  abbrev afterIt : Name → State
  afterIt k = state_after image bank n tries st k

  -- ---- the state for the next try, and for the next request

  again : (k : Name) (gone : ℕ) (b : Board) → In k gone b → In k (gone + 1) b
  again ModeStart gone b (inl i) = inl i
  again ModeStart gone b (inr c) = inr (c.0, omega (arith, c.1))
  again VersionInfo gone b c = c
  again BankInfo gone b c = c
  again WriteStart gone b (inl c) = inl c
  again WriteStart gone b (inr w) = inr (w.0, omega (arith, w.1))
  again (Packet p) gone b w = w
  again WriteEnd gone b w = w
  again ModeEnd gone b (inl c) = inl c
  again ModeEnd gone b (inr i) = inr (i.0, omega (arith, i.1))

  -- it has arrived, and its answer was lost
  once_more : (k : Name) (gone : ℕ) (b : Board) → 1 ≤ gone → may_lose k ≡ true → b.client.state ≡ afterIt k → In k (gone + 1) b
  once_more ModeStart gone b h m s = inr (s, omega arith)
  once_more VersionInfo gone b h m s = s
  once_more BankInfo gone b h m s = s
  once_more WriteStart gone b h m s = inr (s, omega arith)
  once_more (Packet p) gone b h m s = s
  once_more WriteEnd gone b h m s = absurd (false≢true m)
  once_more ModeEnd gone b h m s = inr (s, omega arith)

  -- the request behind this one, its place in the list, and that the board is ready for it
  module _ (P : Stand → Type 0) where
    abbrev Onward : Name → Type 0
    Onward k =
        (l : Name) → behind count k ≡ l ∷ behind count l → number_of l < count → ((b : Board) → b.client.state ≡ afterIt k → In l 1 b) → P (At l 1)

    followed : (k : Name) → number_of k < count → Onward k → (k ≡ ModeEnd → P Finished) → P (following_of k count)
    followed ModeStart h on done = on VersionInfo refl h (λ b s. s)
    followed VersionInfo h on done = on BankInfo refl h (λ b s. s)
    followed BankInfo h on done = on WriteStart refl h (λ b s. inl s)
    followed WriteStart h on done = on (Packet 0) (packets_next count 0 count (omega arith) h) h (λ b s. s)
    followed (Packet p) h on done =
        split P (ltb (p + 1) count)
        (λ m.
        let more = ltb-true (p + 1) count m in
        on (Packet (p + 1)) (packets_next count (p + 1) (count - (p + 1)) refl more) more (λ b s. s))
        (λ m.
        let least = ltb-false (p + 1) count m in
        let no_more : count - (p + 1) ≡ 0 = omega arith in
        on WriteEnd (ap (λ (k : ℕ). packets_from (p + 1) k ++ (WriteEnd ∷ ModeEnd ∷ [])) no_more) (omega arith) (λ b s. s))
    followed WriteEnd h on done = on ModeEnd refl h (λ b s. inl s)
    followed ModeEnd h on done = done refl

  -- ---- on the way

  record Way (address : List ℕ) (k : Name) (gone given : ℕ) (l : Loop Night) : Type 0 where
    buffer : List ℕ
    told : l.told ≡ toldAt image bank n tries buffer (At k gone)
    right : RightStand count tries (At k gone)
    request : l.request ≡ frame_of image bank n k
    known : KnownSo k l
    fitting : Fits l.board
    phase : In k gone l.board
    held : Held image bank n tries st address l.board
    counted : length l.answers ≡ given

  module _ (address : List ℕ) (k : Name) (gone given : ℕ) (l : Loop Night) (w : Way address k gone given l) (r : Round) (h : room ≤ length r.buffer)
      (ours : EachIn NoOther r.passages) where
    abbrev inputs : List Input
    inputs = inputs_of l.request r.passages

    abbrev board-then : Board
    board-then = after step_machine l.board inputs

    abbrev answers-then : List (List ℕ)
    answers-then = l.answers ++ said_in r.passages (outcomes step_machine l.board inputs)

    abbrev event : Event
    event = event_by answers-then r.comes

    abbrev next-loop : Loop Night
    next-loop = round night_sender step_machine image l r

    told-then : next-loop.told ≡ toldAt image bank n tries r.buffer (moves image bank n tries (At k gone) event)
    told-then =
        ap (λ (o : Told Night). night_sender.event o.record_then event image r.buffer) w.told
        ∙ event-is image bank n tries st (At k gone) event r.buffer w.right h

    -- another try or another request
    onto : (m : Name) (times given-then : ℕ) → moves image bank n tries (At k gone) event ≡ At m times → Fits board-then → In m times board-then
        → Held image bank n tries st address board-then → length answers-then ≡ given-then → Way address m times given-then next-loop
    onto m times given-then e f p o c =
        record {
          buffer = r.buffer;
          told = told-then ∙ ap (toldAt image bank n tries r.buffer) e;
          right = subst (RightStand count tries) e (stays-right image bank n tries st (At k gone) event w.right);
          request =
              ap (λ (o : Told Night). request_after o.next o.buffer l.request) told-then
              ∙ request_then image bank n tries st (At k gone) event r.buffer l.request w.right h w.request
              ∙ ap (λ (s : Stand). frame_of image bank n (lastName image bank n tries st s)) e;
          known =
              subst (λ (s : Stand). InvAt image bank n tries st Anyone start (UpdateIn image bank n tries st start) s (l.inputs ++ inputs) board-then answers-then) e
              (event_keeps image bank n tries st Anyone start (UpdateIn image bank n tries st start) (At k gone) event (l.inputs ++ inputs) board-then answers-then w.right
              (event_from answers-then r.comes)
              (known_on image bank n tries st start k w.right.2 l.request w.request r.passages ours l.inputs l.board l.answers w.known));
          fitting = f;
          phase = p;
          held = o;
          counted = c;
        }

    silent : event ≡ Silence → gone < tries → moves image bank n tries (At k gone) event ≡ At k (gone + 1)
    silent e g =
        ap (moves image bank n tries (At k gone)) e
        ∙ silence_repeats (leb 2 gone) k gone tries count bank image (packet_sector image n (number_of k)) g

  -- ---- one try

  module _ (address : List ℕ) where
    comes-so : (request : List ℕ) (a : Arrival) → Right address n a → SentFrom address n (call_of request a)
    comes-so request a r =
        let x = r.lends in
        record { sender = r.sender; lends = record { address = x.address; marks = x.marks; room = x.room; banks = x.banks } }

    module _ (k : Name) (gone given : ℕ) (l : Loop Night) (w : Way address k gone given l) where
      -- the request arrives
      abbrev outcome : Arrival → Outcome
      outcome a = step_machine l.board (Datagram (call_of l.request a))

      served : (a : Arrival) → Right address n a → Served image bank n tries st address k gone (outcome a)
      served a r =
          serve image bank n tries st address l.board w.fitting w.held (call_of l.request a) (comes-so l.request a r) k gone w.right.2 w.request w.phase
          start l.inputs l.answers w.known

      fits-then : (a : Arrival) → Fits (outcome a).board
      fits-then a = still_fitting image bank n tries st l.board (Datagram (call_of l.request a)) w.fitting

      one_more : (a : Arrival) → length (l.answers ++ (said (outcome a) ∷ [])) ≡ suc given
      one_more a = omega (arith, length-append l.answers (said (outcome a) ∷ []), w.counted)

      -- a try that fails leaves one more to go
      failed : (t : Try) (buffer : List ℕ) → Fails address n k t → room ≤ length buffer → gone < tries
          → Way address k (gone + 1) (arrived t given) (round night_sender step_machine image l (round_of given buffer t))
      failed RequestLost buffer request_lost h g =
          onto address k gone given l w (round_of given buffer RequestLost) h no_passage k (gone + 1) given (silent address k gone given l w (round_of given buffer RequestLost) h no_passage refl g)
          w.fitting (again k gone l.board w.phase) w.held (ap length (append-nil l.answers) ∙ w.counted)
      failed (AnswerLost a) buffer (answer_lost m r) h g =
          onto address k gone given l w (round_of given buffer (AnswerLost a)) h (passage_more tt no_passage) k (gone + 1) (suc given)
          (silent address k gone given l w (round_of given buffer (AnswerLost a)) h (passage_more tt no_passage) refl g) (fits-then a)
          (once_more k gone (outcome a).board w.right.0 m (served a r).then) (served a r).held (one_more a)
      failed (Through a) buffer none h g = elim none [ ]

      -- one that goes through settles the request
      settled : (a : Arrival) (buffer : List ℕ) → Right address n a
          → moves image bank n tries (At k gone) (event_by (l.answers ++ (said (outcome a) ∷ [])) (Answer given)) ≡ following_of k count
      settled a buffer r =
          ap (λ (d : List ℕ). moves image bank n tries (At k gone) (Heard d)) (get_or_at l.answers (said (outcome a)) [] [] given w.counted)
          ∙ ap (moved_of k gone tries count) (served a r).settles

    -- ---- all of them

    arrive : {names : List Name} {left given : ℕ} {rs : List Round} → Goes address n tries names left given rs → (k : Name) (gone : ℕ)
        → names ≡ k ∷ behind count k
        → gone + left ≡ tries → (l : Loop Night) → Way address k gone given l → (rounds night_sender step_machine image l rs).told.next ≡ Ok next.Finished
    unfolding first_or rest_of
    arrive home k gone e q l w = no_way cc
    arrive (fails {name} {names} {left} {given} {rs} t buffer f h rest) k gone e q l w =
        let is : name ≡ k = ap (first_or name) e in
        arrive rest k (gone + 1) e (omega arith) (round night_sender step_machine image l (round_of given buffer t))
        (failed k gone given l w t buffer (subst (λ (x : Name). Fails address n x t) is f) h (omega arith))
    arrive (through {name} {names} {left} {given} {rs} a buffer r h rest) k gone e q l w =
        followed P k w.right.2
        (λ m place there ready s.
        arrive rest m 1 (tails ∙ place) (omega (arith, st.low)) then
        (onto address k gone given l w (round_of given buffer (Through a)) h (passage_more tt no_passage) m 1 (suc given) (settled k gone given l w a buffer r ∙ sym s) (fits-then k gone given l w a)
        (ready (outcome k gone given l w a).board (served k gone given l w a r).then) (served k gone given l w a r).held (one_more k gone given l w a)))
        (λ z s. ended rest (tails ∙ ap (behind count) z) s)
        refl
      where
        then : Loop Night
        then = round night_sender step_machine image l (round_of given buffer (Through a))

        P : Stand → Type 0
        P s = s ≡ following_of k count → (rounds night_sender step_machine image then rs).told.next ≡ Ok next.Finished

        tails : names ≡ behind count k
        tails = ap rest_of e

        ended : {ns : List Name} {left given : ℕ} {rs : List Round} → Goes address n tries ns left given rs → ns ≡ [] → Finished ≡ following_of k count
            → (rounds night_sender step_machine image then rs).told.next ≡ Ok next.Finished
        ended home z s =
            ap (λ (o : Told Night). o.next) (told-then address k gone given l w (round_of given buffer (Through a)) h (passage_more tt no_passage))
            ∙ ap (λ (x : Stand). (toldAt image bank n tries buffer x).next) (settled k gone given l w a buffer r ∙ sym s)
        ended (fails t buffer f h rest) z s = no_way cc
        ended (through a buffer r h rest) z s = no_way cc

-- ---- from a board that waits

pub arrival_met : MeetsArrival night_sender step_machine
arrival_met image bank n tries before address b rs st h waits sound revision goes =
    let l : Loop Night = begins night_sender step_machine image bank n tries before b in
    arrive image bank n tries st b address goes ModeStart 1 refl (omega (arith, st.low)) l
    (record {
      buffer = before;
      told = start_is image bank n tries st before h;
      right = begins-right image bank n tries st;
      request = first_request image bank n tries st before b h;
      known = first_known image bank n tries st Anyone b (UpdateIn image bank n tries st b) revision;
      fitting =
          record { sectors = waits.sectors; target = waits.target; sound = sound; revision = revision; whole = waits.whole };
      phase = inl waits.idle;
      held = λ t. absurd (false≢true (sym (ap is_open waits.idle) ∙ t));
      counted = refl;
    })
