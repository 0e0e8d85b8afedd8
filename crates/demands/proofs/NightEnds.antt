-- The night sender gives up with each reason exactly when it is so, and an end stays.
-- Assumes nothing.
use Rattle.std.specs.Prelude.{Option, None}
use mathlib.Core.Path.{◌≡◌, refl, sym, ap, subst, ◌∙◌}
use mathlib.Core.Bool.{Bool, true, false, false≢true}
use mathlib.Core.List.{List, [], ◌∷◌}
use mathlib.Core.Logic.{◌⊎◌, inl, inr}
use Prim.Native.Nat.{ℕ, zero, suc, ◌+◌, ◌≤◌, ◌<◌}
use native.Mathlib.Omega.{arith}
use lib.Dec.{leb}
use lib.ListN.{length}
use borrow.Author.Tests.{leb-true, leb-false, le-leb}
use Rattle.std.specs.Prelude.{Result, Ok}
use Rattle.buffer.proofs.Bools.{no_way}
use Rattle.commands.specs.declared.Command.TheVariants as command
use Rattle.layout.specs.declared.Bank.{Bank}
use Rattle.response.specs.declared.read.Response.{Response}
use Rattle.response.specs.Response.{response_of}
use Rattle.sender.specs.Made.{room}
use Rattle.sender.specs.Packet.{packet_count, packet_sector}
use Rattle.night.specs.declared.name.Name.{Name}
use Rattle.night.specs.declared.name.Name.TheVariants.{ModeStart, VersionInfo, BankInfo, WriteStart, Packet, WriteEnd, ModeEnd}
use Rattle.night.specs.declared.record.Next.{Next}
use Rattle.night.specs.declared.record.Next.TheVariants as next
use Rattle.night.specs.declared.record.Night.{Night}
use Rattle.night.specs.declared.record.Refusal.{Refusal}
use Rattle.night.specs.declared.record.Stand.{Stand}
use Rattle.night.specs.declared.record.Stand.TheVariants.{NotBegun, At, Finished, GaveUp}
use Rattle.night.specs.declared.record.Why.{Why}
use Rattle.night.specs.declared.record.Why.TheVariants.{Tries, WrongBank, Unknown}
use Rattle.night.specs.Call.{Event, Heard, Silence, heard_in, next_of}
use Rattle.night.specs.Name.{number_of}
use Rattle.night.proofs.Judged.{
  Settling,
  Spending,
  Stopping,
  spent_unsettled,
  spent_unstopped,
  stopped_unsettled,
  stopped_once,
  spent_else,
  own_goes,
  end_stopped,
  stopped_end,
  version_goes,
  packet_goes,
  bank_stopped,
  stopped_bank,
  Stepped,
  went_on,
  went_again,
  went_up,
  stopped_up,
  stepped_by,
  silence_judged,
}
use Rattle.demands.specs.Night.{
  night_sender,
  Given,
  Roomy,
  tolds,
  last_told,
  first,
  later,
  Startable,
  is_over,
  ends_with,
  Turn,
  turn,
  Repeated,
  again,
}
use Rattle.demands.specs.NightEnds.{
  Brings,
  Stops,
  Done,
  Spends,
  InVain,
  enough,
  in-vain,
  TriedInVain,
  from-here,
  from-later,
  Stopped,
  stopped-here,
  stopped-later,
  AllTold,
  told_none,
  told_more,
  Whatever,
  Stays,
  stays_none,
  stays_more,
  runTurns,
  MeetsGivingUp,
}
use Rattle.demands.proofs.NightOrder.{stays_finished, stays_given_up}
use Rattle.demands.proofs.NightRuns.{
  behind,
  Right,
  Goes,
  onto,
  done,
  repeats,
  ends,
  follows,
  moves,
  lastStand,
  toldsAt,
  turnsAt,
  tolds-are,
  stays-right,
  begins-right,
  run_ends,
  run-stands,
  run-turns,
}
use Rattle.demands.proofs.NightSettled.{Reads, judge_reads, reads_judged}

-- ---- what an event is judged to be, of the response as it reads

module _ (image : List ℕ) (bank : Bank) (n : ℕ) (test : Bool) (repeated : Type 0) where
  abbrev StoppingIs : Why → Name → Option Response → Type 0
  StoppingIs why name r = Stopping why name test bank image (packet_sector image n (number_of name)) r

  module _ (there : test ≡ true → repeated) where
    bank-reads : (why : Why) (r : Option Response) → StoppingIs why BankInfo r → Stops image bank n why BankInfo repeated r
    bank-reads why r e = let b = bank_stopped bank r why e in subst (λ (w : Why). Stops image bank n w BankInfo repeated r) b.1 (refl, b.0)

    end_reads : (why : Why) (r : Option Response) → StoppingIs why WriteEnd r → Stops image bank n why WriteEnd repeated r
    end_reads why r e =
        let b = end_stopped command.WriteEnd test r why e in
        subst (λ (w : Why). Stops image bank n w WriteEnd repeated r) b.2 (refl, b.0, there b.1)

    stops-reads : (why : Why) (name : Name) (r : Option Response) → StoppingIs why name r → Stops image bank n why name repeated r
    stops-reads why ModeStart r e = absurd (own_goes command.ModeStart test r why e)
    stops-reads why VersionInfo r e = absurd (version_goes r why e)
    stops-reads why BankInfo r e = bank-reads why r e
    stops-reads why WriteStart r e = absurd (own_goes command.WriteStart test r why e)
    stops-reads why (Packet p) r e = absurd (packet_goes image (packet_sector image n p) r why e)
    stops-reads why WriteEnd r e = end_reads why r e
    stops-reads why ModeEnd r e = absurd (own_goes command.ModeEnd test r why e)

    done-reads : (name : Name) (r : Option Response) → Reads image bank n test r name → Done image bank n name repeated r
    done-reads name r (inl x) = inl x
    done-reads name r (inr x) = inr (x.0, there x.1)

  module _ (back : repeated → test ≡ true) where
    reads-stops : (why : Why) (name : Name) (r : Option Response) → Stops image bank n why name repeated r → StoppingIs why name r
    reads-stops Tries name r x = absurd x
    reads-stops WrongBank name r x =
        subst (λ (k : Name). StoppingIs WrongBank k r) (sym x.0) (subst (StoppingIs WrongBank BankInfo) (sym x.1) (stopped_bank bank))
    reads-stops Unknown name r x =
        subst (λ (k : Name). StoppingIs Unknown k r) (sym x.0) (stopped_end command.WriteEnd test r x.1 (back x.2))

    reads-done : (name : Name) (r : Option Response) → Done image bank n name repeated r → Reads image bank n test r name
    reads-done name r (inl x) = inl x
    reads-done name r (inr x) = inr (x.0, back x.1)

module _ (image : List ℕ) (bank : Bank) (n : ℕ) where
  abbrev SettledAt : Name → ℕ → Event → Type 0
  SettledAt name gone event = Settling name (leb 2 gone) bank image (packet_sector image n (number_of name)) (heard_in event)

  abbrev pub SpentAt : Name → ℕ → Event → Type 0
  SpentAt name gone event = Spending name (leb 2 gone) bank image (packet_sector image n (number_of name)) (heard_in event)

  abbrev StoppedAt : Why → Name → ℕ → Event → Type 0
  StoppedAt why name gone event = Stopping why name (leb 2 gone) bank image (packet_sector image n (number_of name)) (heard_in event)

  -- `repeated` says that it has gone out twice
  module _ (name : Name) (gone : ℕ) (repeated : Type 0) (there : 2 ≤ gone → repeated) (back : repeated → 2 ≤ gone) where
    settles-of : (event : Event) → SettledAt name gone event → Brings event (Done image bank n name repeated)
    settles-of (Heard datagram) e =
        done-reads image bank n (leb 2 gone) repeated (λ t. there (leb-true 2 gone t)) name (response_of datagram)
        (judge_reads image bank n (leb 2 gone) (response_of datagram) name e)
    settles-of Silence e =
        absurd
        (spent_unsettled name (leb 2 gone) bank image (packet_sector image n (number_of name)) None
        (silence_judged (leb 2 gone) name bank image (packet_sector image n (number_of name))) e)

    of-settles : (event : Event) → Brings event (Done image bank n name repeated) → SettledAt name gone event
    of-settles (Heard datagram) x =
        reads_judged image bank n (leb 2 gone) (response_of datagram) name
        (reads-done image bank n (leb 2 gone) repeated (λ r. le-leb 2 gone (back r)) name (response_of datagram) x)
    of-settles Silence x = absurd x

    stops-of : (why : Why) (event : Event) → StoppedAt why name gone event → Brings event (Stops image bank n why name repeated)
    stops-of why (Heard datagram) e =
        stops-reads image bank n (leb 2 gone) repeated (λ t. there (leb-true 2 gone t)) why name (response_of datagram) e
    stops-of why Silence e =
        absurd
        (spent_unstopped name (leb 2 gone) bank image (packet_sector image n (number_of name)) None why
        (silence_judged (leb 2 gone) name bank image (packet_sector image n (number_of name))) e)

    of-stops : (why : Why) (event : Event) → Brings event (Stops image bank n why name repeated) → StoppedAt why name gone event
    of-stops why (Heard datagram) x = reads-stops image bank n (leb 2 gone) repeated (λ r. le-leb 2 gone (back r)) why name (response_of datagram) x
    of-stops why Silence x = absurd x

    never-tries : (event : Event) → Brings event (Stops image bank n Tries name repeated) → ⊥
    never-tries (Heard datagram) x = x
    never-tries Silence x = x

    spends-of : (event : Event) → SpentAt name gone event → Spends image bank n name repeated event
    spends-of event e =
        let sector : ℕ = packet_sector image n (number_of name) in
        record {
          unsettled = λ x. spent_unsettled name (leb 2 gone) bank image sector (heard_in event) e (of-settles event x);
          unstopped = λ why x. spent_unstopped name (leb 2 gone) bank image sector (heard_in event) why e (of-stops why event x);
        }

    pub of-spends : (event : Event) → Spends image bank n name repeated event → SpentAt name gone event
    of-spends event x =
        spent_else name (leb 2 gone) bank image (packet_sector image n (number_of name)) (heard_in event)
        (λ e. x.unsettled (settles-of event e))
        (λ why e. x.unstopped why (stops-of why event e))

-- the same request was at hand one event before exactly where it has gone out twice
record Agrees (name : Name) (gone : ℕ) (last : Result Next Refusal) : Type 0 where
  twice : 2 ≤ gone → Repeated name last
  only : Repeated name last → 2 ≤ gone

-- ---- every way in which an event moves the record, and by what

module _ (image : List ℕ) (bank : Bank) (n tries : ℕ) (s : Startable image n tries) where
  abbrev count : ℕ
  count = packet_count image n

  abbrev final : Stand → List Given → Stand
  final = lastStand image bank n tries

  abbrev turns : Stand → List Given → List Turn
  turns = turnsAt image bank n tries

  data Step (name : Name) (gone : ℕ) (event : Event) : Stand → Type 0 where
    onto-other : {k : Name} → SettledAt image bank n name gone event → (name ≡ k → ⊥) → Right count tries (At k 1)
        → Step name gone event (At k 1)
    finishes : SettledAt image bank n name gone event → Step name gone event Finished
    once_more : SpentAt image bank n name gone event → gone < tries → Step name gone event (At name (gone + 1))
    tired : SpentAt image bank n name gone event → tries ≤ gone → Step name gone event (GaveUp name Tries)
    stops : {why : Why} → StoppedAt image bank n why name gone event → Step name gone event (GaveUp name why)

  -- a request is not behind itself
  not_itself : (name k : Name) → behind count name ≡ k ∷ behind count k → name ≡ k → ⊥
  not_itself name k e q =
      let long : length (behind count name) ≡ suc (length (behind count k)) = ap length e in
      let same : length (behind count name) ≡ length (behind count k) = ap (λ (x : Name). length (behind count x)) q in
      absurd (omega arith)

  from_goes : (name : Name) (gone : ℕ) (event : Event) {stand : Stand} → SettledAt image bank n name gone event
      → Goes count tries name gone (SettledAt image bank n name gone event) stand → Step name gone event stand
  from_goes name gone event e (onto {next = k} t b r) = onto-other e (not_itself name k b) r
  from_goes name gone event e (done t b) = finishes e
  from_goes name gone event e (repeats no-settling h) = absurd (no-settling e)
  from_goes name gone event e (ends no-settling) = absurd (no-settling e)

  from_stepped : (name : Name) (gone : ℕ) (event : Event) {stand : Stand} → Right count tries (At name gone)
      → Stepped count tries name gone (SettledAt image bank n name gone event) (SpentAt image bank n name gone event)
      (λ (why : Why). StoppedAt image bank n why name gone event) stand
      → Step name gone event stand
  from_stepped name gone event r (went_on e) =
      from_goes name gone event e (follows count tries gone (SettledAt image bank n name gone event) s.low e name r.2)
  from_stepped name gone event r (went_again e h) = once_more e h
  from_stepped name gone event r (went_up e h) = tired e h
  from_stepped name gone event r (stopped_up e) = stops e

  step_at : (name : Name) (gone : ℕ) (event : Event) → Right count tries (At name gone)
      → Step name gone event (moves image bank n tries (At name gone) event)
  step_at name gone event r =
      from_stepped name gone event r
      (stepped_by name gone bank image (packet_sector image n (number_of name)) (heard_in event) count tries)

  -- ---- what is at hand agrees with how often it has gone out

  abbrev AgreesAt : Stand → Result Next Refusal → Type 0
  AgreesAt NotBegun last = Unit {0}
  AgreesAt (At name gone) last = Agrees name gone last
  AgreesAt Finished last = Unit {0}
  AgreesAt (GaveUp name why) last = Unit {0}

  abbrev hand : Name → Result Next Refusal
  hand name = Ok (next_of image bank n (At name 1))

  other_hand : (name k : Name) {last : Result Next Refusal} → last ≡ hand name → Repeated k last → name ≡ k
  other_hand name k e (again {size = size}) = cc

  first_time : (name k : Name) → (name ≡ k → ⊥) → Agrees k 1 (hand name)
  first_time name k other = record { twice = λ h. absurd (omega arith); only = λ r. absurd (other (other_hand name k refl r)) }

  next_time : (name : Name) (gone : ℕ) → 1 ≤ gone → Agrees name (gone + 1) (hand name)
  next_time name gone h = record { twice = λ _. again; only = λ _. omega arith }

  step_agrees : (name : Name) (gone : ℕ) (event : Event) {stand : Stand} → Right count tries (At name gone) → Step name gone event stand
      → AgreesAt stand (hand name)
  step_agrees name gone event r (onto-other {k = k} e other q) = first_time name k other
  step_agrees name gone event r (finishes e) = tt
  step_agrees name gone event r (once_more e h) = next_time name gone r.0
  step_agrees name gone event r (tired e h) = tt
  step_agrees name gone event r (stops e) = tt

  agrees_on : (stand : Stand) (event : Event) → Right count tries stand → AgreesAt (moves image bank n tries stand event) (Ok (next_of image bank n stand))
  agrees_on NotBegun event r = absurd r
  agrees_on (At name gone) event r = step_agrees name gone event r (step_at name gone event r)
  agrees_on Finished event r = tt
  agrees_on (GaveUp name why) event r = tt

  agrees_first : Agrees ModeStart 1 (Ok next.NotBegun)
  agrees_first = record { twice = λ h. absurd (omega arith); only = λ r. absurd (none_before refl r) }
    where
      none_before : {last : Result Next Refusal} → last ≡ Ok next.NotBegun → Repeated ModeStart last → ⊥
      none_before e (again {size = size}) = no_way cc

  first_only : (name : Name) {last : Result Next Refusal} → Agrees name 1 last → Repeated name last → ⊥
  first_only name a r = let two = a.only r in absurd (omega arith)

  -- ---- given up for its tries: only then

  abbrev Vain : Name → ℕ → Result Next Refusal → List Turn → Type 0
  Vain name = InVain image bank n (AllTold (Ok (next.GaveUp name Tries))) name

  abbrev Tried : Name → Result Next Refusal → List Turn → Type 0
  Tried name = TriedInVain image bank n (AllTold (Ok (next.GaveUp name Tries))) name tries

  abbrev Up : Name → Why → Stand → List Given → Type 0
  Up k why stand gs = final stand gs ≡ GaveUp k why

  abbrev VainOrLater : Name → Name → ℕ → Result Next Refusal → List Turn → Type 0
  VainOrLater k name gone last ts = ((k ≡ name) × ((left : ℕ) → left + gone ≡ suc tries → Vain name left last ts)) ⊎ Tried k last ts

  abbrev VainFrom : List Given → Type 0
  VainFrom gs =
      (k name : Name) (gone : ℕ) (last : Result Next Refusal) → Right count tries (At name gone) → Agrees name gone last → Up k Tries (At name gone) gs
      → VainOrLater k name gone last (turns (At name gone) gs)

  new_hand : (k name : Name) (last : Result Next Refusal) {ts : List Turn} → Agrees name 1 last → VainOrLater k name 1 last ts → Tried k last ts
  new_hand k name last {ts} a (inl x) =
      subst (λ (y : Name). Tried y last ts) (sym x.0) (from-here (first_only name a) (x.1 tries (omega arith)))
  new_hand k name last a (inr x) = x

  same_hand : (k name : Name) (gone : ℕ) (event : Event) (last : Result Next Refusal) {rest : List Turn} → Spends image bank n name (Repeated name last) event
      → gone < tries
      → VainOrLater k name (gone + 1) (hand name) rest → VainOrLater k name gone last (turn (hand name) event ∷ rest)
  same_hand k name gone event last {rest} spent h (inl x) = inl (x.0, count_down)
    where
      count_down : (left : ℕ) → left + gone ≡ suc tries → Vain name left last (turn (hand name) event ∷ rest)
      count_down zero e = absurd (omega arith)
      count_down (suc left) e = in-vain spent (x.1 left (omega arith))
  same_hand k name gone event last spent h (inr x) = inr (from-later x)

  last_hand : (k name : Name) (gone : ℕ) (event : Event) (last : Result Next Refusal) {rest : List Turn} → Spends image bank n name (Repeated name last) event
      → tries ≤ gone
      → gone ≤ tries → k ≡ name → AllTold (Ok (next.GaveUp name Tries)) rest → VainOrLater k name gone last (turn (hand name) event ∷ rest)
  last_hand k name gone event last {rest} spent h l e told = inl (e, one_left)
    where
      one_left : (left : ℕ) → left + gone ≡ suc tries → Vain name left last (turn (hand name) event ∷ rest)
      one_left zero q = absurd (omega arith)
      one_left (suc zero) q = in-vain spent (enough told)
      one_left (suc (suc left)) q = absurd (omega arith)

  finished_not : (k : Name) (why : Why) (gs : List Given) → Up k why Finished gs → ⊥
  finished_not k why gs e = let q : Finished ≡ GaveUp k why = sym (stays_finished image bank n tries s gs) ∙ e in no_way cc

  same_end : (name k : Name) (why whyk : Why) (gs : List Given) → Up k whyk (GaveUp name why) gs → GaveUp name why ≡ GaveUp k whyk
  same_end name k why whyk gs e = sym (stays_given_up image bank n tries s name why gs) ∙ e

  gave_up_told_on : (name : Name) (why : Why) (gs : List Given) → AllTold (Ok (next.GaveUp name why)) (turns (GaveUp name why) gs)
  gave_up_told_on name why [] = told_none
  gave_up_told_on name why (g ∷ gs) = told_more (gave_up_told_on name why gs)

  vain_on : (gs : List Given) → VainFrom gs → (k name : Name) (gone : ℕ) (event : Event) (last : Result Next Refusal) (stand : Stand)
      → Right count tries (At name gone)
      → Agrees name gone last → Up k Tries stand gs → Step name gone event stand
      → VainOrLater k name gone last (turn (hand name) event ∷ turns stand gs)
  vain_on gs ih k name gone event last _ r a e (onto-other {k = j} t other q) =
      inr (from-later (new_hand k j (hand name) (first_time name j other) (ih k j 1 (hand name) q (first_time name j other) e)))
  vain_on gs ih k name gone event last _ r a e (finishes t) = absurd (finished_not k Tries gs e)
  vain_on gs ih k name gone event last _ r a e (once_more t h) =
      same_hand k name gone event last (spends-of image bank n name gone (Repeated name last) a.twice a.only event t) h
      (ih k name (gone + 1) (hand name) (omega arith, omega arith, r.2) (next_time name gone r.0) e)
  vain_on gs ih k name gone event last _ r a e (tired t h) =
      let q = same_end name k Tries Tries gs e in
      let same : k ≡ name = cc in
      last_hand k name gone event last (spends-of image bank n name gone (Repeated name last) a.twice a.only event t) h r.1 same
      (gave_up_told_on name Tries gs)
  vain_on gs ih k name gone event last _ r a e (stops {why = why} t) =
      let q = same_end name k why Tries gs e in
      let same : why ≡ Tries = cc in
      absurd
      (never-tries image bank n name gone (Repeated name last) a.twice a.only event
      (subst (λ (w : Why). Brings event (Stops image bank n w name (Repeated name last))) same (stops-of image bank n name gone (Repeated name last) a.twice a.only why event t)))

  vain_from : (gs : List Given) → VainFrom gs
  vain_from [] k name gone last r a e = no_way cc
  vain_from (g ∷ gs) k name gone last r a e =
      vain_on gs (vain_from gs) k name gone g.event last (moves image bank n tries (At name gone) g.event) r a e
      (step_at name gone g.event r)

  -- ---- and always then

  abbrev VainAny : Name → ℕ → Result Next Refusal → List Turn → Type 0
  VainAny = InVain image bank n Whatever

  abbrev TriedAny : Name → Result Next Refusal → List Turn → Type 0
  TriedAny name = TriedInVain image bank n Whatever name tries

  record Head (name : Name) (left : ℕ) (last : Result Next Refusal) (t : Turn) (rest : List Turn) : Type 0 where
    size : ℕ
    hand-is : t.hand ≡ Ok (next.Send name size)
    spent : Spends image bank n name (Repeated name last) t.event
    less : (k : ℕ) → left ≡ suc k → VainAny name k t.hand rest

  vain_head : (name : Name) {left : ℕ} {last : Result Next Refusal} {ts : List Turn} (t : Turn) (rest : List Turn) → 1 ≤ left → VainAny name left last ts
      → ts ≡ t ∷ rest
      → Head name left last t rest
  vain_head name t rest h (enough _) e = absurd (omega arith)
  vain_head name t rest h (in-vain {k = j} {last = last} {size = size} {event = event} {rest = more} spent v) e =
      let same : turn (Ok (next.Send name size)) event ≡ t = cc in
      let rests : more ≡ rest = cc in
      record {
        size = size;
        hand-is = sym (ap (λ (u : Turn). u.hand) same);
        spent = subst (λ (u : Turn). Spends image bank n name (Repeated name last) u.event) same spent;
        less = λ k q.
            let fewer : j ≡ k = omega arith in
            subst (λ (i : ℕ). VainAny name i t.hand rest) fewer
            (subst (VainAny name j t.hand) rests (subst (λ (u : Turn). VainAny name j u.hand more) same v));
      }

  vain_some : (name : Name) {left : ℕ} {last : Result Next Refusal} {ts : List Turn} → 1 ≤ left → VainAny name left last ts → ts ≡ [] → ⊥
  vain_some name h (enough _) e = absurd (omega arith)
  vain_some name h (in-vain spent v) e = no_way cc

  abbrev Ends·From : List Given → Type 0
  Ends·From gs =
      (name : Name) (gone : ℕ) (last : Result Next Refusal) (left : ℕ) → Right count tries (At name gone) → Agrees name gone last → left + gone ≡ suc tries
      → VainAny name left last (turns (At name gone) gs) → Up name Tries (At name gone) gs

  ends_on : (gs : List Given) → Ends·From gs → (name : Name) (gone : ℕ) (event : Event) (last : Result Next Refusal) (left : ℕ) (stand : Stand)
      → Right count tries (At name gone) → SpentAt image bank n name gone event → left + gone ≡ suc tries
      → ((k : ℕ) → left ≡ suc k → VainAny name k (hand name) (turns stand gs)) → Step name gone event stand → Up name Tries stand gs
  ends_on gs ih name gone event last left _ r spent e less (onto-other t other q) =
      absurd (spent_unsettled name (leb 2 gone) bank image (packet_sector image n (number_of name)) (heard_in event) spent t)
  ends_on gs ih name gone event last left _ r spent e less (finishes t) =
      absurd (spent_unsettled name (leb 2 gone) bank image (packet_sector image n (number_of name)) (heard_in event) spent t)
  ends_on gs ih name gone event last zero _ r spent e less (once_more t h) = absurd (omega arith)
  ends_on gs ih name gone event last (suc left) _ r spent e less (once_more t h) =
      ih name (gone + 1) (hand name) left (omega arith, omega arith, r.2) (next_time name gone r.0) (omega arith) (less left refl)
  ends_on gs ih name gone event last left _ r spent e less (tired t h) = stays_given_up image bank n tries s name Tries gs
  ends_on gs ih name gone event last left _ r spent e less (stops {why = why} t) =
      absurd (spent_unstopped name (leb 2 gone) bank image (packet_sector image n (number_of name)) (heard_in event) why spent t)

  ends_from : (gs : List Given) → Ends·From gs
  ends_from [] name gone last left r a e v = absurd (vain_some name (omega arith) v refl)
  ends_from (g ∷ gs) name gone last left r a e v =
      let stand : Stand = moves image bank n tries (At name gone) g.event in
      let h : Head name left last (turn (hand name) g.event) (turns stand gs) =
      vain_head name (turn (hand name) g.event) (turns stand gs) (omega arith) v refl in
      ends_on gs (ends_from gs) name gone g.event last left stand r (of-spends image bank n name gone (Repeated name last) a.twice a.only g.event h.spent) e h.less
      (step_at name gone g.event r)

  -- it begins where the request was new
  gone_once : (name k : Name) (gone : ℕ) (last : Result Next Refusal) (gs : List Given) → name ≡ k → Right count tries (At name gone) → Agrees name gone last
      → (Repeated k last → ⊥) → VainAny k tries last (turns (At name gone) gs) → Up k Tries (At name gone) gs
  gone_once name k gone last gs same r a new v =
      let once : gone ≡ 1 = first-gone (leb 2 gone) refl in
      subst (λ (x : Name). Up x Tries (At name gone) gs) same
      (ends_from gs name gone last tries r a (omega arith)
      (subst (λ (x : Name). VainAny x tries last (turns (At name gone) gs)) (sym same) v))
    where
      first-gone : (t : Bool) → leb 2 gone ≡ t → gone ≡ 1
      first-gone true t = absurd (new (subst (λ (x : Name). Repeated x last) same (a.twice (leb-true 2 gone t))))
      first-gone false t = let l = leb-false 2 gone t in let low = r.0 in omega arith

  begins_here : (gs : List Given) (stand : Stand) (k : Name) (last : Result Next Refusal) → Right count tries stand → AgreesAt stand last → (Repeated k last → ⊥)
      → VainAny k tries last (turns stand gs) → Up k Tries stand gs
  begins_here [] stand k last r a new v = absurd (vain_some k s.low v refl)
  begins_here (g ∷ gs) NotBegun k last r a new v = absurd r
  begins_here (g ∷ gs) (At name gone) k last r a new v =
      let h : Head k tries last (turn (hand name) g.event) (turns (moves image bank n tries (At name gone) g.event) gs) =
      vain_head k (turn (hand name) g.event) (turns (moves image bank n tries (At name gone) g.event) gs) s.low v refl in
      let at : hand name ≡ (Ok (next.Send k h.size)) = h.hand-is in
      let same : name ≡ k = cc in
      gone_once name k gone last (g ∷ gs) same r a new v
  begins_here (g ∷ gs) Finished k last r a new v =
      let h : Head k tries last (turn (Ok next.Finished) g.event) (turns Finished gs) =
      vain_head k (turn (Ok next.Finished) g.event) (turns Finished gs) s.low v refl in
      let at : (Ok next.Finished) ≡ (Ok (next.Send k h.size)) = h.hand-is in no_way cc
  begins_here (g ∷ gs) (GaveUp name why) k last r a new v =
      let h : Head k tries last (turn (Ok (next.GaveUp name why)) g.event) (turns (GaveUp name why) gs) =
      vain_head k (turn (Ok (next.GaveUp name why)) g.event) (turns (GaveUp name why) gs) s.low v refl in
      let at : (Ok (next.GaveUp name why)) ≡ (Ok (next.Send k h.size)) = h.hand-is in no_way cc

  tried_later : (k : Name) {last : Result Next Refusal} {ts : List Turn} → TriedAny k last ts
      → (((Repeated k last → ⊥) × VainAny k tries last ts)) ⊎ ((t : Turn) × (rest : List Turn) × (ts ≡ t ∷ rest) × TriedAny k t.hand rest)
  tried_later k (from-here new v) = inl (new, v)
  tried_later k (from-later {t = t} {rest = rest} x) = inr (t, rest, refl, x)

  tried_from : (gs : List Given) (stand : Stand) (k : Name) (last : Result Next Refusal) → Right count tries stand → AgreesAt stand last
      → TriedAny k last (turns stand gs)
      → Up k Tries stand gs
  tried_from [] stand k last r a x = by (tried_later k x)
    where
      by : (((Repeated k last → ⊥) × VainAny k tries last [])) ⊎ ((t : Turn) × (rest : List Turn) × ([] ≡ t ∷ rest) × TriedAny k t.hand rest)
          → Up k Tries stand []
      by (inl y) = begins_here [] stand k last r a y.0 y.1
      by (inr y) = let e : [] ≡ y.0 ∷ y.1 = y.2 in no_way cc
  tried_from (g ∷ gs) stand k last r a x =
      by (tried_later k x)
      (tried_from gs (moves image bank n tries stand g.event) k (Ok (next_of image bank n stand)) (stays-right image bank n tries s stand g.event r)
      (agrees_on stand g.event r))
    where
      ts : List Turn
      ts = turns (moves image bank n tries stand g.event) gs

      by : (((Repeated k last → ⊥) × VainAny k tries last (turn (Ok (next_of image bank n stand)) g.event ∷ ts)))
          ⊎ ((t : Turn) × (rest : List Turn) × (turn (Ok (next_of image bank n stand)) g.event ∷ ts ≡ t ∷ rest) × TriedAny k t.hand rest)
          → (TriedAny k (Ok (next_of image bank n stand)) ts → Up k Tries stand (g ∷ gs)) → Up k Tries stand (g ∷ gs)
      by (inl y) ih = begins_here (g ∷ gs) stand k last r a y.0 y.1
      by (inr y) ih =
          let e : turn (Ok (next_of image bank n stand)) g.event ∷ ts ≡ y.0 ∷ y.1 = y.2 in
          let same : y.0 ≡ turn (Ok (next_of image bank n stand)) g.event = cc in
          let rests : y.1 ≡ ts = cc in
          ih (subst (TriedAny k (Ok (next_of image bank n stand))) rests (subst (λ (u : Turn). TriedAny k u.hand y.1) same y.3))

  -- ---- stopped: only then

  abbrev Halted : Why → Name → Result Next Refusal → List Turn → Type 0
  Halted = Stopped image bank n

  abbrev HaltedFrom : List Given → Type 0
  HaltedFrom gs =
      (why : Why) (k name : Name) (gone : ℕ) (last : Result Next Refusal) → (why ≡ Tries → ⊥) → Right count tries (At name gone) → Agrees name gone last
      → Up k why (At name gone) gs → Halted why k last (turns (At name gone) gs)

  halted_on : (gs : List Given) → HaltedFrom gs → (why : Why) (k name : Name) (gone : ℕ) (event : Event) (last : Result Next Refusal) (stand : Stand)
      → (why ≡ Tries → ⊥)
      → Right count tries (At name gone) → Agrees name gone last → Up k why stand gs → Step name gone event stand
      → Halted why k last (turn (hand name) event ∷ turns stand gs)
  halted_on gs ih why k name gone event last _ no-tries r a e (onto-other {k = j} t other q) =
      stopped-later (ih why k j 1 (hand name) no-tries q (first_time name j other) e)
  halted_on gs ih why k name gone event last _ no-tries r a e (finishes t) = absurd (finished_not k why gs e)
  halted_on gs ih why k name gone event last _ no-tries r a e (once_more t h) =
      stopped-later (ih why k name (gone + 1) (hand name) no-tries (omega arith, omega arith, r.2) (next_time name gone r.0) e)
  halted_on gs ih why k name gone event last _ no-tries r a e (tired t h) =
      let q = same_end name k Tries why gs e in
      let same : why ≡ Tries = cc in
      absurd (no-tries same)
  halted_on gs ih why k name gone event last _ no-tries r a e (stops {why = w} t) =
      let q = same_end name k w why gs e in
      let same : w ≡ why = cc in
      let names : name ≡ k = cc in
      let x : Halted w name last (turn (hand name) event ∷ turns (GaveUp name w) gs) = stopped-here (stops-of image bank n name gone (Repeated name last) a.twice a.only w event t) in
      subst (λ (y : Name). Halted why y last (turn (hand name) event ∷ turns (GaveUp name w) gs)) names
      (subst (λ (y : Why). Halted y name last (turn (hand name) event ∷ turns (GaveUp name w) gs)) same x)

  halted_from : (gs : List Given) → HaltedFrom gs
  halted_from [] why k name gone last no-tries r a e = no_way cc
  halted_from (g ∷ gs) why k name gone last no-tries r a e =
      halted_on gs (halted_from gs) why k name gone g.event last (moves image bank n tries (At name gone) g.event) no-tries r a e
      (step_at name gone g.event r)

  -- ---- and always then

  record Halt (why : Why) (k : Name) (last : Result Next Refusal) (t : Turn) : Type 0 where
    size : ℕ
    hand-is : t.hand ≡ Ok (next.Send k size)
    halts : Brings t.event (Stops image bank n why k (Repeated k last))

  halt_or_later : (why : Why) (k : Name) {last : Result Next Refusal} {ts : List Turn} (t : Turn) (rest : List Turn) → Halted why k last ts → ts ≡ t ∷ rest
      → Halt why k last t ⊎ Halted why k t.hand rest
  halt_or_later why k t rest (stopped-here {last = last} {size = size} {event = event} x) e =
      let same : turn (Ok (next.Send k size)) event ≡ t = cc in
      inl
      (record {
        size = size;
        hand-is = sym (ap (λ (u : Turn). u.hand) same);
        halts = subst (λ (u : Turn). Brings u.event (Stops image bank n why k (Repeated k last))) same x;
      })
  halt_or_later why k t rest (stopped-later {t = u} {rest = us} x) e =
      let same : u ≡ t = cc in
      let rests : us ≡ rest = cc in
      inr (subst (Halted why k t.hand) rests (subst (λ (v : Turn). Halted why k v.hand us) same x))

  never_halted : (why : Why) (k : Name) {last : Result Next Refusal} {ts : List Turn} → Halted why k last ts → ts ≡ [] → ⊥
  never_halted why k (stopped-here x) e = no_way cc
  never_halted why k (stopped-later x) e = no_way cc

  halts_step : (name : Name) (gone : ℕ) (event : Event) (why : Why) (gs : List Given) {stand : Stand} → StoppedAt image bank n why name gone event
      → Step name gone event stand → Up name why stand gs
  halts_step name gone event why gs e (onto-other t other q) =
      absurd (stopped_unsettled name (leb 2 gone) bank image (packet_sector image n (number_of name)) (heard_in event) why e t)
  halts_step name gone event why gs e (finishes t) =
      absurd (stopped_unsettled name (leb 2 gone) bank image (packet_sector image n (number_of name)) (heard_in event) why e t)
  halts_step name gone event why gs e (once_more t h) =
      absurd (spent_unstopped name (leb 2 gone) bank image (packet_sector image n (number_of name)) (heard_in event) why t e)
  halts_step name gone event why gs e (tired t h) =
      absurd (spent_unstopped name (leb 2 gone) bank image (packet_sector image n (number_of name)) (heard_in event) why t e)
  halts_step name gone event why gs e (stops {why = w} t) =
      stays_given_up image bank n tries s name w gs
      ∙ ap (GaveUp name) (stopped_once name (leb 2 gone) bank image (packet_sector image n (number_of name)) (heard_in event) w why t e)

  halt_ends : (stand : Stand) (event : Event) (why : Why) (k : Name) (last : Result Next Refusal) (gs : List Given) → Right count tries stand → AgreesAt stand last
      → Halt why k last (turn (Ok (next_of image bank n stand)) event) → Up k why (moves image bank n tries stand event) gs
  halt_ends NotBegun event why k last gs r a h = absurd r
  halt_ends (At name gone) event why k last gs r a h =
      let at : hand name ≡ (Ok (next.Send k h.size)) = h.hand-is in
      let same : k ≡ name = cc in
      subst (λ (x : Name). Up x why (moves image bank n tries (At name gone) event) gs) (sym same)
      (halts_step name gone event why gs
      (of-stops image bank n name gone (Repeated name last) a.twice a.only why event (subst (λ (x : Name). Brings event (Stops image bank n why x (Repeated x last))) same h.halts))
      (step_at name gone event r))
  halt_ends Finished event why k last gs r a h = let at : (Ok next.Finished) ≡ (Ok (next.Send k h.size)) = h.hand-is in no_way cc
  halt_ends (GaveUp name w) event why k last gs r a h = let at : (Ok (next.GaveUp name w)) ≡ (Ok (next.Send k h.size)) = h.hand-is in no_way cc

  halted_ends : (gs : List Given) (stand : Stand) (why : Why) (k : Name) (last : Result Next Refusal) → Right count tries stand → AgreesAt stand last
      → Halted why k last (turns stand gs) → Up k why stand gs
  halted_ends [] stand why k last r a x = absurd (never_halted why k x refl)
  halted_ends (g ∷ gs) stand why k last r a x =
      by (halt_or_later why k (turn (Ok (next_of image bank n stand)) g.event) (turns (moves image bank n tries stand g.event) gs) x refl)
      (halted_ends gs (moves image bank n tries stand g.event) why k (Ok (next_of image bank n stand))
      (stays-right image bank n tries s stand g.event r) (agrees_on stand g.event r))
    where
      by : Halt why k last (turn (Ok (next_of image bank n stand)) g.event)
          ⊎ Halted why k (Ok (next_of image bank n stand)) (turns (moves image bank n tries stand g.event) gs)
          → (Halted why k (Ok (next_of image bank n stand)) (turns (moves image bank n tries stand g.event) gs) → Up k why stand (g ∷ gs))
          → Up k why stand (g ∷ gs)
      by (inl h) ih = halt_ends stand g.event why k last gs r a h
      by (inr y) ih = ih y

  -- ---- an end stays

  finished_stays : (gs : List Given) → Stays (Ok next.Finished) gs (toldsAt image bank n tries Finished gs)
  finished_stays [] = stays_none
  finished_stays (g ∷ gs) = stays_more refl refl (finished_stays gs)

  gave_up_stays : (name : Name) (why : Why) (gs : List Given) → Stays (Ok (next.GaveUp name why)) gs (toldsAt image bank n tries (GaveUp name why) gs)
  gave_up_stays name why [] = stays_none
  gave_up_stays name why (g ∷ gs) = stays_more refl refl (gave_up_stays name why gs)

  end_stays : (stand : Stand) (gs : List Given) → is_over (Ok (next_of image bank n stand)) ≡ true
      → Stays (Ok (next_of image bank n stand)) gs (toldsAt image bank n tries stand gs)
  end_stays NotBegun gs e = absurd (false≢true e)
  end_stays (At name gone) gs e = absurd (false≢true e)
  end_stays Finished gs e = finished_stays gs
  end_stays (GaveUp name why) gs e = gave_up_stays name why gs

  right_last : (stand : Stand) (gs : List Given) → Right count tries stand → Right count tries (final stand gs)
  right_last stand [] r = r
  right_last stand (g ∷ gs) r = right_last (moves image bank n tries stand g.event) gs (stays-right image bank n tries s stand g.event r)

  gave_up_told : (stand : Stand) (name : Name) (why : Why) → ◌≡◌ {A = Result Next Refusal} (Ok (next_of image bank n stand)) (Ok (next.GaveUp name why))
      → stand ≡ GaveUp name why
  gave_up_told NotBegun name why e = no_way cc
  gave_up_told (At k gone) name why e = no_way cc
  gave_up_told Finished name why e = no_way cc
  gave_up_told (GaveUp k w) name why e = cc

  -- ---- a run from a start

  module _ (before : List ℕ) (gs : List Given) (h : room ≤ length before) (hs : Roomy gs) where
    abbrev Run : List Turn
    Run = runTurns night_sender image bank n tries before gs

    up_of : (name : Name) (why : Why) → ends_with night_sender image bank n tries before gs ≡ Ok (next.GaveUp name why) → Up name why (At ModeStart 1) gs
    up_of name why e = gave_up_told (final (At ModeStart 1) gs) name why (sym (run_ends image bank n tries s before gs h hs) ∙ e)

    of-up : (name : Name) (why : Why) → Up name why (At ModeStart 1) gs → ends_with night_sender image bank n tries before gs ≡ Ok (next.GaveUp name why)
    of-up name why e = run_ends image bank n tries s before gs h hs ∙ ap (λ (x : Stand). Ok (next_of image bank n x)) e

    pub run-tries : (name : Name) → ends_with night_sender image bank n tries before gs ≡ Ok (next.GaveUp name Tries) → Tried name (Ok next.NotBegun) Run
    run-tries name e =
        subst (Tried name (Ok next.NotBegun)) (sym (run-turns image bank n tries s before gs h hs))
        (new_hand name ModeStart (Ok next.NotBegun) agrees_first
        (vain_from gs name ModeStart 1 (Ok next.NotBegun) (begins-right image bank n tries s) agrees_first (up_of name Tries e)))

    pub tries-run : (name : Name) → TriedAny name (Ok next.NotBegun) Run → ends_with night_sender image bank n tries before gs ≡ Ok (next.GaveUp name Tries)
    tries-run name x =
        of-up name Tries
        (tried_from gs (At ModeStart 1) name (Ok next.NotBegun) (begins-right image bank n tries s) agrees_first
        (subst (TriedAny name (Ok next.NotBegun)) (run-turns image bank n tries s before gs h hs) x))

    pub run-halts : (why : Why) (name : Name) → (why ≡ Tries → ⊥) → ends_with night_sender image bank n tries before gs ≡ Ok (next.GaveUp name why)
        → Halted why name (Ok next.NotBegun) Run
    run-halts why name no-tries e =
        subst (Halted why name (Ok next.NotBegun)) (sym (run-turns image bank n tries s before gs h hs))
        (halted_from gs why name ModeStart 1 (Ok next.NotBegun) no-tries (begins-right image bank n tries s) agrees_first (up_of name why e))

    pub halts-run : (why : Why) (name : Name) → Halted why name (Ok next.NotBegun) Run
        → ends_with night_sender image bank n tries before gs ≡ Ok (next.GaveUp name why)
    halts-run why name x =
        of-up name why
        (halted_ends gs (At ModeStart 1) why name (Ok next.NotBegun) (begins-right image bank n tries s) agrees_first
        (subst (Halted why name (Ok next.NotBegun)) (run-turns image bank n tries s before gs h hs) x))

    pub run_stays : is_over (ends_with night_sender image bank n tries before gs) ≡ true → (more : List Given) → Roomy more
        → Stays (ends_with night_sender image bank n tries before gs) more
        (tolds night_sender image
        (last_told (first night_sender image bank n tries before gs) (later night_sender image bank n tries before gs)).record_then more)
    run_stays e more rs =
        let stand : Stand = final (At ModeStart 1) gs in
        let same = run_ends image bank n tries s before gs h hs in
        let right : Right count tries stand = right_last (At ModeStart 1) gs (begins-right image bank n tries s) in
        let over : is_over (Ok (next_of image bank n stand)) ≡ true = sym (ap is_over same) ∙ e in
        subst (λ (end : Result Next Refusal). Stays end more (tolds night_sender image
        (last_told (first night_sender image bank n tries before gs) (later night_sender image bank n tries before gs)).record_then more)) (sym same)
        (subst (Stays (Ok (next_of image bank n stand)) more)
        (sym
        (ap (λ (x : Night). tolds night_sender image x more) (run-stands image bank n tries s before gs h hs)
        ∙ tolds-are image bank n tries s stand more right rs))
        (end_stays stand more over))

pub giving_up_met : MeetsGivingUp night_sender
giving_up_met =
    record {
      why-tries = λ image bank n tries before gs name s h hs e. run-tries image bank n tries s before gs h hs name e;
      tries-end = λ image bank n tries before gs name s h hs x. tries-run image bank n tries s before gs h hs name x;
      why-bank = λ image bank n tries before gs name s h hs e. run-halts image bank n tries s before gs h hs WrongBank name (λ q. no_way cc) e;
      bank-stops = λ image bank n tries before gs name s h hs x. halts-run image bank n tries s before gs h hs WrongBank name x;
      why-unknown = λ image bank n tries before gs name s h hs e. run-halts image bank n tries s before gs h hs Unknown name (λ q. no_way cc) e;
      unknown-stops = λ image bank n tries before gs name s h hs x. halts-run image bank n tries s before gs h hs Unknown name x;
      over-stays = λ image bank n tries before gs s h hs e. run_stays image bank n tries s before gs h hs e;
    }
