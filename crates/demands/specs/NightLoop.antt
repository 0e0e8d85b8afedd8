-- The night sender and a board, with a channel between (02 §4). In a round some inputs come to the board: commands of its host, datagrams of
-- other gateways, and the request at hand, as often as the channel brings it: none is a request that was lost, two is one that was doubled.
-- Each arrival lends what it lends, right or wrong, from whatever address. Then the night sender has its event: silence, or any answer that
-- the board has given to a request of its own in this run, however late. So no request arrives after a later one was sent, and no answer of
-- an earlier night, or to somebody else, is heard. `MeetsLoop` asks that nobody else sends; `NightStrangers` has what holds where others do.
-- Assumes nothing.
use Rattle.std.specs.Prelude.{◌≡◌, Bool, true, false, cond, List, [], ◌∷◌, ◌++◌, ℕ, suc, ◌-◌, ◌^◌, ◌≤◌, ◌<◌, length, get_or, take, Result, Ok, Err}
use Rattle.layout.specs.declared.Bank.{Bank}
use Rattle.layout.specs.Layout.{bank_size, other_of}
use Rattle.layout.specs.Pair.{bank_in}
use Rattle.sender.specs.Made.{room}
use Rattle.sender.specs.Packet.{packet_count}
use Rattle.exchange.specs.declared.state.State.TheVariants as state
use Rattle.client.specs.Perform.{fit_of}
use Rattle.calls.specs.Call.{Board}
use Rattle.night.specs.declared.name.Name.{Name}
use Rattle.night.specs.declared.name.Name.TheVariants.{ModeStart, VersionInfo, BankInfo, WriteStart, Packet, WriteEnd, ModeEnd}
use Rattle.night.specs.declared.record.Next.{Next}
use Rattle.night.specs.declared.record.Next.TheVariants.{NotBegun, Send, Finished, GaveUp}
use Rattle.night.specs.declared.record.Refusal.{Refusal}
use Rattle.night.specs.Call.{Event, Heard, Silence}
use Rattle.demands.specs.Board.{LentCall, Input, Initiate, Terminate, Datagram, Outcome, said, Machine, after, outcomes, sectors_in}
use Rattle.demands.specs.Demand1.{Unchanged}
use Rattle.demands.specs.Demand2.{SentFrom}
use Rattle.demands.specs.Night.{Told, NightSender, Startable, names_of}

-- ---- a round

-- what is lent with a request that arrives
pub record Arrival : Type 0 where
  pub address : List ℕ
  pub marks : List ℕ
  pub buffer : List ℕ
  pub lent : Bank → ℕ

pub data Passage : Type 0 where
  HostInitiates : Passage
  HostTerminates : Passage
  Arrives : Arrival → Passage
  -- another gateway's datagram, whatever it is and lends
  Another : LentCall → Passage

abbrev pub call_of : List ℕ → Arrival → LentCall
call_of request a = record { datagram = request; address = a.address; marks = a.marks; buffer = a.buffer; lent = a.lent }

abbrev pub input_of : List ℕ → Passage → Input
input_of request HostInitiates = Initiate
input_of request HostTerminates = Terminate
input_of request (Arrives a) = Datagram (call_of request a)
input_of request (Another call) = Datagram call

abbrev pub inputs_of : List ℕ → List Passage → List Input
inputs_of request [] = []
inputs_of request (p ∷ ps) = input_of request p ∷ inputs_of request ps

-- what the night sender hears then: nothing, or one of the answers so far, by its place among them (where there is none of that place, an empty datagram)
pub data Comes : Type 0 where
  Nothing : Comes
  Answer : ℕ → Comes

pub record Round : Type 0 where
  pub passages : List Passage
  pub comes : Comes
  -- the request buffer that the night sender is lent
  pub buffer : List ℕ

-- each passage of each round is such
pub data EachIn (Q : Passage → Type 0) : List Passage → Type 0 where
  no_passage : EachIn Q []
  passage_more : {p : Passage} {ps : List Passage} → Q p → EachIn Q ps → EachIn Q (p ∷ ps)

pub data EachPassage (Q : Passage → Type 0) : List Round → Type 0 where
  no_rounds : EachPassage Q []
  each_more : {r : Round} {rs : List Round} → EachIn Q r.passages → EachPassage Q rs → EachPassage Q (r ∷ rs)

-- nobody else sends
abbrev pub NoOther : Passage → Type 0
NoOther HostInitiates = Unit {0}
NoOther HostTerminates = Unit {0}
NoOther (Arrives a) = Unit {0}
NoOther (Another call) = ⊥

abbrev pub NobodyElse : List Round → Type 0
NobodyElse rs = EachPassage NoOther rs

pub data RoomyRounds : List Round → Type 0 where
  no_round : RoomyRounds []
  round_more : {r : Round} {rs : List Round} → room ≤ length r.buffer → RoomyRounds rs → RoomyRounds (r ∷ rs)

-- ---- the loop

-- what the night sender was told last, the request that went out last, the board, all that was put to it, and all that it has said to the night sender
pub record Loop (S : Type 0) : Type 0 where
  pub told : Told S
  pub request : List ℕ
  pub board : Board
  pub inputs : List Input
  pub answers : List (List ℕ)

abbrev pub request_after : Result Next Refusal → List ℕ → List ℕ → List ℕ
request_after (Err why) buffer former = former
request_after (Ok NotBegun) buffer former = former
request_after (Ok (Send name size)) buffer former = take size buffer
request_after (Ok Finished) buffer former = former
request_after (Ok (GaveUp name why)) buffer former = former

-- what of it the night sender may hear: the answer to its own request, and to nobody else's
abbrev pub said_on : Passage → Outcome → List (List ℕ)
said_on HostInitiates o = []
said_on HostTerminates o = []
said_on (Arrives a) o = said o ∷ []
said_on (Another call) o = []

abbrev pub said_in : List Passage → List Outcome → List (List ℕ)
said_in [] os = []
said_in (p ∷ ps) [] = []
said_in (p ∷ ps) (o ∷ os) = said_on p o ++ said_in ps os

abbrev pub event_by : List (List ℕ) → Comes → Event
event_by answers Nothing = Silence
event_by answers (Answer i) = Heard (get_or answers i [])

module _ {S : Type 0} (m : NightSender S) (machine : Machine) (image : List ℕ) where
  abbrev pub round : Loop S → Round → Loop S
  round l r =
      let inputs : List Input = inputs_of l.request r.passages in
      let answers : List (List ℕ) = l.answers ++ said_in r.passages (outcomes machine l.board inputs) in
      let o : Told S = m.event l.told.record_then (event_by answers r.comes) image r.buffer in
      record {
        told = o;
        request = request_after o.next o.buffer l.request;
        board = after machine l.board inputs;
        inputs = l.inputs ++ inputs;
        answers = answers;
      }

  abbrev pub rounds : Loop S → List Round → Loop S
  rounds l [] = l
  rounds l (r ∷ rs) = rounds (round l r) rs

  -- bank, N, T, the first request buffer, the board
  abbrev pub begins : Bank → ℕ → ℕ → List ℕ → Board → Loop S
  begins bank n tries before b =
      let o : Told S = m.start image bank n tries before in
      record { told = o; request = request_after o.next o.buffer []; board = b; inputs = []; answers = [] }

-- ---- 3. the closed loop

-- it has finished, or given up at the mode end
abbrev pub is_in : Result Next Refusal → Bool
is_in (Err why) = false
is_in (Ok NotBegun) = false
is_in (Ok (Send name size)) = false
is_in (Ok Finished) = true
is_in (Ok (GaveUp ModeStart why)) = false
is_in (Ok (GaveUp VersionInfo why)) = false
is_in (Ok (GaveUp BankInfo why)) = false
is_in (Ok (GaveUp WriteStart why)) = false
is_in (Ok (GaveUp (Packet p) why)) = false
is_in (Ok (GaveUp WriteEnd why)) = false
is_in (Ok (GaveUp ModeEnd why)) = true

-- then the update is in
pub record Updated (before now : Board) (image : List ℕ) (bank : Bank) (n : ℕ) : Type 0 where
  pub sectors : now.client.fixed.n ≡ n
  pub target : other_of now.client.fixed.running ≡ bank
  pub is_image : sectors_in n now ≡ image
  pub starts_next : now.client.next ≡ bank
  pub kept : Unchanged before now

-- from any board: nothing is asked of its N, its state or its banks; its revision has 32 bits, as its type says
abbrev pub MeetsLoop : {S : Type 0} → NightSender S → Machine → Type 0
MeetsLoop m machine =
    (image : List ℕ) (bank : Bank) (n tries : ℕ) (before : List ℕ) (b : Board) (rs : List Round) → Startable image n tries → room ≤ length before → RoomyRounds rs
    → NobodyElse rs → b.client.fixed.revision < 2 ^ 32
    → is_in (rounds m machine image (begins m machine image bank n tries before b) rs).told.next ≡ true
    → Updated b (rounds m machine image (begins m machine image bank n tries before b) rs).board image bank n

-- ---- 4. it gets there

-- a try: the request is lost, its answer is lost, or it goes through both ways, and then the answer to it is what is heard
pub data Try : Type 0 where
  RequestLost : Try
  AnswerLost : Arrival → Try
  Through : Arrival → Try

-- `given` answers were given before this one
abbrev pub round_of : ℕ → List ℕ → Try → Round
round_of given buffer RequestLost = record { passages = []; comes = Nothing; buffer = buffer }
round_of given buffer (AnswerLost a) = record { passages = Arrives a ∷ []; comes = Nothing; buffer = buffer }
round_of given buffer (Through a) = record { passages = Arrives a ∷ []; comes = Answer given; buffer = buffer }

abbrev pub arrived : Try → ℕ → ℕ
arrived RequestLost given = given
arrived (AnswerLost a) given = suc given
arrived (Through a) given = suc given

-- what an arrival lends is right, and all come from one address
abbrev pub Right : List ℕ → ℕ → Arrival → Type 0
Right address n a = SentFrom address n (call_of [] a)

-- a try that fails; the write end's answer is not lost when it first arrives
abbrev pub may_lose : Name → Bool
may_lose ModeStart = true
may_lose VersionInfo = true
may_lose BankInfo = true
may_lose WriteStart = true
may_lose (Packet p) = true
may_lose WriteEnd = false
may_lose ModeEnd = true

pub data Fails (address : List ℕ) (n : ℕ) (name : Name) : Try → Type 0 where
  request_lost : Fails address n name RequestLost
  answer_lost : {a : Arrival} → may_lose name ≡ true → Right address n a → Fails address n name (AnswerLost a)

-- rounds in which each request of the list goes through in the end: `left` tries of the first may still fail, `given` answers were given so far
pub data Goes (address : List ℕ) (n tries : ℕ) : List Name → ℕ → ℕ → List Round → Type 0 where
  home : {left given : ℕ} → Goes address n tries [] left given []
  fails : {name : Name} {names : List Name} {left given : ℕ} {rs : List Round} (t : Try) (buffer : List ℕ) → Fails address n name t → room ≤ length buffer
      → Goes address n tries (name ∷ names) left (arrived t given) rs → Goes address n tries (name ∷ names) (suc left) given (round_of given buffer t ∷ rs)
  through : {name : Name} {names : List Name} {left given : ℕ} {rs : List Round} (a : Arrival) (buffer : List ℕ) → Right address n a → room ≤ length buffer
      → Goes address n tries names (tries - 1) (suc given) rs → Goes address n tries (name ∷ names) left given (round_of given buffer (Through a) ∷ rs)

-- a board that waits: idle, with the sender's N, the image's bank for its target, and banks of that length
pub record Waits (b : Board) (bank : Bank) (n : ℕ) : Type 0 where
  pub idle : b.client.state ≡ state.Idle
  pub sectors : b.client.fixed.n ≡ n
  pub target : other_of b.client.fixed.running ≡ bank
  pub whole : (x : Bank) → length (bank_in x b.pair) ≡ bank_size n

abbrev pub MeetsArrival : {S : Type 0} → NightSender S → Machine → Type 0
MeetsArrival m machine =
    (image : List ℕ) (bank : Bank) (n tries : ℕ) (before address : List ℕ) (b : Board) (rs : List Round) → Startable image n tries → room ≤ length before
    → Waits b bank n → fit_of b.client.fixed image ≡ true → b.client.fixed.revision < 2 ^ 32
    → Goes address n tries (names_of (packet_count image n)) (tries - 1) 0 rs
    → (rounds m machine image (begins m machine image bank n tries before b) rs).told.next ≡ Ok Finished

-- ---- neither asks for what cannot be

-- rounds in which each request but the write end goes out twice, and the answer to the first is lost
abbrev pub losing : Arrival → List ℕ → List Name → ℕ → List Round
losing a buffer [] given = []
losing a buffer (name ∷ names) given =
    cond (may_lose name)
    (round_of given buffer (AnswerLost a) ∷ round_of (suc given) buffer (Through a) ∷ losing a buffer names (suc (suc given)))
    (round_of given buffer (Through a) ∷ losing a buffer names (suc given))

-- such a night with T = 2: all that `MeetsArrival` and `MeetsLoop` ask for, and what they say then
pub record LosingNight {S : Type 0} (m : NightSender S) (machine : Machine) : Type 0 where
  pub image : List ℕ
  pub bank : Bank
  pub n : ℕ
  pub before : List ℕ
  pub address : List ℕ
  pub board : Board
  pub arrival : Arrival
  pub rs : List Round
  pub losing_rounds : rs ≡ losing arrival before (names_of (packet_count image n)) 0
  pub startable : Startable image n 2
  pub roomy : room ≤ length before
  pub roomy_rounds : RoomyRounds rs
  pub alone : NobodyElse rs
  pub waits : Waits board bank n
  pub fit : fit_of board.client.fixed image ≡ true
  pub small : board.client.fixed.revision < 2 ^ 32
  pub goes : Goes address n 2 (names_of (packet_count image n)) (2 - 1) 0 rs
  pub finished : (rounds m machine image (begins m machine image bank n 2 before board) rs).told.next ≡ Ok Finished
  pub updated : Updated board (rounds m machine image (begins m machine image bank n 2 before board) rs).board image bank n
