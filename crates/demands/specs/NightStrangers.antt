-- The night among strangers (02 §5): the closed loop where others send too, anything and at any time. The night sender's requests come from one
-- address, and all other datagrams from other addresses. If it finishes, or gives up at the mode end, then its write end was answered 06, and
-- from then on until its mode was left, or to the end of the run where it was not, the target was the image and was to start next.
-- No more can be said of the moment of finishing (`TakenOver`). And it is not met by a board on which somebody else undoes the update while the
-- mode is open (`Undone`), as one does that takes whoever sends for the opener.
-- Assumes nothing.
use Rattle.std.specs.Prelude.{◌≡◌, true, List, [], ◌∷◌, ℕ, ◌^◌, ◌≤◌, ◌<◌, length, Ok}
use Rattle.layout.specs.declared.Bank.{Bank}
use Rattle.sender.specs.declared.request.Request.TheVariants.{WriteEnd}
use Rattle.sender.specs.Made.{room}
use Rattle.sender.specs.Request.{request_frame}
use Rattle.calls.specs.Call.{Board}
use Rattle.night.specs.declared.record.Next.TheVariants.{Finished}
use Rattle.demands.specs.Board.{LentCall, Input, Datagram, said, Machine}
use Rattle.demands.specs.Night.{NightSender, Startable}
use Rattle.demands.specs.NightLoop.{
  Passage,
  HostInitiates,
  HostTerminates,
  Arrives,
  Another,
  EachPassage,
  Round,
  RoomyRounds,
  Loop,
  rounds,
  begins,
  is_in,
  Updated,
}
use Rattle.demands.specs.NightShutOut.{Begin}
use Rattle.demands.specs.Strangers.{Leaves}

-- its requests come from this address, and nobody else's do
abbrev pub Apart : List ℕ → Passage → Type 0
Apart address HostInitiates = Unit {0}
Apart address HostTerminates = Unit {0}
Apart address (Arrives a) = a.address ≡ address
Apart address (Another call) = call.address ≡ address → ⊥

-- `first` is the board with which the run began
module _ (machine : Machine) (address image : List ℕ) (bank : Bank) (n : ℕ) (first : Board) where
  abbrev pub InPlace : Board → Type 0
  InPlace b = Updated first b image bank n

  -- the update is in at every moment until its mode is left, and just then
  pub data UntilLeft : Board → List Input → Type 0 where
    to_the_end : {b : Board} → InPlace b → UntilLeft b []
    still : {b : Board} {i : Input} {is : List Input} → InPlace b → UntilLeft (machine b i).board is → UntilLeft b (i ∷ is)
    left : {b : Board} {i : Input} {is : List Input} → InPlace b → Leaves machine address b i → InPlace (machine b i).board
        → UntilLeft b (i ∷ is)

  -- from the answer 06 to its write end on
  pub data SinceEnd : Board → List Input → Type 0 where
    ended : {b : Board} {call : LentCall} {is : List Input} → call.address ≡ address → call.datagram ≡ request_frame WriteEnd
        → said (machine b (Datagram call)) ≡ 0x01 ∷ 0x02 ∷ 0x75 ∷ 0x06 ∷ 0x83 ∷ 0x03 ∷ []
        → UntilLeft (machine b (Datagram call)).board is → SinceEnd b (Datagram call ∷ is)
    later : {b : Board} {i : Input} {is : List Input} → SinceEnd (machine b i).board is → SinceEnd b (i ∷ is)

-- from any board, as without strangers
abbrev pub MeetsNightAmong : {S : Type 0} → NightSender S → Machine → Type 0
MeetsNightAmong m machine =
    (image : List ℕ) (bank : Bank) (n tries : ℕ) (before address : List ℕ) (b : Board) (rs : List Round) → Startable image n tries → room ≤ length before
    → RoomyRounds rs → EachPassage (Apart address) rs → b.client.fixed.revision < 2 ^ 32
    → is_in (rounds m machine image (begins m machine image bank n tries before b) rs).told.next ≡ true
    → SinceEnd machine address image bank n b b (rounds m machine image (begins m machine image bank n tries before b) rs).inputs

-- ---- some nights among strangers

-- all that is asked of a night above, but its end
pub record NightAmong : Type 0 where
  pub begin : Begin
  pub address : List ℕ
  pub board : Board
  pub rs : List Round
  pub roomy_rounds : RoomyRounds rs
  pub apart : EachPassage (Apart address) rs
  pub small : board.client.fixed.revision < 2 ^ 32

-- what comes of it
abbrev pub last_of : {S : Type 0} → NightSender S → Machine → NightAmong → Loop S
last_of m machine k =
    let x : Begin = k.begin in
    rounds m machine x.image (begins m machine x.image x.bank x.n x.tries x.before k.board) k.rs

-- one that finishes, and its bank is not to start next any more
pub record TakenOver {S : Type 0} (m : NightSender S) (machine : Machine) : Type 0 where
  pub night : NightAmong
  pub finished : (last_of m machine night).told.next ≡ Ok Finished
  pub not_next : (last_of m machine night).board.client.next ≡ night.begin.bank → ⊥

-- its mode is left by none of the inputs
pub data NotLeft (machine : Machine) (k : NightAmong) : Board → List Input → Type 0 where
  never_left : {b : Board} → NotLeft machine k b []
  not_left : {b : Board} {i : Input} {is : List Input} → (Leaves machine k.address b i → ⊥)
      → NotLeft machine k (machine b i).board is → NotLeft machine k b (i ∷ is)

-- one that finishes or gives up at the mode end, and its bank is not to start next although its mode was not left
pub record Undone {S : Type 0} (m : NightSender S) (machine : Machine) : Type 0 where
  pub night : NightAmong
  pub it_is_in : is_in (last_of m machine night).told.next ≡ true
  pub in_mode_lem : NotLeft machine night night.board (last_of m machine night).inputs
  pub not_next : (last_of m machine night).board.client.next ≡ night.begin.bank → ⊥
