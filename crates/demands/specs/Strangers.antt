-- One gateway at a time (02 §5). While the mode is open for an address, whatever comes from other addresses changes nothing, and is refused,
-- answered E0 as from anyone, or answered 15. So an image that is delivered arrives among strangers as it does without.
-- Assumes nothing.
use Rattle.std.specs.Prelude.{◌≡◌, None, Bool, true, false, ◌&&◌, ◌||◌, cond, List, [], ◌∷◌, ◌⊎◌, ℕ, eqb, length, take, Option, Some}
use Rattle.buffer.specs.Compare.{same_of}
use Rattle.buffer.specs.Place.{front_of}
use Rattle.frame.specs.Frame.{frame_error}
use Rattle.frame.specs.Read.{read_of}
use Rattle.frame.specs.declared.read.Frame.{Frame}
use Rattle.frame.specs.declared.read.Frame.TheVariants.{Control}
use Rattle.layout.specs.declared.Bank.{Bank}
use Rattle.layout.specs.Pair.{Banks}
use Rattle.exchange.specs.State.{is_open}
use Rattle.client.specs.Host.{new_of}
use Rattle.client.specs.Record.{nobody}
use Rattle.calls.specs.Call.{Board, board}
use Rattle.demands.specs.Board.{LentCall, Input, Initiate, Terminate, Datagram, Outcome, said, Machine, after, outcomes, step_machine}
use Rattle.demands.specs.Demand1.{is_fault, is_packet, is_code, no_request, wrong_length, negative_response, parameter_error}
use Rattle.demands.specs.Demand2.{Ready, Fit, Delivery, DeliveredBy}

-- "the address that opened the mode"
pub record OpenFor (address : List ℕ) (b : Board) : Type 0 where
  pub mode : is_open b.client.state ≡ true
  pub opener : b.client.opener ≡ address

-- a datagram from any other address, whatever is lent with it
abbrev pub Strange : List ℕ → LentCall → Type 0
Strange address call = call.address ≡ address → ⊥

-- ---- a stranger changes nothing

-- refused by number 2 or 3; else "E0 answers decided before it go to anyone", for no frame, no request and a wrong parameter length; else 15
pub data ToldOff (r : Option Frame) (number : ℕ) (answer : List ℕ) : Type 0 where
  refused : (number ≡ 2) ⊎ (number ≡ 3) → answer ≡ [] → ToldOff r number answer
  no_frame : number ≡ 0 → is_fault r ≡ true → answer ≡ frame_error → ToldOff r number answer
  no_request_is : number ≡ 0 → is_fault r ≡ false → (no_request r || wrong_length r) ≡ true → answer ≡ parameter_error → ToldOff r number answer
  declined : number ≡ 0 → is_fault r ≡ false → (no_request r || wrong_length r) ≡ false → answer ≡ negative_response r → ToldOff r number answer

-- the answer at the buffer's front is all that comes of it
pub record Unheeded (b : Board) (call : LentCall) (o : Outcome) : Type 0 where
  pub board : o.board ≡ b
  pub notice : o.notice ≡ None
  pub buffer : o.buffer ≡ front_of call.buffer (said o)
  pub told : ToldOff (read_of call.datagram) o.number (said o)

pub data AllStrange (address : List ℕ) : List Input → Type 0 where
  nobody_sends : AllStrange address []
  somebody_sends : {call : LentCall} {is : List Input} → Strange address call → AllStrange address is → AllStrange address (Datagram call ∷ is)

pub data AllUnheeded (b : Board) : List Input → List Outcome → Type 0 where
  none_unheeded : AllUnheeded b [] []
  more_unheeded : {call : LentCall} {is : List Input} {o : Outcome} {os : List Outcome} → Unheeded b call o → AllUnheeded b is os
      → AllUnheeded b (Datagram call ∷ is) (o ∷ os)

-- record and banks are as they were, after each of them
pub record MeetsStrangers (m : Machine) : Type 0 where
  pub nothing_changes : (address : List ℕ) (b : Board) (is : List Input) → OpenFor address b → AllStrange address is → after m b is ≡ b
  pub unheeded : (address : List ℕ) (b : Board) (is : List Input) → OpenFor address b → AllStrange address is → AllUnheeded b is (outcomes m b is)

-- ---- demand 2 among strangers

-- inputs, and the same with datagrams of strangers among them, any and anywhere
pub data Among (address : List ℕ) : List Input → List Input → Type 0 where
  over : Among address [] []
  own : {i : Input} {is js : List Input} → Among address is js → Among address (i ∷ is) (i ∷ js)
  stranger : {call : LentCall} {is js : List Input} → Strange address call → Among address is js → Among address is (Datagram call ∷ js)

-- what came of those that are not strangers'
abbrev pub own_outcomes : {address : List ℕ} → Machine → Board → {is js : List Input} → Among address is js → List Outcome
own_outcomes m b over = []
own_outcomes m b (own {i} rest) = m b i ∷ own_outcomes m (m b i).board rest
own_outcomes m b (stranger {call} h rest) = own_outcomes m (m b (Datagram call)).board rest

-- as without them: each packet is taken, the end request is answered 06, and the bank is the image
abbrev pub Meets2Among : Machine → Type 0
Meets2Among m =
    (b : Board) (image : List ℕ) → Ready b → Fit image b.client.fixed → (start : LentCall) (ps : List ℕ) (is js : List Input) (end : LentCall)
    → Delivery b.client.opener b image start ps is end → (a : Among b.client.opener is js)
    → DeliveredBy m b image start ps (own_outcomes m (m b (Datagram start)).board a) js end

-- ---- who is kept, and how long

-- the mode that is open for an address is left: a mode end from there is answered 06, or the host terminates
pub data Leaves (m : Machine) (address : List ℕ) (b : Board) : Input → Type 0 where
  mode_ended_lem : {call : LentCall} → call.address ≡ address → read_of call.datagram ≡ Some (Control 0x64 0)
      → said (m b (Datagram call)) ≡ 0x01 ∷ 0x02 ∷ 0x74 ∷ 0x06 ∷ 0x84 ∷ 0x03 ∷ []
      → Leaves m address b (Datagram call)
  terminated : (m b Terminate).number ≡ 0 → Leaves m address b Terminate

-- nobody while no mode is open
abbrev pub Forgotten : Board → Type 0
Forgotten b = is_open b.client.state ≡ false → b.client.opener ≡ nobody

-- "keeps the address that opened the mode", and until when
pub record MeetsKept (m : Machine) : Type 0 where
  pub opens : (b : Board) (call : LentCall) → said (m b (Datagram call)) ≡ 0x01 ∷ 0x02 ∷ 0x71 ∷ 0x06 ∷ 0x87 ∷ 0x03 ∷ []
      → OpenFor call.address (m b (Datagram call)).board
  pub keeps : (address : List ℕ) (b : Board) (i : Input) → OpenFor address b → OpenFor address (m b i).board ⊎ Leaves m address b i
  pub ends : (address : List ℕ) (b : Board) (i : Input) → OpenFor address b → Leaves m address b i → is_open (m b i).board.client.state ≡ false
  -- and is one value then, for a new client too
  pub made : (n : ℕ) (running : Bank) (major minor revision : ℕ) (pair : Banks) → Forgotten (board (new_of n running major minor revision).client pair)
  pub forgotten : (b : Board) (is : List Input) → Forgotten b → Forgotten (after m b is)

-- ---- shut out

-- one that heeds a stranger: where the mode is open for an address, a datagram from another one changes something
pub record Heeds (m : Machine) : Type 0 where
  pub address : List ℕ
  pub at : Board
  pub call : LentCall
  pub open_for : OpenFor address at
  pub strange : Strange address call
  pub changes : (m at (Datagram call)).board ≡ at → ⊥

-- the client, but for what it takes for the opener's: where the mode is open, the address has 16 bytes and the test holds
abbrev pub from_opener : Board → LentCall → LentCall
from_opener b call =
    record { datagram = call.datagram; address = b.client.opener; marks = call.marks; buffer = call.buffer; lent = call.lent }

abbrev pub taking : (Board → LentCall → Bool) → Machine
taking test b Initiate = step_machine b Initiate
taking test b Terminate = step_machine b Terminate
taking test b (Datagram call) =
    cond (is_open b.client.state && (eqb (length call.address) 16 && test b call)) (step_machine b (Datagram (from_opener b call)))
    (step_machine b (Datagram call))

-- one that takes every datagram for the opener's, one that compares 15 bytes, one that lets anyone end a session, one that stores anyone's packets
abbrev pub takes_all : Machine
takes_all = taking (λ b call. true)

abbrev pub compares_fifteen : Machine
compares_fifteen = taking (λ b call. same_of (take 15 call.address) (take 15 b.client.opener))

abbrev pub ends_for_anyone : Machine
ends_for_anyone = taking (λ b call. is_code 0x45 (read_of call.datagram))

abbrev pub stores_for_anyone : Machine
stores_for_anyone = taking (λ b call. is_packet (read_of call.datagram))
