-- Demand 3. What a board held before cannot be told from its answers, and does not come back: two boards that differ in what their banks
-- hold are put to the same inputs, whatever these are. They answer alike, byte for byte, but that one may say 06 and the other 1D (the sector
-- already was so), with the checksum to match. Their notices and records are the same; which bank runs, and its bytes, stay. When a write
-- session ends with 06 or 1E, both target banks are what the session showed: each sector as last accepted, 0xFF elsewhere.
-- Assumes nothing.
use Rattle.std.specs.Prelude.{◌≡◌, true, List, [], ◌∷◌, ◌++◌, ℕ, length}
use Rattle.frame.specs.Frame.{write_frame}
use Rattle.frame.specs.declared.read.Footer.TheVariants.{End}
use Rattle.layout.specs.declared.Bank.{Bank}
use Rattle.layout.specs.Pair.{bank_in}
use Rattle.exchange.specs.declared.state.State.TheVariants as state
use Rattle.exchange.specs.Answer.{written_bytes}
use Rattle.client.specs.Perform.{Accepted}
use Rattle.calls.specs.Call.{Board}
use Rattle.demands.specs.Board.{Input, Outcome, said, Machine, after, outcomes, sectors_in}
use Rattle.demands.specs.Demand1.{Unchanged}
use Rattle.demands.specs.Session.{ends_session, all_blank, shown}

-- two buffers: the same, or each with a write response at its front that differs from the other in 06 or 1D and in the checksum
pub data AlikeBytes (a b : List ℕ) : Type 0 where
  same : a ≡ b → AlikeBytes a b
  either : (sector crc v w : ℕ) (rest : List ℕ) → Accepted v → Accepted w
      → a ≡ write_frame sector (written_bytes 0x06 v crc) End ++ rest → b ≡ write_frame sector (written_bytes 0x06 w crc) End ++ rest
      → AlikeBytes a b

pub record Alike (o p : Outcome) : Type 0 where
  pub client : o.board.client ≡ p.board.client
  pub number : o.number ≡ p.number
  pub told : o.told ≡ p.told
  pub notice : o.notice ≡ p.notice
  pub buffer : AlikeBytes o.buffer p.buffer

pub data AllAlike : List Outcome → List Outcome → Type 0 where
  none : AllAlike [] []
  more : {o p : Outcome} {os ps : List Outcome} → Alike o p → AllAlike os ps → AllAlike (o ∷ os) (p ∷ ps)

-- the session's image: told by one board's exchanges, and meant for both
abbrev pub image_of : Machine → Board → List Input → List ℕ
image_of m a is = shown a.client.fixed.n (all_blank a.client.fixed.n) is (outcomes m a is)

-- a session that ended after the sweep on either board, and what the two targets are then
pub record Ended (m : Machine) (a b : Board) (is : List Input) (i : Input) : Type 0 where
  pub other : ends_session (said (m (after m b is) i)) ≡ true
  pub first : sectors_in a.client.fixed.n (m (after m a is) i).board ≡ image_of m a is
  pub second : sectors_in a.client.fixed.n (m (after m b is) i).board ≡ image_of m a is

pub record Same (m : Machine) (a b : Board) (is : List Input) : Type 0 where
  pub alike : AllAlike (outcomes m a is) (outcomes m b is)
  pub first_kept : Unchanged a (after m a is)
  pub second_kept : Unchanged b (after m b is)
  pub ended : (i : Input) → ends_session (said (m (after m a is) i)) ≡ true → Ended m a b is i

-- the premises: the same record ("two boards"), banks of the same lengths, no session under way. Nothing is asked of N or of what the banks hold
pub record Pair (a b : Board) : Type 0 where
  pub client : a.client ≡ b.client
  pub lengths : (x : Bank) → length (bank_in x a.pair) ≡ length (bank_in x b.pair)
  pub resting : a.client.state ≡ state.Write → ⊥

abbrev pub Meets3 : Machine → Type 0
Meets3 m = (a b : Board) → Pair a b → (is : List Input) → Same m a b is
