-- Calls one after another (01, 'The client, step by step'): on the target alone, and with the running bank beside it.
-- Assumes nothing.
use Rattle.std.specs.Prelude.{List, [], ◌∷◌, ℕ}
use Rattle.layout.specs.Pair.{Banks}
use Rattle.client.specs.declared.record.Client.{Client}
use Rattle.client.specs.Step.{Carried, take_of, step_of, banks_after}

-- a datagram, and what is lent with it beside a bank
pub record Call : Type 0 where
  pub datagram : List ℕ
  pub address : List ℕ
  pub marks : List ℕ
  pub buffer : List ℕ

-- ---- on the target alone

-- a client and its target bank
pub record Alone : Type 0 where
  pub client : Client
  pub target : List ℕ

abbrev pub alone : Client → List ℕ → Alone
alone c target = record { client = c; target = target }

abbrev pub taken : Alone → Call → Carried
taken h call = take_of h.client h.target call.marks call.address call.buffer call.datagram

-- client and target after some calls, and what came of each
abbrev pub after_calls : Alone → List Call → Alone
after_calls h [] = h
after_calls h (call ∷ calls) = after_calls (alone (taken h call).client (taken h call).target) calls

abbrev pub came_of_calls : Alone → List Call → List Carried
came_of_calls h [] = []
came_of_calls h (call ∷ calls) = taken h call ∷ came_of_calls (alone (taken h call).client (taken h call).target) calls

-- ---- with the running bank beside it

-- a board: the client and its two banks, by number; the record says which one runs
pub record Board : Type 0 where
  pub client : Client
  pub pair : Banks

abbrev pub board : Client → Banks → Board
board c pair = record { client = c; pair = pair }

abbrev pub stepped : Board → Call → Carried
stepped k call = step_of k.client k.pair call.marks call.address call.buffer call.datagram

abbrev pub board_after : Board → Carried → Board
board_after k r = board r.client (banks_after k.client k.pair r)

abbrev pub after_steps : Board → List Call → Board
after_steps k [] = k
after_steps k (call ∷ calls) = after_steps (board_after k (stepped k call)) calls

abbrev pub came_of_steps : Board → List Call → List Carried
came_of_steps k [] = []
came_of_steps k (call ∷ calls) = stepped k call ∷ came_of_steps (board_after k (stepped k call)) calls
