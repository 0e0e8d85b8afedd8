-- What is asked of a maker of requests, whatever it is (01, 'The client, step by step', the table of codes; 'What comes back when it is no',
-- "Sender: 3, 2, 5").
-- Assumes nothing.
use Rattle.std.specs.Prelude.{◌≡◌, true, false, List, ℕ, ◌≤◌, ◌<◌, length, take, drop}
use Rattle.layout.specs.declared.Bank.{Bank}
use Rattle.layout.specs.Layout.{good_n}
use Rattle.layout.specs.Said.{value}
use Rattle.sender.specs.declared.request.Request.{Request}
use Rattle.sender.specs.declared.request.Request.TheVariants.{WriteStart}
use Rattle.sender.specs.Made.{room, made_said, buffer_after}
use Rattle.sender.specs.Request.{request_frame, given_good, request_made}
use Rattle.demands.specs.Packets.{MadeOut, out, RefusedBy}

-- request, buffer
abbrev pub Asker : Type 0
Asker = Request → List ℕ → MadeOut

-- a request as it should be: its frame at the front, and the rest stays
pub record RequestRight (request : Request) (before : List ℕ) (o : MadeOut) : Type 0 where
  pub made : made_said o.answer ≡ value (length (request_frame request))
  pub front : take (length (request_frame request)) o.buffer ≡ request_frame request
  pub rest : drop (length (request_frame request)) o.buffer ≡ drop (length (request_frame request)) before

-- 3 where a write start is given a bad N, then 2 where there is no room, and then the request
pub record MeetsRequests (s : Asker) : Type 0 where
  pub bad_n : (bank : Bank) (n : ℕ) (before : List ℕ) → good_n n ≡ false → RefusedBy 3 before (s (WriteStart bank n) before)
  pub bad_length : (request : Request) (before : List ℕ) → given_good request ≡ true → length before < room → RefusedBy 2 before (s request before)
  pub request : (request : Request) (before : List ℕ) → given_good request ≡ true → room ≤ length before → RequestRight request before (s request before)

-- the maker of the contracts
abbrev pub request_maker : Asker
request_maker request before =
    out (request_made request (length before)) (buffer_after (request_made request (length before)) before (request_frame request))
