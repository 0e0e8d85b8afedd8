-- What is asked of a maker of clients, whatever it is, and of the machine and the view that its clients are put to (01, 'The client, step by step',
-- "A new client is closed"; 'What comes back when it is no', number 3).
-- Assumes nothing.
use Rattle.std.specs.Prelude.{◌≡◌, true, false, List, [], ◌∷◌, ℕ}
use Rattle.layout.specs.declared.Bank.{Bank}
use Rattle.layout.specs.Layout.{good_n}
use Rattle.layout.specs.Pair.{Banks}
use Rattle.client.specs.declared.host.Hosted.{Hosted}
use Rattle.client.specs.Host.{told_number, fixed_of}
use Rattle.client.specs.Record.{closed_client}
use Rattle.demands.specs.Banks.{View}
use Rattle.calls.specs.Call.{Board, board}
use Rattle.demands.specs.Board.{Input, Initiate, Terminate, Datagram, Outcome, Machine, outcomes}
use Rattle.demands.specs.Demand1.{refused}

-- N, running bank, major, minor, revision
abbrev pub Making : Type 0
Making = ℕ → Bank → ℕ → ℕ → ℕ → Hosted

abbrev pub lent_buffer : Input → List ℕ
lent_buffer Initiate = []
lent_buffer Terminate = []
lent_buffer (Datagram call) = call.buffer

-- each of some inputs refused by 3, and nothing changed
abbrev pub all_refused : Board → List Input → List Outcome
all_refused b [] = []
all_refused b (i ∷ is) = refused b (lent_buffer i) 3 ∷ all_refused b is

pub record MeetsNew (make : Making) (m : Machine) (view : View) : Type 0 where
  -- closed, with what was given, and the running bank starts next; a bad N is handed back "all the same"
  pub made : (n : ℕ) (running : Bank) (major minor revision : ℕ)
      → (make n running major minor revision).client ≡ closed_client (fixed_of n running major minor revision) running
  -- no number, or 3
  pub good : (n : ℕ) (running : Bank) (major minor revision : ℕ) → good_n n ≡ true → told_number (make n running major minor revision).told ≡ 0
  pub bad : (n : ℕ) (running : Bank) (major minor revision : ℕ) → good_n n ≡ false → told_number (make n running major minor revision).told ≡ 3
  -- with a bad N each later call is refused by 3 too, whatever comes, and no body is shown
  pub later : (n : ℕ) (running : Bank) (major minor revision : ℕ) → good_n n ≡ false → (pair : Banks) (is : List Input)
      → (let b : Board = board (make n running major minor revision).client pair in outcomes m b is ≡ all_refused b is)
  pub bodies : (n : ℕ) (running : Bank) (major minor revision : ℕ) → good_n n ≡ false → (bank0 bank1 : List ℕ) (i : ℕ)
      → view (make n running major minor revision).client bank0 bank1 i ≡ []
