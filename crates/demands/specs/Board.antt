-- A board, what is put to it, and what comes of it (01, 'Banks and sectors', "A client is called with ..", and 'The client, step by step').
-- A machine is any function from board and input to outcome. Each demand is said of a machine, whatever it does; the one that is made here
-- consists of the very definitions that the contracts of the client cite, so what holds of it holds of the code.
-- Assumes nothing.
use Rattle.std.specs.Prelude.{None, List, [], ◌∷◌, ◌++◌, ℕ, take, drop}
use Rattle.layout.specs.declared.Bank.{Bank}
use Rattle.layout.specs.declared.Bank.TheVariants.{Zero, One}
use Rattle.layout.specs.Layout.{bank_size, other_of}
use Rattle.layout.specs.Pair.{Banks, banks, bank_in}
use Rattle.exchange.specs.Answer.{answer_number}
use Rattle.client.specs.declared.host.Hosted.{Hosted}
use Rattle.client.specs.Host.{told_number, initiate_of, terminate_of}
use Rattle.client.specs.Notice.{MaybeNotice}
use Rattle.client.specs.Step.{Carried, step_of, banks_after}
use Rattle.calls.specs.Call.{Board, board}

-- the bank that runs, and the other, "the target"
abbrev pub running_bank : Board → List ℕ
running_bank b = bank_in b.client.fixed.running b.pair

abbrev pub target_bank : Board → List ℕ
target_bank b = bank_in (other_of b.client.fixed.running) b.pair

-- the target's n sectors; a bank that is longer has more behind them
abbrev pub sectors_in : ℕ → Board → List ℕ
sectors_in n b = take (bank_size n) (target_bank b)

-- a datagram and what is lent with it, right or wrong: the sender's address, the worn marks, the answer buffer, and how many bytes of each bank
pub record LentCall : Type 0 where
  pub datagram : List ℕ
  pub address : List ℕ
  pub marks : List ℕ
  pub buffer : List ℕ
  pub lent : Bank → ℕ

-- what is put to a board: a host command or a datagram
pub data Input : Type 0 where
  Initiate : Input
  Terminate : Input
  Datagram : LentCall → Input

-- what comes of it: the board, the paper's number where there is no answer (0 where there is none), how long the answer is, the answer
-- buffer, the notice to the host
pub record Outcome : Type 0 where
  pub board : Board
  pub number : ℕ
  pub told : ℕ
  pub buffer : List ℕ
  pub notice : MaybeNotice

-- the answer's own bytes
abbrev pub said : Outcome → List ℕ
said o = take o.told o.buffer

abbrev pub Machine : Type 0
Machine = Board → Input → Outcome

-- ---- a run: the board after some inputs, and what came of each

abbrev pub after : Machine → Board → List Input → Board
after m b [] = b
after m b (i ∷ is) = after m (m b i).board is

abbrev pub outcomes : Machine → Board → List Input → List Outcome
outcomes m b [] = []
outcomes m b (i ∷ is) = m b i ∷ outcomes m (m b i).board is

-- ---- the machine of the contracts

-- the fronts of two banks that are lent, and the banks of which these fronts came back so
abbrev pub lent_of : (Bank → ℕ) → Banks → Banks
lent_of lent pair = banks (take (lent Zero) pair.bank0) (take (lent One) pair.bank1)

abbrev pub back_in : (Bank → ℕ) → Banks → Banks → Banks
back_in lent pair back = banks (back.bank0 ++ drop (lent Zero) pair.bank0) (back.bank1 ++ drop (lent One) pair.bank1)

abbrev pub host_outcome : Board → Hosted → Outcome
host_outcome b h = record { board = board h.client b.pair; number = told_number h.told; told = 0; buffer = []; notice = None }

-- what is lent of the target
abbrev pub lent_target : Board → LentCall → List ℕ
lent_target b call = bank_in (other_of b.client.fixed.running) (lent_of call.lent b.pair)

abbrev pub call_outcome : Board → LentCall → Carried → Outcome
call_outcome b call r =
    record {
      board = board r.client (back_in call.lent b.pair (banks_after b.client (lent_of call.lent b.pair) r));
      number = answer_number r.answer;
      told = r.told;
      buffer = r.buffer;
      notice = r.notice;
    }

abbrev pub called : Board → LentCall → Carried
called b call = step_of b.client (lent_of call.lent b.pair) call.marks call.address call.buffer call.datagram

abbrev pub step_machine : Machine
step_machine b Initiate = host_outcome b (initiate_of b.client)
step_machine b Terminate = host_outcome b (terminate_of b.client)
step_machine b (Datagram call) = call_outcome b call (called b call)
