-- The requests (01, 'The client, step by step', the table of codes).
-- Assumes nothing.
use Rattle.std.specs.Prelude.{◌≡◌, Bool, true, false, not, cond, List, [], ◌++◌, ℕ, leb, length, Result, Err}
use Rattle.buffer.specs.Number.{bytes_of}
use Rattle.commands.specs.Command.{request_code}
use Rattle.commands.specs.declared.Command.{Command}
use Rattle.commands.specs.declared.Command.TheVariants as command
use Rattle.frame.specs.Frame.{control_frame}
use Rattle.layout.specs.Layout.{good_n, start_of, end_of}
use Rattle.layout.specs.Said.{Said}
use Rattle.sender.specs.declared.made.Refusal.{Refusal}
use Rattle.sender.specs.declared.made.Refusal.TheVariants.{BadN}
use Rattle.sender.specs.declared.request.Request.{Request}
use Rattle.sender.specs.declared.request.Request.TheVariants.{ModeStart, BankInfo, VersionInfo, WriteStart, WriteEnd, ModeEnd}
use Rattle.sender.specs.Made.{room, made_said, sender_says, room_for, buffer_after}

-- the row of the table
abbrev pub command_of : Request → Command
command_of ModeStart = command.ModeStart
command_of BankInfo = command.BankInfo
command_of VersionInfo = command.VersionInfo
command_of (WriteStart bank n) = command.WriteStart
command_of WriteEnd = command.WriteEnd
command_of ModeEnd = command.ModeEnd

-- the parameters: "start (4), end (4)", or none
abbrev pub asks_for : Request → List ℕ
asks_for ModeStart = []
asks_for BankInfo = []
asks_for VersionInfo = []
asks_for (WriteStart bank n) = bytes_of 4 (start_of bank) ++ bytes_of 4 (end_of bank n)
asks_for WriteEnd = []
asks_for ModeEnd = []

abbrev pub request_frame : Request → List ℕ
request_frame request = control_frame (request_code (command_of request)) (asks_for request)

-- an N that is "given with the call" is good
abbrev pub given_good : Request → Bool
given_good ModeStart = true
given_good BankInfo = true
given_good VersionInfo = true
given_good (WriteStart bank n) = good_n n
given_good WriteEnd = true
given_good ModeEnd = true

-- 3, 2; the same in the paper's numbers
unfoldable pub request_made : Request → ℕ → Result ℕ Refusal
request_made request size = cond (given_good request) (room_for size (request_frame request)) (Err BadN)

abbrev pub request_says : Request → ℕ → Said
request_says request size = sender_says (not (given_good request)) (not (leb room size)) false (length (request_frame request))

abbrev pub IsCommandOf : Request → Command → Type 0
IsCommandOf request r = r ≡ command_of request

pub record IsRequest (request : Request) (before : List ℕ) (r : Result ℕ Refusal) (after : List ℕ) : Type 0 where
  pub answered : r ≡ request_made request (length before)
  pub says : made_said r ≡ request_says request (length before)
  pub stands : after ≡ buffer_after (request_made request (length before)) before (request_frame request)

-- the same of any control frame
pub record IsControl (code : ℕ) (parameters : List ℕ) (before : List ℕ) (r : Result ℕ Refusal) (after : List ℕ) : Type 0 where
  pub answered : r ≡ room_for (length before) (control_frame code parameters)
  pub stands : after ≡ buffer_after (room_for (length before) (control_frame code parameters)) before (control_frame code parameters)
