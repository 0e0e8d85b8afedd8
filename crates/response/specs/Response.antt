-- A response read (01, 'What comes back when it is no', "Number 6"; 'Frames', "Write response"; the table of codes; 02 §3).
-- Assumes nothing.
use Rattle.std.specs.Prelude.{Bool, true, false, not, ◌&&◌, ◌||◌, cond, List, ℕ, ◌+◌, eqb, length, Option, Some, None, option_map}
use Rattle.buffer.specs.Number.{byte_at, number_at}
use Rattle.commands.specs.Command.{error_code, added_bytes, answered_by}
use Rattle.commands.specs.declared.Command.{Command}
use Rattle.commands.specs.declared.Command.TheVariants.{ModeStart, BankInfo, VersionInfo, WriteStart, WriteEnd, ModeEnd}
use Rattle.frame.specs.Read.{read_of, parameters_in, data_in}
use Rattle.frame.specs.declared.read.Footer.TheVariants.{End, Continued}
use Rattle.frame.specs.declared.read.Frame.{Frame}
use Rattle.frame.specs.declared.read.Frame.TheVariants.{Control, Write}
use Rattle.layout.specs.declared.Bank.{Bank}
use Rattle.layout.specs.declared.Bank.TheVariants.{Zero, One}
use Rattle.response.specs.declared.read.Response.{Response}
use Rattle.response.specs.declared.read.Response.TheVariants.{Plain, Error, Target, Firmware, Written}

-- the results of "Table 9"
abbrev pub in_table9 : ℕ → Bool
in_table9 result =
    eqb result 0x05 || eqb result 0x06 || eqb result 0x07 || eqb result 0x15 || eqb result 0x1C || eqb result 0x1D
    || eqb result 0x1E

-- those that a response may carry: 05 in none "but E0" (02 §3)
unfoldable pub may_carry : Bool → ℕ → Bool
may_carry error result = in_table9 result && (error || not (eqb result 0x05))

-- the added fields are "absent unless the result is 06"
unfoldable pub added_of : Command → ℕ → ℕ
added_of command result = cond (eqb result 0x06) (added_bytes command) 0

-- a bank number that "exceeds 1" names none
unfoldable pub bank_named : ℕ → Option Bank
bank_named number = cond (eqb number 0) (Some Zero) (cond (eqb number 1) (Some One) None)

abbrev pub target_of : ℕ → Option Response
target_of number = option_map Target (bank_named number)

-- what stands behind the result 06
abbrev pub accepted_of : Command → List ℕ → Option Response
accepted_of ModeStart parameters = Some (Plain ModeStart 0x06)
accepted_of BankInfo parameters = target_of (byte_at parameters 1)
accepted_of VersionInfo parameters =
    Some (Firmware (number_at 2 parameters 1) (byte_at parameters 3) (byte_at parameters 4) (number_at 4 parameters 5))
accepted_of WriteStart parameters = Some (Plain WriteStart 0x06)
accepted_of WriteEnd parameters = Some (Plain WriteEnd 0x06)
accepted_of ModeEnd parameters = Some (Plain ModeEnd 0x06)

-- a command's own response: "code, result, then the added fields"
unfoldable pub own_of : Command → List ℕ → Option Response
own_of command parameters =
    let result : ℕ = byte_at parameters 0 in
    cond (may_carry false result)
    (cond (eqb (length parameters) (added_of command result + 1))
    (cond (eqb result 0x06) (accepted_of command parameters) (Some (Plain command result)))
    None)
    None

-- the error response: a result alone
unfoldable pub error_of : List ℕ → Option Response
error_of parameters =
    cond (may_carry true (byte_at parameters 0)) (cond (eqb (length parameters) 1) (Some (Error (byte_at parameters 0))) None) None

-- a code that is a response
abbrev pub answer_of : Option Command → List ℕ → Option Response
answer_of None parameters = None
answer_of (Some command) parameters = own_of command parameters

unfoldable pub control_of : ℕ → List ℕ → Option Response
control_of code parameters = cond (eqb code error_code) (error_of parameters) (answer_of (answered_by code) parameters)

-- a response result other than 06: "the write result repeats it"
unfoldable pub repeats_of : ℕ → ℕ → Bool
repeats_of response write = eqb response 0x06 || eqb write response

-- unless both results are 06 or 1D, "the CRC field is 0"
unfoldable pub stored_of : ℕ → Bool
stored_of result = eqb result 0x06 || eqb result 0x1D

unfoldable pub crc_fits : ℕ → ℕ → ℕ → Bool
crc_fits response write crc = eqb crc 0 || (stored_of response && stored_of write)

-- a write response: both results, and the CRC-32 behind them
unfoldable pub write_of : ℕ → List ℕ → Option Response
write_of sector bytes =
    let response : ℕ = byte_at bytes 0 in
    let write : ℕ = byte_at bytes 1 in
    let crc : ℕ = number_at 4 bytes 2 in
    cond (eqb (length bytes) 6)
    (cond (may_carry false response && may_carry false write)
    (cond (repeats_of response write && crc_fits response write crc) (Some (Written sector response write crc)) None)
    None)
    None

-- a frame that was read, with what the datagram hands back; a write response has "footer `03`"
unfoldable pub response_in : List ℕ → Option Frame → Option Response
response_in d None = None
response_in d (Some (Control code n)) = control_of code (parameters_in d)
response_in d (Some (Write sector m End)) = write_of sector (data_in d)
response_in d (Some (Write sector m Continued)) = None

abbrev pub response_of : List ℕ → Option Response
response_of d = response_in d (read_of d)
