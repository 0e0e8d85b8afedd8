-- Number 6 by its causes (01, 'What comes back when it is no', "Number 6"; 02 §3).
-- Assumes nothing.
use Rattle.std.specs.Prelude.{Bool, true, false, not, ◌&&◌, ◌||◌, List, ℕ, ◌+◌, eqb, ltb, length, Option, Some, None}
use Rattle.buffer.specs.Number.{byte_at, number_at}
use Rattle.commands.specs.Command.{response_code, error_code, answered_by}
use Rattle.commands.specs.declared.Command.{Command}
use Rattle.commands.specs.declared.Command.TheVariants.{BankInfo}
use Rattle.frame.specs.Read.{read_of, parameters_in, data_in}
use Rattle.frame.specs.declared.read.Footer.{Footer}
use Rattle.frame.specs.declared.read.Footer.TheVariants.{End, Continued}
use Rattle.frame.specs.declared.read.Frame.{Frame}
use Rattle.frame.specs.declared.read.Frame.TheVariants.{Control, Write}
use Rattle.response.specs.Response.{in_table9, added_of, repeats_of, crc_fits}

-- Each cause is asked of a frame that was read, and of what the datagram hands back.

-- "the frame is faulty"
abbrev pub frame_faulty : Option Frame → Bool
frame_faulty None = true
frame_faulty (Some (Control code n)) = false
frame_faulty (Some (Write sector m footer)) = false

-- "the code isn't a response": neither a command's nor E0
abbrev pub unknown : Option Command → Bool
unknown None = true
unknown (Some command) = false

abbrev pub no_response : Option Frame → Bool
no_response None = false
no_response (Some (Control code n)) = not (eqb code error_code) && unknown (answered_by code)
no_response (Some (Write sector m footer)) = false

-- "a result isn't in Table 9"
abbrev pub result_wrong : List ℕ → Option Frame → Bool
result_wrong d None = false
result_wrong d (Some (Control code n)) = not (in_table9 (byte_at (parameters_in d) 0))
result_wrong d (Some (Write sector m footer)) = not (in_table9 (byte_at (data_in d) 0) && in_table9 (byte_at (data_in d) 1))

-- "05 as either result in any response but E0" (02 §3)
abbrev pub parameter_error_elsewhere : List ℕ → Option Frame → Bool
parameter_error_elsewhere d None = false
parameter_error_elsewhere d (Some (Control code n)) = not (eqb code error_code) && eqb (byte_at (parameters_in d) 0) 0x05
parameter_error_elsewhere d (Some (Write sector m footer)) = eqb (byte_at (data_in d) 0) 0x05 || eqb (byte_at (data_in d) 1) 0x05

-- "wrong for the code and result"
abbrev pub added_by : Option Command → ℕ → ℕ
added_by None result = 0
added_by (Some command) result = added_of command result

abbrev pub length_wrong : List ℕ → Option Frame → Bool
length_wrong d None = false
length_wrong d (Some (Control code n)) = not (eqb (length (parameters_in d)) (added_by (answered_by code) (byte_at (parameters_in d) 0) + 1))
length_wrong d (Some (Write sector m footer)) = false

-- "a bank number exceeds 1"
abbrev pub bank_exceeds : List ℕ → Option Frame → Bool
bank_exceeds d None = false
bank_exceeds d (Some (Control code n)) = eqb code (response_code BankInfo) && (eqb (byte_at (parameters_in d) 0) 0x06 && ltb 1 (byte_at (parameters_in d) 1))
bank_exceeds d (Some (Write sector m footer)) = false

-- "a write response breaks the field rules": M, the footer, the repeated result, the CRC field
abbrev pub is_end : Footer → Bool
is_end End = true
is_end Continued = false

abbrev pub rules_broken : List ℕ → Option Frame → Bool
rules_broken d None = false
rules_broken d (Some (Control code n)) = false
rules_broken d (Some (Write sector m footer)) =
    let response : ℕ = byte_at (data_in d) 0 in
    let write : ℕ = byte_at (data_in d) 1 in
    not (eqb (length (data_in d)) 6) || not (is_end footer) || not (repeats_of response write)
    || not (crc_fits response write (number_at 4 (data_in d) 2))

unfoldable pub six_in : List ℕ → Option Frame → Bool
six_in d read =
    frame_faulty read || no_response read || result_wrong d read || parameter_error_elsewhere d read || length_wrong d read
    || bank_exceeds d read || rules_broken d read

abbrev pub six_of : List ℕ → Bool
six_of d = six_in d (read_of d)
