-- What a response says, in the paper's numbers, and the contract of its reader.
-- Assumes nothing.
use Rattle.std.specs.Prelude.{◌≡◌, cond, List, ℕ, Option, Some, None}
use Rattle.buffer.specs.Number.{byte_at}
use Rattle.frame.specs.Read.{read_of, parameters_in, data_in}
use Rattle.frame.specs.declared.read.Frame.{Frame}
use Rattle.frame.specs.declared.read.Frame.TheVariants.{Control, Write}
use Rattle.layout.specs.Said.{Said, number, result, code}
use Rattle.response.specs.declared.read.Response.{Response}
use Rattle.response.specs.declared.read.Response.TheVariants.{Plain, Error, Target, Firmware, Written}
use Rattle.response.specs.Response.{response_of}
use Rattle.response.specs.Six.{six_of}

-- number 6, or the response's result; what 06 adds and what a write response adds stand beside it
abbrev pub response_said : Option Response → Said
response_said None = number 6
response_said (Some (Plain command r)) = result r
response_said (Some (Error r)) = result r
response_said (Some (Target bank)) = result 0x06
response_said (Some (Firmware id major minor revision)) = result 0x06
response_said (Some (Written sector response write crc)) = result response

abbrev pub IsResponseNumber : Option Response → ℕ → Type 0
IsResponseNumber response r = r ≡ code (response_said response)

-- the result stands first
abbrev pub result_in : List ℕ → Option Frame → ℕ
result_in d None = 0
result_in d (Some (Control code n)) = byte_at (parameters_in d) 0
result_in d (Some (Write sector m footer)) = byte_at (data_in d) 0

-- 6 where one of its causes holds, and else the result
abbrev pub response_says : List ℕ → Said
response_says d = cond (six_of d) (number 6) (result (result_in d (read_of d)))

pub record IsResponse (d : List ℕ) (r : Option Response) : Type 0 where
  pub answered : r ≡ response_of d
  pub says : response_said r ≡ response_says d
