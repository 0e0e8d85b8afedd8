-- What is asked of a reader of responses, whatever it is (01, 'What comes back when it is no', "Number 6"). Number 6 exactly where the paper says
-- so. Otherwise nothing is lost: what was read, written out again, is the datagram.
-- Assumes nothing.
use Rattle.std.specs.Prelude.{◌≡◌, true, false, List, [], ◌∷◌, ◌++◌, ℕ, ◌<◌, Option, Some, None}
use Rattle.buffer.specs.Number.{bytes_of, byte_at}
use Rattle.frame.specs.Frame.{control_frame, write_frame}
use Rattle.frame.specs.declared.read.Footer.TheVariants.{End}
use Rattle.layout.specs.Layout.{bank_number}
use Rattle.layout.specs.Said.{number, paper_number}
use Rattle.commands.specs.declared.Command.{Command}
use Rattle.commands.specs.declared.Command.TheVariants.{ModeStart, BankInfo, VersionInfo, WriteStart, WriteEnd, ModeEnd}
use Rattle.response.specs.declared.read.Response.{Response}
use Rattle.response.specs.declared.read.Response.TheVariants.{Plain, Error, Target, Firmware, Written}
use Rattle.response.specs.Six.{six_of}
use Rattle.response.specs.Said.{response_said}
use Rattle.exchange.specs.Answer.{written_bytes}

-- the code of each response, told once more
abbrev pub answer_code : Command → ℕ
answer_code ModeStart = 0x71
answer_code BankInfo = 0x72
answer_code VersionInfo = 0x78
answer_code WriteStart = 0x70
answer_code WriteEnd = 0x75
answer_code ModeEnd = 0x74

-- a response written out again
abbrev pub spelled : Option Response → List ℕ
spelled None = []
spelled (Some (Plain command r)) = control_frame (answer_code command) (r ∷ [])
spelled (Some (Error r)) = control_frame 0xE0 (r ∷ [])
spelled (Some (Target bank)) = control_frame 0x72 (0x06 ∷ bank_number bank ∷ [])
spelled (Some (Firmware id major minor revision)) = control_frame 0x78 (0x06 ∷ bytes_of 2 id ++ major ∷ minor ∷ bytes_of 4 revision)
spelled (Some (Written sector response write crc)) = write_frame sector (written_bytes response write crc) End

-- it was read, and nothing of it was lost
pub record ReadBack (datagram : List ℕ) (r : Option Response) : Type 0 where
  pub unnumbered : paper_number (response_said r) ≡ 0
  pub whole : spelled r ≡ datagram

abbrev pub ResponseReader : Type 0
ResponseReader = List ℕ → Option Response

-- a datagram's bytes are bytes
pub record MeetsReader (s : ResponseReader) : Type 0 where
  pub six : (datagram : List ℕ) → six_of datagram ≡ true → response_said (s datagram) ≡ number 6
  pub else : (datagram : List ℕ) → ((i : ℕ) → byte_at datagram i < 256) → six_of datagram ≡ false → ReadBack datagram (s datagram)
