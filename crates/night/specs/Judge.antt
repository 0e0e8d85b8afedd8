-- What a response comes to, by the request at hand (02 §4, "a response that isn't the awaited one spends a try"). Unless it is awaited, stops the
-- night or counts as done, a try is spent.
-- Assumes nothing.
use Rattle.std.specs.Prelude.{Bool, ◌&&◌, ◌||◌, cond, List, ℕ, eqb, Option, Some, None}
use Rattle.std.specs.Option.{option_eq}
use Rattle.commands.specs.declared.Command.{Command}
use Rattle.commands.specs.declared.Command.TheVariants as command
use Rattle.commands.specs.Command.{response_code}
use Rattle.crc.specs.Crc.{crc_of}
use Rattle.layout.specs.declared.Bank.{Bank}
use Rattle.layout.specs.Layout.{bank_number, sector_of}
use Rattle.response.specs.declared.read.Response.{Response}
use Rattle.response.specs.declared.read.Response.TheVariants.{Plain, Error, Target, Firmware, Written}
use Rattle.night.specs.declared.judge.Verdict.{Verdict}
use Rattle.night.specs.declared.judge.Verdict.TheVariants.{Settled, Spent, Stops}
use Rattle.night.specs.declared.name.Name.{Name}
use Rattle.night.specs.declared.name.Name.TheVariants.{ModeStart, VersionInfo, BankInfo, WriteStart, Packet, WriteEnd, ModeEnd}
use Rattle.night.specs.declared.record.Why.TheVariants.{WrongBank, Unknown}

-- the result in a command's own response; none in any other
abbrev pub own_result : Command → Option Response → Option ℕ
own_result command None = None
own_result command (Some (Plain other result)) = cond (eqb (response_code other) (response_code command)) (Some result) None
own_result command (Some (Error result)) = None
own_result command (Some (Target bank)) = None
own_result command (Some (Firmware id major minor revision)) = None
own_result command (Some (Written sector response write crc)) = None

-- 06 is awaited; "15 to a repeated" request comes to what is given for it
unfoldable pub own_verdict : Command → Bool → Verdict → Option Response → Verdict
own_verdict command repeated declined response =
    cond (option_eq eqb (own_result command response) (Some 0x06)) Settled
    (cond (repeated && option_eq eqb (own_result command response) (Some 0x15)) declined Spent)

-- any ID and version
abbrev pub version_verdict : Option Response → Verdict
version_verdict None = Spent
version_verdict (Some (Plain command result)) = Spent
version_verdict (Some (Error result)) = Spent
version_verdict (Some (Target bank)) = Spent
version_verdict (Some (Firmware id major minor revision)) = Settled
version_verdict (Some (Written sector response write crc)) = Spent

-- "stops at a bank that isn't the image's"
abbrev pub bank_verdict : Bank → Option Response → Verdict
bank_verdict bank None = Spent
bank_verdict bank (Some (Plain command result)) = Spent
bank_verdict bank (Some (Error result)) = Spent
bank_verdict bank (Some (Target target)) = cond (eqb (bank_number target) (bank_number bank)) Settled (Stops WrongBank)
bank_verdict bank (Some (Firmware id major minor revision)) = Spent
bank_verdict bank (Some (Written sector response write crc)) = Spent

-- "its number, 06 or 1D, and the right CRC-32"
unfoldable pub fields_awaited : ℕ → ℕ → ℕ → ℕ → Bool
fields_awaited sector number result write = eqb number sector && eqb result 0x06 && (eqb write 0x06 || eqb write 0x1D)

abbrev pub packet_verdict : List ℕ → ℕ → Option Response → Verdict
packet_verdict image sector None = Spent
packet_verdict image sector (Some (Plain command result)) = Spent
packet_verdict image sector (Some (Error result)) = Spent
packet_verdict image sector (Some (Target bank)) = Spent
packet_verdict image sector (Some (Firmware id major minor revision)) = Spent
packet_verdict image sector (Some (Written number result write crc)) =
    cond (fields_awaited sector number result write) (cond (eqb crc (crc_of (sector_of image sector))) Settled Spent) Spent

-- 15 "counts as done" for mode start, write start and mode end, and the write end "is given up as unknown"
abbrev pub judge_of : Name → Bool → Bank → List ℕ → ℕ → Option Response → Verdict
judge_of ModeStart repeated bank image sector response = own_verdict command.ModeStart repeated Settled response
judge_of VersionInfo repeated bank image sector response = version_verdict response
judge_of BankInfo repeated bank image sector response = bank_verdict bank response
judge_of WriteStart repeated bank image sector response = own_verdict command.WriteStart repeated Settled response
judge_of (Packet p) repeated bank image sector response = packet_verdict image sector response
judge_of WriteEnd repeated bank image sector response = own_verdict command.WriteEnd repeated (Stops Unknown) response
judge_of ModeEnd repeated bank image sector response = own_verdict command.ModeEnd repeated Settled response
