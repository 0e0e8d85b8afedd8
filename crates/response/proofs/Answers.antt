-- A response as a client writes it is read back as it was written.
-- Assumes nothing.
use Rattle.std.specs.Prelude.{Some}
use mathlib.Core.Path.{◌≡◌, refl, sym, ap, ap₂, ◌∙◌}
use mathlib.Core.Bool.{Bool, true, false}
use mathlib.Core.List.{List, [], ◌∷◌, ◌++◌}
use Prim.Native.Nat.{ℕ, ◌+◌, ◌*◌, ◌/◌, ◌%◌, ◌^◌, ◌<◌}
use native.Mathlib.Omega.{arith}
use lib.Dec.{eqb}
use lib.ListN.{length, take, length-append}
use lib.Seq.{take_all, drop_at}
use borrow.Author.Tests.{eqb-true, eqb-false}
use Rattle.buffer.specs.Number.{number_of, bytes_of, number_at}
use Rattle.buffer.proofs.Numbers.{number_inside, number_two, number_bytes, length_bytes, bytes_two}
use Rattle.commands.specs.Command.{response_code, error_code, added_bytes}
use Rattle.commands.specs.declared.Command.{Command}
use Rattle.commands.specs.declared.Command.TheVariants.{ModeStart, BankInfo, VersionInfo, WriteStart, WriteEnd, ModeEnd}
use Rattle.commands.proofs.Codes.{own_code, response_known}
use Rattle.frame.specs.Frame.{control_frame, write_frame}
use Rattle.frame.specs.declared.read.Footer.TheVariants.{End}
use Rattle.frame.proofs.RoundTrip.{control_back, control_parameters, write_back, write_data}
use Rattle.layout.specs.Layout.{bank_number}
use Rattle.layout.specs.declared.Bank.{Bank}
use Rattle.layout.specs.declared.Bank.TheVariants.{Zero, One}
use Rattle.response.specs.declared.read.Response.TheVariants.{Plain, Error, Target, Firmware, Written}
use Rattle.response.specs.Response.{
  may_carry,
  added_of,
  accepted_of,
  bank_named,
  own_of,
  control_of,
  repeats_of,
  crc_fits,
  write_of,
  response_of,
}
use Rattle.response.proofs.Responses.{
  adds_some,
  is_plain,
  is-accepted,
  is_error,
  by_error,
  by_command,
  is-written,
  control_in,
  write_in,
}

-- a control frame, by its code and parameters
control_read : (code : ℕ) (parameters : List ℕ) → control_of code parameters ≡ response_of (control_frame code parameters)
control_read code parameters =
    ap (control_of code) (sym (control_parameters code parameters))
    ∙ control_in (control_frame code parameters) code (length parameters) (control_back code parameters)

-- a command's own response
own_read : (command : Command) (parameters : List ℕ) → own_of command parameters ≡ response_of (control_frame (response_code command) parameters)
own_read command parameters =
    by_command (response_code command) parameters command (eqb-false (response_code command) error_code (own_code command))
    (sym (response_known command))
    ∙ control_read (response_code command) parameters

-- a write frame with footer 03, by its sector and data
write_read : (sector : ℕ) (bytes : List ℕ) → sector < 65536 → length bytes < 65536 → write_of sector bytes ≡ response_of (write_frame sector bytes End)
write_read sector bytes s l =
    ap (write_of sector) (sym (write_data sector bytes End))
    ∙ write_in (write_frame sector bytes End) sector (length bytes) (write_back sector bytes End s l)

-- a command that adds nothing gives its result alone
alone : (command : Command) (parameters : List ℕ) → added_bytes command ≡ 0 → Some (Plain command 0x06) ≡ accepted_of command parameters
alone ModeStart parameters z = refl
alone BankInfo parameters z = absurd (omega arith)
alone VersionInfo parameters z = absurd (omega arith)
alone WriteStart parameters z = refl
alone WriteEnd parameters z = refl
alone ModeEnd parameters z = refl

-- a command and a result that add nothing
pub plain_back : (command : Command) (result : ℕ) → may_carry false result ≡ true → added_of command result ≡ 0
    → Some (Plain command result) ≡ response_of (control_frame (response_code command) (result ∷ []))
plain_back command result m z = by (eqb result 0x06) refl ∙ own_read command (result ∷ [])
  where
    by : (t : Bool) → eqb result 0x06 ≡ t → Some (Plain command result) ≡ own_of command (result ∷ [])
    by true t =
        ap (λ (x : ℕ). Some (Plain command x)) (eqb-true result 0x06 t)
        ∙ alone command (result ∷ []) (adds_some command result t ∙ z)
        ∙ is-accepted command (result ∷ []) result refl m (ap (λ (x : ℕ). x + 1) (sym z)) t
    by false f = is_plain command (result ∷ []) result refl m (ap (λ (x : ℕ). x + 1) (sym z)) f

-- the error response
pub error_back : (result : ℕ) → may_carry true result ≡ true → Some (Error result) ≡ response_of (control_frame error_code (result ∷ []))
error_back result m =
    is_error (result ∷ []) refl m ∙ by_error error_code (result ∷ []) refl ∙ control_read error_code (result ∷ [])

-- bank information with 06
pub bank_back : (bank : Bank) → Some (Target bank) ≡ response_of (control_frame (response_code BankInfo) (0x06 ∷ bank_number bank ∷ []))
unfolding may_carry bank_named
bank_back Zero =
    is-accepted BankInfo (0x06 ∷ 0 ∷ []) 0x06 refl refl (ap (λ (x : ℕ). x + 1) (adds_some BankInfo 0x06 refl)) refl
    ∙ own_read BankInfo (0x06 ∷ 0 ∷ [])
bank_back One =
    is-accepted BankInfo (0x06 ∷ 1 ∷ []) 0x06 refl refl (ap (λ (x : ℕ). x + 1) (adds_some BankInfo 0x06 refl)) refl
    ∙ own_read BankInfo (0x06 ∷ 1 ∷ [])

-- a number in the last w bytes
number_last : (w n : ℕ) (a : List ℕ) (at : ℕ) → n < 256 ^ w → length a ≡ at → number_at w (a ++ bytes_of w n) at ≡ n
number_last w n a at h e =
    let l : length (bytes_of w n) ≡ w = length_bytes w n in
    number_inside w (a ++ bytes_of w n) at (omega (arith, length-append a (bytes_of w n)))
    ∙ ap (λ (x : List ℕ). number_of (take w x)) (drop_at a (bytes_of w n) at e)
    ∙ ap number_of (take_all w (bytes_of w n) (omega arith))
    ∙ number_bytes w n h

-- version with 06, the ID written out
spelt : (x y major minor revision : ℕ) → revision < 4294967296
    → Some (Firmware (x * 256 + y) major minor revision)
    ≡ response_of (control_frame (response_code VersionInfo) (0x06 ∷ x ∷ y ∷ major ∷ minor ∷ bytes_of 4 revision))
unfolding may_carry
spelt x y major minor revision r =
    let ps : List ℕ = 0x06 ∷ x ∷ y ∷ major ∷ minor ∷ bytes_of 4 revision in
    let l : length ps ≡ 9 = omega (arith, length_bytes 4 revision) in
    ap₂ (λ (i n : ℕ). Some (Firmware i major minor n)) (sym (number_two ps 1 (omega arith)))
    (sym (number_last 4 revision (0x06 ∷ x ∷ y ∷ major ∷ minor ∷ []) 5 r refl))
    ∙ is-accepted VersionInfo ps 0x06 refl refl (l ∙ ap (λ (n : ℕ). n + 1) (adds_some VersionInfo 0x06 refl)) refl
    ∙ own_read VersionInfo ps

pub version_back : (id major minor revision : ℕ) → id < 65536 → revision < 4294967296
    → Some (Firmware id major minor revision)
    ≡ response_of (control_frame (response_code VersionInfo) (0x06 ∷ bytes_of 2 id ++ major ∷ minor ∷ bytes_of 4 revision))
version_back id major minor revision h r =
    let e : id ≡ id / 256 % 256 * 256 + id % 256 = omega arith in
    rw (bytes_two id)
    (ap (λ (i : ℕ). Some (Firmware i major minor revision)) e ∙ spelt (id / 256 % 256) (id % 256) major minor revision r)

-- a write response that keeps the field rules
pub written_back : (sector response write crc : ℕ) → sector < 65536 → crc < 4294967296
    → may_carry false response ≡ true → may_carry false write ≡ true → repeats_of response write ≡ true → crc_fits response write crc ≡ true
    → Some (Written sector response write crc) ≡ response_of (write_frame sector (response ∷ write ∷ bytes_of 4 crc) End)
written_back sector response write crc h r m w p q =
    let bytes : List ℕ = response ∷ write ∷ bytes_of 4 crc in
    let l : length bytes ≡ 6 = omega (arith, length_bytes 4 crc) in
    is-written sector bytes l response write crc refl refl (sym (number_last 4 crc (response ∷ write ∷ []) 2 r refl)) m w p q
    ∙ write_read sector bytes h (omega arith)
