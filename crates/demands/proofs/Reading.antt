-- Whatever a board answers, the sender's reader reads: row by row of the table of demand 1.
-- Assumes nothing.
use Rattle.std.specs.Prelude.{Some, None, Option}
use mathlib.Core.Path.{◌≡◌, refl, sym, ap, subst, ◌∙◌}
use mathlib.Core.Logic.{◌⊎◌, inl, inr}
use mathlib.Core.Bool.{Bool, true, false, cond, or-true, false≢true}
use mathlib.Core.List.{List, [], ◌∷◌}
use Prim.Native.Nat.{ℕ, suc, ◌^◌, ◌≤◌, ◌<◌}
use native.Mathlib.Omega.{arith}
use lib.Dec.{eqb}
use lib.ListN.{length, take}
use Rattle.buffer.specs.Compare.{same_of, blank_of}
use Rattle.buffer.specs.Number.{bytes_of, byte_at}
use Rattle.buffer.specs.Place.{front_of}
use Rattle.buffer.proofs.Bools.{split}
use Rattle.buffer.proofs.Numbers.{number_two}
use Rattle.crc.specs.Crc.{crc_of}
use Rattle.crc.proofs.Laws.{of_lt}
use Rattle.frame.specs.Frame.{control_frame, write_frame, frame_error}
use Rattle.frame.specs.Read.{read_of, data_in}
use Rattle.frame.specs.declared.read.Footer.{Footer}
use Rattle.frame.specs.declared.read.Footer.TheVariants.{End}
use Rattle.frame.specs.declared.read.Frame.{Frame}
use Rattle.frame.specs.declared.read.Frame.TheVariants.{Control, Write}
use Rattle.frame.proofs.RoundTrip.{error_frame}
use Rattle.frame.proofs.Writing.{length_error}
use Rattle.frame.proofs.Told.{Told, told}
use Rattle.flash.specs.Sector.{padded_of}
use Rattle.layout.specs.declared.Bank.{Bank}
use Rattle.layout.specs.Layout.{good_n, bank_size, bank_number, other_of, sector_of}
use Rattle.layout.specs.Pair.{bank_in}
use Rattle.layout.specs.Said.{paper_number}
use Rattle.commands.specs.declared.Command.{Command}
use Rattle.commands.specs.declared.Command.TheVariants.{ModeStart, BankInfo, VersionInfo, WriteStart, WriteEnd, ModeEnd}
use Rattle.commands.specs.Command.{response_code as code_for}
use Rattle.response.specs.declared.read.Response.{Response}
use Rattle.response.specs.declared.read.Response.TheVariants.{Plain, Error, Target, Firmware, Written}
use Rattle.response.specs.Response.{may_carry, added_of, repeats_of, stored_of, crc_fits, response_of}
use Rattle.response.specs.Said.{response_said}
use Rattle.response.proofs.Answers.{plain_back, error_back, bank_back, version_back, written_back}
use Rattle.exchange.specs.declared.answer.Answer.TheVariants.{BankIs, VersionIs}
use Rattle.exchange.specs.Answer.{version_bytes, written_bytes, answer_bytes}
use Rattle.exchange.specs.State.{is_closed}
use Rattle.client.specs.Perform.{Accepted, store_result}
use Rattle.decision.specs.Plan.{lent_good}
use Rattle.calls.proofs.Courses.{accepted}
use Rattle.exchange.proofs.Saying.{answer_short}
use Rattle.decision.proofs.Planning.{lent}
use Rattle.calls.specs.Call.{Board}
use Rattle.demands.specs.Board.{LentCall, Datagram, Outcome, said, lent_of, lent_target, step_machine}
use Rattle.demands.specs.Demand1.{Row, first_of, response_code, parameter_error, is_fault, refused, answered, after_frame, call_rows}
use Rattle.demands.specs.EndToEnd.{Readable, MeetsRead}
use Rattle.demands.specs.Responses.{answer_code, spelled}
use Rattle.demands.proofs.Demand1.{parameter_bytes, table}
use Rattle.demands.proofs.Demand2.{said_back, control_short, written_short}
use Rattle.demands.proofs.Rows.{given, comes}

-- ---- what is read of each kind of answer

back : (answer : List ℕ) (r : Option Response) → r ≡ response_of answer → spelled r ≡ answer → paper_number (response_said r) ≡ 0 → Readable answer
back answer r e s n = record { unnumbered = sym (ap (λ (x : Option Response). paper_number (response_said x)) e) ∙ n; whole = sym (ap spelled e) ∙ s }

-- one byte behind a command's code
plain : (command : Command) (result : ℕ) → answer_code command ≡ code_for command → may_carry false result ≡ true → added_of command result ≡ 0
    → Readable (control_frame (code_for command) (result ∷ []))
plain command result c m z =
    back (control_frame (code_for command) (result ∷ [])) (Some (Plain command result)) (plain_back command result m z)
    (ap (λ (x : ℕ). control_frame x (result ∷ [])) c) refl

error_readable : (result : ℕ) → may_carry true result ≡ true → Readable (control_frame 0xE0 (result ∷ []))
error_readable result m = back (control_frame 0xE0 (result ∷ [])) (Some (Error result)) (error_back result m) refl refl

-- 15 in the command's own response
declined : (code : ℕ) → Readable (control_frame (response_code code) (0x15 ∷ []))
unfolding may_carry added_of
declined code =
    let P : ℕ → Type 0 = λ x. Readable (control_frame x (0x15 ∷ [])) in
    split P (eqb code 0x61) (λ _. plain ModeStart 0x15 refl refl refl)
    (λ _. split P (eqb code 0x62) (λ _. plain BankInfo 0x15 refl refl refl)
    (λ _. split P (eqb code 0x68) (λ _. plain VersionInfo 0x15 refl refl refl)
    (λ _. split P (eqb code 0x40) (λ _. plain WriteStart 0x15 refl refl refl)
    (λ _. split P (eqb code 0x45) (λ _. plain WriteEnd 0x15 refl refl refl) (λ _. plain ModeEnd 0x15 refl refl refl)))))

-- the write responses
written : (sector result write crc : ℕ) → sector < 65536 → crc < 2 ^ 32 → may_carry false result ≡ true → may_carry false write ≡ true
    → repeats_of result write ≡ true → crc_fits result write crc ≡ true → Readable (write_frame sector (written_bytes result write crc) End)
written sector result write crc s c m w r f =
    back (write_frame sector (written_bytes result write crc) End) (Some (Written sector result write crc)) (written_back sector result write crc s c m w r f) refl refl

-- refused, worn, stored
packet_declined : (sector : ℕ) → sector < 65536 → Readable (write_frame sector (written_bytes 0x15 0x15 0) End)
unfolding may_carry repeats_of crc_fits
packet_declined sector s = written sector 0x15 0x15 0 s (omega arith) refl refl refl refl

packet_worn : (sector : ℕ) → sector < 65536 → Readable (write_frame sector (written_bytes 0x06 0x1C 0) End)
unfolding may_carry repeats_of crc_fits
packet_worn sector s = written sector 0x06 0x1C 0 s (omega arith) refl refl refl refl

packet_stored : (sector write crc : ℕ) → sector < 65536 → crc < 2 ^ 32 → Accepted write → Readable (write_frame sector (written_bytes 0x06 write crc) End)
unfolding may_carry repeats_of crc_fits stored_of
packet_stored sector write crc s c (inl e) = rw e (written sector 0x06 0x06 crc s c refl refl refl (or-true (eqb crc 0)))
packet_stored sector write crc s c (inr e) = rw e (written sector 0x06 0x1D crc s c refl refl refl (or-true (eqb crc 0)))

-- the sector number of a datagram has two bytes
small : (d : List ℕ) → ((i : ℕ) → byte_at d i < 256) → (sector m : ℕ) (footer : Footer) → read_of d ≡ Some (Write sector m footer) → sector < 65536
small d bytes sector m footer e =
    let w = subst (Told d) e (told d) in
    let long = w.whole in
    let one = bytes 1 in
    let two = bytes 2 in
    omega (arith, w.addressed, number_two d 1 (omega arith))

-- ---- the rows

-- what the first row that holds brings
data Every (P : Outcome → Type 0) : List Row → Type 0 where
  last : Every P []
  every : {r : Row} {rows : List Row} → (r.when ≡ true → P r.comes) → Every P rows → Every P (r ∷ rows)

is_some : Option Outcome → Bool
is_some None = false
is_some (Some o) = true

first_of_lem : (P : Outcome → Type 0) (rows : List Row) (o : Outcome) → Every P rows → first_of rows ≡ Some o → P o
unfolding is_some
first_of_lem P [] o last e = absurd (false≢true (ap is_some e))
first_of_lem P (r ∷ rows) o (every h hs) e = by r.when refl (first_of_lem P rows o hs)
  where
    by : (t : Bool) → r.when ≡ t → (first_of rows ≡ Some o → P o) → P o
    by true t rest = subst P (ap (given o) (sym (ap (λ (x : Bool). cond x (Some r.comes) (first_of rows)) t) ∙ e)) (h t)
    by false t rest = rest (sym (ap (λ (x : Bool). cond x (Some r.comes) (first_of rows)) t) ∙ e)

-- a row whose test does not hold
never : {P : Outcome → Type 0} {r : Row} {rows : List Row} → r.when ≡ false → Every P rows → Every P (r ∷ rows)
never e rest = every (λ t. absurd (false≢true (sym e ∙ t))) rest

bank_readable : (bank : Bank) → Readable (control_frame 0x72 (0x06 ∷ bank_number bank ∷ []))
bank_readable bank = back (control_frame 0x72 (0x06 ∷ bank_number bank ∷ [])) (Some (Target bank)) (bank_back bank) refl refl

version_readable : (major minor revision : ℕ) → revision < 2 ^ 32 → Readable (control_frame 0x78 (version_bytes major minor revision))
unfolding bytes_of
version_readable major minor revision h =
    back (control_frame 0x78 (version_bytes major minor revision)) (Some (Firmware 0x0400 major minor revision)) (version_back 0x0400 major minor revision (omega arith) h) refl refl

pub bank_short : (bank : Bank) → length (control_frame 0x72 (0x06 ∷ bank_number bank ∷ [])) ≤ 14
unfolding answer_bytes
bank_short bank = answer_short (BankIs bank)

pub version_short : (major minor revision : ℕ) → length (control_frame 0x78 (version_bytes major minor revision)) ≤ 14
unfolding answer_bytes
version_short major minor revision = answer_short (VersionIs major minor revision)

-- responses with the results that they have in the table
started : Readable (control_frame 0x71 (0x06 ∷ []))
unfolding may_carry added_of
started = plain ModeStart 0x06 refl refl refl

begun : Readable (control_frame 0x70 (0x06 ∷ []))
unfolding may_carry added_of
begun = plain WriteStart 0x06 refl refl refl

mode_ended_lem : Readable (control_frame 0x74 (0x06 ∷ []))
unfolding may_carry added_of
mode_ended_lem = plain ModeEnd 0x06 refl refl refl

write_ended : (result : ℕ) → (result ≡ 0x06) ⊎ ((result ≡ 0x1C) ⊎ (result ≡ 0x1E)) → Readable (control_frame 0x75 (result ∷ []))
unfolding may_carry added_of
write_ended result (inl e) = rw e (plain WriteEnd 0x06 refl refl refl)
write_ended result (inr (inl e)) = rw e (plain WriteEnd 0x1C refl refl refl)
write_ended result (inr (inr e)) = rw e (plain WriteEnd 0x1E refl refl refl)

errors : Readable parameter_error
unfolding may_carry
errors = subst Readable parameter_bytes (error_readable 0x05 refl)

fault_readable : Readable frame_error
unfolding may_carry
fault_readable = subst Readable (sym error_frame) (error_readable 0x07 refl)

module _ (b : Board) (call : LentCall) (bytes : (i : ℕ) → byte_at call.datagram i < 256) (revision : b.client.fixed.revision < 2 ^ 32) (room : 14 ≤ length call.buffer) where
  abbrev Back : Outcome → Type 0
  Back o = Readable (said o)

  says : (answer : List ℕ) → length answer ≤ 14 → Readable answer → Readable (take (length answer) (front_of call.buffer answer))
  says answer s r = subst Readable (sym (said_back call answer s room)) r

  parameter_said : Readable (take (length parameter_error) (front_of call.buffer parameter_error))
  parameter_said = says parameter_error (omega arith) errors

  of_control : (code n : ℕ) → Every Back (after_frame b call (Some (Control code n)))
  of_control code n =
      every (λ _. parameter_said)
      (every (λ _. parameter_said)
      (every (λ _. declined-said)
      (every (λ _. declined-said)
      (every (λ _. parameter_said)
      (never refl
      (every (λ _. says (control_frame 0x75 (0x1C ∷ [])) (control_short 0x75 0x1C) (write_ended 0x1C (inr (inl refl))))
      (never refl
      (every (λ _. says (control_frame 0x71 (0x06 ∷ [])) (control_short 0x71 0x06) started)
      (every
      (λ _.
      says (control_frame 0x72 (0x06 ∷ bank_number (other_of b.client.fixed.running) ∷ [])) (bank_short (other_of b.client.fixed.running))
      (bank_readable (other_of b.client.fixed.running)))
      (every
      (λ _.
      says (control_frame 0x78 (version_bytes b.client.fixed.major b.client.fixed.minor b.client.fixed.revision)) (version_short b.client.fixed.major b.client.fixed.minor b.client.fixed.revision)
      (version_readable b.client.fixed.major b.client.fixed.minor b.client.fixed.revision revision))
      (every (λ _. says (control_frame 0x70 (0x06 ∷ [])) (control_short 0x70 0x06) begun)
      (every (λ _. says (control_frame 0x74 (0x06 ∷ [])) (control_short 0x74 0x06) mode_ended_lem)
      (every (λ _. says (control_frame 0x75 (0x06 ∷ [])) (control_short 0x75 0x06) (write_ended 0x06 (inl refl)))
      (every (λ _. says (control_frame 0x75 (0x1E ∷ [])) (control_short 0x75 0x1E) (write_ended 0x1E (inr (inr refl))))
      last))))))))))))))
    where
      declined-said : Readable (take (length (control_frame (response_code code) (0x15 ∷ []))) (front_of call.buffer (control_frame (response_code code) (0x15 ∷ []))))
      declined-said = says (control_frame (response_code code) (0x15 ∷ [])) (control_short (response_code code) 0x15) (declined code)

  of_packet : (sector m : ℕ) (footer : Footer) → sector < 65536 → Every Back (after_frame b call (Some (Write sector m footer)))
  of_packet sector m footer s =
      let data-bytes : List ℕ = data_in call.datagram in
      let already : Bool = same_of (sector_of (lent_target b call) sector) (padded_of data-bytes) in
      let result : ℕ = store_result (blank_of data-bytes) already in
      let declined-said = says (write_frame sector (written_bytes 0x15 0x15 0) End) (written_short sector 0x15 0x15 0) (packet_declined sector s) in
      never refl
      (never refl
      (every (λ _. declined-said)
      (every (λ _. declined-said)
      (every (λ _. parameter_said)
      (every (λ _. says (write_frame sector (written_bytes 0x06 0x1C 0) End) (written_short sector 0x06 0x1C 0) (packet_worn sector s))
      (never refl
      (every
      (λ _.
      says (write_frame sector (written_bytes 0x06 result (crc_of (padded_of data-bytes))) End) (written_short sector 0x06 result (crc_of (padded_of data-bytes)))
      (packet_stored sector result (crc_of (padded_of data-bytes)) s (of_lt (padded_of data-bytes)) (accepted (blank_of data-bytes) already)))
      (never refl (never refl (never refl (never refl (never refl (never refl (never refl last))))))))))))))

  of_read : (r : Option Frame) → read_of call.datagram ≡ r → is_fault r ≡ false → Every Back (after_frame b call r)
  of_read None e f = absurd (false≢true (sym f))
  of_read (Some (Control code n)) e f = of_control code n
  of_read (Some (Write sector m footer)) e f = of_packet sector m footer (small call.datagram bytes sector m footer e)

-- ---- a call that is answered

pub answers_read : MeetsRead step_machine
answers_read b call bytes revision zero_number =
    by (good_n n) runs lengths (is_closed b.client.state) (is_fault (read_of call.datagram)) refl refl refl refl refl
  where
    n : ℕ
    n = b.client.fixed.n

    runs : Bool
    runs = eqb (length (bank_in b.client.fixed.running (lent_of call.lent b.pair))) (bank_size b.client.fixed.n)

    lengths : Bool
    lengths = lent_good b.client.fixed.n (length (lent_target b call)) (length call.marks) (length call.address) (length call.buffer)

    roomy : lengths ≡ true → 14 ≤ length call.buffer
    roomy e =
        (lent b.client.fixed.n (length (lent_target b call)) (length call.marks) (length call.address) (length call.buffer) e).roomy

    numbered : (k : ℕ) → (step_machine b (Datagram call)).number ≡ suc k → Readable (said (step_machine b (Datagram call)))
    numbered k e = absurd (omega (arith, sym e ∙ zero_number))

    refuses : (k : ℕ) → first_of (call_rows b call) ≡ Some (refused b call.buffer (suc k)) → Readable (said (step_machine b (Datagram call)))
    refuses k e = numbered k (ap (λ (o : Outcome). o.number) (comes b (Datagram call) (refused b call.buffer (suc k)) e))

    by : (g u l c f : Bool) → good_n b.client.fixed.n ≡ g → runs ≡ u → lengths ≡ l → is_closed b.client.state ≡ c
        → is_fault (read_of call.datagram) ≡ f → Readable (said (step_machine b (Datagram call)))
    by false u l c f eg eu el ec ef = refuses 2 (rw eg)
    by true false l c f eg eu el ec ef = refuses 1 (rw (eg, eu))
    by true true false c f eg eu el ec ef = refuses 1 (rw (eg, eu, el))
    by true true true true f eg eu el ec ef = refuses 0 (rw (eg, eu, el, ec))
    by true true true false true eg eu el ec ef =
        subst (λ (o : Outcome). Readable (said o)) (sym (comes b (Datagram call) (answered b call frame_error) (rw (eg, eu, el, ec, ef))))
        (subst Readable (sym (said_back call frame_error (omega (arith, length_error)) (roomy el))) fault_readable)
    by true true true false false eg eu el ec ef =
        let rest : first_of (call_rows b call) ≡ first_of (after_frame b call (read_of call.datagram)) = rw (eg, eu, el, ec, ef) in
        first_of_lem (λ (o : Outcome). Readable (said o)) (after_frame b call (read_of call.datagram)) (step_machine b (Datagram call))
        (of_read b call bytes revision (roomy el) (read_of call.datagram) refl ef)
        (sym rest ∙ table b (Datagram call))
