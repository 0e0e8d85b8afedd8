-- What the reading of a response comes to where its tests hold.
-- Assumes nothing.
use Rattle.std.proofs.Common.{Some, None, Option}
use mathlib.Core.Path.{◌≡◌, refl, sym, ap, ◌∙◌}
use mathlib.Core.Bool.{true, false}
use mathlib.Core.List.{List}
use Prim.Native.Nat.{ℕ, ◌+◌, ◌≤◌}
use native.Mathlib.Omega.{arith}
use lib.Dec.{eqb}
use lib.ListN.{length}
use borrow.Author.Tests.{eq-eqb, ne_eqb}
use Rattle.buffer.specs.Number.{byte_at, number_at}
use Rattle.buffer.proofs.Bools.{split}
use Rattle.commands.specs.Command.{error_code, added_bytes, answered_by}
use Rattle.commands.specs.declared.Command.{Command}
use Rattle.commands.specs.declared.Command.TheVariants.{ModeStart, BankInfo, VersionInfo, WriteStart, WriteEnd, ModeEnd}
use Rattle.frame.specs.Read.{read_of, parameters_in, data_in}
use Rattle.frame.specs.declared.read.Footer.TheVariants.{End, Continued}
use Rattle.frame.specs.declared.read.Frame.TheVariants.{Control, Write}
use Rattle.response.specs.declared.read.Response.{Response}
use Rattle.response.specs.declared.read.Response.TheVariants.{Plain, Error, Written}
use Rattle.response.specs.Response.{may_carry, added_of, accepted_of, own_of, error_of, control_of, repeats_of, crc_fits, write_of, response_in, response_of}
use Rattle.response.specs.Said.{response_said, IsResponse}
use Rattle.response.proofs.Six.{response_says_lem}

-- ---- a command's own response

module _ (command : Command) (result : ℕ) where
  pub adds_none : eqb result 0x06 ≡ false → 0 ≡ added_of command result
  unfolding added_of
  adds_none h = rw h

  pub adds_some : eqb result 0x06 ≡ true → added_bytes command ≡ added_of command result
  unfolding added_of
  adds_some h = rw h

pub added_small : (command : Command) (result : ℕ) → added_of command result ≤ 8
unfolding added_of
added_small command result = split (λ (n : ℕ). n ≤ 8) (eqb result 0x06) (λ _. small command) (λ _. omega arith)
  where
    small : (k : Command) → added_bytes k ≤ 8
    small ModeStart = omega arith
    small BankInfo = omega arith
    small VersionInfo = omega arith
    small WriteStart = omega arith
    small WriteEnd = omega arith
    small ModeEnd = omega arith

pub adds_six : (command k : Command) → command ≡ k → added_of command 0x06 ≡ added_bytes k
adds_six command k e = sym (adds_some command 0x06 refl) ∙ ap added_bytes e

module _ (command : Command) (parameters : List ℕ) (result : ℕ) (e : result ≡ byte_at parameters 0) (m : may_carry false result ≡ true)
    (l : length parameters ≡ added_of command result + 1) where
  pub is_plain : eqb result 0x06 ≡ false → Some (Plain command result) ≡ own_of command parameters
  unfolding own_of
  is_plain a = rw (← e, m, eq-eqb (length parameters) (added_of command result + 1) l, a)

  pub is-accepted : eqb result 0x06 ≡ true → accepted_of command parameters ≡ own_of command parameters
  unfolding own_of
  is-accepted a = rw (← e, m, eq-eqb (length parameters) (added_of command result + 1) l, a)

-- ---- the error response

pub is_error : (parameters : List ℕ) → length parameters ≡ 1 → may_carry true (byte_at parameters 0) ≡ true
    → Some (Error (byte_at parameters 0)) ≡ error_of parameters
unfolding error_of
is_error parameters l m = rw (m, eq-eqb (length parameters) 1 l)

-- ---- by the code

module _ (code : ℕ) (parameters : List ℕ) where
  pub by_error : code ≡ error_code → error_of parameters ≡ control_of code parameters
  unfolding control_of
  by_error e = rw (eq-eqb code error_code e)

  pub by_command : (command : Command) → (code ≡ error_code → ⊥) → Some command ≡ answered_by code → own_of command parameters ≡ control_of code parameters
  unfolding control_of
  by_command command n k = rw (ne_eqb code error_code n, ← k)

-- ---- a write response

pub is-written : (sector : ℕ) (bytes : List ℕ) → length bytes ≡ 6 → (response write crc : ℕ)
    → response ≡ byte_at bytes 0 → write ≡ byte_at bytes 1 → crc ≡ number_at 4 bytes 2
    → may_carry false response ≡ true → may_carry false write ≡ true → repeats_of response write ≡ true → crc_fits response write crc ≡ true
    → Some (Written sector response write crc) ≡ write_of sector bytes
unfolding write_of
is-written sector bytes l response write crc a b e m w p q = rw (eq-eqb (length bytes) 6 l, ← a, ← b, ← e, m, w, p, q)

-- ---- by the frame that was read

module _ (d : List ℕ) where
  -- what is answered is all: what it says follows
  response_is : (r : Option Response) → r ≡ response_of d → IsResponse d r
  response_is r e = record { answered = e; says = ap response_said e ∙ response_says_lem d }

  pub control_in : (code n : ℕ) → Some (Control code n) ≡ read_of d → control_of code (parameters_in d) ≡ response_of d
  unfolding response_in
  control_in code n e = ap (response_in d) e

  pub write_in : (sector m : ℕ) → Some (Write sector m End) ≡ read_of d → write_of sector (data_in d) ≡ response_of d
  unfolding response_in
  write_in sector m e = ap (response_in d) e

  pub none_read : {r : Option Response} → r ≡ None → None ≡ read_of d → IsResponse d r
  unfolding response_in
  none_read {r = r} q e = response_is r (q ∙ ap (response_in d) e)

  pub from_control : (code n : ℕ) {parameters : List ℕ} {r : Option Response} → Some (Control code n) ≡ read_of d → parameters ≡ parameters_in d
      → r ≡ control_of code parameters → IsResponse d r
  from_control code n {r = r} e p q = response_is r (q ∙ ap (control_of code) p ∙ control_in code n e)

  pub from_write : (sector m : ℕ) {bytes : List ℕ} {r : Option Response} → Some (Write sector m End) ≡ read_of d → bytes ≡ data_in d → r ≡ write_of sector bytes
      → IsResponse d r
  from_write sector m {r = r} e p q = response_is r (q ∙ ap (write_of sector) p ∙ write_in sector m e)

  pub from_continued : (sector m : ℕ) → Some (Write sector m Continued) ≡ read_of d → IsResponse d None
  unfolding response_in
  from_continued sector m e = response_is None (ap (response_in d) e)
