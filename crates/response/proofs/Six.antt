-- Number 6 is said exactly when one of the listed causes holds, and else the result that stands first.
-- Assumes nothing.
use Rattle.std.proofs.Common.{Option, Some, None, option_map}
use mathlib.Core.Path.{◌≡◌, refl, sym, ap, ◌∙◌}
use mathlib.Core.Bool.{Bool, true, false, not, ◌&&◌, ◌||◌, cond, or-false}
use mathlib.Core.List.{List}
use Prim.Native.Nat.{ℕ, ◌+◌, ◌<◌}
use native.Mathlib.Omega.{arith}
use lib.Dec.{eqb, ltb}
use lib.ListN.{length}
use borrow.Author.Tests.{eqb-true, eqb-false, lt-ltb, le-ltb}
use Rattle.buffer.specs.Number.{byte_at, number_at}
use Rattle.buffer.proofs.Bools.{and_false, split}
use Rattle.commands.specs.Command.{response_code, error_code, answered_by}
use Rattle.commands.specs.declared.Command.{Command}
use Rattle.commands.specs.declared.Command.TheVariants.{ModeStart, BankInfo, VersionInfo, WriteStart, WriteEnd, ModeEnd}
use Rattle.commands.proofs.Codes.{error_unknown, response_back}
use Rattle.frame.specs.Read.{read_of, parameters_in, data_in}
use Rattle.frame.specs.declared.read.Footer.TheVariants.{End, Continued}
use Rattle.frame.specs.declared.read.Frame.{Frame}
use Rattle.frame.specs.declared.read.Frame.TheVariants.{Control, Write}
use Rattle.layout.specs.Said.{number, result}
use Rattle.layout.specs.declared.Bank.{Bank}
use Rattle.layout.specs.declared.Bank.TheVariants.{Zero, One}
use Rattle.response.specs.declared.read.Response.{Response}
use Rattle.response.specs.declared.read.Response.TheVariants.{Plain, Error, Target, Written}
use Rattle.response.specs.Response.{
  in_table9,
  may_carry,
  added_of,
  bank_named,
  target_of,
  accepted_of,
  own_of,
  error_of,
  answer_of,
  control_of,
  repeats_of,
  crc_fits,
  write_of,
  response_in,
  response_of,
}
use Rattle.response.specs.Said.{response_said, result_in, response_says}
use Rattle.response.specs.Six.{unknown, added_by, bank_exceeds, rules_broken, six_in, six_of}

abbrev pub unreadable : Option Response → Bool
unreadable None = true
unreadable (Some response) = false

-- ---- when it is 6

target_six : (k : ℕ) → unreadable (target_of k) ≡ ltb 1 k
unfolding bank_named
target_six k = by (eqb k 0) (eqb k 1) refl refl
  where
    by : (a b : Bool) → eqb k 0 ≡ a → eqb k 1 ≡ b → unreadable (option_map Target (cond a (Some Zero) (cond b (Some One) None))) ≡ ltb 1 k
    by true b p q = sym (le-ltb 1 k (omega (arith, eqb-true k 0 p)))
    by false true p q = sym (le-ltb 1 k (omega (arith, eqb-true k 1 q)))
    by false false p q = sym (lt-ltb 1 k (above k (eqb-false k 0 p) (eqb-false k 1 q)))
      where
        above : (n : ℕ) → (n ≡ 0 → ⊥) → (n ≡ 1 → ⊥) → 1 < n
        above n f g = omega arith

-- the row of tests of a command's own response
tests : (m l s bank : Bool) (accepted : Option Response) (command : Command) (r : ℕ) → unreadable accepted ≡ bank
    → unreadable (cond m (cond l (cond s accepted (Some (Plain command r))) None) None) ≡ (not m || not l || (s && bank))
tests false l s bank accepted command r e = refl
tests true false s bank accepted command r e = refl
tests true true true bank accepted command r e = e
tests true true false bank accepted command r e = refl

module _ (parameters : List ℕ) where
  -- of a command whose result 06 leaves nothing unread
  plain_six : (command : Command) → unreadable (accepted_of command parameters) ≡ false
      → unreadable (own_of command parameters)
      ≡ (not (may_carry false (byte_at parameters 0)) || not (eqb (length parameters) (added_of command (byte_at parameters 0) + 1)) || false)
  unfolding own_of
  plain_six command e =
      let m : Bool = may_carry false (byte_at parameters 0) in
      let l : Bool = eqb (length parameters) (added_of command (byte_at parameters 0) + 1) in
      let s : Bool = eqb (byte_at parameters 0) 0x06 in
      tests m l s false (accepted_of command parameters) command (byte_at parameters 0) e
      ∙ ap (λ (b : Bool). not m || not l || b) (and_false s)

  -- the bank's number counts in the response to bank information alone
  own_six : (command : Command)
      → unreadable (own_of command parameters)
      ≡ (not (may_carry false (byte_at parameters 0)) || not (eqb (length parameters) (added_of command (byte_at parameters 0) + 1))
      || (eqb (response_code command) (response_code BankInfo) && (eqb (byte_at parameters 0) 0x06 && ltb 1 (byte_at parameters 1))))
  unfolding own_of
  own_six ModeStart = plain_six ModeStart refl
  own_six BankInfo =
      tests (may_carry false (byte_at parameters 0)) (eqb (length parameters) (added_of BankInfo (byte_at parameters 0) + 1))
      (eqb (byte_at parameters 0) 0x06) (ltb 1 (byte_at parameters 1)) (target_of (byte_at parameters 1)) BankInfo (byte_at parameters 0)
      (target_six (byte_at parameters 1))
  own_six VersionInfo = plain_six VersionInfo refl
  own_six WriteStart = plain_six WriteStart refl
  own_six WriteEnd = plain_six WriteEnd refl
  own_six ModeEnd = plain_six ModeEnd refl

  error_six : unreadable (error_of parameters) ≡ (not (may_carry true (byte_at parameters 0)) || not (eqb (length parameters) 1))
  unfolding error_of
  error_six = by (may_carry true (byte_at parameters 0)) (eqb (length parameters) 1)
    where
      by : (m l : Bool) → unreadable (cond m (cond l (Some (Error (byte_at parameters 0))) None) None) ≡ (not m || not l)
      by false l = refl
      by true false = refl
      by true true = refl

  control_six : (code : ℕ)
      → unreadable (control_of code parameters)
      ≡ ((not (eqb code error_code) && unknown (answered_by code)) || not (may_carry (eqb code error_code) (byte_at parameters 0))
      || not (eqb (length parameters) (added_by (answered_by code) (byte_at parameters 0) + 1))
      || (eqb code (response_code BankInfo) && (eqb (byte_at parameters 0) 0x06 && ltb 1 (byte_at parameters 1))))
  unfolding control_of
  control_six code = by (eqb code error_code) (answered_by code) refl refl
    where
      by : (t : Bool) (coded : Option Command) → eqb code error_code ≡ t → answered_by code ≡ coded
          → unreadable (cond t (error_of parameters) (answer_of coded parameters))
          ≡ ((not t && unknown coded) || not (may_carry t (byte_at parameters 0))
          || not (eqb (length parameters) (added_by coded (byte_at parameters 0) + 1))
          || (eqb code (response_code BankInfo) && (eqb (byte_at parameters 0) 0x06 && ltb 1 (byte_at parameters 1))))
      by true coded t a =
          let e : code ≡ error_code = eqb-true code error_code t in
          let none : coded ≡ None = sym a ∙ ap answered_by e ∙ error_unknown in
          let other : eqb code (response_code BankInfo) ≡ false = ap (λ (x : ℕ). eqb x (response_code BankInfo)) e in
          rw (none, other) (error_six ∙ sym (or-false _))
      by false None t a = refl
      by false (Some command) t a =
          own_six command
          ∙ ap
          (λ (x : ℕ). not (may_carry false (byte_at parameters 0)) || not (eqb (length parameters) (added_of command (byte_at parameters 0) + 1))
          || (eqb x (response_code BankInfo) && (eqb (byte_at parameters 0) 0x06 && ltb 1 (byte_at parameters 1))))
          (sym (response_back code command (sym a)))

-- the row of tests of a write response
rules : (six results repeated crc : Bool) (written : Option Response) → unreadable written ≡ false
    → unreadable (cond six (cond results (cond (repeated && crc) written None) None) None)
    ≡ (not results || false || false || (not six || false || not repeated || not crc))
rules false true repeated crc written e = refl
rules false false repeated crc written e = refl
rules true false repeated crc written e = refl
rules true true false crc written e = refl
rules true true true false written e = refl
rules true true true true written e = e

continued : (six results repeated crc : Bool) → true ≡ (not results || false || false || (not six || true || not repeated || not crc))
continued six false repeated crc = refl
continued true true repeated crc = refl
continued false true repeated crc = refl

-- what a response may not carry: a result that is not in Table 9, or 05 where it is not E0
not_carried : (before error : Bool) (r : ℕ) → (before || not (may_carry error r)) ≡ (before || not (in_table9 r) || (not error && eqb r 0x05))
unfolding may_carry
not_carried before error r = by before (in_table9 r) error (eqb r 0x05)
  where
    by : (before listed error five : Bool) → (before || not (listed && (error || not five))) ≡ (before || not listed || (not error && five))
    by true listed error five = refl
    by false false error five = refl
    by false true true five = refl
    by false true false true = refl
    by false true false false = refl

-- of a write response, either result
neither_carried : (r w : ℕ) → not (may_carry false r && may_carry false w) ≡ (not (in_table9 r && in_table9 w) || (eqb r 0x05 || eqb w 0x05))
unfolding may_carry
neither_carried r w = by (in_table9 r) (eqb r 0x05) (in_table9 w) (eqb w 0x05)
  where
    by : (listed five also fives : Bool) → not ((listed && not five) && (also && not fives)) ≡ (not (listed && also) || (five || fives))
    by false five also fives = refl
    by true true true fives = refl
    by true true false fives = refl
    by true false true true = refl
    by true false true false = refl
    by true false false fives = refl

six_in_lem : (d : List ℕ) (read : Option Frame) → unreadable (response_in d read) ≡ six_in d read
unfolding response_in six_in write_of
six_in_lem d None = refl
six_in_lem d (Some (Control code n)) =
    let parameters : List ℕ = parameters_in d in
    let result : ℕ = byte_at parameters 0 in
    control_six parameters code
    ∙ ap (λ (b : Bool). b || not (eqb (length parameters) (added_by (answered_by code) result + 1)) || bank_exceeds d (Some (Control code n)))
    (not_carried (not (eqb code error_code) && unknown (answered_by code)) (eqb code error_code) result)
    ∙ sym (or-false _)
six_in_lem d (Some (Write sector m End)) =
    let response : ℕ = byte_at (data_in d) 0 in
    let write : ℕ = byte_at (data_in d) 1 in
    let crc : ℕ = number_at 4 (data_in d) 2 in
    rules (eqb (length (data_in d)) 6) (may_carry false response && may_carry false write) (repeats_of response write)
    (crc_fits response write crc) (Some (Written sector response write crc)) refl
    ∙ ap (λ (b : Bool). b || false || false || rules_broken d (Some (Write sector m End))) (neither_carried response write)
six_in_lem d (Some (Write sector m Continued)) =
    let response : ℕ = byte_at (data_in d) 0 in
    let write : ℕ = byte_at (data_in d) 1 in
    continued (eqb (length (data_in d)) 6) (may_carry false response && may_carry false write) (repeats_of response write)
    (crc_fits response write (number_at 4 (data_in d) 2))
    ∙ ap (λ (b : Bool). b || false || false || rules_broken d (Some (Write sector m Continued))) (neither_carried response write)

pub six_exactly : (d : List ℕ) → unreadable (response_of d) ≡ six_of d
six_exactly d = six_in_lem d (read_of d)

-- ---- what is said

-- number 6, or this result
abbrev Says : ℕ → Option Response → Type 0
Says r response = response_said response ≡ cond (unreadable response) (number 6) (result r)

module _ (parameters : List ℕ) where
  accepted_says : (command : Command) → byte_at parameters 0 ≡ 0x06 → Says (byte_at parameters 0) (accepted_of command parameters)
  accepted_says ModeStart e = ap result (sym e)
  accepted_says BankInfo e = by (bank_named (byte_at parameters 1))
    where
      by : (named : Option Bank) → Says (byte_at parameters 0) (option_map Target named)
      by None = refl
      by (Some bank) = ap result (sym e)
  accepted_says VersionInfo e = ap result (sym e)
  accepted_says WriteStart e = ap result (sym e)
  accepted_says WriteEnd e = ap result (sym e)
  accepted_says ModeEnd e = ap result (sym e)

  answer_says : (coded : Option Command) → Says (byte_at parameters 0) (answer_of coded parameters)
  unfolding own_of
  answer_says None = refl
  answer_says (Some command) =
      split (Says (byte_at parameters 0)) (may_carry false (byte_at parameters 0))
      (λ _. split (Says (byte_at parameters 0)) (eqb (length parameters) (added_of command (byte_at parameters 0) + 1))
      (λ _. split (Says (byte_at parameters 0)) (eqb (byte_at parameters 0) 0x06)
      (λ t. accepted_says command (eqb-true (byte_at parameters 0) 0x06 t)) (λ _. refl))
      (λ _. refl))
      (λ _. refl)

  error_says : Says (byte_at parameters 0) (error_of parameters)
  unfolding error_of
  error_says =
      split (Says (byte_at parameters 0)) (may_carry true (byte_at parameters 0))
      (λ _. split (Says (byte_at parameters 0)) (eqb (length parameters) 1) (λ _. refl) (λ _. refl)) (λ _. refl)

  control_says : (code : ℕ) → Says (byte_at parameters 0) (control_of code parameters)
  unfolding control_of
  control_says code = split (Says (byte_at parameters 0)) (eqb code error_code) (λ _. error_says) (λ _. answer_says (answered_by code))

write_says : (sector : ℕ) (bytes : List ℕ) → Says (byte_at bytes 0) (write_of sector bytes)
unfolding write_of
write_says sector bytes =
    let response : ℕ = byte_at bytes 0 in
    let write : ℕ = byte_at bytes 1 in
    split (Says response) (eqb (length bytes) 6)
    (λ _. split (Says response) (may_carry false response && may_carry false write)
    (λ _. split (Says response) (repeats_of response write && crc_fits response write (number_at 4 bytes 2)) (λ _. refl) (λ _. refl))
    (λ _. refl))
    (λ _. refl)

says_in : (d : List ℕ) (read : Option Frame) → Says (result_in d read) (response_in d read)
unfolding response_in
says_in d None = refl
says_in d (Some (Control code n)) = control_says (parameters_in d) code
says_in d (Some (Write sector m End)) = write_says sector (data_in d)
says_in d (Some (Write sector m Continued)) = refl

pub response_says_lem : (d : List ℕ) → response_said (response_of d) ≡ response_says d
response_says_lem d = says_in d (read_of d) ∙ ap (λ (b : Bool). cond b (number 6) (result (result_in d (read_of d)))) (six_exactly d)
