-- The sender's reader of responses is as asked.
-- Assumes nothing.
use Rattle.std.proofs.Common.{Option, Some, None, option_map}
use mathlib.Core.Path.{◌≡◌, refl, sym, ap, ap₂, subst, ◌∙◌}
use mathlib.Core.Bool.{Bool, true, false, ◌&&◌, cond}
use mathlib.Core.List.{List, [], ◌∷◌, ◌++◌}
use Prim.Native.Nat.{ℕ, zero, suc, ◌+◌, ◌/◌, ◌%◌, ◌≤◌, ◌<◌}
use native.Mathlib.Decide.{dec_lt}
use native.Mathlib.Omega.{arith}
use lib.Dec.{eqb}
use lib.ListN.{length, take, drop, length-take, get_or-eq_default}
use lib.Seq.{take_all, get_or-take, get_or-drop}
use borrow.Author.Tests.{eqb-true}
use Rattle.buffer.specs.Number.{bytes_of, byte_at, number_at}
use Rattle.buffer.proofs.Bools.{split}
use Rattle.buffer.proofs.Numbers.{number_two, number_four, bytes_two, bytes_four}
use Rattle.buffer.proofs.Parts.{part_next}
use Rattle.frame.specs.Frame.{control_frame, write_frame}
use Rattle.frame.specs.Read.{read_of, parameters_in, data_in}
use Rattle.frame.specs.declared.read.Footer.TheVariants.{End, Continued}
use Rattle.frame.specs.declared.read.Frame.{Frame}
use Rattle.frame.specs.declared.read.Frame.TheVariants.{Control, Write}
use Rattle.frame.proofs.Parts.{parameters_lie, data_lie}
use Rattle.frame.proofs.RoundTrip.{control_only, write_only}
use Rattle.frame.proofs.Told.{Told, told}
use Rattle.layout.specs.declared.Bank.{Bank}
use Rattle.layout.specs.Said.{number, result, paper_number}
use Rattle.commands.specs.declared.Command.{Command}
use Rattle.commands.specs.declared.Command.TheVariants.{ModeStart, BankInfo, VersionInfo, WriteStart, WriteEnd, ModeEnd}
use Rattle.commands.specs.Command.{response_code, added_bytes, answered_by}
use Rattle.commands.proofs.Codes.{response_back}
use Rattle.response.specs.declared.read.Response.{Response}
use Rattle.response.specs.declared.read.Response.TheVariants.{Plain, Firmware, Target}
use Rattle.response.specs.Response.{
  may_carry,
  added_of,
  bank_named,
  target_of,
  accepted_of,
  own_of,
  error_of,
  answer_of,
  control_of,
  repeats_of,
  crc_fits,
  write_of,
  response_in,
  response_of,
}
use Rattle.response.specs.Said.{response_said, result_in}
use Rattle.response.proofs.Responses.{adds_none, adds_some}
use Rattle.response.proofs.Six.{response_says_lem}
use Rattle.demands.specs.Responses.{answer_code, spelled, MeetsReader}

-- ---- the bytes of a short list

abbrev Bytes : List ℕ → Type 0
Bytes l = (i : ℕ) → byte_at l i < 256

-- numbers are spelled as they were read
two_back : (l : List ℕ) (at : ℕ) → Bytes l → at + 2 ≤ length l → bytes_of 2 (number_at 2 l at) ≡ byte_at l at ∷ byte_at l (at + 1) ∷ []
two_back l at small h =
    let n = number_two l at h in
    let s0 = small at in
    let s1 = small (at + 1) in
    let a : number_at 2 l at / 256 % 256 ≡ byte_at l at = omega arith in
    let b : number_at 2 l at % 256 ≡ byte_at l (at + 1) = omega arith in
    bytes_two (number_at 2 l at) ∙ (rw (a, b))

four_back : (l : List ℕ) (at : ℕ) → Bytes l → at + 4 ≤ length l
    → bytes_of 4 (number_at 4 l at) ≡ byte_at l at ∷ byte_at l (at + 1) ∷ byte_at l (at + 2) ∷ byte_at l (at + 3) ∷ []
four_back l at small h =
    let n = number_four l at h in
    let s0 = small at in
    let s1 = small (at + 1) in
    let s2 = small (at + 2) in
    let s3 = small (at + 3) in
    let a : number_at 4 l at / 16777216 % 256 ≡ byte_at l at = omega arith in
    let b : number_at 4 l at / 65536 % 256 ≡ byte_at l (at + 1) = omega arith in
    let c : number_at 4 l at / 256 % 256 ≡ byte_at l (at + 2) = omega arith in
    let d : number_at 4 l at % 256 ≡ byte_at l (at + 3) = omega arith in
    bytes_four (number_at 4 l at) ∙ (rw (a, b, c, d))

-- n bytes from a place on
abbrev spell_out : List ℕ → ℕ → ℕ → List ℕ
spell_out l at zero = []
spell_out l at (suc n) = byte_at l at ∷ spell_out l (at + 1) n

spelt_part : (l : List ℕ) (at n : ℕ) → at + n ≤ length l → spell_out l at n ≡ take n (drop at l)
spelt_part l at zero h = refl
spelt_part l at (suc n) h = ap (λ (x : List ℕ). byte_at l at ∷ x) (spelt_part l (at + 1) n (omega arith)) ∙ sym (part_next l at n (omega arith))

spelt_all : (l : List ℕ) (n : ℕ) → length l ≡ n → spell_out l 0 n ≡ l
spelt_all l n e = spelt_part l 0 n (omega arith) ∙ take_all n l (omega arith)

-- ---- a control response

-- what was read gives this back, if it was read
abbrev Gives : List ℕ → Option Response → Type 0
Gives d r = paper_number (response_said r) ≡ 0 → spelled r ≡ d

gives_six : (d : List ℕ) → Gives d None
gives_six d e = absurd (omega arith)

-- the table, as it is told here
told_again : (command : Command) → answer_code command ≡ response_code command
told_again ModeStart = refl
told_again BankInfo = refl
told_again VersionInfo = refl
told_again WriteStart = refl
told_again WriteEnd = refl
told_again ModeEnd = refl

module _ (code : ℕ) (ps : List ℕ) (small : Bytes ps) where
  -- a command and a result alone
  plain : (command : Command) (r : ℕ) → answer_code command ≡ code → byte_at ps 0 ≡ r → length ps ≡ 1 → Gives (control_frame code ps) (Some (Plain command r))
  plain command r c z l e = ap₂ control_frame c (ap (λ (x : ℕ). x ∷ []) (sym z) ∙ spelt_all ps 1 l)

  bank : 0x72 ≡ code → byte_at ps 0 ≡ 0x06 → length ps ≡ 2 → Gives (control_frame code ps) (target_of (byte_at ps 1))
  unfolding bank_named
  bank c r l =
      let P : Option Bank → Type 0 = λ named. Gives (control_frame code ps) (option_map Target named) in
      split P (eqb (byte_at ps 1) 0)
      (λ z e. ap₂ control_frame c (ap₂ (λ (x y : ℕ). x ∷ y ∷ []) (sym r) (sym (eqb-true (byte_at ps 1) 0 z)) ∙ spelt_all ps 2 l))
      (λ _. split P (eqb (byte_at ps 1) 1)
      (λ o e. ap₂ control_frame c (ap₂ (λ (x y : ℕ). x ∷ y ∷ []) (sym r) (sym (eqb-true (byte_at ps 1) 1 o)) ∙ spelt_all ps 2 l))
      (λ _. gives_six (control_frame code ps)))

  version : 0x78 ≡ code → byte_at ps 0 ≡ 0x06 → length ps ≡ 9
      → Gives (control_frame code ps) (Some (Firmware (number_at 2 ps 1) (byte_at ps 3) (byte_at ps 4) (number_at 4 ps 5)))
  version c r l e =
      let id = two_back ps 1 small (omega arith) in
      let revision = four_back ps 5 small (omega arith) in
      ap₂ control_frame c
      (ap (λ (x : ℕ). x ∷ bytes_of 2 (number_at 2 ps 1) ++ byte_at ps 3 ∷ byte_at ps 4 ∷ bytes_of 4 (number_at 4 ps 5)) (sym r)
      ∙ ap₂ (λ (x y : List ℕ). byte_at ps 0 ∷ x ++ byte_at ps 3 ∷ byte_at ps 4 ∷ y) id revision
      ∙ spelt_all ps 9 l)

  accepted : (command : Command) → answer_code command ≡ code → byte_at ps 0 ≡ 0x06 → length ps ≡ added_bytes command + 1
      → Gives (control_frame code ps) (accepted_of command ps)
  accepted ModeStart c r l = plain ModeStart 0x06 c r l
  accepted BankInfo c r l = bank c r l
  accepted VersionInfo c r l = version c r l
  accepted WriteStart c r l = plain WriteStart 0x06 c r l
  accepted WriteEnd c r l = plain WriteEnd 0x06 c r l
  accepted ModeEnd c r l = plain ModeEnd 0x06 c r l

  abbrev P : Option Response → Type 0
  P = Gives (control_frame code ps)

  coded : (coding : Option Command) → ((command : Command) → coding ≡ Some command → answer_code command ≡ code) → P (answer_of coding ps)
  unfolding own_of
  coded None c = gives_six (control_frame code ps)
  coded (Some command) c =
      let r : ℕ = byte_at ps 0 in
      split P (may_carry false r)
      (λ _. split P (eqb (length ps) (added_of command r + 1))
      (λ l.
      let long : length ps ≡ added_of command r + 1 = eqb-true (length ps) (added_of command r + 1) l in
      split P (eqb r 0x06)
      (λ t. accepted command (c command refl) (eqb-true r 0x06 t) (omega (arith, adds_some command r t)))
      (λ f. plain command r (c command refl) refl (omega (arith, adds_none command r f))))
      (λ _. gives_six (control_frame code ps)))
      (λ _. gives_six (control_frame code ps))

  error : 0xE0 ≡ code → P (error_of ps)
  unfolding error_of
  error c =
      split P (may_carry true (byte_at ps 0))
      (λ _. split P (eqb (length ps) 1) (λ l e. ap₂ control_frame c (spelt_all ps 1 (eqb-true (length ps) 1 l))) (λ _. gives_six (control_frame code ps)))
      (λ _. gives_six (control_frame code ps))

  any : P (control_of code ps)
  unfolding control_of
  any =
      split P (eqb code 0xE0) (λ e. error (sym (eqb-true code 0xE0 e)))
      (λ _. coded (answered_by code) (λ command e. told_again command ∙ sym (response_back code command (sym e))))

-- ---- a write response

module _ (sector : ℕ) (bytes : List ℕ) (small : Bytes bytes) where
  written : Gives (write_frame sector bytes End) (write_of sector bytes)
  unfolding write_of
  written =
      let response : ℕ = byte_at bytes 0 in
      let write : ℕ = byte_at bytes 1 in
      let crc : ℕ = number_at 4 bytes 2 in
      let P : Option Response → Type 0 = Gives (write_frame sector bytes End) in
      split P (eqb (length bytes) 6)
      (λ l.
      let long : length bytes ≡ 6 = eqb-true (length bytes) 6 l in
      split P (may_carry false response && may_carry false write)
      (λ _. split P (repeats_of response write && crc_fits response write crc)
      (λ _ e.
      ap (λ (x : List ℕ). write_frame sector x End)
      (ap (λ (x : List ℕ). response ∷ write ∷ x) (four_back bytes 2 small (omega arith)) ∙ spelt_all bytes 6 long))
      (λ _. gives_six (write_frame sector bytes End)))
      (λ _. gives_six (write_frame sector bytes End)))
      (λ _. gives_six (write_frame sector bytes End))

-- ---- a datagram

module _ (d : List ℕ) (small : Bytes d) where
  part_small : (n at : ℕ) → Bytes (take n (drop at d))
  part_small n at i = by (dec_lt i n)
    where
      by : Dec (i < n) → byte_at (take n (drop at d)) i < 256
      by (yes h) = omega (arith, get_or-take n (drop at d) i 0 h, get_or-drop at d i 0, small (at + i))
      by (no h) =
          let past : length (take n (drop at d)) ≤ i = omega (arith, length-take n (drop at d)) in
          omega (arith, get_or-eq_default (take n (drop at d)) 0 past)

  gives : (r : Option Frame) → Told d r → Gives d (response_in d r)
  unfolding response_in
  gives None t = gives_six d
  gives (Some (Control code n)) t =
      subst (λ (x : List ℕ). Gives x (response_in d (Some (Control code n)))) (sym (control_only d code n t))
      (any code (parameters_in d) (subst Bytes (parameters_lie d code n t) (part_small n 3)))
  gives (Some (Write sector m End)) t =
      subst (λ (x : List ℕ). Gives x (response_in d (Some (Write sector m End)))) (sym (write_only d sector m End small t))
      (written sector (data_in d) (subst Bytes (data_lie d sector m End t) (part_small m 5)))
  gives (Some (Write sector m Continued)) t = gives_six d

pub responses_meet : MeetsReader response_of
responses_meet =
    record {
      six = λ d t. response_says_lem d ∙ ap (λ (b : Bool). cond b (number 6) (result (result_in d (read_of d)))) t;
      else = λ d small f.
          let read : paper_number (response_said (response_of d)) ≡ 0 =
          ap paper_number (response_says_lem d ∙ ap (λ (b : Bool). cond b (number 6) (result (result_in d (read_of d)))) f) in
          record { unnumbered = read; whole = gives d small (read_of d) (told d) read };
    }
