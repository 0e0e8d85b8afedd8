-- For the crates above: what settles a request, how an event moves the record, and what a call does to a record that may be any.
-- Assumes nothing.
use Rattle.std.proofs.Common.{Some}
use Rattle.std.specs.Prelude.{Option, Some, None}
use mathlib.Core.Path.{◌≡◌, refl, sym, ap, subst, ◌∙◌}
use mathlib.Core.Bool.{Bool, true, false, ◌&&◌, ◌||◌, cond, false≢true}
use mathlib.Core.List.{List}
use mathlib.Core.Logic.{◌⊎◌, inl, inr}
use Prim.Native.Nat.{ℕ, ◌+◌, ◌≤◌, ◌<◌}
use native.Mathlib.Omega.{arith}
use lib.Dec.{eqb, leb, ltb}
use lib.ListN.{length}
use borrow.Author.Tests.{eqb-true, eq-eqb, ltb-true, ltb-false, le-ltb}
use Rattle.std.specs.Prelude.{Result, Ok, Err}
use Rattle.buffer.proofs.Bools.{split, and_left, and_right, and_false, no_way}
use Rattle.std.specs.Option.{option_eq}
use Rattle.commands.specs.declared.Command.{Command}
use Rattle.commands.specs.declared.Command.TheVariants as command
use Rattle.commands.specs.Command.{response_code, answered_by}
use Rattle.commands.proofs.Codes.{response_known}
use Rattle.crc.specs.Crc.{crc_of}
use Rattle.layout.specs.Layout.{bank_number, other_of, sector_of}
use Rattle.layout.specs.declared.Bank.{Bank}
use Rattle.layout.specs.declared.Bank.TheVariants.{Zero, One}
use Rattle.response.specs.declared.read.Response.{Response}
use Rattle.response.specs.declared.read.Response.TheVariants.{Plain, Error, Target, Firmware, Written}
use Rattle.sender.specs.declared.made.Place.{Place}
use Rattle.sender.specs.Packet.{packet_sector}
use Rattle.night.specs.declared.judge.Verdict.{Verdict}
use Rattle.night.specs.declared.judge.Verdict.TheVariants.{Settled, Spent, Stops}
use Rattle.night.specs.declared.name.Name.{Name}
use Rattle.night.specs.declared.name.Name.TheVariants.{ModeStart, VersionInfo, BankInfo, WriteStart, Packet, WriteEnd, ModeEnd}
use Rattle.night.specs.declared.record.Called.{Called}
use Rattle.night.specs.declared.record.Next.{Next}
use Rattle.night.specs.declared.record.Next.TheVariants as next
use Rattle.night.specs.declared.record.Night.{Night}
use Rattle.night.specs.declared.record.Refusal.{Refusal}
use Rattle.night.specs.declared.record.Refusal.TheVariants.{BadN, BadLength, BadTries, NoPacket}
use Rattle.night.specs.declared.record.Stand.{Stand}
use Rattle.night.specs.declared.record.Stand.TheVariants.{NotBegun, At, Finished, GaveUp}
use Rattle.night.specs.declared.record.Why.{Why}
use Rattle.night.specs.declared.record.Why.TheVariants.{Tries, WrongBank, Unknown}
use Rattle.night.specs.Call.{
  called,
  next_of,
  gone_on,
  end_told,
  over_of,
  judged,
  at_hand_of,
  by_stand,
  step_of,
  night_of,
  begun,
  start_of,
  buffer_by,
  lent_says,
  step_says,
}
use Rattle.night.specs.Judge.{own_result, own_verdict, version_verdict, bank_verdict, fields_awaited, packet_verdict, judge_of}
use Rattle.night.specs.Lent.{looked_of}
use Rattle.night.specs.Name.{number_of}
use Rattle.night.specs.Record.{following_of, again_of, moved_of, standing, refusal_number, next_number}
use Rattle.night.proofs.Calling.{hand_says, over_says}
use Rattle.night.proofs.Lending.{lent, says_refused, says_good}
use Rattle.night.proofs.Moving.{goes_again, given_up}

-- ---- what settles a request

-- the response settles the request at hand
abbrev pub Settling : Name → Bool → Bank → List ℕ → ℕ → Option Response → Type 0
Settling name repeated bank image sector response = judge_of name repeated bank image sector response ≡ Settled

-- no two commands are answered by one code
same_command : (a b : Command) → response_code a ≡ response_code b → a ≡ b
same_command a b e =
    let p : Some a ≡ Some b = sym (response_known a) ∙ ap answered_by e ∙ response_known b in cc

same_bank : (a b : Bank) → bank_number a ≡ bank_number b → a ≡ b
same_bank Zero Zero e = refl
same_bank Zero One e = no_way e
same_bank One Zero e = no_way (sym e)
same_bank One One e = refl

-- what carries a result is the command's own response
own_reads : (command : Command) (response : Option Response) (result : ℕ) → option_eq eqb (own_result command response) (Some result) ≡ true
    → response ≡ Some (Plain command result)
own_reads command None result e = absurd (false≢true e)
own_reads command (Some (Plain other r)) result e =
    split (λ (x : Option ℕ). option_eq eqb x (Some result) ≡ true → Some (Plain other r) ≡ Some (Plain command result))
    (eqb (response_code other) (response_code command))
    (λ t q.
    let s = same_command other command (eqb-true _ _ t) in
    let same : r ≡ result = eqb-true r result q in
    cc)
    (λ _ q. absurd (false≢true q))
    e
own_reads command (Some (Error r)) result e = absurd (false≢true e)
own_reads command (Some (Target bank)) result e = absurd (false≢true e)
own_reads command (Some (Firmware id major minor revision)) result e = absurd (false≢true e)
own_reads command (Some (Written sector response write crc)) result e = absurd (false≢true e)

own_result_lem : (command : Command) (response : Option Response) (result : ℕ) → response ≡ Some (Plain command result)
    → own_result command response ≡ Some result
own_result_lem command response result e = rw (e, eq-eqb (response_code command) (response_code command) refl)

module _ (command : Command) (repeated : Bool) (response : Option Response) where
  -- 06, or 15 to a repeated one where that counts as done
  own_settled : (declined : Verdict) → own_verdict command repeated declined response ≡ Settled
      → (response ≡ Some (Plain command 0x06)) ⊎ ((response ≡ Some (Plain command 0x15)) × (repeated ≡ true) × (declined ≡ Settled))
  unfolding own_verdict
  own_settled declined =
      let Out : Type 0 = (response ≡ Some (Plain command 0x06)) ⊎ ((response ≡ Some (Plain command 0x15)) × (repeated ≡ true) × (declined ≡ Settled)) in
      let is : ℕ → Bool = λ k. option_eq eqb (own_result command response) (Some k) in
      split (λ (v : Verdict). v ≡ Settled → Out) (is 0x06)
      (λ t _. inl (own_reads command response 0x06 t))
      (λ _. split (λ (v : Verdict). v ≡ Settled → Out) (repeated && is 0x15)
      (λ t e.
      inr (
        own_reads command response 0x15 (and_right repeated (is 0x15) t),
        and_left repeated (is 0x15) t,
        e,
      ))
      (λ _ e. no_way cc))

  own_accepted : (declined : Verdict) → response ≡ Some (Plain command 0x06) → own_verdict command repeated declined response ≡ Settled
  unfolding own_verdict
  own_accepted declined e = rw (own_result_lem command response 0x06 e)

  own_declined : response ≡ Some (Plain command 0x15) → repeated ≡ true → own_verdict command repeated Settled response ≡ Settled
  unfolding own_verdict
  own_declined e t = rw (own_result_lem command response 0x15 e, t)

  -- for mode start, write start and mode end
  pub own_done : own_verdict command repeated Settled response ≡ Settled
      → (response ≡ Some (Plain command 0x06)) ⊎ ((response ≡ Some (Plain command 0x15)) × (repeated ≡ true))
  own_done e = by (own_settled Settled e)
    where
      by : (response ≡ Some (Plain command 0x06)) ⊎ ((response ≡ Some (Plain command 0x15)) × (repeated ≡ true) × (Settled ≡ Settled))
          → (response ≡ Some (Plain command 0x06)) ⊎ ((response ≡ Some (Plain command 0x15)) × (repeated ≡ true))
      by (inl p) = inl p
      by (inr p) = inr (p.0, p.1)

  pub done_own : (response ≡ Some (Plain command 0x06)) ⊎ ((response ≡ Some (Plain command 0x15)) × (repeated ≡ true))
      → own_verdict command repeated Settled response ≡ Settled
  done_own (inl e) = own_accepted Settled e
  done_own (inr p) = own_declined p.0 p.1

  -- for the write end, where 15 is no settling
  pub own_ended : own_verdict command repeated (Stops Unknown) response ≡ Settled → response ≡ Some (Plain command 0x06)
  own_ended e = by (own_settled (Stops Unknown) e)
    where
      by : (response ≡ Some (Plain command 0x06)) ⊎ ((response ≡ Some (Plain command 0x15)) × (repeated ≡ true) × (Stops Unknown ≡ Settled))
          → response ≡ Some (Plain command 0x06)
      by (inl p) = p
      by (inr p) = let q : Stops Unknown ≡ Settled = p.2 in no_way cc

  pub ended_own : response ≡ Some (Plain command 0x06) → own_verdict command repeated (Stops Unknown) response ≡ Settled
  ended_own e = own_accepted (Stops Unknown) e

-- any version
pub version_settled : (P : Option Response → Type 0) → ((id major minor revision : ℕ) → P (Some (Firmware id major minor revision))) → (response : Option Response)
    → version_verdict response ≡ Settled → P response
version_settled P f None e = no_way cc
version_settled P f (Some (Plain command result)) e = no_way cc
version_settled P f (Some (Error result)) e = no_way cc
version_settled P f (Some (Target bank)) e = no_way cc
version_settled P f (Some (Firmware id major minor revision)) e = f id major minor revision
version_settled P f (Some (Written sector response write crc)) e = no_way cc

pub settled_version : (id major minor revision : ℕ) → version_verdict (Some (Firmware id major minor revision)) ≡ Settled
settled_version id major minor revision = refl

-- the image's bank
pub bank_settled : (bank : Bank) (response : Option Response) → bank_verdict bank response ≡ Settled → response ≡ Some (Target bank)
bank_settled bank None e = no_way cc
bank_settled bank (Some (Plain command result)) e = no_way cc
bank_settled bank (Some (Error result)) e = no_way cc
bank_settled bank (Some (Target target)) e =
    split (λ (v : Verdict). v ≡ Settled → Some (Target target) ≡ Some (Target bank)) (eqb (bank_number target) (bank_number bank))
    (λ t _. ap (λ (x : Bank). Some (Target x)) (same_bank target bank (eqb-true _ _ t)))
    (λ _ q. no_way cc)
    e
bank_settled bank (Some (Firmware id major minor revision)) e = no_way cc
bank_settled bank (Some (Written sector response write crc)) e = no_way cc

pub settled_bank : (bank : Bank) (response : Option Response) → response ≡ Some (Target bank) → bank_verdict bank response ≡ Settled
settled_bank bank response e = rw (e, eq-eqb (bank_number bank) (bank_number bank) refl)

-- a packet: "its number, 06 or 1D, and the right CRC-32"
either_true : (a b : Bool) → (a || b) ≡ true → (a ≡ true) ⊎ (b ≡ true)
either_true true b e = inl refl
either_true false b e = inr e

module _ (image : List ℕ) (sector : ℕ) where
  pub record Fields (number result write crc : ℕ) : Type 0 where
    pub number_is : number ≡ sector
    pub result-is : result ≡ 0x06
    pub write-is : (write ≡ 0x06) ⊎ (write ≡ 0x1D)
    pub crc-is : crc ≡ crc_of (sector_of image sector)

  pub packet_settled : (P : Option Response → Type 0)
      → ((number result write crc : ℕ) → Fields number result write crc → P (Some (Written number result write crc))) → (response : Option Response)
      → packet_verdict image sector response ≡ Settled → P response
  unfolding fields_awaited
  packet_settled P f None e = no_way cc
  packet_settled P f (Some (Plain command result)) e = no_way cc
  packet_settled P f (Some (Error result)) e = no_way cc
  packet_settled P f (Some (Target bank)) e = no_way cc
  packet_settled P f (Some (Firmware id major minor revision)) e = no_way cc
  packet_settled P f (Some (Written number result write crc)) e =
      split (λ (v : Verdict). v ≡ Settled → P (Some (Written number result write crc)))
      (eqb number sector && eqb result 0x06 && (eqb write 0x06 || eqb write 0x1D))
      (λ t. split (λ (v : Verdict). v ≡ Settled → P (Some (Written number result write crc))) (eqb crc (crc_of (sector_of image sector)))
      (λ c _.
      let front = and_left (eqb number sector && eqb result 0x06) (eqb write 0x06 || eqb write 0x1D) t in
      f number result write crc
      record {
        number_is = eqb-true number sector (and_left (eqb number sector) (eqb result 0x06) front);
        result-is = eqb-true result 0x06 (and_right (eqb number sector) (eqb result 0x06) front);
        write-is =
            one
            (either_true (eqb write 0x06) (eqb write 0x1D) (and_right (eqb number sector && eqb result 0x06) (eqb write 0x06 || eqb write 0x1D) t));
        crc-is = eqb-true crc (crc_of (sector_of image sector)) c;
      })
      (λ _ q. no_way cc))
      (λ _ q. no_way cc)
      e
    where
      one : (eqb write 0x06 ≡ true) ⊎ (eqb write 0x1D ≡ true) → (write ≡ 0x06) ⊎ (write ≡ 0x1D)
      one (inl q) = inl (eqb-true write 0x06 q)
      one (inr q) = inr (eqb-true write 0x1D q)

  pub settled_packet : (write : ℕ) → (write ≡ 0x06) ⊎ (write ≡ 0x1D)
      → packet_verdict image sector (Some (Written sector 0x06 write (crc_of (sector_of image sector)))) ≡ Settled
  unfolding fields_awaited
  settled_packet write (inl e) = rw (e, eq-eqb sector sector refl, eq-eqb (crc_of (sector_of image sector)) (crc_of (sector_of image sector)) refl)
  settled_packet write (inr e) = rw (e, eq-eqb sector sector refl, eq-eqb (crc_of (sector_of image sector)) (crc_of (sector_of image sector)) refl)

-- ---- what stops the night

-- a try is spent, or the night stops
abbrev pub Spending : Name → Bool → Bank → List ℕ → ℕ → Option Response → Type 0
Spending name repeated bank image sector response = judge_of name repeated bank image sector response ≡ Spent

abbrev pub Stopping : Why → Name → Bool → Bank → List ℕ → ℕ → Option Response → Type 0
Stopping why name repeated bank image sector response = judge_of name repeated bank image sector response ≡ Stops why

-- one of the three
module _ (name : Name) (repeated : Bool) (bank : Bank) (image : List ℕ) (sector : ℕ) (response : Option Response) where
  pub spent_unsettled : Spending name repeated bank image sector response → Settling name repeated bank image sector response → ⊥
  spent_unsettled e f = let q : Spent ≡ Settled = sym e ∙ f in no_way cc

  pub spent_unstopped : (why : Why) → Spending name repeated bank image sector response → Stopping why name repeated bank image sector response → ⊥
  spent_unstopped why e f = let q : Spent ≡ Stops why = sym e ∙ f in no_way cc

  pub stopped_unsettled : (why : Why) → Stopping why name repeated bank image sector response → Settling name repeated bank image sector response → ⊥
  stopped_unsettled why e f = let q : Stops why ≡ Settled = sym e ∙ f in no_way cc

  pub stopped_once : (why other : Why) → Stopping why name repeated bank image sector response
      → Stopping other name repeated bank image sector response
      → why ≡ other
  stopped_once why other e f = let q : Stops why ≡ Stops other = sym e ∙ f in cc

  pub spent_else : (Settling name repeated bank image sector response → ⊥) → ((why : Why) → Stopping why name repeated bank image sector response → ⊥)
      → Spending name repeated bank image sector response
  spent_else f g = by (judge_of name repeated bank image sector response) refl
    where
      by : (v : Verdict) → judge_of name repeated bank image sector response ≡ v → judge_of name repeated bank image sector response ≡ Spent
      by Settled e = absurd (f e)
      by Spent e = e
      by (Stops why) e = absurd (g why e)

module _ (command : Command) (repeated : Bool) (response : Option Response) (why : Why) where
  own_stopped : (declined : Verdict) → own_verdict command repeated declined response ≡ Stops why
      → (response ≡ Some (Plain command 0x15)) × (repeated ≡ true) × (declined ≡ Stops why)
  unfolding own_verdict
  own_stopped declined =
      let Out : Type 0 = (response ≡ Some (Plain command 0x15)) × (repeated ≡ true) × (declined ≡ Stops why) in
      let is : ℕ → Bool = λ k. option_eq eqb (own_result command response) (Some k) in
      split (λ (v : Verdict). v ≡ Stops why → Out) (is 0x06)
      (λ _ e. no_way cc)
      (λ _. split (λ (v : Verdict). v ≡ Stops why → Out) (repeated && is 0x15)
      (λ t e. (
        own_reads command response 0x15 (and_right repeated (is 0x15) t),
        and_left repeated (is 0x15) t,
        e,
      ))
      (λ _ e. no_way cc))

  -- mode start, write start and mode end never do
  pub own_goes : own_verdict command repeated Settled response ≡ Stops why → ⊥
  own_goes e = let q : Settled ≡ Stops why = (own_stopped Settled e).2 in no_way cc

  -- the write end, by 15 to a repeated one
  pub end_stopped : own_verdict command repeated (Stops Unknown) response ≡ Stops why
      → (response ≡ Some (Plain command 0x15)) × (repeated ≡ true) × (Unknown ≡ why)
  end_stopped e =
      let o = own_stopped (Stops Unknown) e in
      let q : Stops Unknown ≡ Stops why = o.2 in
      let same : Unknown ≡ why = cc in
      (o.0, o.1, same)

pub stopped_end : (command : Command) (repeated : Bool) (response : Option Response) → response ≡ Some (Plain command 0x15) → repeated ≡ true
    → own_verdict command repeated (Stops Unknown) response ≡ Stops Unknown
unfolding own_verdict
stopped_end command repeated response e t = rw (own_result_lem command response 0x15 e, t)

pub version_goes : (response : Option Response) (why : Why) → version_verdict response ≡ Stops why → ⊥
version_goes None why e = no_way cc
version_goes (Some (Plain command result)) why e = no_way cc
version_goes (Some (Error result)) why e = no_way cc
version_goes (Some (Target bank)) why e = no_way cc
version_goes (Some (Firmware id major minor revision)) why e = no_way cc
version_goes (Some (Written sector response write crc)) why e = no_way cc

pub packet_goes : (image : List ℕ) (sector : ℕ) (response : Option Response) (why : Why) → packet_verdict image sector response ≡ Stops why → ⊥
packet_goes image sector None why e = no_way cc
packet_goes image sector (Some (Plain command result)) why e = no_way cc
packet_goes image sector (Some (Error result)) why e = no_way cc
packet_goes image sector (Some (Target bank)) why e = no_way cc
packet_goes image sector (Some (Firmware id major minor revision)) why e = no_way cc
packet_goes image sector (Some (Written number result write crc)) why e =
    split (λ (v : Verdict). v ≡ Stops why → ⊥) (fields_awaited sector number result write)
    (λ _. split (λ (v : Verdict). v ≡ Stops why → ⊥) (eqb crc (crc_of (sector_of image sector))) (λ _ q. no_way cc) (λ _ q. no_way cc))
    (λ _ q. no_way cc)
    e

-- the bank, by one that is not the image's
other_bank : (target bank : Bank) → eqb (bank_number target) (bank_number bank) ≡ false → target ≡ other_of bank
other_bank Zero Zero e = absurd (false≢true (sym e))
other_bank Zero One e = refl
other_bank One Zero e = refl
other_bank One One e = absurd (false≢true (sym e))

pub bank_stopped : (bank : Bank) (response : Option Response) (why : Why) → bank_verdict bank response ≡ Stops why
    → (response ≡ Some (Target (other_of bank))) × (WrongBank ≡ why)
bank_stopped bank None why e = no_way cc
bank_stopped bank (Some (Plain command result)) why e = no_way cc
bank_stopped bank (Some (Error result)) why e = no_way cc
bank_stopped bank (Some (Target target)) why e =
    split (λ (v : Verdict). v ≡ Stops why → (Some (Target target) ≡ Some (Target (other_of bank))) × (WrongBank ≡ why)) (eqb (bank_number target) (bank_number bank))
    (λ _ q. no_way cc)
    (λ f q. let same : WrongBank ≡ why = cc in (ap (λ (x : Bank). Some (Target x)) (other_bank target bank f), same))
    e
bank_stopped bank (Some (Firmware id major minor revision)) why e = no_way cc
bank_stopped bank (Some (Written sector response write crc)) why e = no_way cc

pub stopped_bank : (bank : Bank) → bank_verdict bank (Some (Target (other_of bank))) ≡ Stops WrongBank
stopped_bank Zero = refl
stopped_bank One = refl

-- ---- how an event moves the record

pub data Moved (count tries : ℕ) (name : Name) (gone : ℕ) (settling : Type 0) : Stand → Type 0 where
  onward : settling → Moved count tries name gone settling (following_of name count)
  again : (settling → ⊥) → gone < tries → Moved count tries name gone settling (At name (gone + 1))
  up : {why : Why} → (settling → ⊥) → Moved count tries name gone settling (GaveUp name why)

module _ (name : Name) (gone : ℕ) (bank : Bank) (image : List ℕ) (sector : ℕ) (response : Option Response) where
  pub moved_by : (count tries : ℕ)
      → Moved count tries name gone (Settling name (leb 2 gone) bank image sector response)
      (moved_of name gone tries count (judge_of name (leb 2 gone) bank image sector response))
  unfolding again_of
  moved_by count tries = by (judge_of name (leb 2 gone) bank image sector response) refl
    where
      M : Stand → Type 0
      M = Moved count tries name gone (Settling name (leb 2 gone) bank image sector response)

      by : (v : Verdict) → judge_of name (leb 2 gone) bank image sector response ≡ v
          → Moved count tries name gone (Settling name (leb 2 gone) bank image sector response) (moved_of name gone tries count v)
      by Settled e = onward e
      by Spent e = split M (ltb gone tries) (λ t. again (λ q. no_way cc) (ltb-true gone tries t)) (λ _. up (λ q. no_way cc))
      by (Stops why) e = up (λ q. no_way cc)

-- the same with what brought it about
pub data Stepped (count tries : ℕ) (name : Name) (gone : ℕ) (settling spending : Type 0) (stopping : Why → Type 0) : Stand → Type 0 where
  went_on : settling → Stepped count tries name gone settling spending stopping (following_of name count)
  went_again : spending → gone < tries → Stepped count tries name gone settling spending stopping (At name (gone + 1))
  went_up : spending → tries ≤ gone → Stepped count tries name gone settling spending stopping (GaveUp name Tries)
  stopped_up : {why : Why} → stopping why → Stepped count tries name gone settling spending stopping (GaveUp name why)

module _ (name : Name) (gone : ℕ) (bank : Bank) (image : List ℕ) (sector : ℕ) (response : Option Response) where
  pub stepped_by : (count tries : ℕ)
      → Stepped count tries name gone (Settling name (leb 2 gone) bank image sector response) (Spending name (leb 2 gone) bank image sector response)
      (λ (why : Why). Stopping why name (leb 2 gone) bank image sector response)
      (moved_of name gone tries count (judge_of name (leb 2 gone) bank image sector response))
  unfolding again_of
  stepped_by count tries = by (judge_of name (leb 2 gone) bank image sector response) refl
    where
      M : Stand → Type 0
      M =
          Stepped count tries name gone (Settling name (leb 2 gone) bank image sector response) (Spending name (leb 2 gone) bank image sector response)
          (λ (why : Why). Stopping why name (leb 2 gone) bank image sector response)

      by : (v : Verdict) → judge_of name (leb 2 gone) bank image sector response ≡ v
          → Stepped count tries name gone (Settling name (leb 2 gone) bank image sector response) (Spending name (leb 2 gone) bank image sector response)
          (λ (why : Why). Stopping why name (leb 2 gone) bank image sector response) (moved_of name gone tries count v)
      by Settled e = went_on e
      by Spent e = split M (ltb gone tries) (λ t. went_again e (ltb-true gone tries t)) (λ t. went_up e (ltb-false gone tries t))
      by (Stops why) e = stopped_up e

-- silence spends a try, and the request goes out again while one is left
module _ (repeated : Bool) where
  own_silence : (command : Command) (declined : Verdict) → own_verdict command repeated declined None ≡ Spent
  unfolding own_verdict
  own_silence command declined = rw (and_false repeated)

  pub silence_judged : (name : Name) (bank : Bank) (image : List ℕ) (sector : ℕ) → Spending name repeated bank image sector None
  silence_judged ModeStart bank image sector = own_silence command.ModeStart Settled
  silence_judged VersionInfo bank image sector = refl
  silence_judged BankInfo bank image sector = refl
  silence_judged WriteStart bank image sector = own_silence command.WriteStart Settled
  silence_judged (Packet p) bank image sector = refl
  silence_judged WriteEnd bank image sector = own_silence command.WriteEnd (Stops Unknown)
  silence_judged ModeEnd bank image sector = own_silence command.ModeEnd Settled

  pub silence_repeats : (name : Name) (gone tries count : ℕ) (bank : Bank) (image : List ℕ) (sector : ℕ) → gone < tries
      → moved_of name gone tries count (judge_of name repeated bank image sector None) ≡ At name (gone + 1)
  silence_repeats name gone tries count bank image sector h =
      ap (moved_of name gone tries count) (silence_judged name bank image sector) ∙ sym (goes_again name gone tries h)

  pub silence_spends : (name : Name) (bank : Bank) (image : List ℕ) (sector : ℕ) → Settling name repeated bank image sector None → ⊥
  silence_spends name bank image sector e = let q : Spent ≡ Settled = sym (silence_judged name bank image sector) ∙ e in no_way cc

-- ---- a record that may be any

-- what was refused left the record and the buffer
pub record Kept (night : Night) (image before : List ℕ) (c : Called) : Type 0 where
  pub same : c.night ≡ night
  pub buffer : buffer_by image before c ≡ before

module _ (night : Night) (response : Option Response) (image before : List ℕ) where
  abbrev Refusing : Called → Type 0
  Refusing c = (next_number c.next ≡ 0 → ⊥) → Kept night image before c

  over_kept : (p : ℕ) (end : Next) → Refusing (over_of night p end image (length before))
  unfolding over_of
  over_kept p end = by (looked_of image night.n night.tries (length before) p)
    where
      by : (l : Result Place Refusal) → Refusing (end_told night end l)
      by (Err why) h = record { same = refl; buffer = refl }
      by (Ok place) h = absurd (h refl)

  hand_kept : (name : Name) (gone : ℕ) → Refusing (at_hand_of night name gone response image (length before))
  unfolding at_hand_of
  hand_kept name gone = by (looked_of image night.n night.tries (length before) (number_of name))
    where
      by : (l : Result Place Refusal) → Refusing (judged night name gone response image l)
      by (Err why) h = record { same = refl; buffer = refl }
      by (Ok place) h = absurd (h refl)

  pub step_kept : Refusing (step_of night response image (length before))
  step_kept = by night.stand
    where
      by : (stand : Stand) → Refusing (by_stand night response image (length before) stand)
      by NotBegun h = absurd (h refl)
      by (At name gone) h = hand_kept name gone h
      by Finished h = over_kept 0 next.Finished h
      by (GaveUp name why) h = over_kept (number_of name) (next.GaveUp name why) h

-- ---- what has gone out T times does not go out again

module _ (name : Name) (size : ℕ) where
  abbrev Other : Result Next Refusal → Type 0
  Other told = told ≡ Ok (next.Send name size) → ⊥

  -- the request behind one is another
  module _ (image : List ℕ) (bank : Bank) (n : ℕ) where
    follows-other : (k : Name) (count : ℕ) → k ≡ name → Other (Ok (next_of image bank n (following_of k count)))
    follows-other ModeStart count e q = no_way cc
    follows-other VersionInfo count e q = no_way cc
    follows-other BankInfo count e q = no_way cc
    follows-other WriteStart count e q = no_way cc
    follows-other (Packet p) count e q =
        split (λ (s : Stand). Other (Ok (next_of image bank n s))) (ltb (p + 1) count)
        (λ _ r. let same : p + 1 ≡ p = cc in absurd (omega arith))
        (λ _ r. no_way cc)
        q
    follows-other WriteEnd count e q = no_way cc
    follows-other ModeEnd count e q = no_way cc

    moved_other : (gone tries count : ℕ) (verdict : Verdict) → tries ≤ gone → Other (Ok (next_of image bank n (moved_of name gone tries count verdict)))
    unfolding again_of
    moved_other gone tries count Settled h q = follows-other name count refl q
    moved_other gone tries count Spent h q =
        subst (λ (t : Bool). Other (Ok (next_of image bank n (cond t (At name (gone + 1)) (GaveUp name Tries))))) (sym (le-ltb gone tries h)) (λ r. no_way cc) q
    moved_other gone tries count (Stops why) h q = no_way cc

  pub not_again : (night : Night) (response : Option Response) (image : List ℕ) (room gone : ℕ) → night.stand ≡ At name gone → night.tries ≤ gone
      → (step_of night response image room).next ≡ Ok (next.Send name size) → ⊥
  unfolding at_hand_of
  not_again night response image room gone e h q =
      by (looked_of image night.n night.tries room (number_of name)) (sym (ap (λ (s : Stand). (by_stand night response image room s).next) e) ∙ q)
    where
      by : (l : Result Place Refusal) → Other (judged night name gone response image l).next
      by (Err why) s = no_way cc
      by (Ok place) s =
          moved_other image night.bank night.n gone night.tries place.count (judge_of name (leb 2 gone) night.bank image place.sector response) h s

-- ---- what has gone out T times, and settles nothing, is given up

refusal_counts : (why : Refusal) → refusal_number why ≡ 0 → ⊥
refusal_counts BadN e = omega arith
refusal_counts BadLength e = omega arith
refusal_counts BadTries e = omega arith
refusal_counts NoPacket e = omega arith

module _ (night : Night) (response : Option Response) (image : List ℕ) (size : ℕ) (name : Name) (gone : ℕ) where
  spent_up : (place : Place) → night.tries ≤ gone → Spending name (leb 2 gone) night.bank image place.sector response
      → judged night name gone response image (Ok place) ≡ called (standing (GaveUp name Tries) night) (Ok (next.GaveUp name Tries))
  spent_up place h e =
      ap (λ (s : Stand). gone_on image (standing s night)) (ap (moved_of name gone night.tries place.count) e ∙ sym (given_up name gone night.tries h))

  pub gives_up : night.stand ≡ At name gone → night.tries ≤ gone → next_number (step_of night response image size).next ≡ 0
      → Spending name (leb 2 gone) night.bank image (packet_sector image night.n (number_of name)) response
      → step_of night response image size ≡ called (standing (GaveUp name Tries) night) (Ok (next.GaveUp name Tries))
  unfolding at_hand_of
  gives_up e h z t =
      let here : step_of night response image size ≡ at_hand_of night name gone response image size = ap (by_stand night response image size) e in
      here ∙ by (looked_of image night.n night.tries size (number_of name)) refl (sym (ap (λ (c : Called). next_number c.next) here) ∙ z)
    where
      by : (l : Result Place Refusal) → l ≡ looked_of image night.n night.tries size (number_of name)
          → next_number (judged night name gone response image l).next ≡ 0
          → judged night name gone response image l ≡ called (standing (GaveUp name Tries) night) (Ok (next.GaveUp name Tries))
      by (Err why) q no-refusal = absurd (refusal_counts why no-refusal)
      by (Ok place) q no-refusal =
          let given = lent image night.n night.tries size (number_of name) place q in
          spent_up place h (subst (λ (x : ℕ). Spending name (leb 2 gone) night.bank image x response) (sym given.sector_is) t)

-- ---- the refusals, in the paper's numbers

module _ (night : Night) (response : Option Response) (image before : List ℕ) where
  pub step_says_lem : next_number (step_of night response image (length before)).next ≡ step_says image night (length before) night.stand
  step_says_lem = by night.stand refl
    where
      by : (stand : Stand) → night.stand ≡ stand
          → next_number (by_stand night response image (length before) stand).next ≡ step_says image night (length before) stand
      by NotBegun e = refl
      by (At name gone) e = hand_says night name gone response image (length before)
      by Finished e = over_says night 0 next.Finished image (length before)
      by (GaveUp name why) e = over_says night (number_of name) (next.GaveUp name why) image (length before)

  pub unbegun_told : night.stand ≡ NotBegun → step_of night response image (length before) ≡ called night (Ok next.NotBegun)
  unbegun_told e = ap (by_stand night response image (length before)) e

module _ (image : List ℕ) (bank : Bank) (n tries : ℕ) (before : List ℕ) where
  pub start_says : next_number (start_of image bank n tries (length before)).next ≡ lent_says image n tries (length before) 0
  unfolding start_of
  start_says = by (looked_of image n tries (length before) 0) refl
    where
      by : (l : Result Place Refusal) → l ≡ looked_of image n tries (length before) 0
          → next_number (begun image bank n tries l).next ≡ lent_says image n tries (length before) 0
      by (Err why) e = says_refused image n tries (length before) 0 why e
      by (Ok place) e = says_good image n tries (length before) 0 place e

  -- a refused start: the buffer is as it was, and the record stands nowhere
  pub start_kept : (next_number (start_of image bank n tries (length before)).next ≡ 0 → ⊥)
      → Kept (night_of bank n tries NotBegun) image before (start_of image bank n tries (length before))
  unfolding start_of
  start_kept = by (looked_of image n tries (length before) 0)
    where
      by : (l : Result Place Refusal) → (next_number (begun image bank n tries l).next ≡ 0 → ⊥)
          → Kept (night_of bank n tries NotBegun) image before (begun image bank n tries l)
      by (Err why) h = record { same = refl; buffer = refl }
      by (Ok place) h = absurd (h refl)
