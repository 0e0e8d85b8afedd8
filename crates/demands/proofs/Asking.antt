-- The sender's requests as the client reads them.
-- Assumes nothing.
use Rattle.std.specs.Prelude.{Some}
use mathlib.Core.Path.{◌≡◌, refl, sym, ap, ap₂, ◌∙◌}
use mathlib.Core.Bool.{Bool, true}
use mathlib.Core.List.{List, ◌++◌}
use Prim.Native.Nat.{ℕ, ◌+◌, ◌-◌, ◌^◌, ◌<◌}
use native.Mathlib.Omega.{arith}
use lib.Dec.{eqb}
use lib.ListN.{length, take, length-append}
use lib.Seq.{take_at, drop_at, take_all}
use borrow.Author.Tests.{eq-eqb, eqb-true}
use Rattle.buffer.specs.Number.{number_of, bytes_of, number_at}
use Rattle.buffer.proofs.Bools.{and_left, and_right}
use Rattle.buffer.proofs.Numbers.{number_inside, number_bytes, length_bytes}
use Rattle.frame.specs.Read.{read_of, parameters_in}
use Rattle.frame.specs.declared.read.Frame.TheVariants.{Control}
use Rattle.frame.proofs.RoundTrip.{control_back, control_parameters}
use Rattle.layout.specs.declared.Bank.{Bank}
use Rattle.layout.specs.declared.Bank.TheVariants.{Zero, One}
use Rattle.layout.specs.Layout.{good_n, bank_size, other_of, start_of, end_of}
use Rattle.layout.proofs.Layouts.{start_small, good_low, good_high, end_good}
use Rattle.commands.specs.Command.{request_code}
use Rattle.sender.specs.declared.request.Request.{Request}
use Rattle.sender.specs.declared.request.Request.TheVariants.{WriteStart}
use Rattle.sender.specs.Request.{command_of, asks_for, request_frame}
use Rattle.decision.specs.declared.plan.Fixed.{Fixed}
use Rattle.decision.specs.Plan.{addresses_good}

pub request_read : (request : Request) → read_of (request_frame request) ≡ Some (Control (request_code (command_of request)) (length (asks_for request)))
request_read request = sym (control_back (request_code (command_of request)) (asks_for request))

-- two numbers of four bytes, one behind the other
module _ (a b : ℕ) where
  abbrev both : List ℕ
  both = bytes_of 4 a ++ bytes_of 4 b

  eight : length both ≡ 8
  eight = length-append (bytes_of 4 a) (bytes_of 4 b) ∙ ap₂ (λ (x y : ℕ). x + y) (length_bytes 4 a) (length_bytes 4 b)

  pub number_first : a < 256 ^ 4 → number_at 4 both 0 ≡ a
  number_first h =
      number_inside 4 both 0 (omega (arith, eight)) ∙ ap number_of (take_at (bytes_of 4 a) (bytes_of 4 b) 4 (length_bytes 4 a)) ∙ number_bytes 4 a h

  pub number_second : b < 256 ^ 4 → number_at 4 both 4 ≡ b
  number_second h =
      number_inside 4 both 4 (omega (arith, eight))
      ∙ ap (λ (l : List ℕ). number_of (take 4 l)) (drop_at (bytes_of 4 a) (bytes_of 4 b) 4 (length_bytes 4 a))
      ∙ ap number_of (take_all 4 (bytes_of 4 b) (omega (arith, length_bytes 4 b)))
      ∙ number_bytes 4 b h

pub start_read : (bank : Bank) (n : ℕ) → read_of (request_frame (WriteStart bank n)) ≡ Some (Control 0x40 8)
start_read bank n = request_read (WriteStart bank n) ∙ ap (λ (x : ℕ). Some (Control 0x40 x)) (eight (start_of bank) (end_of bank n))

-- what a datagram's parameters say, as a pair of addresses
abbrev pub pair_good : Fixed → List ℕ → Type 0
pair_good fixed datagram =
    addresses_good fixed.n fixed.running (number_at 4 (parameters_in datagram) 0) (number_at 4 (parameters_in datagram) 4) ≡ true

-- the pair is the target's
pub start_addressed : (fixed : Fixed) → good_n fixed.n ≡ true → pair_good fixed (request_frame (WriteStart (other_of fixed.running) fixed.n))
unfolding addresses_good
start_addressed fixed g =
    let bank : Bank = other_of fixed.running in
    let s = start_small bank in
    let low = good_low fixed.n g in
    let high = good_high fixed.n g in
    let e : start_of bank + bank_size fixed.n - 1 ≡ end_of bank fixed.n = end_good fixed.n bank (start_of bank) g refl in
    let p = control_parameters 0x40 (bytes_of 4 (start_of bank) ++ bytes_of 4 (end_of bank fixed.n)) in
    rw (
      p,
      eq-eqb _ _ (number_first (start_of bank) (end_of bank fixed.n) (omega arith)),
      eq-eqb _ _ (number_second (start_of bank) (end_of bank fixed.n) (omega arith)),
    )

-- ---- and a pair that is the target's tells the bank and N

start_one : (x y : Bank) → start_of x ≡ start_of y → x ≡ y
start_one Zero Zero e = refl
start_one Zero One e = absurd (omega (arith, e))
start_one One Zero e = absurd (omega (arith, e))
start_one One One e = refl

pub start_tells : (fixed : Fixed) (bank : Bank) (n : ℕ) → good_n n ≡ true → good_n fixed.n ≡ true → pair_good fixed (request_frame (WriteStart bank n))
    → (other_of fixed.running ≡ bank) × (fixed.n ≡ n)
unfolding addresses_good
start_tells fixed bank n g h e =
    let target : Bank = other_of fixed.running in
    let p = control_parameters 0x40 (bytes_of 4 (start_of bank) ++ bytes_of 4 (end_of bank n)) in
    let s = start_small bank in
    let low = good_low n g in
    let high = good_high n g in
    let ends : start_of bank + bank_size n - 1 ≡ end_of bank n = end_good n bank (start_of bank) g refl in
    let first : number_at 4 (parameters_in (request_frame (WriteStart bank n))) 0 ≡ start_of bank =
    ap (λ (l : List ℕ). number_at 4 l 0) p ∙ number_first (start_of bank) (end_of bank n) (omega arith) in
    let second : number_at 4 (parameters_in (request_frame (WriteStart bank n))) 4 ≡ end_of bank n =
    ap (λ (l : List ℕ). number_at 4 l 4) p ∙ number_second (start_of bank) (end_of bank n) (omega arith) in
    let parameters : List ℕ = parameters_in (request_frame (WriteStart bank n)) in
    let starts-so : Bool = eqb (number_at 4 parameters 0) (start_of target) in
    let ends_so : Bool = eqb (number_at 4 parameters 4) (end_of target fixed.n) in
    let same : bank ≡ target = start_one bank target (sym first ∙ eqb-true _ _ (and_left starts-so ends_so e)) in
    let other : end_of bank n ≡ end_of target fixed.n = sym second ∙ eqb-true _ _ (and_right starts-so ends_so e) in
    let own-low = good_low fixed.n h in
    let own : start_of target + bank_size fixed.n - 1 ≡ end_of target fixed.n = end_good fixed.n target (start_of target) h refl in
    let starts : start_of bank ≡ start_of target = ap start_of same in
    (sym same, omega (arith, starts, ends, own, other))
