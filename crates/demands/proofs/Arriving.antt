-- What comes of a datagram on any board, whatever it lends: it is refused, or the first row behind the frame's whose test holds decides.
-- Assumes nothing.
use Rattle.std.specs.Prelude.{Option, None, Some}
use mathlib.Core.Path.{◌≡◌, refl, sym, ap, subst, ◌∙◌}
use mathlib.Core.Bool.{Bool, true, false, not, ◌&&◌, cond, false≢true}
use mathlib.Core.List.{List, [], ◌∷◌}
use Prim.Native.Nat.{ℕ, zero, suc, ◌≤◌}
use lib.Dec.{eqb}
use lib.ListN.{length, drop}
use borrow.Author.Tests.{not-true}
use Rattle.buffer.proofs.Bools.{and_left, and_right}
use Rattle.frame.specs.Frame.{frame_error}
use Rattle.frame.specs.Read.{read_of}
use Rattle.layout.specs.Layout.{good_n, bank_size}
use Rattle.layout.specs.Pair.{bank_in}
use Rattle.exchange.specs.State.{is_closed}
use Rattle.decision.specs.Plan.{lent_good}
use Rattle.decision.proofs.Planning.{lent}
use Rattle.calls.specs.Call.{Board}
use Rattle.demands.specs.Board.{LentCall, Input, Datagram, Outcome, lent_of, lent_target, step_machine}
use Rattle.demands.specs.Demand1.{Row, first_of, is_fault, refused, answered, after_frame, call_rows, table_of}
use Rattle.demands.proofs.Demand1.{table}
use Rattle.demands.proofs.Rows.{Heard, given, comes}

-- ---- rows, one behind the other: each where its test holds and none before it did

pub data First (P : Outcome → Type 0) : List Row → Type 0 where
  last : First P []
  first : {r : Row} {rows : List Row} → (r.when ≡ true → P r.comes) → (r.when ≡ false → First P rows) → First P (r ∷ rows)

pub skip : {P : Outcome → Type 0} {r : Row} {rows : List Row} → r.when ≡ false → First P rows → First P (r ∷ rows)
skip e rest = first (λ t. absurd (false≢true (sym e ∙ t))) (λ _. rest)

-- none of the first k does
abbrev pub passed : ℕ → List Row → Bool
passed zero rows = true
passed (suc k) [] = true
passed (suc k) (r ∷ rows) = not r.when && passed k rows

pub skips : {P : Outcome → Type 0} {rows : List Row} (k : ℕ) → passed k rows ≡ true → First P (drop k rows) → First P rows
skips {P} {rows} k e rest = by k rows e rest
  where
    by : (k : ℕ) (rows : List Row) → passed k rows ≡ true → First P (drop k rows) → First P rows
    by zero rows e rest = rest
    by (suc k) [] e rest = last
    by (suc k) (r ∷ rows) e rest =
        skip (not-true r.when (and_left (not r.when) (passed k rows) e)) (by k rows (and_right (not r.when) (passed k rows) e) rest)

-- the first of them does
pub decides : {P : Outcome → Type 0} {r : Row} {rows : List Row} → r.when ≡ true → P r.comes → First P (r ∷ rows)
decides e h = first (λ _. h) (λ t. absurd (false≢true (sym t ∙ e)))

is_some : Option Outcome → Bool
is_some None = false
is_some (Some o) = true

pub first_of_lem : (P : Outcome → Type 0) (rows : List Row) (o : Outcome) → First P rows → first_of rows ≡ Some o → P o
unfolding is_some
first_of_lem P [] o last e = absurd (false≢true (ap is_some e))
first_of_lem P (r ∷ rows) o (first h hs) e = by r.when refl (λ f. first_of_lem P rows o (hs f))
  where
    by : (t : Bool) → r.when ≡ t → (r.when ≡ false → first_of rows ≡ Some o → P o) → P o
    by true t rest = subst P (ap (given o) (sym (ap (λ (x : Bool). cond x (Some r.comes) (first_of rows)) t) ∙ e)) (h t)
    by false t rest = rest t (sym (ap (λ (x : Bool). cond x (Some r.comes) (first_of rows)) t) ∙ e)

-- a host command, by its own rows
pub hosted : (P : Outcome → Type 0) (b : Board) (i : Input) → First P (table_of b i) → P (step_machine b i)
hosted P b i rows = first_of_lem P (table_of b i) (step_machine b i) rows (table b i)

-- ---- a datagram

module _ (b : Board) (call : LentCall) where
  abbrev runs : Bool
  runs = eqb (length (bank_in b.client.fixed.running (lent_of call.lent b.pair))) (bank_size b.client.fixed.n)

  abbrev lengths : Bool
  lengths = lent_good b.client.fixed.n (length (lent_target b call)) (length call.marks) (length call.address) (length call.buffer)

  pub roomy : Heard b call → 14 ≤ length call.buffer
  roomy h =
      (lent b.client.fixed.n (length (lent_target b call)) (length call.marks) (length call.address) (length call.buffer) h.lengths).roomy

  pub came : (P : Outcome → Type 0) → ((number : ℕ) → P (refused b call.buffer number))
      → (is_fault (read_of call.datagram) ≡ true → Heard b call → P (answered b call frame_error))
      → (is_fault (read_of call.datagram) ≡ false → Heard b call → First P (after_frame b call (read_of call.datagram)))
      → P (step_machine b (Datagram call))
  came P r fault rows = by (good_n b.client.fixed.n) runs lengths (is_closed b.client.state) (is_fault (read_of call.datagram)) refl refl refl refl refl
    where
      refuses : (k : ℕ) → first_of (call_rows b call) ≡ Some (refused b call.buffer k) → P (step_machine b (Datagram call))
      refuses k e = subst P (sym (comes b (Datagram call) (refused b call.buffer k) e)) (r k)

      by : (g u l c f : Bool) → good_n b.client.fixed.n ≡ g → runs ≡ u → lengths ≡ l → is_closed b.client.state ≡ c
          → is_fault (read_of call.datagram) ≡ f → P (step_machine b (Datagram call))
      by false u l c f eg eu el ec ef = refuses 3 (rw eg)
      by true false l c f eg eu el ec ef = refuses 2 (rw (eg, eu))
      by true true false c f eg eu el ec ef = refuses 2 (rw (eg, eu, el))
      by true true true true f eg eu el ec ef = refuses 1 (rw (eg, eu, el, ec))
      by true true true false true eg eu el ec ef =
          subst P (sym (comes b (Datagram call) (answered b call frame_error) (rw (eg, eu, el, ec, ef))))
          (fault ef (record { good = eg; runs = eu; lengths = el; live = ec }))
      by true true true false false eg eu el ec ef =
          let rest : first_of (call_rows b call) ≡ first_of (after_frame b call (read_of call.datagram)) = rw (eg, eu, el, ec, ef) in
          first_of_lem P (after_frame b call (read_of call.datagram)) (step_machine b (Datagram call))
          (rows ef (record { good = eg; runs = eu; lengths = el; live = ec }))
          (sym rest ∙ table b (Datagram call))
