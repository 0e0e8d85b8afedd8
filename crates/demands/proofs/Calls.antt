-- Datagrams one after another that are each lent both banks whole: the board after them is that of `calls`.
-- Assumes nothing.
use mathlib.Core.Path.{◌≡◌, refl, sym, ap, ap₂, ◌∙◌}
use mathlib.Core.List.{List, [], ◌∷◌, ◌++◌, append-nil}
use Prim.Native.Nat.{ℕ}
use lib.ListN.{length, take, drop}
use lib.Seq.{take-length, drop-length}
use Rattle.layout.specs.declared.Bank.{Bank}
use Rattle.layout.specs.declared.Bank.TheVariants.{Zero, One}
use Rattle.layout.specs.Layout.{other_of}
use Rattle.layout.specs.Pair.{Banks, banks, bank_in, with_bank}
use Rattle.client.specs.Step.{Carried, step_of}
use Rattle.calls.specs.Call.{Call, Board, board, stepped, board_after, after_steps}
use Rattle.demands.specs.Board.{LentCall, Input, Datagram, after, target_bank, called, step_machine}
use Rattle.demands.proofs.Steps.{pair_next, lengths_kept}

module _ (lent : Bank → ℕ) where
  abbrev lentWith : Call → LentCall
  lentWith call =
      record { datagram = call.datagram; address = call.address; marks = call.marks; buffer = call.buffer; lent = lent }

  abbrev inputs : List Call → List Input
  inputs [] = []
  inputs (call ∷ calls) = Datagram (lentWith call) ∷ inputs calls

  -- of each bank its whole length is lent
  abbrev Whole : Board → Type 0
  Whole b = (x : Bank) → lent x ≡ length (bank_in x b.pair)

  module _ (b : Board) (w : Whole b) (call : Call) where
    abbrev other : Bank
    other = other_of b.client.fixed.running

    front : (x : Bank) → take (lent x) (bank_in x b.pair) ≡ bank_in x b.pair
    front x = ap (λ (n : ℕ). take n (bank_in x b.pair)) (w x) ∙ take-length (bank_in x b.pair)

    same_step : called b (lentWith call) ≡ stepped b call
    same_step =
        ap (λ (p : Banks). step_of b.client p call.marks call.address call.buffer call.datagram)
        (ap₂ banks (front Zero) (front One))

    nothing-behind : (called b (lentWith call)).target ++ drop (lent other) (target_bank b) ≡ (stepped b call).target
    nothing-behind =
        ap₂ (λ (a d : List ℕ). a ++ d) (ap (λ (r : Carried). r.target) same_step)
        (ap (λ (n : ℕ). drop n (target_bank b)) (w other) ∙ drop-length (target_bank b))
        ∙ append-nil (stepped b call).target

    same-board : (step_machine b (Datagram (lentWith call))).board ≡ board_after b (stepped b call)
    same-board =
        ap₂ board (ap (λ (r : Carried). r.client) same_step)
        (pair_next b (lentWith call) ∙ ap (λ (l : List ℕ). with_bank other l b.pair) nothing-behind)

  pub run_is_steps : (calls : List Call) (b : Board) → Whole b → after step_machine b (inputs calls) ≡ after_steps b calls
  run_is_steps [] b w = refl
  run_is_steps (call ∷ calls) b w =
      run_is_steps calls _ (λ x. w x ∙ sym (lengths_kept b (Datagram (lentWith call)) x))
      ∙ ap (λ (next : Board). after_steps next calls) (same-board b w call)
