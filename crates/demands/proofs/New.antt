-- A new client is as asked.
-- Assumes nothing.
use mathlib.Core.Path.{◌≡◌, refl, ap, ap₂, ◌∙◌}
use mathlib.Core.Bool.{false}
use mathlib.Core.List.{List, [], ◌∷◌}
use Prim.Native.Nat.{ℕ}
use Rattle.layout.specs.Layout.{good_n}
use Rattle.client.specs.Body.{banks_good, next_body}
use Rattle.client.specs.Host.{new_of}
use Rattle.calls.specs.Call.{Board}
use Rattle.demands.specs.Board.{Input, Initiate, Terminate, Datagram, Outcome, outcomes, step_machine}
use Rattle.demands.specs.Demand1.{refused}
use Rattle.demands.specs.New.{lent_buffer, all_refused, MeetsNew}
use Rattle.demands.proofs.Banks.{body_meets}
use Rattle.demands.proofs.Rows.{comes}

module _ (b : Board) (g : good_n b.client.fixed.n ≡ false) where
  one_refused : (i : Input) → step_machine b i ≡ refused b (lent_buffer i) 3
  one_refused Initiate = comes b Initiate _ (rw g)
  one_refused Terminate = comes b Terminate _ (rw g)
  one_refused (Datagram call) = comes b (Datagram call) _ (rw g)

  all_refused_lem : (is : List Input) → outcomes step_machine b is ≡ all_refused b is
  all_refused_lem [] = refl
  all_refused_lem (i ∷ is) =
      ap₂ ◌∷◌ (one_refused i) (ap (λ (o : Outcome). outcomes step_machine o.board is) (one_refused i) ∙ all_refused_lem is)

no_banks : (n bank0 bank1 : ℕ) → good_n n ≡ false → banks_good n bank0 bank1 ≡ false
unfolding banks_good
no_banks n bank0 bank1 g = rw g

pub new_meets : MeetsNew new_of step_machine next_body
unfolding new_of
new_meets =
    record {
      made = λ n running major minor revision. refl;
      good = λ n running major minor revision g. rw g;
      bad = λ n running major minor revision g. rw g;
      later = λ n running major minor revision g pair is. all_refused_lem _ g is;
      bodies = λ n running major minor revision g bank0 bank1 i. body_meets.wrong _ bank0 bank1 i (no_banks n _ _ g);
    }
