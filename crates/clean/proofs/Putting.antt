-- The runs put to their list, one behind the other.
-- Assumes nothing.
use mathlib.Core.Path.{◌≡◌, refl, sym, ap, ◌∙◌}
use mathlib.Core.Bool.{Bool, true}
use mathlib.Core.List.{List, [], ◌∷◌, ◌++◌}
use Prim.Native.Nat.{ℕ, ◌+◌, ◌-◌, ◌*◌, ◌≤◌, ◌<◌}
use native.Mathlib.Nat.{add-zero}
use native.Mathlib.Omega.{arith}
use lib.ListN.{length, length-append}
use lib.Seq.{sets, length-sets}
use Rattle.buffer.proofs.Places.{sets_next}
use Rattle.bank.specs.declared.stretch.Stretch.{Stretch}
use Rattle.bank.specs.declared.gaps.Gap.{Gap}
use Rattle.clean.specs.declared.list.Progress.{Progress}
use Rattle.clean.specs.Runs.{run_before, open_run, runs_at, flat}
use Rattle.clean.specs.Walk.{Reached, ListsOn, ListsGap, met}
use Rattle.clean.proofs.Runs.{before_none, before_some, open-old, runs-old, open_small, Quiet, quiet-open, quiet-runs}

-- THE NUMBERS of runs
pub flat_none : (list : List ℕ) (runs : List Stretch) → runs ≡ [] → list ≡ sets list 0 (flat runs)
unfolding flat
flat_none list runs e = rw e

pub flat_length : (runs : List Stretch) → length (flat runs) ≡ 2 * length runs
unfolding flat
flat_length [] = refl
flat_length (r ∷ runs) = let l = flat_length runs in omega arith

flat_append : (a b : List Stretch) → flat (a ++ b) ≡ flat a ++ flat b
unfolding flat
flat_append [] b = refl
flat_append (r ∷ a) b = rw (flat_append a b)

-- A RUN THAT ENDS at index `at`, or none: what is listed then
module _ (listed : Progress) (at : ℕ) (runs : List ℕ) where
  abbrev ended : List Stretch
  ended = run_before at listed.length

  pub close_none :
      listed.length ≡ 0
      → (listed ≡ record { runs = listed.runs + length ended; length = 0 }) × (runs ≡ sets runs (2 * listed.runs) (flat ended))
  unfolding flat
  close_none e = rw (before_none at listed.length e) ((λ i. record { runs = sym (add-zero listed.runs) i; length = e i }), refl)

  module _ (n : listed.length ≡ 0 → ⊥) where
    pub close-one : length ended ≡ 1
    close-one = rw (before_some at listed.length n)

    pub close-some :
        {after : List ℕ} → after ≡ sets runs (2 * listed.runs) ((at - listed.length) ∷ listed.length ∷ [])
        → (◌≡◌ {A = Progress} (record { runs = listed.runs + 1; length = 0 }) (record { runs = listed.runs + length ended; length = 0 }))
        × (after ≡ sets runs (2 * listed.runs) (flat ended))
    unfolding flat
    close-some e = rw (before_some at listed.length n) (refl, e)

-- LISTED SO FAR, of the first k bytes
module _ (f : ℕ → Bool) (k : ℕ) {listed : Progress} (reached : Reached f k listed) where
  run_is : run_before k listed.length ≡ open_run f k
  run_is = rw reached.going

  -- with the run that may go on: as many as there is room for
  pub closing_met : listed.runs + length (run_before k listed.length) ≡ met f k
  closing_met = rw (run_is, reached.so_many) (sym (length-append (runs_at f k) (open_run f k)))

  pub closing_small : listed.length ≤ k
  closing_small = rw reached.going (open_small f k)

  -- an old byte more: the run goes on, and the list stays
  module _ (o : f k ≡ true) where
    pub reached-old : Reached f (k + 1) (record { runs = listed.runs; length = listed.length + 1 })
    reached-old =
        record {
          so_many = reached.so_many ∙ ap length (sym (runs-old f k o));
          going = ap (λ (n : ℕ). n + 1) reached.going ∙ sym (open-old f k o);
        }

    pub lists-old : (runs : List ℕ) → ListsOn f k (k + 1) runs runs
    lists-old runs = record { same_length = refl; listed = λ list e. e ∙ rw (runs-old f k o) }

  -- the run ends: what stands in front then
  module _ (before : List ℕ) {after : List ℕ} (put : after ≡ sets before (2 * listed.runs) (flat (run_before k listed.length))) where
    pub put-length : length after ≡ length before
    put-length = rw put (length-sets before (2 * listed.runs) (flat (run_before k listed.length)))

    pub put_next : (list : List ℕ) → before ≡ sets list 0 (flat (runs_at f k)) → after ≡ sets list 0 (flat (runs_at f k ++ open_run f k))
    put_next list e =
        put
        ∙ rw (e, run_is, flat_append (runs_at f k) (open_run f k))
        (sets_next list (flat (runs_at f k)) (flat (open_run f k)) 0 (let l = flat_length (runs_at f k) in omega (arith, reached.so_many)))

    -- and bytes follow that are not old
    module _ {to : ℕ} (h : k < to) (q : Quiet f k to) where
      pub reached-quiet : {r : Progress} → r ≡ record { runs = listed.runs + length (run_before k listed.length); length = 0 } → Reached f to r
      reached-quiet e =
          record {
            so_many = ap (λ (x : Progress). x.runs) e ∙ closing_met ∙ ap length (sym (quiet-runs f k h q));
            going = ap (λ (x : Progress). x.length) e ∙ sym (quiet-open f k h q);
          }

      pub lists-quiet : ListsOn f k to before after
      lists-quiet = record { same_length = put-length; listed = λ list e. put_next list e ∙ rw (quiet-runs f k h q) }

-- from one place to the next
pub lists_none : (f : ℕ → Bool) (k : ℕ) (runs : List ℕ) → ListsOn f k k runs runs
lists_none f k runs = record { same_length = refl; listed = λ list e. e }

pub lists_more :
    {f : ℕ → Bool} {a b c : ℕ} {before between after : List ℕ} → ListsOn f a b before between → ListsOn f b c between after → ListsOn f a c before after
lists_more p q = record { same_length = q.same_length ∙ p.same_length; listed = λ list e. q.listed list (p.listed list e) }

-- behind a gap
pub lists_gap :
    {f : ℕ → Bool} (gap : Gap) {before between after : List ℕ} {listed : Progress} → ListsOn f gap.start gap.end before between
    → Reached f gap.end listed → after ≡ sets between (2 * listed.runs) (flat (run_before gap.end listed.length))
    → ListsGap f gap before after
lists_gap {f} gap {before} {between} p reached put =
    record {
      same_length = put-length f gap.end reached between put ∙ p.same_length;
      listed = λ list e. put_next f gap.end reached between put list (p.listed list e);
    }
