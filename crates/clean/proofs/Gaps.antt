-- From gap to gap: what stands at the start of each, and behind the last, and that no run goes on into one.
-- Assumes nothing.
use mathlib.Core.Path.{◌≡◌, sym, ap, ◌∙◌}
use mathlib.Core.Bool.{Bool, false, cond}
use mathlib.Core.List.{List, [], ◌++◌}
use Prim.Native.Nat.{ℕ, ◌+◌, ◌≤◌, ◌<◌}
use native.Mathlib.Omega.{arith}
use native.Mathlib.Decide.{dec_lt}
use lib.Dec.{ltb}
use lib.ListN.{length, get_or}
use borrow.Author.Tests.{lt-ltb, le-ltb}
use Rattle.buffer.proofs.Bools.{not_so}
use Rattle.bank.specs.declared.gaps.Gap.{Gap}
use Rattle.bank.specs.Gaps.{outside, gap_count, gap_start, gap_end, no_gap}
use Rattle.bank.proofs.Outside.{outside_is}
use Rattle.clean.specs.Clean.{runs_of}
use Rattle.clean.specs.Old.{old}
use Rattle.clean.specs.Runs.{open_at, open_run, runs_at}
use Rattle.clean.specs.Walk.{GoodBank, AllOutside, AtGap, MarksAt, met}
use Rattle.clean.proofs.Runs.{runs-not, met_on, Quiet, quiet-open, quiet-runs, none_open, none_runs}
use Rattle.clean.proofs.Sectors.{held-quiet}

-- a byte in the table, in a body or behind the bank is not old
old_not : (b : List ℕ) (k : ℕ) → outside b k ≡ false → old b k ≡ false
unfolding old
old_not b k o = rw o

pub old_past : (b : List ℕ) (k : ℕ) → length b ≤ k → old b k ≡ false
old_past b k h = old_not b k (not_so (outside b k) (λ o. let w = (outside_is b k o).within in omega arith))

-- marks stay behind bytes that are not old
marks_quiet : (f : ℕ → Bool) {k m : ℕ} {marks : List Bool} → MarksAt f k marks → k ≤ m → Quiet f k m → MarksAt f m marks
marks_quiet f at h q = record { room = at.room; marked = λ s l. at.marked s l ∙ sym (held-quiet f s h q) }

-- where gap i starts, or the index behind the one right behind the bank
abbrev pub reach : List ℕ → ℕ → ℕ
reach b i = cond (ltb i (gap_count b)) (gap_start b i) (length b + 1)

module _ (b : List ℕ) (gaps : List Gap) (g : GoodBank b gaps) where
  module _ (i : ℕ) (h : i < gap_count b) where
    pub start_is : (get_or gaps i no_gap).start ≡ gap_start b i
    start_is = ap (λ (gap : Gap). gap.start) (g.are.gap i h)

    pub end_is : (get_or gaps i no_gap).end ≡ gap_end b i
    end_is = ap (λ (gap : Gap). gap.end) (g.are.gap i h)

    pub reach-is : reach b i ≡ gap_start b i
    reach-is = rw (lt-ltb _ _ h)

    gap-outside : AllOutside b (gap_start b i) (gap_end b i)
    gap-outside = record { forward = g.gapped.forward i h; within = g.gapped.within i h; is_outside = λ k l m. g.gapped.gap i k h l m }

    pub at_gap :
        {runs : ℕ} → open_at (old b) (reach b i) ≡ 0 → runs ≡ length (runs_at (old b) (reach b i))
        → AtGap b (get_or gaps i no_gap) runs
    at_gap o n =
        rw (g.are.gap i h)
        (record { whole = g.whole; all_outside = gap-outside; no_run = rw reach-is at o; so_many = rw reach-is at n })

    -- from its end to the start of the next, at least one byte, and none that is old
    record Between : Type 0 where
      pub on : gap_end b i < reach b (i + 1)
      pub quiet : Quiet (old b) (gap_end b i) (reach b (i + 1))

    between : Between
    between = by (dec_lt (i + 1) (gap_count b))
      where
        by : Dec (i + 1 < gap_count b) → Between
        by (yes m) =
            record {
              on = rw (lt-ltb _ _ m) (g.gapped.next i m);
              quiet = λ j l k. old_not b j (g.gapped.body i j m l (rw (lt-ltb _ _ m) at k));
            }
        by (no m) =
            let e = g.gapped.last i (omega arith) in
            record {
              on = rw (le-ltb (i + 1) (gap_count b) (omega arith)) (omega arith);
              quiet = λ j l k. old_past b j (omega arith);
            }

    pub next-open : open_at (old b) (reach b (i + 1)) ≡ 0
    next-open = quiet-open (old b) (gap_end b i) between.on between.quiet

    pub next-runs : runs_at (old b) (reach b (i + 1)) ≡ runs_at (old b) (gap_end b i) ++ open_run (old b) (gap_end b i)
    next-runs = quiet-runs (old b) (gap_end b i) between.on between.quiet

    -- no more runs than the whole bank has
    pub gap-room : met (old b) (gap_end b i) ≤ length (runs_of b)
    unfolding runs_of
    gap-room =
        rw (runs-not (old b) (length b) (old_past b (length b) (omega arith)))
        (met_on (old b) {k = gap_end b i} {m = length b} (g.gapped.within i h))

    pub next_marks : {marks : List Bool} → MarksAt (old b) (gap_end b i) marks → MarksAt (old b) (reach b (i + 1)) marks
    next_marks m = marks_quiet (old b) m (let o = between.on in omega arith) between.quiet

  -- the first
  some : 0 < gap_count b
  some = let s = g.gapped.some in omega arith

  first_quiet : Quiet (old b) 0 (reach b 0)
  first_quiet j l k = old_not b j (g.gapped.table j (rw (reach-is 0 some) at k))

  pub first_open : open_at (old b) (reach b 0) ≡ 0
  first_open = none_open (old b) (reach b 0) first_quiet

  pub first_runs : runs_at (old b) (reach b 0) ≡ []
  first_runs = none_runs (old b) (reach b 0) first_quiet

  pub first_marks : {marks : List Bool} → MarksAt (old b) 0 marks → MarksAt (old b) (reach b 0) marks
  first_marks m = marks_quiet (old b) m (omega arith) first_quiet

  -- behind the last
  module _ (i : ℕ) (h : i ≡ gap_count b) where
    past_is : reach b i ≡ length b + 1
    past_is = rw (le-ltb i (gap_count b) (omega arith))

    pub past-runs : runs_at (old b) (reach b i) ≡ runs_of b
    unfolding runs_of
    past-runs = ap (runs_at (old b)) past_is

    pub past-marks : {marks : List Bool} → MarksAt (old b) (reach b i) marks → MarksAt (old b) (length b) marks
    past-marks m =
        record { room = m.room; marked = λ s k. rw past_is at (m.marked s k) ∙ held-quiet (old b) s {k = length b} (omega arith) (λ j l n. old_past b j l) }
