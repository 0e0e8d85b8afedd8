-- The runs of a list set to 0xFF, one after another: what is so behind each, and at last.
-- Assumes nothing.
use mathlib.Core.Path.{◌≡◌, refl, sym, ap, ◌∙◌}
use mathlib.Core.Bool.{Bool, true, false}
use mathlib.Core.List.{List, ◌++◌}
use Prim.Native.Nat.{ℕ, ◌+◌, ◌-◌, ◌≤◌, ◌<◌}
use native.Mathlib.Decide.{dec_lt}
use native.Mathlib.Omega.{arith}
use lib.ListN.{length, get_or, take, drop, replicate, length-append, length-drop, length-replicate, get_or-replicate, get_or-append}
use lib.Seq.{length-take-le, get_or-take, get_or-drop, get_or-append-add, ext_get_or}
use borrow.Rule.Slice.PartMut.{put_mid}
use Rattle.buffer.proofs.Bools.{no_way}
use Rattle.buffer.proofs.Parts.{part_out, part_length, part_back}
use Rattle.buffer.specs.Number.{byte_at}
use Rattle.bank.specs.declared.stretch.Stretch.{Stretch}
use Rattle.bank.specs.Stretch.{stop_of}
use Rattle.clean.specs.Clean.{cleared_of}
use Rattle.clean.specs.Meaning.{run_in, Has, AreRuns}
use Rattle.clean.specs.Old.{old}
use Rattle.clean.specs.Walk.{blanked}
use Rattle.clean.proofs.Meaning.{old_byte, byte_old, length_cleared, byte_cleared}

-- A STRETCH SET TO 0xFF: its bytes are, and all others stay
module _ (l : List ℕ) (from n : ℕ) (fit : from + n ≤ length l) where
  abbrev blanks : List ℕ
  blanks = replicate n 0xFF

  front : length (take from l) ≡ from
  front = length-take-le from l (omega arith)

  many : length blanks ≡ n
  many = length-replicate {A = ℕ} n 0xFF

  past : (k : ℕ) → from ≤ k → get_or (blanked l from n) k 0 ≡ get_or (blanks ++ drop (from + n) l) (k - from) 0
  past k h =
      let e : length (take from l) + (k - from) ≡ k = omega (arith, front) in
      ap (λ (j : ℕ). get_or (blanked l from n) j 0) (sym e) ∙ get_or-append-add (take from l) _ (k - from) 0

  blanked_in : (k : ℕ) → from ≤ k → k < from + n → get_or (blanked l from n) k 0 ≡ 0xFF
  blanked_in k a b =
      let m : k - from < n = omega arith in
      past k a ∙ get_or-append blanks (drop (from + n) l) 0 (k - from) (rw many m) ∙ get_or-replicate n (k - from) 0xFF 0 m

  blanked_else : (k : ℕ) → (from ≤ k → k < from + n → ⊥) → get_or (blanked l from n) k 0 ≡ get_or l k 0
  blanked_else k f = by (dec_lt k from) (dec_lt k (from + n))
    where
      by : Dec (k < from) → Dec (k < from + n) → get_or (blanked l from n) k 0 ≡ get_or l k 0
      by (yes a) e = get_or-append (take from l) _ 0 k (rw front a) ∙ get_or-take from l k 0 a
      by (no a) (yes b) = absurd (f (omega arith) b)
      by (no a) (no b) =
          let j : ℕ = k - from - n in
          let e : length blanks + j ≡ k - from = omega (arith, many) in
          let g : from + n + j ≡ k = omega arith in
          past k (omega arith)
          ∙ ap (λ (i : ℕ). get_or (blanks ++ drop (from + n) l) i 0) (sym e)
          ∙ get_or-append-add blanks (drop (from + n) l) j 0
          ∙ get_or-drop (from + n) l j 0
          ∙ ap (λ (i : ℕ). get_or l i 0) g

  -- a part that was lent to be filled comes back
  pub filled_back :
      {part : List ℕ} → part ≡ replicate (length (take ((from + n) - from) (drop from l))) 0xFF → put_mid from ((from + n) - from) l part ≡ blanked l from n
  filled_back {part} e =
      let m = ap length (part_out l from n) ∙ part_length l from n fit in
      let f : part ≡ blanks = rw m at e in
      part_back l part from n ∙ rw f

  blanked_length : length (blanked l from n) ≡ length l
  blanked_length =
      let a = length-append (take from l) (blanks ++ drop (from + n) l) in
      let b = length-append blanks (drop (from + n) l) in
      omega (arith, front, many, length-drop (from + n) l)

-- THE FIRST i RUNS of a list, in a bank b
pub record BlankedTo (b runs : List ℕ) (i : ℕ) (bank : List ℕ) : Type 0 where
  pub same_length : length bank ≡ length b
  pub in_run : (j k : ℕ) → j < i → Has (run_in runs j) k → byte_at bank k ≡ 0xFF
  pub in_none : (k : ℕ) → ((j : ℕ) → j < i → Has (run_in runs j) k → ⊥) → byte_at bank k ≡ byte_at b k

pub blanked_first : (b runs : List ℕ) → BlankedTo b runs 0 b
blanked_first b runs = record { same_length = refl; in_run = λ j k h r. absurd (omega arith); in_none = λ k f. refl }

module _ (b runs : List ℕ) (n : ℕ) (are : AreRuns b runs n) where
  -- a run ends within the bank, since its last byte is old
  pub run_within : (i : ℕ) → i < n → stop_of (run_in runs i) ≤ length b
  run_within i h =
      let s = are.some i h in
      let k : ℕ = stop_of (run_in runs i) - 1 in
      let o = are.are_old i k h (record { from = omega arith; before = omega arith }) in
      omega (arith, o.outside.within)

  module _ (i : ℕ) (h : i < n) (bank : List ℕ) (so_far : BlankedTo b runs i bank) where
    abbrev run : Stretch
    run = run_in runs i

    pub run_fits : stop_of run ≤ length bank
    run_fits = omega (arith, run_within i h, so_far.same_length)

    pub blanked-next : BlankedTo b runs (i + 1) (blanked bank run.offset run.length)
    blanked-next =
        record {
          same_length = blanked_length bank run.offset run.length run_fits ∙ so_far.same_length;
          in_run = λ j k l r. by j k l r (dec_lt k run.offset) (dec_lt k (stop_of run));
          in_none = λ k f.
              blanked_else bank run.offset run.length run_fits k (λ a c. f i (omega arith) (record { from = a; before = c }))
              ∙ so_far.in_none k (λ j l r. f j (omega arith) r);
        }
      where
        by :
            (j k : ℕ) → j < i + 1 → Has (run_in runs j) k → Dec (k < run.offset) → Dec (k < stop_of run)
            → byte_at (blanked bank run.offset run.length) k ≡ 0xFF
        by j k l r (no a) (yes c) = blanked_in bank run.offset run.length run_fits k (omega arith) c
        by j k l r (yes a) d =
            let other : j ≡ i → ⊥ = λ e. let is : Has run k = rw e at r in omega (arith, is.from) in
            blanked_else bank run.offset run.length run_fits k (λ e f. omega arith) ∙ so_far.in_run j k (omega arith) r
        by j k l r (no a) (no c) =
            let other : j ≡ i → ⊥ = λ e. let is : Has run k = rw e at r in omega (arith, is.before) in
            blanked_else bank run.offset run.length run_fits k (λ e f. omega arith) ∙ so_far.in_run j k (omega arith) r

  -- all of them
  pub blanked_all : (bank : List ℕ) → BlankedTo b runs n bank → bank ≡ cleared_of b
  blanked_all bank done = ext_get_or 0 bank (cleared_of b) (done.same_length ∙ sym (length_cleared b)) (λ k h. by k (old b k) refl)
    where
      by : (k : ℕ) (t : Bool) → old b k ≡ t → byte_at bank k ≡ byte_at (cleared_of b) k
      by k true o =
          let r = are.all_old k (old_byte b k o) in
          done.in_run r.place k r.below r.has ∙ sym (byte_cleared b k ∙ rw o)
      by k false o =
          done.in_none k (λ j l r. let z = sym o ∙ byte_old b k (are.are_old j k l r) in no_way (cc)) ∙ sym (byte_cleared b k ∙ rw o)
