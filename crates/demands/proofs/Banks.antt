-- The check of a bank and the view of a body are as asked.
-- Assumes nothing.
use mathlib.Core.Path.{◌≡◌, refl, ap, ◌∙◌}
use mathlib.Core.Bool.{Bool, true, false, ◌&&◌}
use mathlib.Core.List.{List, []}
use Prim.Native.Nat.{ℕ, ◌/◌, ◌%◌, ◌≤◌, ◌<◌}
use native.Mathlib.Omega.{arith}
use lib.Dec.{eqb, ltb}
use lib.ListN.{length}
use borrow.Author.Tests.{eqb-true, eq-eqb, lt-ltb, le-ltb}
use Rattle.buffer.proofs.Bools.{and_left, and_right, and_false, split}
use Rattle.layout.specs.declared.Bank.{Bank}
use Rattle.layout.specs.declared.Bank.TheVariants.{Zero, One}
use Rattle.layout.specs.Layout.{good_n, bank_size, whole_length}
use Rattle.layout.specs.Pair.{banks, bank_in}
use Rattle.bank.specs.Meaning.{Kept}
use Rattle.bank.specs.Sound.{sound_of, stretch_bytes, verdict_of, body_of}
use Rattle.bank.specs.Table.{count_of, entry_at}
use Rattle.bank.proofs.Meaning.{kept_back, unsound}
use Rattle.client.specs.declared.record.Client.{Client}
use Rattle.client.specs.Body.{banks_good, next_body}
use Rattle.demands.specs.Banks.{MeetsCheck, MeetsBody}

pub check_meets : MeetsCheck verdict_of
unfolding verdict_of
check_meets =
    record {
      wrong = λ b w. rw w;
      sound = λ b w k. rw (w, kept_back b k);
      unsound = λ b w k. rw (w, unsound b k);
    }

-- ---- bodies

whole_good : (n size : ℕ) → good_n n ≡ true → size ≡ bank_size n → whole_length size ≡ true
unfolding whole_length
whole_good n size g e =
    let r : size % 512 ≡ 0 = omega arith in
    let q : size / 512 ≡ n = omega arith in
    rw (eq-eqb (size % 512) 0 r, q) g

module _ (c : Client) (bank0 bank1 : List ℕ) where
  whole_chosen : banks_good c.fixed.n (length bank0) (length bank1) ≡ true → whole_length (length (bank_in c.next (banks bank0 bank1))) ≡ true
  unfolding banks_good
  whole_chosen e =
      let s : Bool = eqb (length bank0) (bank_size c.fixed.n) in
      let t : Bool = eqb (length bank1) (bank_size c.fixed.n) in
      let g = and_left (good_n c.fixed.n) (s && t) e in
      let r = and_right (good_n c.fixed.n) (s && t) e in
      by c.next g (eqb-true _ _ (and_left s t r)) (eqb-true _ _ (and_right s t r))
    where
      by : (x : Bank) → good_n c.fixed.n ≡ true → length bank0 ≡ bank_size c.fixed.n → length bank1 ≡ bank_size c.fixed.n → whole_length (length (bank_in x (banks bank0 bank1))) ≡ true
      by Zero g z o = whole_good c.fixed.n (length bank0) g z
      by One g z o = whole_good c.fixed.n (length bank1) g o

empty_body : (b : List ℕ) (i : ℕ) → (whole_length (length b) && (sound_of b && ltb i (count_of b))) ≡ false → body_of b i ≡ []
unfolding body_of
empty_body b i e = rw e

no_body : (c : Client) (bank0 bank1 : List ℕ) (i : ℕ) → body_of (bank_in c.next (banks bank0 bank1)) i ≡ [] → next_body c bank0 bank1 i ≡ []
unfolding next_body
no_body c bank0 bank1 i e = split (λ (l : List ℕ). l ≡ []) (banks_good c.fixed.n (length bank0) (length bank1)) (λ _. e) (λ _. refl)

body_there : (c : Client) (bank0 bank1 : List ℕ) (i : ℕ) → banks_good c.fixed.n (length bank0) (length bank1) ≡ true → Kept (bank_in c.next (banks bank0 bank1))
    → i < count_of (bank_in c.next (banks bank0 bank1))
    → next_body c bank0 bank1 i ≡ stretch_bytes (bank_in c.next (banks bank0 bank1)) (entry_at (bank_in c.next (banks bank0 bank1)) i)
unfolding next_body body_of
body_there c bank0 bank1 i g k h =
    rw (g, whole_chosen c bank0 bank1 g, kept_back (bank_in c.next (banks bank0 bank1)) k, lt-ltb i (count_of (bank_in c.next (banks bank0 bank1))) h)

body_wrong : (c : Client) (bank0 bank1 : List ℕ) (i : ℕ) → banks_good c.fixed.n (length bank0) (length bank1) ≡ false → next_body c bank0 bank1 i ≡ []
unfolding next_body
body_wrong c bank0 bank1 i g = rw g

body_unsound : (c : Client) (bank0 bank1 : List ℕ) (i : ℕ) → (Kept (bank_in c.next (banks bank0 bank1)) → ⊥) → next_body c bank0 bank1 i ≡ []
body_unsound c bank0 bank1 i k =
    let b : List ℕ = bank_in c.next (banks bank0 bank1) in
    no_body c bank0 bank1 i
    (empty_body b i (ap (λ (t : Bool). whole_length (length b) && (t && ltb i (count_of b))) (unsound b k) ∙ and_false (whole_length (length b))))

body_past : (c : Client) (bank0 bank1 : List ℕ) (i : ℕ) → count_of (bank_in c.next (banks bank0 bank1)) ≤ i → next_body c bank0 bank1 i ≡ []
body_past c bank0 bank1 i h =
    let b : List ℕ = bank_in c.next (banks bank0 bank1) in
    no_body c bank0 bank1 i
    (empty_body b i
    (ap (λ (t : Bool). whole_length (length b) && (sound_of b && t)) (le-ltb i (count_of b) h)
    ∙ ap (λ (t : Bool). whole_length (length b) && t) (and_false (sound_of b))
    ∙ and_false (whole_length (length b))))

pub body_meets : MeetsBody next_body
body_meets = record { there = body_there; wrong = body_wrong; unsound = body_unsound; past = body_past }
