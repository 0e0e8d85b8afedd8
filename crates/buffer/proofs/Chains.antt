-- What a chain over lent elements tells of the list that they are of.
-- Assumes nothing.
use Rattle.std.proofs.Common.{◌≡◌, ℕ, suc, ◌<◌, List, [], ◌∷◌, length, slice_get, slice_index_or, Option, Some, None, Bor, fold, map, IfSome, IsSomeAnd, true, ⊎_elim, refl, sym, subst, ap, ap₂, ◌∙◌, arith}
use Rattle.std.specs.Iterator.Runs.{Run, YieldsRun, IsZipRun}
use Rattle.std.specs.Option.{option_map, unwrap_or}

-- a fold of what is lent is a fold of the list
pub fold_lent : {A B : Type 0} (f : B → A → B) (s : B) (items : List (Bor A)) → fold (λ r x. f r x.now) s items ≡ fold f s (map (λ x. x.now) items)
fold_lent f s [] = refl
fold_lent f s (x ∷ items) = fold_lent f (f s x.now) items

module _ {A : Type 0} {Q : Bor A → Type 0} (P : A → Type 0) (tells : (x : Bor A) → Q x → P x.now) (y : A) where
  -- what is told of an item, where there is one, is so of the element that it lends
  pub of_each : (item : Option (Bor A)) → option_map (λ x. x.now) item ≡ Some y → IfSome item Q → P y
  of_each None e h = cc
  of_each (Some x) e h = let is : x.now ≡ y = ap (λ o. unwrap_or o y) e in subst P is (tells x h)

  -- the same where there is one
  pub of_some : (item : Option (Bor A)) → option_map (λ x. x.now) item ≡ Some y → IsSomeAnd item Q → P y
  of_some None e h = absurd h
  of_some (Some x) e h = let is : x.now ≡ y = ap (λ o. unwrap_or o y) e in subst P is (tells x h)

-- items that lend the elements of a list one by one, and as many
lends_all :
    {A : Type 0} (items : List (Bor A)) (xs : List A) → length items ≡ length xs
    → ((k : ℕ) (d : A) → k < length items → option_map (λ x. x.now) (slice_get items k) ≡ Some (slice_index_or xs k d)) → map (λ x. x.now) items ≡ xs
lends_all [] [] n f = refl
lends_all [] (y ∷ xs) n f = absurd (omega arith)
lends_all (x ∷ items) [] n f = absurd (omega arith)
lends_all (x ∷ items) (y ∷ xs) n f =
    ap₂ (λ z r. z ∷ r) (ap (λ o. unwrap_or o y) (f 0 y (omega arith))) (lends_all items xs (omega arith) (λ k d h. f (suc k) d (omega arith)))

-- a run that gave as many items as there are, whether it was asked for one more or not
pub run_lends_all :
    {S A : Type 0} {steps : S → Option (Bor A) → S → Type 0} (p : Run steps) (xs : List A) → p.len ≡ length xs
    → ((k : ℕ) (d : A) → k < p.len → option_map (λ x. x.now) (p.at k) ≡ Some (slice_index_or xs k d)) → map (λ x. x.now) p.items ≡ xs
unfolding YieldsRun
run_lends_all p xs n f =
    lends_all p.items xs (sym p.long ∙ n) (λ k d h. ap (option_map (λ x. x.now)) (sym (p.gave.1 k)) ∙ f k d (omega (arith, p.long)))

module _ {A : Type 0} {Q : Bor A × Bor A → Type 0} (P : A → A → Type 0) (tells : (x : Bor A × Bor A) → Q x → P x.0.now x.1.now) (y z : A) where
  -- what is told of a pair of items, where there is one, is so of the elements that they lend
  pub of_each_pair :
      (item : Option (Bor A × Bor A)) → option_map (λ x. x.now) (option_map (λ x. x.0) item) ≡ Some y
      → option_map (λ x. x.now) (option_map (λ x. x.1) item) ≡ Some z → IfSome item Q → P y z
  of_each_pair None d e h = cc
  of_each_pair (Some x) d e h =
      let one : x.0.now ≡ y = ap (λ o. unwrap_or o y) d in
      let two : x.1.now ≡ z = ap (λ o. unwrap_or o z) e in
      subst (P y) two (subst (λ w. P w x.1.now) one (tells x h))

  -- the same where there is one
  pub of_some_pair :
      (item : Option (Bor A × Bor A)) → option_map (λ x. x.now) (option_map (λ x. x.0) item) ≡ Some y
      → option_map (λ x. x.now) (option_map (λ x. x.1) item) ≡ Some z → IsSomeAnd item Q → P y z
  of_some_pair None d e h = absurd h
  of_some_pair (Some x) d e h = of_each_pair (Some x) d e h

-- as many pairs as each of two lists has elements
pub zip_len :
    {S T U A B C D : Type 0} {steps : S → Option (A × B) → S → Type 0} {first : T → Option A → T → Type 0} {second : U → Option B → U → Type 0}
    (p : Run steps) (x : Run first) (y : Run second) (xs : List C) (ys : List D) → IsZipRun p x y → p.whole ≡ true
    → (x.whole ≡ true → x.len ≡ length xs) → (y.whole ≡ true → y.len ≡ length ys) → length xs ≡ length ys → p.len ≡ length xs
zip_len p x y xs ys z w f g e = ⊎_elim (λ i. omega (arith, f i, z.0.0)) (λ i. omega (arith, g i, z.1.0)) (z.2 w)
