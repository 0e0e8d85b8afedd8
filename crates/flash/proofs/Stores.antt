-- Stores made one after another, and the store that one call makes.
-- Assumes nothing.
use mathlib.Core.Path.{◌≡◌, refl, sym, ap, ◌∙◌}
use mathlib.Core.List.{List, [], ◌∷◌, ◌++◌}
use Prim.Native.Nat.{ℕ}
use Rattle.layout.specs.declared.Bank.TheVariants.{Zero}
use Rattle.flash.specs.declared.sector.Store.{Store as Kind}
use Rattle.flash.specs.declared.sector.Store.TheVariants as kind
use Rattle.flash.specs.Bank.{IsStore}
use Rattle.flash.specs.Store.{Flash, flash, Store, made, all_made, StoresLeave, in_sector}

pub all_append : (a b : List Store) (f : Flash) → all_made (a ++ b) f ≡ all_made b (all_made a f)
unfolding all_made
all_append [] b f = refl
all_append (x ∷ a) b f = all_append a b (made x f)

-- none, and some and then others
pub leaves_none : {bank : List ℕ} → StoresLeave [] bank bank
unfolding all_made
leaves_none = record { left = λ next. refl }

pub leaves_then : {a b : List Store} {x y z : List ℕ} → StoresLeave a x y → StoresLeave b y z → StoresLeave (a ++ b) x z
leaves_then {a} {b} {x} p q =
    record { left = λ next. all_append a b (flash x next) ∙ ap (all_made b) (p.left next) ∙ q.left next }

-- one call
pub leaves_call : (before : List ℕ) (k : ℕ) (store : Kind) {after : List ℕ} → IsStore before k store after
    → StoresLeave (in_sector k store ∷ []) before after
unfolding all_made
leaves_call before k kind.Erase e = record { left = λ next. ap (λ (b : List ℕ). flash b next) (sym e) }
leaves_call before k (kind.Word at word) e = record { left = λ next. ap (λ (b : List ℕ). flash b next) (sym e) }

-- what is left is one
pub leaves_same : {stores : List Store} {bank x y : List ℕ} → StoresLeave stores bank x → StoresLeave stores bank y → x ≡ y
leaves_same p q = ap (λ (f : Flash). f.bank) (sym (p.left Zero) ∙ q.left Zero)
