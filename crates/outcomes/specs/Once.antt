-- A contract leaves one outcome: any two that it allows are the same (01, 'How much each function must say').
-- Assumes nothing.
use Rattle.std.specs.Prelude.{◌≡◌}

-- what a function gives is determined, whether it is one thing or several: a result, and each lent list
abbrev pub Once : {A : Type 0} → (A → Type 0) → Type 0
Once {A} R = (x y : A) → R x → R y → x ≡ y

abbrev pub Twice : {A B : Type 0} → (A → B → Type 0) → Type 0
Twice {A} {B} R = (x y : A) (u v : B) → R x u → R y v → (x ≡ y) × (u ≡ v)

abbrev pub Thrice : {A B C : Type 0} → (A → B → C → Type 0) → Type 0
Thrice {A} {B} {C} R = (x y : A) (u v : B) (s t : C) → R x u s → R y v t → (x ≡ y) × ((u ≡ v) × (s ≡ t))

abbrev pub Fourfold : {A B C D : Type 0} → (A → B → C → D → Type 0) → Type 0
Fourfold {A} {B} {C} {D} R =
    (x y : A) (u v : B) (s t : C) (p q : D) → R x u s p → R y v t q → (x ≡ y) × ((u ≡ v) × ((s ≡ t) × (p ≡ q)))

abbrev pub Fivefold : {A B C D E : Type 0} → (A → B → C → D → E → Type 0) → Type 0
Fivefold {A} {B} {C} {D} {E} R =
    (x y : A) (u v : B) (s t : C) (p q : D) (k l : E) → R x u s p k → R y v t q l → (x ≡ y) × ((u ≡ v) × ((s ≡ t) × ((p ≡ q) × (k ≡ l))))
