-- The lines of a text, by the positions at which they end.
-- Assumes nothing.
use mathlib.Core.Path.{◌≡◌, refl, sym, ap, ◌∙◌}
use mathlib.Core.List.{List, [], ◌∷◌}
use mathlib.Core.Bool.{Bool, true, false, ◌&&◌, cond, false≢true}
use Prim.Native.Nat.{ℕ, zero, suc, ◌+◌, ◌-◌, ◌<◌, ◌≤◌}
use native.Mathlib.Numerals.{add-one}
use native.Mathlib.Omega.{arith}
use lib.Dec.{eqb, leb, ltb}
use lib.ListN.{length, get_or, take, drop, drop_of_length-le, length-drop}
use lib.Seq.{drop-cons, drop-drop, drop-length}
use borrow.Author.Tests.{eq-eqb, ne_eqb, eqb-false, ltb-true, ltb-false, leb-true}
use Rattle.buffer.proofs.Bools.{and_left, and_right, and_false, no_way}
use Rattle.std.specs.Borrow.{Bor}
use Rattle.lines.specs.declared.line.Line.{Line}
use Rattle.lines.specs.declared.line.LineReader.{LineReader}
use Rattle.std.specs.Prelude.{Some, None}
use Rattle.lines.specs.Line.{front, lf_next, lines}
use Rattle.lines.specs.Places.{end_len, line_len, line_all, quiet, LineAt, ahead_at, IsReader, lines_left}

pub lf_here : (t : List ℕ) (i : ℕ) → i < length t → lf_next (drop i t) ≡ eqb (get_or t i 0) 0x0A
lf_here t i h = rw (drop-cons t i 0 h)

pub lf_past : (t : List ℕ) (i : ℕ) → length t ≤ i → lf_next (drop i t) ≡ false
lf_past t i h = rw (drop_of_length-le t {i = i} h)

pub end_here :
    (t : List ℕ) (i : ℕ) → i < length t
    → end_len (drop i t) ≡ cond (eqb (get_or t i 0) 0x0A) 1 (cond (eqb (get_or t i 0) 0x0D && lf_next (drop (i + 1) t)) 2 0)
unfolding end_len
end_here t i h = rw (add-one, drop-cons t i 0 h)

pub line_stops :
    (t : List ℕ) (i : ℕ) → i < length t → (end_len (drop i t) ≡ 0 → ⊥)
    → (line_len (drop i t) ≡ 0) × (line_all (drop i t) ≡ end_len (drop i t))
unfolding line_len line_all
line_stops t i h n = rw (drop-cons t i 0 h) (simp (ne_eqb _ _ (rw (drop-cons t i 0 h) at n)) (refl, refl))

pub line_goes :
    (t : List ℕ) (i : ℕ) → i < length t → end_len (drop i t) ≡ 0
    → (line_len (drop i t) ≡ suc (line_len (drop (i + 1) t))) × (line_all (drop i t) ≡ suc (line_all (drop (i + 1) t)))
unfolding line_len line_all
line_goes t i h n = rw (add-one, drop-cons t i 0 h) (simp (eq-eqb _ _ (rw (drop-cons t i 0 h) at n)) (refl, refl))

pub line_past : (t : List ℕ) (i : ℕ) → length t ≤ i → (line_len (drop i t) ≡ 0) × (line_all (drop i t) ≡ 0)
unfolding line_len line_all
line_past t i h = rw (drop_of_length-le t {i = i} h) (refl, refl)

pub end_fits : (t : List ℕ) (i : ℕ) → i < length t → i + end_len (drop i t) ≤ length t
unfolding end_len
end_fits t i h = rw (drop-cons t i 0 h) (by (eqb (get_or t i 0) 0x0A) (drop (suc i) t) refl)
  where
    by : (a : Bool) (u : List ℕ) → u ≡ drop (suc i) t → i + cond a 1 (cond (eqb (get_or t i 0) 0x0D && lf_next u) 2 0) ≤ length t
    by true u e = omega arith
    by false [] e = simp and_false (omega arith)
    by false (d ∷ u) e = let n = ap length e ∙ length-drop (suc i) t in two (eqb (get_or t i 0) 0x0D && eqb d 0x0A) (omega arith)
      where
        two : (b : Bool) → i + 1 < length t → i + cond b 2 0 ≤ length t
        two true k = omega arith
        two false k = omega arith

-- ---- a byte from 14 on ends no line

no_end : (t : List ℕ) (i : ℕ) → i < length t → 14 ≤ get_or t i 0 → end_len (drop i t) ≡ 0
no_end t i h k = end_here t i h ∙ simp (ne_eqb (get_or t i 0) 0x0A (λ e. omega arith), ne_eqb (get_or t i 0) 0x0D (λ e. omega arith))

pub quiet_goes :
    (t : List ℕ) (i k : ℕ) → i + k ≤ length t → quiet (take k (drop i t)) ≡ true
    → (i + line_len (drop i t) ≡ i + k + line_len (drop (i + k) t)) × (i + line_all (drop i t) ≡ i + k + line_all (drop (i + k) t))
unfolding quiet
quiet_goes t i zero h q = let e : i + zero ≡ i = omega arith in rw e (refl, refl)
quiet_goes t i (suc k) h q =
    let c : (leb 14 (get_or t i 0) && quiet (take k (drop (suc i) t))) ≡ true = rw (drop-cons t i 0 (omega arith)) at q in
    let b = and_left (leb 14 (get_or t i 0)) (quiet (take k (drop (suc i) t))) c in
    let n = and_right (leb 14 (get_or t i 0)) (quiet (take k (drop (suc i) t))) c in
    let g = line_goes t i (omega arith) (no_end t i (omega arith) (leb-true 14 (get_or t i 0) b)) in
    let r = quiet_goes t (i + 1) k (omega arith) (rw add-one n) in
    let e : i + 1 + k ≡ i + suc k = omega arith in
    let r' = rw e at r in
    (omega arith, omega arith)

-- one byte more is looked at
pub quiet_one :
    (t : List ℕ) (i : ℕ) (good : Bool) → i < length t → (good && quiet (drop i t)) ≡ (good && leb 14 (get_or t i 0) && quiet (drop (i + 1) t))
unfolding quiet
quiet_one t i true h = rw (add-one, drop-cons t i 0 h)
quiet_one t i false h = refl

pub quiet_none : (t : List ℕ) (good : Bool) → (good && quiet (drop (length t) t)) ≡ good
unfolding quiet
quiet_none t true = rw (drop-length t)
quiet_none t false = refl

-- ---- the first line of a text, and the others

abbrev First : ℕ → List ℕ → Type 0
First c t = lines (c ∷ t) ≡ take (line_len (c ∷ t)) (c ∷ t) ∷ lines (drop (line_all (c ∷ t)) (c ∷ t))

first_cr : (c : ℕ) (t : List ℕ) → eqb c 0x0A ≡ false → (eqb c 0x0D && lf_next t) ≡ true → First c t
unfolding lines line_len line_all end_len
first_cr c [] n e = absurd (false≢true (and_right (eqb c 0x0D) false e))
first_cr c (d ∷ u) n e = simp (n, and_left (eqb c 0x0D) (eqb d 0x0A) e, and_right (eqb c 0x0D) (eqb d 0x0A) e)

first_cases :
    (c : ℕ) (t : List ℕ) (a b : Bool) → eqb c 0x0A ≡ a → (eqb c 0x0D && lf_next t) ≡ b
    → front c (lines t) ≡ (c ∷ take (line_len t) t) ∷ lines (drop (line_all t) t) → First c t
unfolding lines line_len line_all end_len
first_cases c t true b e f r = simp e
first_cases c t false true e f r = first_cr c t e f
first_cases c t false false e f r = simp (e, f) r

first_none : (c : ℕ) → front c (lines []) ≡ (c ∷ take (line_len []) []) ∷ lines (drop (line_all []) [])
unfolding lines line_len line_all
first_none c = refl

lines_first : (c : ℕ) (t : List ℕ) → First c t
lines_first c [] = first_cases c [] _ _ refl refl (first_none c)
lines_first c (d ∷ t) = first_cases c (d ∷ t) _ _ refl refl (rw (lines_first d t))

-- the lines of what is left of a text from `at` on
lines_at :
    (t : List ℕ) (at : ℕ) → at < length t
    → lines (drop at t) ≡ take (line_len (drop at t)) (drop at t) ∷ lines (drop (line_all (drop at t)) (drop at t))
lines_at t at h = rw (drop-cons t at 0 h) (lines_first (get_or t at 0) (drop (suc at) t))

pub lines_none : (t : List ℕ) (at : ℕ) → length t ≤ at → lines (drop at t) ≡ []
unfolding lines
lines_none t at h = rw (drop_of_length-le t {i = at} h)

-- the line that the code found is the first of the lines that are left
pub lines_here :
    (t : List ℕ) (at end next : ℕ) → at < length t → LineAt t at end next
    → lines (drop at t) ≡ take (end - at) (drop at t) ∷ lines (drop next t)
lines_here t at end next h l =
    let e : end - at ≡ line_len (drop at t) = omega (arith, l.end_is) in
    lines_at t at h ∙ rw (e, l.next_is, drop-drop (line_all (drop at t)) at t)

-- ---- what a line reader finds is the line there

len_all : (t : List ℕ) → line_len t ≤ line_all t
unfolding line_len line_all
len_all [] = omega arith
len_all (c ∷ t) = by (eqb (end_len (c ∷ t)) 0) (len_all t)
  where
    by : (b : Bool) → line_len t ≤ line_all t → cond b (suc (line_len t)) 0 ≤ cond b (suc (line_all t)) (end_len (c ∷ t))
    by true h = omega arith
    by false h = omega arith

all_length : (t : List ℕ) → line_all t ≤ length t
unfolding line_all
all_length [] = omega arith
all_length (c ∷ t) = by (eqb (end_len (c ∷ t)) 0) (all_length t) (end_fits (c ∷ t) 0 (omega arith))
  where
    by : (b : Bool) → line_all t ≤ length t → 0 + end_len (c ∷ t) ≤ suc (length t) → cond b (suc (line_all t)) (end_len (c ∷ t)) ≤ suc (length t)
    by true h k = omega arith
    by false h k = omega arith

all_some : (c : ℕ) (t : List ℕ) → 0 < line_all (c ∷ t)
unfolding line_all
all_some c t = by (eqb (end_len (c ∷ t)) 0) refl
  where
    by : (b : Bool) → eqb (end_len (c ∷ t)) 0 ≡ b → 0 < cond b (suc (line_all t)) (end_len (c ∷ t))
    by true e = omega arith
    by false e = let n = eqb-false (end_len (c ∷ t)) 0 e in omega arith

pub ahead_line : (t : List ℕ) (at : ℕ) (l : Line) → ahead_at t at ≡ Some l → (at < length t) × LineAt t at l.end l.next
unfolding ahead_at
ahead_line t at l e = by (ltb at (length t)) refl
  where
    by : (b : Bool) → ltb at (length t) ≡ b → (at < length t) × LineAt t at l.end l.next
    by false f = let g = rw f at e in no_way (cc)
    by true f =
        let h : at < length t = ltb-true _ _ f in
        let g = rw f at e in
        let x : l.end ≡ at + line_len (drop at t) = cc in
        let y : l.next ≡ at + line_all (drop at t) = cc in
        let m = len_all (drop at t) in
        let n = all_length (drop at t) in
        let o = rw (sym (drop-cons t at 0 h)) at (all_some (get_or t at 0) (drop (suc at) t)) in
        let w = length-drop at t in
        (h, record { end_is = x; next_is = y; after = omega arith; before = omega arith; on = omega arith; within = omega arith })

pub ahead_none : (t : List ℕ) (at : ℕ) → ahead_at t at ≡ None → length t ≤ at
unfolding ahead_at
ahead_none t at e = by (ltb at (length t)) refl
  where
    by : (b : Bool) → ltb at (length t) ≡ b → length t ≤ at
    by true f = let g = rw f at e in no_way (cc)
    by false f = ltb-false _ _ f

-- ---- the lines that a line reader gives

-- from its start on, those of the text
pub left_first : {text : Bor (List ℕ)} {r : LineReader} → IsReader text 0 r → lines_left r ≡ lines text.now
left_first r = rw (r.at_is, r.text_is)

front_few : (c : ℕ) (ls : List (List ℕ)) → length (front c ls) ≤ suc (length ls)
front_few c [] = omega arith
front_few c (l ∷ ls) = omega arith

-- no more than bytes
pub lines_few : (t : List ℕ) → length (lines t) ≤ length t
unfolding lines
lines_few [] = omega arith
lines_few (c ∷ t) = by (eqb c 0x0A) (eqb c 0x0D && lf_next t) (lines_few t)
  where
    by : (a b : Bool) → length (lines t) ≤ length t → length (cond a ([] ∷ lines t) (cond b (lines t) (front c (lines t)))) ≤ suc (length t)
    by true b h = omega arith
    by false true h = omega arith
    by false false h = omega (arith, front_few c (lines t))
