-- Gaps walked over, byte by byte and sector by sector: what is known behind each.
-- Assumes nothing.
use mathlib.Core.Path.{◌≡◌, refl, sym, ap, ◌∙◌}
use mathlib.Core.Bool.{Bool, true, false, not, ◌&&◌, ◌||◌, cond}
use mathlib.Core.List.{List}
use Prim.Native.Nat.{ℕ, ◌+◌, ◌*◌, ◌/◌, ◌%◌, ◌≤◌, ◌<◌}
use native.Mathlib.Nat.{add-zero}
use native.Mathlib.Omega.{arith}
use mir.Val.{bool_byte}
use lib.Dec.{eqb}
use lib.ListN.{length, get_or, set, length-set}
use lib.Seq.{get_or-set_same, get_or-set_other}
use borrow.Author.Tests.{eq-eqb, ne_eqb, eqb-true, eqb-false}
use Rattle.buffer.specs.Number.{byte_at}
use Rattle.layout.specs.Layout.{sector_size, most_sectors, whole_length}
use Rattle.layout.proofs.Layouts.{good_high, whole_good, whole_sectors}
use Rattle.clean.specs.declared.count.Seen.{Seen}
use Rattle.clean.specs.Old.{old}
use Rattle.clean.specs.Sectors.{held_at}
use Rattle.clean.specs.Walk.{AllOutside, Piece, MarksAt, MarkTells, met, goes, piece_end, seen_at}
use Rattle.clean.proofs.Runs.{met_next, goes-next, Quiet}
use Rattle.clean.proofs.Sectors.{held_here, held-elsewhere, held_none}

-- outside, a byte is old unless it is 0xFF
pub old_is : (b : List ℕ) {from to : ℕ} → AllOutside b from to → (k : ℕ) → from ≤ k → k < to → old b k ≡ not (eqb (byte_at b k) 0xFF)
unfolding old
old_is b a k l h = rw (a.is_outside k l h)

-- the first byte of a piece, by its test
module _ {b : List ℕ} {at to : ℕ} (p : Piece b at to) (h : at < to) where
  pub piece_blank : byte_at b at ≡ 0xFF → Quiet (old b) at (at + 1)
  piece_blank e j l g =
      let q : j ≡ at = omega arith in
      rw q (old_is b p.all_outside at (omega arith) h ∙ rw (eq-eqb _ _ e))

  pub piece_old : (byte_at b at ≡ 0xFF → ⊥) → old b at ≡ true
  piece_old n = old_is b p.all_outside at (omega arith) h ∙ rw (ne_eqb _ _ n)

-- WHAT WAS SEEN, in its three parts
module _ (f : ℕ → Bool) (k s : ℕ) where
  pub record SeenIs (runs : ℕ) (last held : Bool) : Type 0 where
    pub runs_is : runs ≡ met f k
    pub last-is : last ≡ goes f k
    pub held_is : held ≡ held_at f k s

  pub seen_parts : (seen : Seen) → seen ≡ seen_at f k s → SeenIs seen.runs seen.last seen.held
  unfolding seen_at
  seen_parts seen e =
      record {
        runs_is = ap (λ (x : Seen). x.runs) e;
        last-is = ap (λ (x : Seen). x.last) e;
        held_is = ap (λ (x : Seen). x.held) e;
      }

  -- and none begun since
  pub seen_first : (seen : Seen) → seen ≡ seen_at f k s → SeenIs (seen.runs + 0) seen.last seen.held
  seen_first seen e = rw (add-zero seen.runs) (seen_parts seen e)

  pub seen_whole : {runs : ℕ} {last held : Bool} → SeenIs runs last held → record { runs = runs; last = last; held = held } ≡ seen_at f k s
  unfolding seen_at
  seen_whole i = λ d. record { runs = i.runs_is d; last = i.last-is d; held = i.held_is d }

-- what is so counts as one
pub one_is : (t : Bool) → bool_byte t ≡ cond t 1 0
one_is true = refl
one_is false = refl

pub one_small : (t : Bool) → bool_byte t ≤ 1
one_small true = omega arith
one_small false = omega arith

-- one byte more, t is whether it is old; it lies in sector s
pub seen_next :
    (f : ℕ → Bool) (k s : ℕ) {runs : ℕ} {last held : Bool} → SeenIs f k s runs last held → k / sector_size ≡ s → (t : Bool) → f k ≡ t
    → {added : ℕ} → added ≡ cond (t && not last) 1 0 → SeenIs f (k + 1) s (runs + added) t (held || t)
seen_next f k s {runs} {last} {held} i here t o {added} a =
    record {
      runs_is = ap (λ (n : ℕ). runs + n) a ∙ rw (i.last-is, i.runs_is) (sym (met_next f k t o));
      last-is = sym (goes-next f k t o);
      held_is = rw i.held_is (sym (held_here f k s here t o));
    }

-- A BANK is small
pub whole_small : (n : ℕ) → whole_length n ≡ true → (n % sector_size ≡ 0) × (n ≤ sector_size * most_sectors)
whole_small n w =
    let m = whole_sectors n w in
    let g = good_high (n / sector_size) (whole_good n w) in
    (m, omega arith)

-- A BYTE AND A PIECE of a gap, from `at` on
pub byte_piece : {b : List ℕ} {from to : ℕ} → AllOutside b from to → {at : ℕ} → from ≤ at → at < to → Piece b at (at + 1)
byte_piece a l h =
    record {
      all_outside = record { forward = omega arith; within = omega (arith, a.within); is_outside = λ k m g. a.is_outside k (omega arith) (omega arith) };
      one_sector = omega arith;
      short = omega arith;
    }

pub piece_of : {b : List ℕ} {from to : ℕ} → AllOutside b from to → {at end : ℕ} → from ≤ at → at < to → end ≡ piece_end at to → Piece b at end
piece_of a l h e =
    record {
      all_outside = record { forward = omega arith; within = omega (arith, a.within); is_outside = λ k m g. a.is_outside k (omega arith) (omega arith) };
      one_sector = omega arith;
      short = omega arith;
    }

-- what is marked behind it: `held` says of its own sector, of the others nothing is new
pub piece_marked :
    (f : ℕ → Bool) {at end : ℕ} {marks : List Bool} → MarksAt f at marks → at ≤ end → end ≤ (at / sector_size + 1) * sector_size → at < sector_size * most_sectors
    → {held : Bool} → held ≡ held_at f end (at / sector_size) → MarksAt f end (set marks (at / sector_size) held)
piece_marked f {at} {end} {marks} m l h small {held} e =
    record { room = length-set marks (at / sector_size) held ∙ m.room; marked = λ s g. by s g (eqb s (at / sector_size)) refl }
  where
    by : (s : ℕ) → s < most_sectors → (t : Bool) → eqb s (at / sector_size) ≡ t → get_or (set marks (at / sector_size) held) s false ≡ held_at f end s
    by s g true t =
        let is = eqb-true s (at / sector_size) t in
        rw (is, get_or-set_same marks (at / sector_size) held false (omega (arith, m.room))) e
    by s g false t =
        let n = eqb-false s (at / sector_size) t in
        get_or-set_other marks (at / sector_size) s held false n
        ∙ m.marked s g
        ∙ sym (held-elsewhere f s l (λ j a b q. n (omega arith)))

-- a piece whose sector has no mark at last
pub mark_tells :
    {b : List ℕ} {marks : List Bool} {at end : ℕ} → MarksAt (old b) (length b) marks → Piece b at end → at < sector_size * most_sectors
    → MarkTells (old b) at end (get_or marks (at / sector_size) false)
mark_tells {b} {marks} {at} {end} m p small e k l h =
    held_none (old b) (at / sector_size) (length b) (sym (m.marked (at / sector_size) (omega arith)) ∙ e) k (omega (arith, p.all_outside.within))
    (omega (arith, p.one_sector))
