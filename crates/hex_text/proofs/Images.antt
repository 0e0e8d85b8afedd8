-- The image behind the first lines: each data byte at its address, 0xFF elsewhere.
-- Assumes nothing.
use Rattle.std.proofs.Common.{◌≡◌, ℕ, zero, suc, ◌+◌, ◌-◌, ◌<◌, ◌≤◌, List, [], ◌∷◌, length, get_or, set, refl, ◌∙◌, le_of_suc-le-suc, not-suc-le-zero, arith, length-drop, length-set, length-take, get_or-set_other, get_or-set_same}
use native.Mathlib.Decide.{dec_lt}
use lib.Seq.{sets}
use Rattle.hex_text.specs.Spell.{line_bytes}
use Rattle.hex_text.specs.Record.{record_data}
use Rattle.hex_text.specs.Meaning.{line_count, line_data, line_at, start_at, HasByte, Keeps, Leaves}
use Rattle.hex_text.proofs.Records.{record_length}
use Rattle.hex_text.proofs.Rules.{data_is}
use Rattle.hex_text.proofs.Rules.{to_next}

-- A RUN OF STORES, byte by byte

sets_below : (vs l : List ℕ) (at i : ℕ) → i < at → get_or (sets l at vs) i 0 ≡ get_or l i 0
sets_below [] l at i h = refl
sets_below (v ∷ vs) l at i h = sets_below vs (set l at v) (suc at) i (omega arith) ∙ get_or-set_other l at i v 0 (λ e. omega arith)

sets_above : (vs l : List ℕ) (at i : ℕ) → at + length vs ≤ i → get_or (sets l at vs) i 0 ≡ get_or l i 0
sets_above [] l at i h = refl
sets_above (v ∷ vs) l at i h = sets_above vs (set l at v) (suc at) i (omega arith) ∙ get_or-set_other l at i v 0 (λ e. omega arith)

sets_in : (vs l : List ℕ) (at j : ℕ) → j < length vs → at + length vs ≤ length l → get_or (sets l at vs) (at + j) 0 ≡ get_or vs j 0
sets_in [] l at j h k = absurd (not-suc-le-zero h)
sets_in (v ∷ vs) l at zero h k =
    let e : at + zero ≡ at = omega arith in
    rw e (sets_below vs (set l at v) (suc at) at (omega arith) ∙ get_or-set_same l at v 0 (omega arith))
sets_in (v ∷ vs) l at (suc j) h k =
    let e : at + suc j ≡ suc at + j = omega arith in
    rw e (sets_in vs (set l at v) (suc at) j (le_of_suc-le-suc h) (let n = length-set l at v in omega arith))

-- THE IMAGE behind the first i lines

-- byte j of line m stands at its address
abbrev Stands : ℕ → List (List ℕ) → List ℕ → ℕ → ℕ → Type 0
Stands base ls image j m = HasByte ls m j → get_or image (start_at ls m + j - base) 0 ≡ line_data (line_at ls m) j

module _ (base size : ℕ) (ls : List (List ℕ)) (i : ℕ) (image : List ℕ) (leaves : Leaves base size ls i image) where
  -- a line without data leaves it
  pub leaves_same : ((j : ℕ) → HasByte ls i j → ⊥) → Leaves base size ls (suc i) image
  leaves_same none =
      record {
        there = λ m j. to_next (Stands base ls image j) i (λ m l. leaves.there m j l) (λ b. absurd (none j b)) m;
        elsewhere = λ a h f. leaves.elsewhere a h (λ m j l. f m j (omega arith));
      }

  -- data go to their addresses, and what stands there already stays
  module _
      (sized : length image ≡ size) (each : (m : ℕ) → m < i → Keeps base size ls m) (k : Keeps base size ls i) (d : HasByte ls i 0) where
    abbrev put : List ℕ
    put = record_data (line_count (line_at ls i)) (line_bytes (line_at ls i))

    abbrev at : ℕ
    at = start_at ls i - base

    put-length : length put ≡ line_count (line_at ls i)
    put-length = let l = record_length (line_at ls i) k.is_record in simp (length-take, length-drop) (omega arith)

    low : base ≤ start_at ls i
    low = let b = (k.in_bank_lem 0 d).0 in omega arith

    high : at + length put ≤ length image
    high =
        let l = put-length in
        let c = d.1 in
        let b = (k.in_bank_lem (line_count (line_at ls i) - 1) (d.0, omega arith)).1 in
        let a = low in
        omega arith

    stands_here : (j : ℕ) → Stands base ls (sets image at put) j i
    stands_here j b =
        let e : start_at ls i + j - base ≡ at + j = let l = low in omega arith in
        let l = put-length in
        rw e (sets_in put image at j (omega (arith, b.1)) high ∙ data_is (line_at ls i) k.is_record j b.1)

    stands-before : (j m : ℕ) → m < i → Stands base ls (sets image at put) j m
    stands-before j m l b =
        let apart = k.after_earlier d m l (b.0, omega (arith, b.1)) in
        let inside = ((each m l).in_bank_lem j b).0 in
        sets_below put image at (start_at ls m + j - base) (omega (arith, b.1)) ∙ leaves.there m j l b

    pub leaves-data : Leaves base size ls (suc i) (sets image at put)
    leaves-data =
        record {
          there = λ m j. to_next (Stands base ls (sets image at put) j) i (stands-before j) (stands_here j) m;
          elsewhere = λ a h f. by a h f (dec_lt a at) (dec_lt a (at + length put));
        }
      where
        by :
            (a : ℕ) → a < size → ((m j : ℕ) → m < suc i → HasByte ls m j → start_at ls m + j ≡ base + a → ⊥)
            → Dec (a < at) → Dec (a < at + length put) → get_or (sets image at put) a 0 ≡ 0xFF
        by a h f (yes p) q = sets_below put image at a p ∙ leaves.elsewhere a h (λ m j l. f m j (omega arith))
        by a h f (no p) (no q) = sets_above put image at a (omega arith) ∙ leaves.elsewhere a h (λ m j l. f m j (omega arith))
        by a h f (no p) (yes q) =
            let l = put-length in let b = low in absurd (f i (a - at) (omega arith) (d.0, omega arith) (omega arith))
