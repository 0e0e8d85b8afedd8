-- A sweep: what each sector is then, and that the stores leave just that.
-- Assumes nothing.
use mathlib.Core.Path.{◌≡◌, refl, sym, ap, ◌∙◌}
use mathlib.Core.Bool.{Bool, true, false, not, cond}
use mathlib.Core.List.{List, append-nil}
use Prim.Native.Nat.{ℕ, zero, suc, ◌+◌, ◌-◌, ◌*◌, ◌/◌, ◌≤◌, ◌<◌, min}
use native.Mathlib.Numerals.{add-one}
use native.Mathlib.Omega.{arith}
use lib.Dec.{eqb, leb}
use lib.ListN.{length, get_or, length-replicate}
use borrow.Author.Tests.{eqb-true, eqb-false, leb-true, leb-false}
use Rattle.buffer.proofs.Bools.{and_false}
use Rattle.layout.specs.Layout.{sector_size, good_n, sector_of}
use Rattle.layout.proofs.Layouts.{good_below}
use Rattle.flash.specs.declared.sector.Store.TheVariants as kind
use Rattle.flash.specs.Sector.{blanks, erased_of}
use Rattle.flash.specs.Bank.{has_sector, blank_sector, swept_one, swept, swept_of, IsStore}
use Rattle.flash.specs.Store.{StoresLeave, sweep_store, sweep_stores, stores_of_sweep}
use Rattle.flash.proofs.Blanks.{erased_blank, sector_blanks}
use Rattle.flash.proofs.Changes.{Keeps, at_none, length_at, at_here, at_other}
use Rattle.flash.proofs.Sectors.{Lies, has, has_lies, has_past, length_sector, ext_sector}
use Rattle.flash.proofs.Stores.{leaves_none, leaves_then, leaves_call, leaves_same}

keeps_erased : Keeps erased_of
unfolding erased_of
keeps_erased sector l = length-replicate (length sector) 0xFF ∙ l

-- ---- one sector swept

module _ (bank : List ℕ) (k : ℕ) where
  length_one : (received : Bool) → length (swept_one bank k received) ≡ length bank
  length_one true = refl
  length_one false = length_at erased_of keeps_erased k bank

  one_other : (received : Bool) (j : ℕ) → Lies (length bank) j → (j ≡ k → ⊥) → sector_of (swept_one bank k received) j ≡ sector_of bank j
  one_other true j l n = refl
  one_other false j l n = at_other erased_of keeps_erased k bank j l n

  one_here : (received : Bool) → has_sector (length bank) k ≡ true
      → sector_of (swept_one bank k received) k ≡ cond received (sector_of bank k) blank_sector
  one_here true h = refl
  one_here false h = at_here erased_of keeps_erased k bank h ∙ erased_blank (sector_of bank k) (length_sector bank k (has_lies (length bank) k h))

-- ---- the first n

length_swept : (received : List Bool) (n : ℕ) (bank : List ℕ) → length (swept received n bank) ≡ length bank
unfolding swept
length_swept received zero bank = refl
length_swept received (suc j) bank =
    length_one (swept received j bank) (suc j) (get_or received j false) ∙ length_swept received j bank

module _ (received : List Bool) (bank : List ℕ) (k : ℕ) (h : has_sector (length bank) k ≡ true) where
  -- what a sweep makes of the sector
  abbrev cleared : List ℕ
  cleared = cond (get_or received (k - 1) false) (sector_of bank k) blank_sector

  -- the bank has it at each turn
  still : (n : ℕ) → has_sector (length (swept received n bank)) k ≡ true
  still n = ap (λ (i : ℕ). has_sector i k) (length_swept received n bank) ∙ h

  -- a turn for another sector
  past : (j : ℕ) → (k ≡ suc j → ⊥) → sector_of (swept received (suc j) bank) k ≡ sector_of (swept received j bank) k
  unfolding swept
  past j n = one_other (swept received j bank) (suc j) (get_or received j false) k (has_lies _ k (still j)) n

  first_past : (n : ℕ) → n < k → sector_of (swept received n bank) k ≡ sector_of bank k
  unfolding swept
  first_past zero l = refl
  first_past (suc j) l = past j (λ e. omega arith) ∙ first_past j (omega arith)

  -- the turn for it
  last_swept : (j : ℕ) → k ≡ suc j → sector_of (swept received (suc j) bank) k ≡ cleared
  unfolding swept
  last_swept j e =
      let b : List ℕ = swept received j bank in
      let r : Bool = get_or received j false in
      let i : j ≡ k - 1 = omega arith in
      ap (λ (m : ℕ). sector_of (swept_one b m r) k) (sym e)
      ∙ one_here b k r (still j)
      ∙ ap (λ (sector : List ℕ). cond r sector blank_sector) (first_past j (omega arith))
      ∙ ap (λ (m : ℕ). cond (get_or received m false) (sector_of bank k) blank_sector) i

  first_swept : (n : ℕ) → 1 ≤ k → k ≤ n → sector_of (swept received n bank) k ≡ cleared
  first_swept zero f l = absurd (omega arith)
  first_swept (suc j) f l = by (eqb k (suc j)) refl (first_swept j f)
    where
      by : (t : Bool) → eqb k (suc j) ≡ t → (k ≤ j → sector_of (swept received j bank) k ≡ cleared)
          → sector_of (swept received (suc j) bank) k ≡ cleared
      by true e before = last_swept j (eqb-true k (suc j) e)
      by false e before =
          let n : k ≡ suc j → ⊥ = eqb-false k (suc j) e in
          past j n ∙ before (omega arith)

-- ---- a whole sweep: the mark of sector k stands at index k - 1

module _ (bank : List ℕ) (n : ℕ) (received : List Bool) where
  pub length_sweep : length (swept_of bank n received) ≡ length bank
  length_sweep = length_swept received n bank

  module _ (k : ℕ) (h : has_sector (length bank) k ≡ true) where
    -- each of the first n
    pub swept-sector : k ≤ n → sector_of (swept_of bank n received) k ≡ cond (get_or received (k - 1) false) (sector_of bank k) blank_sector
    swept-sector l = first_swept received bank k h n (has_lies (length bank) k h).first l

    -- past the last
    pub swept-past : n < k → sector_of (swept_of bank n received) k ≡ sector_of bank k
    swept-past l = first_past received bank k h n l

    -- received
    pub swept-received : get_or received (k - 1) false ≡ true → sector_of (swept_of bank n received) k ≡ sector_of bank k
    swept-received r = by (leb k n) refl
      where
        by : (t : Bool) → leb k n ≡ t → sector_of (swept_of bank n received) k ≡ sector_of bank k
        by true e = swept-sector (leb-true k n e) ∙ ap (λ (t : Bool). cond t (sector_of bank k) blank_sector) r
        by false e = swept-past (leb-false k n e)

    -- not received
    swept-missed : k ≤ n → get_or received (k - 1) false ≡ false → sector_of (swept_of bank n received) k ≡ blank_sector
    swept-missed l r = swept-sector l ∙ ap (λ (t : Bool). cond t (sector_of bank k) blank_sector) r

-- nothing received: every byte of the bank is 0xFF then
pub swept_blank : (bank : List ℕ) (n : ℕ) (received : List Bool) → good_n n ≡ true → length bank ≡ n * sector_size
    → ((i : ℕ) → i < n → get_or received i false ≡ false) → swept_of bank n received ≡ blanks (n * sector_size)
swept_blank bank n received g w none =
    ext_sector (swept_of bank n received) (blanks (n * sector_size)) n (length_sweep bank n received ∙ w) (length-replicate (n * sector_size) 0xFF)
    (λ k a l.
    let h : has_sector (length bank) k ≡ true = has (length bank) k (good_below n g k a l) (record { first = a; last = omega arith }) in
    swept-missed bank n received k h l (none (k - 1) (omega arith))
    ∙ sym (sector_blanks n k a l))

-- ---- the stores

module _ (bank : List ℕ) (k : ℕ) where
  one_leaves : (received : Bool) → StoresLeave (sweep_store (length bank) k received) bank (swept_one bank k received)
  unfolding sweep_store
  one_leaves true = leaves_none
  one_leaves false = by (has_sector (length bank) k) refl
    where
      by : (t : Bool) → has_sector (length bank) k ≡ t → StoresLeave (sweep_store (length bank) k false) bank (swept_one bank k false)
      by true h = rw h (leaves_call bank k kind.Erase refl)
      by false h = rw (h, at_none erased_of k bank h) leaves_none

  -- each way out of a turn
  pub one_kept : {received : Bool} → received ≡ true → StoresLeave (sweep_store (length bank) k received) bank bank
  one_kept e = rw e (one_leaves true)

  pub one_erased : {received : Bool} {after : List ℕ} → received ≡ false → IsStore bank k kind.Erase after
      → StoresLeave (sweep_store (length bank) k received) bank after
  one_erased e a = rw (e, a) (one_leaves false)

module _ (received : List Bool) (bytes : ℕ) where
  -- none yet, and one more, as the loop has them
  pub sweep_none : {bank : List ℕ} → StoresLeave (sweep_stores received bytes 0) bank bank
  unfolding sweep_stores
  sweep_none = leaves_none

  pub sweep_next : (j : ℕ) {r : Bool} {bank begun after : List ℕ} → StoresLeave (sweep_stores received bytes j) bank begun
      → length begun ≡ bytes → r ≡ get_or received j false → StoresLeave (sweep_store (length begun) (j + 1) r) begun after
      → StoresLeave (sweep_stores received bytes (j + 1)) bank after
  unfolding sweep_stores
  sweep_next j p l e q = rw add-one (leaves_then p (rw (l, e, add-one) at q))

  -- a sector that the bank does not have takes none, so the turns end at the last that it has
  none_beyond : (q d : ℕ) → bytes / sector_size ≤ q → sweep_stores received bytes (q + d) ≡ sweep_stores received bytes q
  unfolding sweep_stores sweep_store
  none_beyond q zero h = let e : q + 0 ≡ q = omega arith in rw e
  none_beyond q (suc d) h =
      let e : q + suc d ≡ suc (q + d) = omega arith in
      let o : bytes < suc (q + d) * sector_size = omega arith in
      rw (e, has_past bytes (suc (q + d)) o, and_false (not (get_or received (q + d) false)), append-nil (sweep_stores received bytes (q + d)))
      (none_beyond q d h)

  stores_all : (n : ℕ) → sweep_stores received bytes (min n (bytes / sector_size)) ≡ sweep_stores received bytes n
  stores_all n = by (leb n (bytes / sector_size)) refl
    where
      by : (t : Bool) → leb n (bytes / sector_size) ≡ t → sweep_stores received bytes (min n (bytes / sector_size)) ≡ sweep_stores received bytes n
      by true t =
          let l : n ≤ bytes / sector_size = leb-true n (bytes / sector_size) t in
          let e : min n (bytes / sector_size) ≡ n = omega arith in
          ap (sweep_stores received bytes) e
      by false t =
          let l : bytes / sector_size < n = leb-false n (bytes / sector_size) t in
          let e : min n (bytes / sector_size) ≡ bytes / sector_size = omega arith in
          let f : n ≡ bytes / sector_size + (n - bytes / sector_size) = omega arith in
          ap (sweep_stores received bytes) e
          ∙ sym (ap (sweep_stores received bytes) f ∙ none_beyond (bytes / sector_size) (n - bytes / sector_size) (omega arith))

-- what the stores of a sweep leave is what the sweep leaves
pub sweep_leaves : (bank : List ℕ) (n : ℕ) (received : List Bool) → StoresLeave (stores_of_sweep bank n received) bank (swept_of bank n received)
unfolding swept sweep_stores
sweep_leaves bank zero received = leaves_none
sweep_leaves bank (suc j) received =
    leaves_then (sweep_leaves bank j received)
    (rw (length_swept received j bank) at (one_leaves (swept received j bank) (suc j) (get_or received j false)))

pub sweep_end : (received : List Bool) (n j : ℕ) (bank : List ℕ) {after : List ℕ} → StoresLeave (sweep_stores received (length bank) j) bank after
    → j ≡ min n (length bank / sector_size) → after ≡ swept_of bank n received
sweep_end received n j bank p e = leaves_same (rw (e, stores_all received (length bank) n) at p) (sweep_leaves bank n received)
