-- Bytes written to a sector of a bank: what the sectors are then, what is answered, and that the stores leave just that.
-- Assumes nothing.
use mathlib.Core.Path.{◌≡◌, refl, sym, ap, ◌∙◌}
use mathlib.Core.Bool.{Bool, true, false, ◌&&◌}
use mathlib.Core.List.{List, [], ◌∷◌}
use Prim.Native.Nat.{ℕ, ◌*◌, ◌/◌, ◌%◌, ◌≤◌, ◌<◌}
use native.Mathlib.Omega.{arith}
use lib.Dec.{eqb, leb}
use lib.ListN.{length, take}
use lib.Seq.{take-length}
use borrow.Author.Tests.{eq-eqb, eqb-true, le-leb, lt-leb, leb-true}
use Rattle.buffer.specs.Compare.{same_of, blank_of}
use Rattle.buffer.proofs.Bools.{and_left, and_right, and_both}
use Rattle.buffer.proofs.Comparing.{same_self, same_true}
use Rattle.layout.specs.Layout.{sector_size, good_n, sector_of}
use Rattle.flash.specs.Sector.{word_bytes, padded_of, fits_sector, written_of, already_of}
use Rattle.flash.specs.Bank.{has_sector, with_sector, written_at, already_at, IsWriteAt}
use Rattle.flash.specs.Store.{Store, Erase, StoresLeave, word_stores, stores_of}
use Rattle.flash.proofs.Changes.{Keeps, at_has, at_none, at_same, length_at, at_still, at_here, at_other, at_swap}
use Rattle.flash.proofs.Sectors.{Lies, has, has_lies, lies_still}
use Rattle.flash.proofs.Stores.{leaves_none, leaves_then, leaves_same}
use Rattle.flash.proofs.Words.{length_padded, blank_words, erase_leaves, words_leave}

-- ---- bytes that fit a sector, in whole words

module _ (m : ℕ) where
  pub fits_short : fits_sector m ≡ true → m ≤ sector_size
  unfolding fits_sector
  fits_short f = leb-true m sector_size (and_left (leb m sector_size) (eqb (m % word_bytes) 0) f)

  fits_words : fits_sector m ≡ true → m % word_bytes ≡ 0
  unfolding fits_sector
  fits_words f = eqb-true (m % word_bytes) 0 (and_right (leb m sector_size) (eqb (m % word_bytes) 0) f)

  -- as the code tests it
  pub fits_long : sector_size < m → false ≡ fits_sector m
  unfolding fits_sector
  fits_long h = rw (lt-leb m sector_size h)

  pub fits_some : m ≤ sector_size → eqb (m % word_bytes) 0 ≡ fits_sector m
  unfolding fits_sector
  fits_some h = rw (le-leb m sector_size h)

-- ---- one sector

-- what is done to it
abbrev write : List ℕ → List ℕ → List ℕ
write bytes sector = written_of sector bytes

module _ (sector bytes : List ℕ) where
  written_fits : fits_sector (length bytes) ≡ true → written_of sector bytes ≡ padded_of bytes
  unfolding written_of
  written_fits f = rw f

  written_unfit : fits_sector (length bytes) ≡ false → written_of sector bytes ≡ sector
  unfolding written_of
  written_unfit f = rw f

  -- one that already was what it should become stays
  already_stays : already_of sector bytes ≡ true → written_of sector bytes ≡ sector
  unfolding already_of
  already_stays e =
      let f : Bool = fits_sector (length bytes) in
      let s : Bool = same_of sector (padded_of bytes) in
      written_fits (and_left f s e) ∙ sym (same_true sector (padded_of bytes) (and_right f s e))

keeps_written : (bytes : List ℕ) → Keeps (λ (sector : List ℕ). written_of sector bytes)
keeps_written bytes sector l = by (fits_sector (length bytes)) refl
  where
    by : (t : Bool) → fits_sector (length bytes) ≡ t → length (written_of sector bytes) ≡ sector_size
    by true f = ap length (written_fits sector bytes f) ∙ length_padded bytes (fits_short (length bytes) f)
    by false f = ap length (written_unfit sector bytes f) ∙ l

-- ---- a bank

-- a sector that the bank has, and bytes that fit it in whole words
pub record FitsAt (bank : List ℕ) (k : ℕ) (bytes : List ℕ) : Type 0 where
  pub good : good_n k ≡ true
  pub inside : Lies (length bank) k
  pub short : length bytes ≤ sector_size
  pub words : length bytes % word_bytes ≡ 0

module _ (bank : List ℕ) (k : ℕ) (bytes : List ℕ) where
  has_fit : FitsAt bank k bytes → has_sector (length bank) k ≡ true
  has_fit f = has (length bank) k f.good f.inside

  bytes_fit : FitsAt bank k bytes → fits_sector (length bytes) ≡ true
  unfolding fits_sector
  bytes_fit f = and_both _ _ (le-leb (length bytes) sector_size f.short) (eq-eqb (length bytes % word_bytes) 0 f.words)

  pub length_written : length (written_at bank k bytes) ≡ length bank
  length_written = length_at (write bytes) (keeps_written bytes) k bank

  -- it fits as it did
  fits_still : FitsAt bank k bytes → FitsAt (written_at bank k bytes) k bytes
  fits_still f = record { good = f.good; inside = lies_still length_written f.inside; short = f.short; words = f.words }

  -- sector k becomes the bytes followed by 0xFF
  with_written : has_sector (length bank) k ≡ true → fits_sector (length bytes) ≡ true → written_at bank k bytes ≡ with_sector bank k (padded_of bytes)
  with_written h f = at_has (write bytes) k bank h ∙ ap (with_sector bank k) (written_fits (sector_of bank k) bytes f)

  pub written_with : FitsAt bank k bytes → written_at bank k bytes ≡ with_sector bank k (padded_of bytes)
  written_with f = with_written (has_fit f) (bytes_fit f)

  pub written_here : FitsAt bank k bytes → sector_of (written_at bank k bytes) k ≡ padded_of bytes
  written_here f =
      at_here (write bytes) (keeps_written bytes) k bank (has_fit f) ∙ written_fits (sector_of bank k) bytes (bytes_fit f)

  -- each other one stays
  pub written_other : (j : ℕ) → Lies (length bank) j → (j ≡ k → ⊥) → sector_of (written_at bank k bytes) j ≡ sector_of bank j
  written_other = at_other (write bytes) (keeps_written bytes) k bank

  -- the answer: whether the sector already was what it should become
  same_already : has_sector (length bank) k ≡ true → fits_sector (length bytes) ≡ true
      → already_at bank k bytes ≡ same_of (sector_of bank k) (padded_of bytes)
  unfolding already_at already_of
  same_already h f = rw (h, f)

  pub already_same : FitsAt bank k bytes → already_at bank k bytes ≡ same_of (sector_of bank k) (padded_of bytes)
  already_same f = same_already (has_fit f) (bytes_fit f)

  -- then nothing changes
  pub already_kept : already_at bank k bytes ≡ true → written_at bank k bytes ≡ bank
  unfolding already_at
  already_kept e =
      at_same (write bytes) k bank
      (already_stays (sector_of bank k) bytes (and_right (has_sector (length bank) k) (already_of (sector_of bank k) bytes) e))

-- what was written already is there the next time
pub already_again : (bank : List ℕ) (k : ℕ) (bytes : List ℕ) → FitsAt bank k bytes → already_at (written_at bank k bytes) k bytes ≡ true
already_again bank k bytes f =
    already_same (written_at bank k bytes) k bytes (fits_still bank k bytes f)
    ∙ ap (λ (sector : List ℕ). same_of sector (padded_of bytes)) (written_here bank k bytes f)
    ∙ same_self (padded_of bytes)

-- two sectors: the bank is the same in either order, and so are the answers
module _ (bank : List ℕ) (j k : ℕ) (a b : List ℕ) (n : j ≡ k → ⊥) where
  pub written_swap : written_at (written_at bank j a) k b ≡ written_at (written_at bank k b) j a
  written_swap = at_swap (write a) (write b) (keeps_written a) (keeps_written b) j k bank n

  pub already_other : already_at (written_at bank j a) k b ≡ already_at bank k b
  unfolding already_at
  already_other = by (has_sector (length bank) k) refl
    where
      by : (t : Bool) → has_sector (length bank) k ≡ t → already_at (written_at bank j a) k b ≡ already_at bank k b
      by true h =
          rw (at_still (write a) (keeps_written a) j bank k h, h, written_other bank j a k (has_lies (length bank) k h) (λ e. n (sym e)))
      by false h = rw (at_still (write a) (keeps_written a) j bank k h, h)

-- ---- the stores

module _ (bank : List ℕ) (k : ℕ) (bytes : List ℕ) where
  -- where there are any
  stores_made : has_sector (length bank) k ≡ true → fits_sector (length bytes) ≡ true → same_of (sector_of bank k) (padded_of bytes) ≡ false
      → stores_of bank k bytes ≡ Erase k ∷ word_stores k bytes (length bytes / word_bytes)
  unfolding stores_of
  stores_made h f s = rw (h, f, s)

  -- a sector that already was what it should become takes none
  pub already_none : already_at bank k bytes ≡ true → stores_of bank k bytes ≡ []
  unfolding already_at already_of stores_of
  already_none e =
      let h : Bool = has_sector (length bank) k in
      let f : Bool = fits_sector (length bytes) in
      let s : Bool = same_of (sector_of bank k) (padded_of bytes) in
      rw (and_left h (f && s) e, and_left f s (and_right h (f && s) e), and_right f s (and_right h (f && s) e))

  -- blank bytes take one store over what is not blank: the sector is erased
  pub blank_stores : FitsAt bank k bytes → blank_of bytes ≡ true → same_of (sector_of bank k) (padded_of bytes) ≡ false
      → stores_of bank k bytes ≡ Erase k ∷ []
  blank_stores f b s =
      stores_made (has_fit bank k bytes f) (bytes_fit bank k bytes f) s
      ∙ ap (λ (l : List Store). Erase k ∷ l) (blank_words k bytes (length bytes / word_bytes) b)

  -- what they leave is what the write leaves
  pub write_leaves : StoresLeave (stores_of bank k bytes) bank (written_at bank k bytes)
  unfolding stores_of already_at already_of
  write_leaves = by (has_sector (length bank) k) (fits_sector (length bytes)) (same_of (sector_of bank k) (padded_of bytes)) refl refl refl
    where
      by : (h f s : Bool) → has_sector (length bank) k ≡ h → fits_sector (length bytes) ≡ f → same_of (sector_of bank k) (padded_of bytes) ≡ s
          → StoresLeave (stores_of bank k bytes) bank (written_at bank k bytes)
      by false f s h g e = rw (h, at_none (write bytes) k bank h) leaves_none
      by true false s h g e = rw (h, g, at_same (write bytes) k bank (written_unfit (sector_of bank k) bytes g)) leaves_none
      by true true true h g e = rw (h, g, e, already_kept bank k bytes (same_already bank k bytes h g ∙ e)) leaves_none
      by true true false h g e =
          let short : length bytes ≤ sector_size = fits_short (length bytes) g in
          let whole : length bytes / word_bytes * word_bytes ≡ length bytes = omega (arith, fits_words (length bytes) g) in
          let all : take (length bytes / word_bytes * word_bytes) bytes ≡ bytes = ap (λ (n : ℕ). take n bytes) whole ∙ take-length bytes in
          rw (h, g, e, with_written bank k bytes h g)
          (leaves_then (erase_leaves bank k h) (rw all at (words_leave bank k h bytes (length bytes / word_bytes) (omega arith) short)))

  -- ---- each way out of a write

  pub write_outside : has_sector (length bank) k ≡ false → IsWriteAt bank k bytes bank false
  unfolding already_at
  write_outside h = record { written = sym (at_none (write bytes) k bank h); already = rw h }

  pub write_unfit : has_sector (length bank) k ≡ true → fits_sector (length bytes) ≡ false → IsWriteAt bank k bytes bank false
  unfolding already_at already_of
  write_unfit h f = record { written = sym (at_same (write bytes) k bank (written_unfit (sector_of bank k) bytes f)); already = rw (h, f) }

  module _ (h : has_sector (length bank) k ≡ true) (f : fits_sector (length bytes) ≡ true) where
    pub write-held : true ≡ same_of (sector_of bank k) (padded_of bytes) → IsWriteAt bank k bytes bank true
    write-held s =
        let a : already_at bank k bytes ≡ true = same_already bank k bytes h f ∙ sym s in
        record { written = sym (already_kept bank k bytes a); already = sym a }

    -- erased, and then word by word
    pub write-stored : {erased after : List ℕ} → false ≡ same_of (sector_of bank k) (padded_of bytes) → StoresLeave (Erase k ∷ []) bank erased
        → StoresLeave (word_stores k bytes (length bytes / word_bytes)) erased after → IsWriteAt bank k bytes after false
    write-stored s e w =
        record {
          written = leaves_same (leaves_then e w) (rw (stores_made h f (sym s)) at write_leaves);
          already = s ∙ sym (same_already bank k bytes h f);
        }
