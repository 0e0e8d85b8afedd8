-- A bank as sectors (01, 'Banks and sectors'; 'End OTA Write').
-- Assumes nothing.
use Rattle.std.specs.Prelude.{◌≡◌, Bool, false, ◌&&◌, cond, List, ◌++◌, ℕ, zero, suc, ◌*◌, leb, length, get_or, take, drop}
use Rattle.layout.specs.Layout.{sector_size, good_n, sector_start, sector_of}
use Rattle.flash.specs.declared.sector.Store.{Store}
use Rattle.flash.specs.Sector.{blanks, erased_of, stored_in, written_of, already_of}

-- whether a bank of so many bytes has a sector k: numbers run from 1, no bank has more than 491, and the sector ends within the bank
unfoldable pub has_sector : ℕ → ℕ → Bool
has_sector bytes k = good_n k && leb (k * sector_size) bytes

-- the bank with another sector k
unfoldable pub with_sector : List ℕ → ℕ → List ℕ → List ℕ
with_sector bank k sector = take (sector_start k) bank ++ (sector ++ drop (k * sector_size) bank)

-- a sector that was erased
unfoldable pub blank_sector : List ℕ
blank_sector = blanks sector_size

-- the bank after something was done to its sector k; one that it does not have changes nothing
unfoldable pub at_sector : (List ℕ → List ℕ) → ℕ → List ℕ → List ℕ
at_sector f k bank = cond (has_sector (length bank) k) (with_sector bank k (f (sector_of bank k))) bank

-- the bank after the bytes were written to sector k
abbrev pub written_at : List ℕ → ℕ → List ℕ → List ℕ
written_at bank k bytes = at_sector (λ (sector : List ℕ). written_of sector bytes) k bank

-- whether sector k already was what it should become; a sector that the bank does not have never was
unfoldable pub already_at : List ℕ → ℕ → List ℕ → Bool
already_at bank k bytes = has_sector (length bank) k && already_of (sector_of bank k) bytes

-- the bank after sector k was swept: "each sector not received .. is erased"
abbrev pub swept_one : List ℕ → ℕ → Bool → List ℕ
swept_one bank k received = cond received bank (at_sector erased_of k bank)

-- after the first n sectors were; what stands at index j is said of sector j + 1, and a sector of which nothing is said was not received
unfoldable pub swept : List Bool → ℕ → List ℕ → List ℕ
swept received zero bank = bank
swept received (suc j) bank = swept_one (swept received j bank) (suc j) (get_or received j false)

abbrev pub swept_of : List ℕ → ℕ → List Bool → List ℕ
swept_of bank n received = swept received n bank

-- one store to sector k
abbrev pub IsStore : List ℕ → ℕ → Store → List ℕ → Type 0
IsStore before k store after = after ≡ at_sector (stored_in store) k before

pub record IsWriteAt (before : List ℕ) (k : ℕ) (bytes after : List ℕ) (r : Bool) : Type 0 where
  pub written : after ≡ written_at before k bytes
  pub already : r ≡ already_at before k bytes

abbrev pub IsSweep : List ℕ → ℕ → List Bool → List ℕ → Type 0
IsSweep before n received after = after ≡ swept_of before n received
