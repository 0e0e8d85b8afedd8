-- The stores one by one, and in their order, that a written sector and a sweep are made of (docs/DECISIONS.md, R18a). 02 §14 cuts such lists.
-- Assumes nothing.
use Rattle.std.specs.Prelude.{◌≡◌, Bool, false, not, ◌&&◌, cond, List, [], ◌∷◌, ◌++◌, ℕ, zero, suc, ◌*◌, ◌/◌, length, get_or, take, drop}
use Rattle.buffer.specs.Compare.{same_of, blank_of}
use Rattle.buffer.specs.Number.{bytes_of}
use Rattle.buffer.specs.Place.{place_of}
use Rattle.layout.specs.declared.Bank.{Bank}
use Rattle.layout.specs.Layout.{sector_of}
use Rattle.flash.specs.declared.sector.Store.{Store as Kind}
use Rattle.flash.specs.declared.sector.Store.TheVariants as kind
use Rattle.flash.specs.Sector.{word_bytes, erased_of, padded_of, fits_sector}
use Rattle.flash.specs.Bank.{has_sector, at_sector}

-- what stores change: the bytes of a bank, and the number of the bank that starts next
pub record Flash : Type 0 where
  pub bank : List ℕ
  pub next : Bank

abbrev pub flash : List ℕ → Bank → Flash
flash bank next = record { bank = bank; next = next }

-- a sector erased; a word stored to a sector, from an index on; the next-start number set
pub data Store : Type 0 where
  Erase : ℕ → Store
  Word : ℕ → ℕ → List ℕ → Store
  Next : Bank → Store

-- what one store leaves; what does not lie within a sector of the bank changes nothing
abbrev pub made : Store → Flash → Flash
made (Erase k) f = flash (at_sector erased_of k f.bank) f.next
made (Word k at word) f = flash (at_sector (λ (sector : List ℕ). place_of sector at word) k f.bank) f.next
made (Next next) f = flash f.bank next

-- what several leave, the first of them first
unfoldable pub all_made : List Store → Flash → Flash
all_made [] f = f
all_made (store ∷ stores) f = all_made stores (made store f)

-- these stores make one bank of another, and set no next-start number
pub record StoresLeave (stores : List Store) (before after : List ℕ) : Type 0 where
  pub left : (next : Bank) → all_made stores (flash before next) ≡ flash after next

-- the store of one call, which names the sector beside it
abbrev pub in_sector : ℕ → Kind → Store
in_sector k kind.Erase = Erase k
in_sector k (kind.Word at word) = Word k at (bytes_of word_bytes word)

-- ---- a written sector

-- word i of the bytes
abbrev pub word_in : List ℕ → ℕ → List ℕ
word_in bytes i = take word_bytes (drop (i * word_bytes) bytes)

-- the store of word i: none where it is FF FF FF FF, which an erased sector holds already
unfoldable pub word_store : ℕ → List ℕ → ℕ → List Store
word_store k bytes i = cond (blank_of (word_in bytes i)) [] (Word k (i * word_bytes) (word_in bytes i) ∷ [])

-- those of the first n words, ascending
unfoldable pub word_stores : ℕ → List ℕ → ℕ → List Store
word_stores k bytes zero = []
word_stores k bytes (suc i) = word_stores k bytes i ++ word_store k bytes i

-- those that write the bytes to sector k: none where it holds them already, else it is erased first
unfoldable pub stores_of : List ℕ → ℕ → List ℕ → List Store
stores_of bank k bytes =
    cond (has_sector (length bank) k && (fits_sector (length bytes) && not (same_of (sector_of bank k) (padded_of bytes))))
    (Erase k ∷ word_stores k bytes (length bytes / word_bytes))
    []

-- ---- a sweep

-- the one that sweeps sector k of a bank of so many bytes: none where it was received, or the bank does not have it
unfoldable pub sweep_store : ℕ → ℕ → Bool → List Store
sweep_store bytes k received = cond (not received && has_sector bytes k) (Erase k ∷ []) []

-- those that sweep the first n sectors, ascending
unfoldable pub sweep_stores : List Bool → ℕ → ℕ → List Store
sweep_stores received bytes zero = []
sweep_stores received bytes (suc j) = sweep_stores received bytes j ++ sweep_store bytes (suc j) (get_or received j false)

-- those of a whole sweep
abbrev pub stores_of_sweep : List ℕ → ℕ → List Bool → List Store
stores_of_sweep bank n received = sweep_stores received (length bank) n
