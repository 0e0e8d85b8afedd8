-- One sector: what one store does to it, and what a write makes of it (01, 'The client, step by step', "Write packet in write state").
-- Assumes nothing.
use Rattle.std.specs.Prelude.{Bool, ◌&&◌, cond, List, ◌++◌, ℕ, ◌-◌, ◌%◌, eqb, leb, length, replicate}
use Rattle.buffer.specs.Compare.{same_of}
use Rattle.buffer.specs.Number.{bytes_of}
use Rattle.buffer.specs.Place.{place_of}
use Rattle.layout.specs.Layout.{sector_size}
use Rattle.flash.specs.declared.sector.Store.{Store}
use Rattle.flash.specs.declared.sector.Store.TheVariants.{Erase, Word}

-- the bytes of a word, which is stored at once
abbrev pub word_bytes : ℕ
word_bytes = 4

-- 0xFF over and over
abbrev pub blanks : ℕ → List ℕ
blanks n = replicate n 0xFF

-- as many bytes, each 0xFF
unfoldable pub erased_of : List ℕ → List ℕ
erased_of sector = blanks (length sector)

-- the sector after one store; a word that does not lie within it changes nothing
abbrev pub stored_in : Store → List ℕ → List ℕ
stored_in Erase sector = erased_of sector
stored_in (Word at word) sector = place_of sector at (bytes_of word_bytes word)

-- "the M data bytes followed by 0xFF"
unfoldable pub padded_of : List ℕ → List ℕ
padded_of bytes = bytes ++ blanks (sector_size - length bytes)

-- so many bytes fit a sector, in whole words
unfoldable pub fits_sector : ℕ → Bool
fits_sector m = leb m sector_size && eqb (m % word_bytes) 0

-- the sector after the bytes were written to it: what does not fit changes nothing
unfoldable pub written_of : List ℕ → List ℕ → List ℕ
written_of sector bytes = cond (fits_sector (length bytes)) (padded_of bytes) sector

-- "already were what they should become"
unfoldable pub already_of : List ℕ → List ℕ → Bool
already_of sector bytes = fits_sector (length bytes) && same_of sector (padded_of bytes)
