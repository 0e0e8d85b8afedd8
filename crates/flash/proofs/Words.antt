-- A sector erased and written word by word: what the stores leave is the bytes followed by 0xFF.
-- Assumes nothing.
use mathlib.Core.Path.{◌≡◌, refl, sym, ap, ◌∙◌}
use mathlib.Core.Bool.{Bool, true, false, ◌&&◌}
use mathlib.Core.List.{List, [], ◌∷◌, ◌++◌, append_assoc}
use Prim.Native.Nat.{ℕ, zero, suc, ◌+◌, ◌-◌, ◌*◌, ◌/◌, ◌%◌, ◌≤◌, ◌<◌}
use native.Mathlib.Numerals.{add-one}
use native.Mathlib.Omega.{arith}
use lib.ListN.{length, get_or, take, drop, length-append, length-drop, replicate-append-replicate, take-append-drop}
use lib.Seq.{take-add, drop_at, length-take-le}
use Rattle.buffer.specs.Compare.{same_of, blank_of}
use Rattle.buffer.specs.Number.{number_of, bytes_of, number_at}
use Rattle.buffer.specs.Place.{place_of}
use Rattle.buffer.proofs.Bools.{not_so}
use Rattle.buffer.proofs.Comparing.{blank_true, blank_part, same_append, same_filled}
use Rattle.buffer.proofs.Numbers.{number_inside, number_four, bytes_four}
use Rattle.buffer.proofs.Parts.{part_length, part_next, rest_out}
use Rattle.buffer.proofs.Places.{place_next}
use Rattle.layout.specs.Layout.{sector_size, sector_of}
use Rattle.flash.specs.declared.sector.Store.TheVariants as kind
use Rattle.flash.specs.Sector.{word_bytes, blanks, erased_of, padded_of}
use Rattle.flash.specs.Bank.{has_sector, with_sector, at_sector, IsStore}
use Rattle.flash.specs.Store.{Erase, flash, all_made, StoresLeave, word_in, word_store, word_stores}
use Rattle.flash.proofs.Blanks.{length_blanks, erased_blank, padded_blanks}
use Rattle.flash.proofs.Changes.{at_has, at_with}
use Rattle.flash.proofs.Sectors.{has_lies, length_sector}
use Rattle.flash.proofs.Stores.{leaves_none, leaves_then, leaves_call}

-- ---- bytes followed by 0xFF

pub length_padded : (bytes : List ℕ) → length bytes ≤ sector_size → length (padded_of bytes) ≡ sector_size
unfolding padded_of
length_padded bytes h = omega (arith, length-append bytes (blanks (sector_size - length bytes)), length_blanks (sector_size - length bytes))

-- a sector that was erased is no bytes, followed by 0xFF
padded_none : (sector : List ℕ) → length sector ≡ sector_size → erased_of sector ≡ padded_of []
unfolding blank_of
padded_none sector e = erased_blank sector e ∙ sym (padded_blanks [] (omega arith) refl)

-- 0xFF over and over is some of it and the rest
filled_parts : (n w m : ℕ) → n ≡ w + m → blanks n ≡ blanks w ++ blanks m
filled_parts n w m e = ap (λ (i : ℕ). blanks i) e ∙ sym (replicate-append-replicate w m 0xFF)

module _ (begun word : List ℕ) (h : length begun + length word ≤ sector_size) where
  -- how much is left behind the word
  left_over : sector_size - length begun ≡ length word + (sector_size - length (begun ++ word))
  left_over = omega (arith, length-append begun word)

  -- bytes stored right behind others
  padded_put : place_of (padded_of begun) (length begun) word ≡ padded_of (begun ++ word)
  unfolding padded_of
  padded_put =
      let n : ℕ = sector_size - length begun in
      let m : ℕ = sector_size - length (begun ++ word) in
      let l : length (blanks n) ≡ n = length_blanks n in
      place_next begun (blanks n) word (omega arith)
      ∙ ap (λ (r : List ℕ). begun ++ word ++ r)
      (ap (drop (length word)) (filled_parts n (length word) m left_over)
      ∙ drop_at (blanks (length word)) (blanks m) (length word) (length_blanks (length word)))

  -- blank bytes behind others are there already
  padded_blank : blank_of word ≡ true → padded_of begun ≡ padded_of (begun ++ word)
  unfolding padded_of
  padded_blank b =
      let m : ℕ = sector_size - length (begun ++ word) in
      ap (λ (r : List ℕ). begun ++ r)
      (filled_parts (sector_size - length begun) (length word) m left_over
      ∙ ap (λ (r : List ℕ). r ++ blanks m) (sym (blank_true word b)))
      ∙ sym (append_assoc begun word (blanks m))

-- ---- the comparison

module _ (sector bytes : List ℕ) (s : length sector ≡ sector_size) (h : length bytes ≤ sector_size) where
  -- the first part is compared with the bytes, the rest with 0xFF
  same_padded : same_of sector (padded_of bytes) ≡ (same_of (take (length bytes) sector) bytes && blank_of (drop (length bytes) sector))
  unfolding padded_of
  same_padded =
      let m : ℕ = length bytes in
      let d : length (drop m sector) ≡ sector_size - m = length-drop m sector ∙ ap (λ (n : ℕ). n - m) s in
      ap (λ (l : List ℕ). same_of l (bytes ++ blanks (sector_size - m))) (sym (take-append-drop m sector))
      ∙ same_append (take m sector) (drop m sector) bytes (blanks (sector_size - m)) (length-take-le m sector (omega arith))
      ∙ ap (λ (r : Bool). same_of (take m sector) bytes && r)
      (ap (λ (n : ℕ). same_of (drop m sector) (blanks n)) (sym d) ∙ same_filled (drop m sector))

  pub holds_not : {r : Bool} → r ≡ same_of (take (length bytes) sector) bytes → r ≡ false → false ≡ same_of sector (padded_of bytes)
  holds_not e f = sym (same_padded ∙ ap (λ (q : Bool). q && blank_of (drop (length bytes) sector)) (sym e ∙ f))

  pub holds_rest : {r : Bool} → r ≡ same_of (take (length bytes) sector) bytes → r ≡ true
      → blank_of (drop (length bytes) sector) ≡ same_of sector (padded_of bytes)
  holds_rest e t = sym (same_padded ∙ ap (λ (q : Bool). q && blank_of (drop (length bytes) sector)) (sym e ∙ t))

-- ---- the words, one by one

module _ (k : ℕ) (bytes : List ℕ) where
  -- none yet, and one more, as the loop has them
  pub words_none : {bank : List ℕ} → StoresLeave (word_stores k bytes 0) bank bank
  unfolding word_stores
  words_none = leaves_none

  pub words_next : (i : ℕ) {bank begun after : List ℕ} → StoresLeave (word_stores k bytes i) bank begun → StoresLeave (word_store k bytes i) begun after
      → StoresLeave (word_stores k bytes (i + 1)) bank after
  unfolding word_stores
  words_next i p q = rw add-one (leaves_then p q)

  -- blank bytes have no word to store
  pub blank_words : (n : ℕ) → blank_of bytes ≡ true → word_stores k bytes n ≡ []
  unfolding word_stores word_store
  blank_words zero b = refl
  blank_words (suc i) b = rw (blank_words i b, blank_part bytes (i * word_bytes) word_bytes b)

-- four bytes that were read as a number and are written again
word_back : (a b c d : ℕ) → a < 256 → b < 256 → c < 256 → d < 256 → bytes_of 4 ((a * 256 + b) * 65536 + (c * 256 + d)) ≡ a ∷ b ∷ c ∷ d ∷ []
word_back a b c d ha hb hc hd =
    let n : ℕ = (a * 256 + b) * 65536 + (c * 256 + d) in
    let first : n / 16777216 % 256 ≡ a = omega arith in
    let second : n / 65536 % 256 ≡ b = omega arith in
    let third : n / 256 % 256 ≡ c = omega arith in
    let fourth : n % 256 ≡ d = omega arith in
    bytes_four n ∙ rw (first, second, third, fourth)

-- word i, read from the rest of the bytes as a number
module _ (bytes : List ℕ) (i word : ℕ) (h : i * word_bytes + word_bytes ≤ length bytes)
    (is : word ≡ number_at 4 (take (length bytes - i * word_bytes) (drop (i * word_bytes) bytes)) 0) where
  word_read : word ≡ number_at 4 bytes (i * word_bytes)
  word_read =
      let at : ℕ = i * word_bytes in
      is
      ∙ ap (λ (l : List ℕ). number_at 4 l 0) (rest_out bytes at)
      ∙ number_inside 4 (drop at bytes) 0 (omega (arith, length-drop at bytes))
      ∙ sym (number_inside 4 bytes at h)

  word_bytes_lem : ((j : ℕ) → get_or bytes j 0 < 256) → bytes_of word_bytes word ≡ word_in bytes i
  word_bytes_lem small =
      let at : ℕ = i * word_bytes in
      let two : at + 1 + 1 ≡ at + 2 = omega arith in
      let three : at + 2 + 1 ≡ at + 3 = omega arith in
      ap (bytes_of 4) (word_read ∙ number_four bytes at h)
      ∙ word_back (get_or bytes at 0) (get_or bytes (at + 1) 0) (get_or bytes (at + 2) 0) (get_or bytes (at + 3) 0) (small _) (small _) (small _) (small _)
      ∙ rw (part_next bytes at 3 (omega arith), part_next bytes (at + 1) 2 (omega arith), two)
      (rw (part_next bytes (at + 2) 1 (omega arith), three, part_next bytes (at + 3) 0 (omega arith)))

  -- it is blank where the number is the largest
  blank_read : blank_of (word_in bytes i) ≡ true → word ≡ 0xFFFFFFFF
  unfolding number_of
  blank_read b =
      let l : length (word_in bytes i) ≡ 4 = part_length bytes (i * word_bytes) 4 h in
      word_read
      ∙ number_inside 4 bytes (i * word_bytes) h
      ∙ ap number_of (blank_true (word_in bytes i) b ∙ ap (λ (n : ℕ). blanks n) l)

  module _ (small : (j : ℕ) → get_or bytes j 0 < 256) where
    read-blank : word ≡ 0xFFFFFFFF → blank_of (word_in bytes i) ≡ true
    unfolding blank_of bytes_of
    read-blank e = ap blank_of (sym (word_bytes_lem small) ∙ ap (bytes_of word_bytes) e)

    -- then it is not stored, and else it is
    pub word-left : (k : ℕ) {bank : List ℕ} → word ≡ 0xFFFFFFFF → StoresLeave (word_store k bytes i) bank bank
    unfolding word_store
    word-left k e = rw (read-blank e) leaves_none

    pub word-put : (k : ℕ) (bank : List ℕ) {after : List ℕ} → (word ≡ 0xFFFFFFFF → ⊥) → IsStore bank k (kind.Word (i * word_bytes) word) after
        → StoresLeave (word_store k bytes i) bank after
    unfolding word_store
    word-put k bank n e =
        rw (not_so (blank_of (word_in bytes i)) (λ b. n (blank_read b)))
        (rw (word_bytes_lem small) at (leaves_call bank k (kind.Word (i * word_bytes) word) e))

-- ---- all of them

-- the bank whose sector k is these bytes, followed by 0xFF
module _ (bank : List ℕ) (k : ℕ) (h : has_sector (length bank) k ≡ true) where
  -- erased
  pub erase_leaves : StoresLeave (Erase k ∷ []) bank (with_sector bank k (padded_of []))
  erase_leaves =
      leaves_call bank k kind.Erase
      (sym (at_has erased_of k bank h ∙ ap (with_sector bank k) (padded_none (sector_of bank k) (length_sector bank k (has_lies (length bank) k h)))))

  -- one word more
  module _ (bytes : List ℕ) (i : ℕ) (begun : List ℕ) (n : length begun ≡ i * word_bytes)
      (l : length begun + length (word_in bytes i) ≤ sector_size) where
    word-leaves : (b : Bool) → blank_of (word_in bytes i) ≡ b
        → StoresLeave (word_store k bytes i) (with_sector bank k (padded_of begun)) (with_sector bank k (padded_of (begun ++ word_in bytes i)))
    unfolding word_store all_made
    word-leaves true b = rw (b, padded_blank begun (word_in bytes i) l b) leaves_none
    word-leaves false b =
        let word : List ℕ = word_in bytes i in
        let put : List ℕ → List ℕ = λ sector. place_of sector (i * word_bytes) word in
        let p : put (padded_of begun) ≡ padded_of (begun ++ word) =
        ap (λ (at : ℕ). place_of (padded_of begun) at word) (sym n) ∙ padded_put begun word l in
        let a : at_sector put k (with_sector bank k (padded_of begun)) ≡ with_sector bank k (padded_of (begun ++ word)) =
        at_with put k bank (padded_of begun) h (length_padded begun (omega arith)) ∙ ap (with_sector bank k) p in
        rw b (record { left = λ next. ap (λ (x : List ℕ). flash x next) a })

  pub words_leave : (bytes : List ℕ) (n : ℕ) → n * word_bytes ≤ length bytes → length bytes ≤ sector_size
      → StoresLeave (word_stores k bytes n) (with_sector bank k (padded_of [])) (with_sector bank k (padded_of (take (n * word_bytes) bytes)))
  unfolding word_stores
  words_leave bytes zero m l = leaves_none
  words_leave bytes (suc i) m l =
      let begun : List ℕ = take (i * word_bytes) bytes in
      let b : length begun ≡ i * word_bytes = length-take-le (i * word_bytes) bytes (omega arith) in
      let w : length (word_in bytes i) ≡ word_bytes = part_length bytes (i * word_bytes) word_bytes (omega arith) in
      let e : suc i * word_bytes ≡ i * word_bytes + word_bytes = omega arith in
      rw (e, take-add (i * word_bytes) word_bytes bytes)
      (leaves_then (words_leave bytes i (omega arith) l) (word-leaves bytes i begun b (omega arith) (blank_of (word_in bytes i)) refl))
