-- A writer of hex text that drops a row, one that tells the first upper half alone, and one that forgets where the bank starts are shut out.
-- Assumes nothing.
use mathlib.Core.Path.{◌≡◌, refl, sym, ap, ◌∙◌}
use mathlib.Core.Bool.{Bool, true, false}
use mathlib.Core.List.{List, ◌∷◌, ◌++◌, append-nil}
use Prim.Native.Nat.{ℕ, zero, suc, ◌+◌, ◌-◌, ◌*◌, ◌/◌, ◌%◌, ◌<◌, ◌≤◌}
use native.Mathlib.Nat.{le_of_suc-le-suc}
use native.Mathlib.Omega.{arith}
use lib.Dec.{eqb}
use lib.ListN.{length, get_or, take, drop, set, replicate, length-replicate, get_or-replicate, length-set, length-take, length-drop}
use lib.Seq.{ext_get_or, get_or-set_same, get_or-set_other, get_or-take, get_or-drop}
use borrow.Author.Tests.{eqb-true, eqb-false}
use Rattle.std.specs.Prelude.{Some}
use Rattle.buffer.specs.Compare.{blank_of}
use Rattle.buffer.specs.Number.{byte_at, bytes_of}
use Rattle.buffer.specs.Total.{total}
use Rattle.buffer.specs.Place.{place_of, front_of}
use Rattle.buffer.proofs.Numbers.{bytes_two}
use Rattle.buffer.proofs.Comparing.{blank_at, at_blank}
use Rattle.buffer.proofs.Places.{place_fits}
use Rattle.digits.specs.Digit.{digit_of}
use Rattle.digits.specs.Spelt.{digits_spelt}
use Rattle.flash.specs.Sector.{blanks}
use Rattle.flash.proofs.Blanks.{length_blanks}
use Rattle.layout.specs.declared.Bank.TheVariants.{Zero, One}
use Rattle.layout.specs.Layout.{sector_size, most_sectors, good_n, whole_length, start_of}
use Rattle.layout.specs.Said.{value}
use Rattle.rows.specs.Record.{record_body, record_checksum, record_line}
use Rattle.rows.specs.Text.{row_size, row_of, row_address, row_upper, data_line, upper_line, end_line, told_before, upper_text, row_text, rows_text, text_of, longest_text, written_said}
use Rattle.rows.proofs.Longest.{text_longest}
use Rattle.rows.proofs.Rows.{row_length}
use Rattle.demands.specs.Written.{WrittenOut, wrote, TextWriter, MeetsWriter, AreBytes, text_writer}
use Rattle.demands.specs.Written.{DropsRow, row_dropper, ForgetsStart, start_forgetter, row_lines, all_lines, TellsOnce, half_forgetter}
use Rattle.demands.proofs.WrittenLines.{bytes_cons, bytes_none}
use Rattle.demands.proofs.Written.{texts_tell}

-- ONE THAT DROPS A ROW. The largest bank, all 0; another byte at some place of it; and room for any text
unfoldable zeros : List ℕ
zeros = replicate (sector_size * most_sectors) 0

unfoldable room : List ℕ
room = replicate longest_text 0

abbrev changed : ℕ → List ℕ
changed at = set zeros at 1

zeros_length : length zeros ≡ sector_size * most_sectors
unfolding zeros
zeros_length = length-replicate {A = ℕ} (sector_size * most_sectors) 0

room_length : length room ≡ longest_text
unfolding room
room_length = length-replicate {A = ℕ} longest_text 0

zeros_at : (i : ℕ) → i < sector_size * most_sectors → byte_at zeros i ≡ 0
unfolding zeros
zeros_at i h = get_or-replicate (sector_size * most_sectors) i 0 0 h

bytes_replicate : (n b : ℕ) → b < 256 → AreBytes (replicate n b)
bytes_replicate zero b h = bytes_none
bytes_replicate (suc n) b h = bytes_cons b (replicate n b) h (bytes_replicate n b h)

zeros_bytes : AreBytes zeros
unfolding zeros
zeros_bytes = bytes_replicate (sector_size * most_sectors) 0 (omega arith)

whole : (image : List ℕ) → length image ≡ sector_size * most_sectors → whole_length (length image) ≡ true
unfolding whole_length good_n
whole image e = rw e

-- a writer that is as asked tells two images of that length apart
told_apart :
    (write : TextWriter) → MeetsWriter write → (image other : List ℕ) → length image ≡ sector_size * most_sectors → length other ≡ sector_size * most_sectors
    → AreBytes image → AreBytes other → write image Zero room ≡ write other Zero room → image ≡ other
told_apart write writes image other l m are too same =
    let fits : length (text_of image Zero) ≤ length room = rw room_length (text_longest image Zero (whole image l)) in
    let said = (writes image Zero room).told (whole image l) fits in
    let heard : written_said (write other Zero room).answer ≡ value (length (text_of image Zero)) = rw same at said in
    texts_tell write writes image other Zero room room _ _ are too (l ∙ sym m) said heard
    (ap (λ (o : WrittenOut). take (length (text_of image Zero)) o.buffer) same)

-- a list with another byte in it
bytes_set : (l : List ℕ) (at v : ℕ) → v < 256 → at < length l → AreBytes l → AreBytes (set l at v)
bytes_set l at v small h are i = by (eqb i at) refl
  where
    by : (b : Bool) → eqb i at ≡ b → byte_at (set l at v) i < 256
    by true e = rw (eqb-true i at e, get_or-set_same l at v 0 h) small
    by false e = rw (get_or-set_other l at i v 0 (eqb-false i at e)) (are i)

module _ (at : ℕ) (h : at < sector_size * most_sectors) where
  changed_length : length (changed at) ≡ sector_size * most_sectors
  changed_length = length-set zeros at 1 ∙ zeros_length

  at_is : byte_at (changed at) at ≡ 1
  at_is = get_or-set_same zeros at 1 0 (rw zeros_length h)

-- a row whose first byte is other than 0xFF
filled : (image : List ℕ) (k : ℕ) → suc k * row_size ≤ length image → (byte_at image (k * row_size) ≡ 0xFF → ⊥) → blank_of (row_of image k) ≡ false
unfolding row_of
filled image k h n = by (blank_of (row_of image k)) refl
  where
    by : (b : Bool) → blank_of (row_of image k) ≡ b → blank_of (row_of image k) ≡ false
    by true b =
        let e : k * row_size + 0 ≡ k * row_size = omega arith in
        let l = row_length image 0 k h in
        let there = sym (get_or-take row_size (drop (k * row_size) image) 0 0 (omega arith)) in
        absurd (n (rw e at (sym (get_or-drop (k * row_size) image 0 0) ∙ there ∙ blank_at (row_of image k) b 0 (omega arith))))
    by false b = b

pub no_row_dropper : (k : ℕ) → suc k * row_size ≤ sector_size * most_sectors → (write : TextWriter) → DropsRow k write → MeetsWriter write → ⊥
no_row_dropper k h write drops writes =
    let at : ℕ = k * row_size in
    let inside : at < sector_size * most_sectors = omega arith in
    let m = changed_length at inside in
    let same = drops zeros (changed at) Zero room (zeros_length ∙ sym m) (rw zeros_length h)
    (filled zeros k (rw zeros_length h) (λ e. omega (arith, zeros_at at inside)))
    (filled (changed at) k (rw m h) (λ e. omega (arith, at_is at inside)))
    (λ i n. sym (get_or-set_other zeros at i 1 0 (λ e. n (omega arith)))) in
    let are = bytes_set zeros at 1 (omega arith) (rw zeros_length inside) zeros_bytes in
    let one = told_apart write writes zeros (changed at) zeros_length m zeros_bytes are same in
    let b : byte_at zeros at ≡ 1 = ap (λ (l : List ℕ). byte_at l at) one ∙ at_is at inside in
    omega (arith, zeros_at at inside)

-- one of that kind
pub drops_row : (k : ℕ) → DropsRow k (row_dropper k)
drops_row k image other bank before l h a b f = ap (λ (x : List ℕ). text_writer x bank before) blanked
  where
    first : take (k * row_size) image ≡ take (k * row_size) other
    first =
        ext_get_or 0 _ _ (simp length-take (rw l))
        (λ i m. let j : i < k * row_size = omega (arith, length-take (k * row_size) image) in
        get_or-take (k * row_size) image i 0 j ∙ f i (λ e. omega arith) ∙ sym (get_or-take (k * row_size) other i 0 j))

    last : drop (k * row_size + row_size) image ≡ drop (k * row_size + row_size) other
    last =
        ext_get_or 0 _ _ (simp length-drop (rw l))
        (λ i m.
        get_or-drop (k * row_size + row_size) image i 0 ∙ f (k * row_size + row_size + i) (λ e. omega arith)
        ∙ sym (get_or-drop (k * row_size + row_size) other i 0))

    blanked : place_of image (k * row_size) (blanks row_size) ≡ place_of other (k * row_size) (blanks row_size)
    blanked =
        place_fits image (k * row_size) (blanks row_size) (omega arith) ∙ rw (first, last) (sym (place_fits other (k * row_size) (blanks row_size) (omega arith)))

-- ONE THAT TELLS THE FIRST UPPER HALF ALONE. Two rows of the largest bank have a byte 0, the first and one under another upper half; all else is blank
unfoldable blank_bank : List ℕ
blank_bank = blanks (sector_size * most_sectors)

blank_length : length blank_bank ≡ sector_size * most_sectors
unfolding blank_bank
blank_length = length_blanks (sector_size * most_sectors)

blank_byte : (i : ℕ) → i < sector_size * most_sectors → byte_at blank_bank i ≡ 0xFF
unfolding blank_bank
blank_byte i h = get_or-replicate (sector_size * most_sectors) i 0xFF 0 h

blank_bytes : AreBytes blank_bank
unfolding blank_bank
blank_bytes = bytes_replicate (sector_size * most_sectors) 0xFF (omega arith)

abbrev two_rows : ℕ → List ℕ
two_rows k = set (set blank_bank 0 0) (k * row_size) 0

-- lines of rows, one after another
module _ (image : List ℕ) (base : ℕ) where
  lines_row : (k : ℕ) → blank_of (row_of image k) ≡ false → row_lines image base (suc k) ≡ row_lines image base k ++ data_line image base k
  unfolding row_lines
  lines_row k b = rw b

  line_none : (k : ℕ) → blank_of (row_of image k) ≡ true → row_lines image base (suc k) ≡ row_lines image base k
  unfolding row_lines
  line_none k b = rw (b, append-nil (row_lines image base k))

  lines_blank : (m n : ℕ) → ((j : ℕ) → m ≤ j → j < m + n → blank_of (row_of image j) ≡ true) → row_lines image base (m + n) ≡ row_lines image base m
  lines_blank m zero f = let e : m + zero ≡ m = omega arith in rw e
  lines_blank m (suc n) f =
      let e : m + suc n ≡ suc (m + n) = omega arith in
      rw e (line_none (m + n) (f (m + n) (omega arith) (omega arith)) ∙ lines_blank m n (λ j l g. f j l (omega arith)))

-- an address 65,536 on is told by the same digits
half_lost : (address type : ℕ) (bytes : List ℕ) → record_line (address + 65536) type bytes ≡ record_line address type bytes
unfolding record_line record_body
half_lost address type bytes =
    let high : (address + 65536) / 256 % 256 ≡ address / 256 % 256 = omega arith in
    let low : (address + 65536) % 256 ≡ address % 256 = omega arith in
    rw (bytes_two (address + 65536), high, low, bytes_two address)

module _ (k : ℕ) (some : 0 < k) (inside : suc k * row_size ≤ sector_size * most_sectors) where
  two_length : length (two_rows k) ≡ sector_size * most_sectors
  two_length = length-set (set blank_bank 0 0) (k * row_size) 0 ∙ length-set blank_bank 0 0 ∙ blank_length

  two_bytes : AreBytes (two_rows k)
  two_bytes =
      bytes_set (set blank_bank 0 0) (k * row_size) 0 (omega arith) (rw (length-set blank_bank 0 0, blank_length) (omega arith))
      (bytes_set blank_bank 0 0 (omega arith) (rw blank_length (omega arith)) blank_bytes)

  first_is : byte_at (two_rows k) 0 ≡ 0
  first_is =
      get_or-set_other (set blank_bank 0 0) (k * row_size) 0 0 0 (λ e. omega arith) ∙ get_or-set_same blank_bank 0 0 0 (rw blank_length (omega arith))

  other_is : byte_at (two_rows k) (k * row_size) ≡ 0
  other_is = get_or-set_same (set blank_bank 0 0) (k * row_size) 0 0 (rw (length-set blank_bank 0 0, blank_length) (omega arith))

  else_is : (i : ℕ) → i < sector_size * most_sectors → (i ≡ 0 → ⊥) → (i ≡ k * row_size → ⊥) → byte_at (two_rows k) i ≡ 0xFF
  else_is i h n m =
      get_or-set_other (set blank_bank 0 0) (k * row_size) i 0 0 m ∙ get_or-set_other blank_bank 0 i 0 0 n ∙ blank_byte i h

  -- the bytes of a row
  row_byte : (j i : ℕ) → i < row_size → get_or (row_of (two_rows k) j) i 0 ≡ byte_at (two_rows k) (j * row_size + i)
  unfolding row_of
  row_byte j i h = get_or-take row_size (drop (j * row_size) (two_rows k)) i 0 h ∙ get_or-drop (j * row_size) (two_rows k) i 0

  blank_else : (j : ℕ) → suc j * row_size ≤ sector_size * most_sectors → (j ≡ 0 → ⊥) → (j ≡ k → ⊥) → blank_of (row_of (two_rows k) j) ≡ true
  blank_else j h n m =
      let l = row_length (two_rows k) 0 j (rw two_length h) in
      at_blank (row_of (two_rows k) j)
      (λ i g. row_byte j i (omega arith) ∙ else_is (j * row_size + i) (omega arith) (λ e. n (omega arith)) (λ e. m (omega arith)))

  -- a row that begins with 0, and is 0xFF behind it
  begins : (j : ℕ) → suc j * row_size ≤ sector_size * most_sectors → byte_at (two_rows k) (j * row_size) ≡ 0
      → ((i : ℕ) → 0 < i → i < row_size → byte_at (two_rows k) (j * row_size + i) ≡ 0xFF) → row_of (two_rows k) j ≡ 0 ∷ blanks 15
  begins j h z f =
      let l = row_length (two_rows k) 0 j (rw two_length h) in
      ext_get_or 0 (row_of (two_rows k) j) (0 ∷ blanks 15) l (λ i g. by i (omega arith))
    where
      by : (i : ℕ) → i < row_size → get_or (row_of (two_rows k) j) i 0 ≡ get_or (0 ∷ blanks 15) i 0
      by zero g = let e : j * row_size + 0 ≡ j * row_size = omega arith in row_byte j 0 g ∙ rw e z
      by (suc i) g = row_byte j (suc i) g ∙ f (suc i) (omega arith) g ∙ sym (get_or-replicate 15 i 0xFF 0 (le_of_suc-le-suc g))

  row_first : row_of (two_rows k) 0 ≡ 0 ∷ blanks 15
  row_first = begins 0 (omega arith) first_is (λ i l g. else_is (0 * row_size + i) (omega arith) (λ e. omega arith) (λ e. omega arith))

  row_other : row_of (two_rows k) k ≡ 0 ∷ blanks 15
  row_other = begins k inside other_is (λ i l g. else_is (k * row_size + i) (omega arith) (λ e. omega arith) (λ e. omega arith))

  first_told : blank_of (row_of (two_rows k) 0) ≡ false
  unfolding blank_of
  first_told = rw row_first

  other_told : blank_of (row_of (two_rows k) k) ≡ false
  unfolding blank_of
  other_told = rw row_other

  -- their lines
  line_first : (base : ℕ) → row_lines (two_rows k) base k ≡ record_line (row_address base 0) 0 (0 ∷ blanks 15)
  unfolding row_lines
  line_first base =
      let between : k ≡ 1 + (k - 1) = omega arith in
      ap (row_lines (two_rows k) base) between
      ∙ lines_blank (two_rows k) base 1 (k - 1) (λ j l g. blank_else j (omega arith) (λ e. omega arith) (λ e. omega arith))
      ∙ lines_row (two_rows k) base 0 first_told
      ∙ rw row_first

  two_lines : (base : ℕ) → row_lines (two_rows k) base (length (two_rows k) / row_size)
      ≡ record_line (row_address base 0) 0 (0 ∷ blanks 15) ++ record_line (row_address base k) 0 (0 ∷ blanks 15)
  two_lines base =
      let behind : length (two_rows k) / row_size ≡ suc k + (15712 - suc k) = omega (arith, two_length) in
      ap (row_lines (two_rows k) base) behind
      ∙ lines_blank (two_rows k) base (suc k) (15712 - suc k) (λ j l g. blank_else j (omega arith) (λ e. omega arith) (λ e. omega arith))
      ∙ lines_row (two_rows k) base k other_told
      ∙ rw (line_first base, row_other)

-- row 4,000 lies under the second upper half, and 4,096 rows on is the same place under the third
pub no_half_forgetter : (write : TextWriter) → TellsOnce write → MeetsWriter write → ⊥
no_half_forgetter write tells writes =
    let near : suc 4000 * row_size ≤ sector_size * most_sectors = omega arith in
    let far : suc 8096 * row_size ≤ sector_size * most_sectors = omega arith in
    let l = two_length 4000 (omega arith) near in
    let m = two_length 8096 (omega arith) far in
    let base : ℕ = start_of Zero in
    let on : row_address base 8096 ≡ row_address base 4000 + 65536 = omega arith in
    let lines : all_lines (two_rows 4000) Zero ≡ all_lines (two_rows 8096) Zero =
    two_lines 4000 (omega arith) near base
    ∙ rw (sym (half_lost (row_address base 4000) 0 (0 ∷ blanks 15)), sym on) (sym (two_lines 8096 (omega arith) far base)) in
    let same =
    tells (two_rows 4000) (two_rows 8096) Zero room (l ∙ sym m) (first_told 4000 (omega arith) near) (first_told 8096 (omega arith) far) lines in
    let one =
    told_apart write writes (two_rows 4000) (two_rows 8096) l m (two_bytes 4000 (omega arith) near) (two_bytes 8096 (omega arith) far) same in
    let here : byte_at (two_rows 4000) (4000 * row_size) ≡ 0 = other_is 4000 (omega arith) near in
    let there : byte_at (two_rows 8096) (4000 * row_size) ≡ 0xFF =
    else_is 8096 (omega arith) far (4000 * row_size) (omega arith) (λ e. omega arith) (λ e. omega arith) in
    let z : ◌≡◌ {A = ℕ} 0 0xFF = sym here ∙ ap (λ (image : List ℕ). byte_at image (4000 * row_size)) one ∙ there in
    omega arith

-- one of that kind
pub tells_once : TellsOnce half_forgetter
tells_once image other bank before l a b e =
    let half : List ℕ = upper_line (row_upper (start_of bank) 0) in
    ap (λ (l : List ℕ). wrote (Some (length (half ++ l ++ end_line))) (front_of before (half ++ l ++ end_line))) e

-- ONE THAT FORGETS WHERE THE BANK STARTS. An image of one sector with one byte other than 0xFF
unfoldable small : List ℕ
small = 0 ∷ blanks 511

small_room : whole_length (length small) ≡ true
unfolding small whole_length good_n
small_room = refl

-- the third digit of the upper half
half_zero : get_or (text_of small Zero) 10 0 ≡ 0x30
unfolding small text_of rows_text row_text told_before upper_text row_of blank_of record_line record_body record_checksum total digits_spelt digit_of bytes_of
half_zero = refl

half_one : get_or (text_of small One) 10 0 ≡ 0x34
unfolding small text_of rows_text row_text told_before upper_text row_of blank_of record_line record_body record_checksum total digits_spelt digit_of bytes_of
half_one = refl

pub no_start_forgetter : (write : TextWriter) → ForgetsStart write → MeetsWriter write → ⊥
no_start_forgetter write forgets writes =
    let fits : (bank : _) → length (text_of small bank) ≤ length room = λ bank. rw room_length (text_longest small bank small_room) in
    let said = (writes small Zero room).told small_room (fits Zero) in
    let zero-text = (writes small Zero room).text _ said in
    let one-text = (writes small One room).text _ (rw (forgets small room) at said) in
    let same : text_of small Zero ≡ text_of small One =
    sym zero-text ∙ ap (λ (o : WrittenOut). take (length (text_of small Zero)) o.buffer) (forgets small room) ∙ one-text in
    let e : ◌≡◌ {A = ℕ} 0x30 0x34 = sym half_zero ∙ ap (λ (l : List ℕ). get_or l 10 0) same ∙ half_one in
    omega arith

-- one of that kind
pub forgets_start : ForgetsStart start_forgetter
forgets_start image before = refl
