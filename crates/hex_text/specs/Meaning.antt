-- What a text has to be, rule by rule (01, 'Hex text'), and at which byte of its line a broken one is told (02 §1), said of the bytes of its lines
-- and of the value of a digit alone: how a reader goes over them has no part in it. proofs/Meaning.antt proves that a text is accepted exactly when
-- it keeps every rule, and refused exactly by the first rule that is broken, at the first line that breaks one and at that byte.
-- Assumes nothing.
use Rattle.std.specs.Prelude.{◌≡◌, ℕ, zero, suc, ◌+◌, ◌-◌, ◌*◌, ◌%◌, ◌<◌, ◌≤◌, cond, List, [], ◌++◌, length, get_or, take, ◌==◌, ◌≢◌, slice_index, slice_index_or}
use Rattle.digits.specs.Digit.{value_of}

-- THE BYTES THAT A LINE SPELLS behind its first byte, two digits for each, the high one first: byte j
abbrev pub spells : List ℕ → ℕ → ℕ
spells line j = value_of (slice_index line (2 * j + 1)) * 16 + value_of (slice_index line (2 * j + 2))

-- the place of its first digit in the line, counted from 1
abbrev pub digit_place : ℕ → ℕ
digit_place j = 2 * j + 2

-- count, address, type, byte j of the data; those of a type 04 record are an upper half
abbrev pub line_count : List ℕ → ℕ
line_count line = spells line 0

abbrev pub line_address : List ℕ → ℕ
line_address line = spells line 1 * 256 + spells line 2

abbrev pub line_type : List ℕ → ℕ
line_type line = spells line 3

abbrev pub line_data : List ℕ → ℕ → ℕ
line_data line j = spells line (4 + j)

abbrev pub line_upper : List ℕ → ℕ
line_upper line = line_data line 0 * 256 + line_data line 1

-- the sum of the first k
unfoldable pub sum_to : List ℕ → ℕ → ℕ
sum_to line zero = 0
sum_to line (suc k) = sum_to line k + spells line k

-- A LINE BY ITSELF. H1: "a colon and whole record", in digits alone, of the count, 4 bytes beside it and as many as it counts
pub record IsRecord (line : List ℕ) : Type 0 where
  pub colon : get_or line 0 0 ≡ 0x3A
  pub digits : (i : ℕ) → 1 ≤ i → i < length line → value_of (slice_index line i) < 16
  pub counted : length line ≡ 2 * (line_count line + 5) + 1

-- bytes that some whole record begins with
pub record Begins (front : List ℕ) : Type 0 where
  pub rest : List ℕ
  pub whole : IsRecord (front ++ rest)

-- where a line stops being one, counted from 1: "the first byte that can't belong", before which stands the beginning of some record and with which
-- of none; or "one past the line's end"
pub data FirstWrong (line : List ℕ) : ℕ → Type 0 where
  cannot_belong : (i : ℕ) → i < length line → Begins (take i line) → (Begins (take (i + 1) line) → ⊥) → FirstWrong line (i + 1)
  stops_early : Begins line → FirstWrong line (length line + 1)

-- H2
abbrev pub AddsUp : List ℕ → Type 0
AddsUp line = sum_to line (line_count line + 5) % 256 ≡ 0

-- where the checksum's first digit stands: it is spelled behind count, address, type and data
abbrev pub checksum_place : List ℕ → ℕ
checksum_place line = digit_place (line_count line + 4)

-- H3: of the types, all but data have a count of their own and the address field 0
pub data GoodType (line : List ℕ) : Type 0 where
  data_record : line_type line ≡ 0 → GoodType line
  end_record : line_type line ≡ 1 → line_count line ≡ 0 → line_address line ≡ 0 → GoodType line
  upper_record : line_type line ≡ 4 → line_count line ≡ 2 → line_address line ≡ 0 → GoodType line
  start_record : line_type line ≡ 5 → line_count line ≡ 4 → line_address line ≡ 0 → GoodType line

-- A LINE AMONG THE OTHERS: line i, counted from 0
abbrev pub line_at : List (List ℕ) → ℕ → List ℕ
line_at ls i = slice_index_or ls i []

-- the upper half in force there: that of the latest type 04 line before, else 0
unfoldable pub upper_at : List (List ℕ) → ℕ → ℕ
upper_at ls zero = 0
upper_at ls (suc i) = cond (line_type (line_at ls i) == 4) (line_upper (line_at ls i)) (upper_at ls i)

-- where its data start and end, in plain numbers, which "run on past offset 0xFFFF"
abbrev pub start_at : List (List ℕ) → ℕ → ℕ
start_at ls i = upper_at ls i * 65536 + line_address (line_at ls i)

abbrev pub end_at : List (List ℕ) → ℕ → ℕ
end_at ls i = start_at ls i + line_count (line_at ls i)

-- it has a data byte j: it has data if it has the first, and none if its count is 0
abbrev pub HasByte : List (List ℕ) → ℕ → ℕ → Type 0
HasByte ls i j = (line_type (line_at ls i) ≡ 0) × (j < line_count (line_at ls i))

-- H4: each data byte lies in the bank, `size` bytes from the address `base` on
abbrev pub InBank : ℕ → ℕ → List (List ℕ) → ℕ → Type 0
InBank base size ls i = (j : ℕ) → HasByte ls i j → (base ≤ start_at ls i + j) × (start_at ls i + j < base + size)

-- H5: data start at or after the end of all earlier data
abbrev pub AfterEarlier : List (List ℕ) → ℕ → Type 0
AfterEarlier ls i = HasByte ls i 0 → (m : ℕ) → m < i → HasByte ls m 0 → end_at ls m ≤ start_at ls i

-- H6: no end record stands before
abbrev pub NotEnded : List (List ℕ) → ℕ → Type 0
NotEnded ls i = (m : ℕ) → m < i → line_type (line_at ls m) ≢ 1

-- line i keeps every rule
pub record Keeps (base size : ℕ) (ls : List (List ℕ)) (i : ℕ) : Type 0 where
  pub not_ended : NotEnded ls i
  pub is_record : IsRecord (line_at ls i)
  pub adds_up : AddsUp (line_at ls i)
  pub good_type : GoodType (line_at ls i)
  pub in_bank_lem : InBank base size ls i
  pub after_earlier : AfterEarlier ls i

-- or breaks one, by its number and the byte at which that is told, and keeps those that come before it; behind the end record it is H6 "without
-- being read". H3 to H5 are told at "the colon", byte 1, and for H6 "it is 1"
pub data Breaks (base size : ℕ) (ls : List (List ℕ)) (i : ℕ) : ℕ → ℕ → Type 0 where
  behind_end : (m : ℕ) → m < i → line_type (line_at ls m) ≡ 1 → Breaks base size ls i 6 1
  no_record : NotEnded ls i → (IsRecord (line_at ls i) → ⊥) → (byte : ℕ) → FirstWrong (line_at ls i) byte → Breaks base size ls i 1 byte
  other_sum :
      NotEnded ls i → IsRecord (line_at ls i) → (AddsUp (line_at ls i) → ⊥) → Breaks base size ls i 2 (checksum_place (line_at ls i))
  other_type : NotEnded ls i → IsRecord (line_at ls i) → AddsUp (line_at ls i) → (GoodType (line_at ls i) → ⊥) → Breaks base size ls i 3 1
  outside :
      NotEnded ls i → IsRecord (line_at ls i) → AddsUp (line_at ls i) → GoodType (line_at ls i) → (InBank base size ls i → ⊥)
      → Breaks base size ls i 4 1
  below_earlier :
      NotEnded ls i → IsRecord (line_at ls i) → AddsUp (line_at ls i) → GoodType (line_at ls i) → InBank base size ls i → (AfterEarlier ls i → ⊥)
      → Breaks base size ls i 5 1

-- THE TEXT keeps every rule: each line does, and the last is the end record
pub record KeepsAll (base size : ℕ) (ls : List (List ℕ)) : Type 0 where
  pub each : (i : ℕ) → i < length ls → Keeps base size ls i
  pub last : ℕ
  pub last_line : length ls ≡ last + 1
  pub ends : line_type (line_at ls last) ≡ 1

-- or its first broken rule is Hk, and it is broken at a line and a byte of it, both counted from 1; H6 one past the last, at byte 1, where there is
-- no end record
pub data FirstBroken (base size : ℕ) (ls : List (List ℕ)) : ℕ → ℕ → ℕ → Type 0 where
  at_line :
      (i k byte : ℕ) → i < length ls → ((m : ℕ) → m < i → Keeps base size ls m) → Breaks base size ls i k byte
      → FirstBroken base size ls k (i + 1) byte
  no_end :
      ((m : ℕ) → m < length ls → Keeps base size ls m) → NotEnded ls (length ls) → FirstBroken base size ls 6 (length ls + 1) 1

-- what the first k lines leave of an image: each data byte at its address, "0xFF elsewhere"
pub record Leaves (base size : ℕ) (ls : List (List ℕ)) (k : ℕ) (image : List ℕ) : Type 0 where
  pub there : (i j : ℕ) → i < k → HasByte ls i j → slice_index image (start_at ls i + j - base) ≡ line_data (line_at ls i) j
  pub elsewhere : (a : ℕ) → a < size → ((i j : ℕ) → i < k → HasByte ls i j → start_at ls i + j ≢ base + a) → slice_index image a ≡ 0xFF
