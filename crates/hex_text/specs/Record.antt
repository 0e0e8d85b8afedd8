-- A line's record, and what it says to a bank (01, 'Hex text': "Per line, first fault of").
-- Assumes nothing.
use Rattle.std.specs.Prelude.{ℕ, zero, suc, ◌+◌, ◌*◌, ◌%◌, Bool, cond, ◌&&◌, List, [], ◌∷◌, length, take, drop, ◌==◌, nat_le, slice_index, Result, Ok, Err}
use Rattle.buffer.specs.Total.{total}
use Rattle.hex_text.specs.declared.fault.Kind.{Kind}
use Rattle.hex_text.specs.declared.fault.Fault.{Fault}
use Rattle.hex_text.specs.declared.fault.Kind.TheVariants.{H1, H2, H3, H4, H5, H6}
use Rattle.hex_text.specs.declared.record.State.{State}
use Rattle.hex_text.specs.declared.record.Found.{Found}
use Rattle.hex_text.specs.declared.record.Found.TheVariants.{Data, Upper, End, Other}
use Rattle.digits.specs.Digit.{is_digit}
use Rattle.hex_text.specs.Spell.{byte_of, digit_bytes}

-- A LINE, READ FROM LEFT TO RIGHT: a whole record's bytes, or the place, counted from 1, of the first byte that does not belong. A line
-- that stops early has that place one past its end.
pub data Spelled : Type 0 where
  Whole : List ℕ → Spelled
  Broken : ℕ → Spelled

-- how many digits a list begins with, of as many as are due
unfoldable pub digits_in : ℕ → List ℕ → ℕ
digits_in zero l = 0
digits_in (suc due) [] = 0
digits_in (suc due) (c ∷ l) = cond (is_digit c) (suc (digits_in due l)) 0

-- THE BYTES OF A RECORD: count, address (2), type, as many data bytes as the count says, checksum
abbrev pub record_count : List ℕ → ℕ
record_count r = slice_index r 0

abbrev pub record_address : List ℕ → ℕ
record_address r = slice_index r 1 * 256 + slice_index r 2

abbrev pub record_type : List ℕ → ℕ
record_type r = slice_index r 3

-- the upper half that the data of a type 04 record are
abbrev pub record_upper : List ℕ → ℕ
record_upper r = slice_index r 4 * 256 + slice_index r 5

abbrev pub record_data : ℕ → List ℕ → List ℕ
record_data n r = take n (drop 4 r)

-- the digits "of the counted length" behind the colon (a count that isn't spelled says 256, and the digits stop within it)
abbrev pub digits_due : List ℕ → ℕ
digits_due digits = 2 * (byte_of (slice_index digits 0) (slice_index digits 1) + 5)

-- all that are due, and nothing behind them
unfoldable pub digits_whole : List ℕ → Bool
digits_whole digits = digits_in (digits_due digits) digits == digits_due digits && length digits == digits_due digits

-- byte 1 is a colon, and the digits start at byte 2
unfoldable pub record_of : List ℕ → Spelled
record_of [] = Broken 1
record_of (c ∷ digits) =
    cond (c == 0x3A)
    (cond (digits_whole digits) (Whole (digit_bytes digits)) (Broken (digits_in (digits_due digits) digits + 2)))
    (Broken 1)

-- THE PLACE OF A FAULT in its line, counted from 1 (02 §1). That of H1 is the one above; of H2 "the first digit of the checksum", behind the colon
-- and two digits for each byte before it; of H3 to H5 "the colon"; of H6 "it is 1"
abbrev pub record_checksum_place : List ℕ → ℕ
record_checksum_place r = 10 + 2 * record_count r

abbrev pub colon_place : ℕ
colon_place = 1

-- a line that has that fault, at that byte
abbrev pub fault_at : Kind → ℕ → Result Found Fault
fault_at kind byte = Err (record { 0 = kind; 1 = byte })

-- WHAT A RECORD SAYS to a bank of `size` bytes from address `base` on. Addresses are plain numbers: they "run on past offset 0xFFFF",
-- nothing wraps, and a carry stays out of the upper half.
unfoldable pub in_bank : ℕ → ℕ → ℕ → ℕ → Bool
in_bank base size start n = nat_le base start && nat_le (start + n) (base + size)

-- "Data of count 0" says nothing; H4 comes before H5
unfoldable pub data_at : ℕ → ℕ → ℕ → ℕ → ℕ → Result Found Fault
data_at base size last start n =
    cond (n == 0) (Ok Other)
    (cond (in_bank base size start n) (cond (nat_le last start) (Ok (Data start n)) (fault_at H5 colon_place)) (fault_at H4 colon_place))

-- by its type; `upper` and `last` come from the lines before
unfoldable pub typed : ℕ → ℕ → ℕ → ℕ → List ℕ → Result Found Fault
typed base size upper last r =
    cond (record_type r == 0) (data_at base size last (upper * 65536 + record_address r) (record_count r))
    (cond (record_address r == 0)
    (cond (record_type r == 1 && record_count r == 0) (Ok End)
    (cond (record_type r == 4 && record_count r == 2) (Ok (Upper (record_upper r)))
    (cond (record_type r == 5 && record_count r == 4) (Ok Other) (fault_at H3 colon_place))))
    (fault_at H3 colon_place))

-- H2: "add to 0 modulo 256"
abbrev pub says : ℕ → ℕ → State → Spelled → Result Found Fault
says base size s (Whole r) = cond (total r % 256 == 0) (typed base size s.upper s.last r) (fault_at H2 (record_checksum_place r))
says base size s (Broken place) = fault_at H1 place

-- what a line says: its first fault, or what it is to change; behind the end record it is H6 "without being read"
unfoldable pub found_of : ℕ → ℕ → State → List ℕ → Result Found Fault
found_of base size s line = cond s.over (fault_at H6 1) (says base size s (record_of line))
