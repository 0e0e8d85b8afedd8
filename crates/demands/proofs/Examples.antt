-- The worked examples hold.
-- Assumes nothing.
use Rattle.std.specs.Prelude.{Some, None}
use mathlib.Core.Path.{◌≡◌, refl, sym, ap, ap₂, subst, ◌∙◌}
use mathlib.Core.Bool.{Bool, true, false, false≢true}
use mathlib.Core.List.{List, [], ◌∷◌, ◌++◌}
use Prim.Native.Nat.{ℕ, ◌-◌, ◌*◌, ◌≤◌, ◌<◌}
use native.Mathlib.Omega.{arith}
use lib.ListN.{length, get_or, take, drop, replicate, get_or-replicate}
use lib.Seq.{take_at}
use borrow.Author.Tests.{not-true, eq-eqb}
use Rattle.std.specs.Prelude.{Ok, Err}
use Rattle.buffer.specs.Compare.{same_of, blank_of}
use Rattle.buffer.specs.Number.{bytes_of, byte_at}
use Rattle.buffer.specs.Total.{total}
use Rattle.buffer.proofs.Comparing.{same_self}
use Rattle.crc.specs.Crc.{crc_of}
use Rattle.frame.specs.Checksum.{taken_away, checksum_of}
use Rattle.frame.specs.Frame.{framed, control_frame, write_frame, frame_error}
use Rattle.frame.specs.Read.{read_of, data_in, read_control, checked_at}
use Rattle.frame.specs.declared.read.Footer.{Footer}
use Rattle.frame.specs.declared.read.Footer.TheVariants.{End}
use Rattle.frame.specs.declared.read.Frame.TheVariants.{Control, Write}
use Rattle.frame.proofs.Writing.{length_error}
use Rattle.flash.specs.Bank.{with_sector}
use Rattle.flash.specs.Sector.{padded_of}
use Rattle.flash.proofs.Sectors.{length_with, with_here}
use Rattle.flash.proofs.Words.{length_padded}
use Rattle.flash.proofs.Writes.{FitsAt}
use Rattle.layout.specs.declared.Bank.{Bank}
use Rattle.layout.specs.declared.Bank.TheVariants.{One}
use Rattle.layout.specs.Layout.{sector_size, good_n, bank_size, other_of, end_of, sector_of}
use Rattle.layout.specs.Pair.{bank_in}
use Rattle.layout.proofs.Pairs.{bank_there}
use Rattle.decision.specs.declared.plan.Fixed.{Fixed}
use Rattle.lines.specs.Line.{lines}
use Rattle.hex_text.specs.declared.fault.Kind.TheVariants.{H6}
use Rattle.hex_text.specs.declared.read.ReadError.TheVariants.{Line}
use Rattle.digits.specs.Digit.{value_of, is_digit}
use Rattle.hex_text.specs.Spell.{byte_of, digit_bytes}
use Rattle.hex_text.specs.Record.{digits_in, digits_whole, record_of, data_at, typed, found_of}
use Rattle.hex_text.specs.Read.{read_lines, text_read}
use Rattle.exchange.specs.declared.state.State.{State}
use Rattle.exchange.specs.declared.state.State.TheVariants as state
use Rattle.exchange.specs.Answer.{written_bytes, answer_bytes}
use Rattle.exchange.specs.State.{is_closed}
use Rattle.client.specs.Perform.{store_result}
use Rattle.decision.specs.Plan.{is_worn, values_good}
use Rattle.calls.proofs.Courses.{accepted}
use Rattle.calls.proofs.Leading.{fits_stored, storing}
use Rattle.decision.proofs.Planning.{values_zero, values-above, values-empty, values-long, values-words, values_low, values-high}
use Rattle.calls.specs.Call.{Board}
use Rattle.demands.specs.Board.{LentCall, Datagram, Outcome, said, lent_target, step_machine}
use Rattle.demands.specs.Demand1.{from_stranger, answered, parameter_error, packet_stored}
use Rattle.demands.specs.Demand2.{Lends, SentFrom}
use Rattle.demands.specs.Examples.{Calls, Brings, PacketTaken, good_length, is_idle, live, none, also, Examples}
use Rattle.demands.specs.Session.{is_stored}
use Rattle.demands.proofs.Bytes.{written_stored}
use Rattle.demands.proofs.Lending.{lent_in}
use Rattle.demands.proofs.Demand2.{lent_whole, heard, said_back, control_short, written_short}
use Rattle.demands.proofs.Rows.{Heard, from_opener_lem, mode_start, fault, no_request_is, packet, packet_wrong}
use Rattle.demands.proofs.Steps.{machine_stays, lengths_kept}
use Rattle.demands.proofs.Fresh.{started_bytes}

-- ---- bytes

request_1 : control_frame 0x61 [] ≡ 0x01 ∷ 0x01 ∷ 0x61 ∷ 0x9E ∷ 0x03 ∷ []
unfolding control_frame framed checksum_of taken_away
request_1 = refl

sum_2 : (footer : Footer) → byte_at (write_frame 1 (0xFF ∷ 0x80 ∷ 0x40 ∷ 0x22 ∷ []) footer) 9 ≡ 0x1A
unfolding write_frame framed bytes_of checksum_of taken_away
sum_2 footer = refl

reads_1 : read_of (0x01 ∷ 0x01 ∷ 0x61 ∷ 0x9E ∷ 0x03 ∷ []) ≡ Some (Control 0x61 0)
unfolding read_of read_control checked_at checksum_of taken_away
reads_1 = refl

reads_3 : read_of (0x01 ∷ 0x01 ∷ 0x60 ∷ 0x9F ∷ 0x03 ∷ []) ≡ Some (Control 0x60 0)
unfolding read_of read_control checked_at checksum_of taken_away
reads_3 = refl

reads_6 : read_of [] ≡ None
unfolding read_of
reads_6 = refl

request_4 : control_frame 0x40 (bytes_of 4 0x14000A00 ++ bytes_of 4 (end_of One 491))
    ≡ 0x01 ∷ 0x09 ∷ 0x40 ∷ 0x14 ∷ 0x00 ∷ 0x0A ∷ 0x00 ∷ 0x14 ∷ 0x03 ∷ 0xDF ∷ 0xFF ∷ 0xA4 ∷ 0x03 ∷ []
unfolding control_frame framed bytes_of checksum_of taken_away end_of good_n
request_4 = refl

request_5 : control_frame 0x40 (bytes_of 4 0x14000A00 ++ bytes_of 4 (end_of One 32))
    ≡ 0x01 ∷ 0x09 ∷ 0x40 ∷ 0x14 ∷ 0x00 ∷ 0x0A ∷ 0x00 ∷ 0x14 ∷ 0x00 ∷ 0x49 ∷ 0xFF ∷ 0x3D ∷ 0x03 ∷ []
unfolding control_frame framed bytes_of checksum_of taken_away end_of good_n
request_5 = refl

sum_11 : (footer : Footer) → byte_at (write_frame 3 ((0x01 ∷ 0x02 ∷ 0x03 ∷ 0x04 ∷ []) ++ replicate 508 0xFF) footer) 517 ≡ 0xED
unfolding write_frame framed bytes_of checksum_of taken_away
sum_11 footer = refl

error_bytes : frame_error ≡ 0x01 ∷ 0x02 ∷ 0xE0 ∷ 0x07 ∷ 0x17 ∷ 0x03 ∷ []
unfolding frame_error
error_bytes = refl

-- ---- answers

calling : (b : Board) (call : LentCall) → Calls b call → is_closed b.client.state ≡ false → Heard b call
calling b call c l = heard b call c.good c.lends c.whole l

idle_only : (s : State) → is_idle s ≡ true → s ≡ state.Idle
idle_only state.Closed e = absurd (false≢true e)
idle_only state.Idle e = refl
idle_only state.Control e = absurd (false≢true e)
idle_only state.Write e = absurd (false≢true e)

example_1 : (b : Board) (call : LentCall) → Calls b call → is_idle b.client.state ≡ true → call.datagram ≡ 0x01 ∷ 0x01 ∷ 0x61 ∷ 0x9E ∷ 0x03 ∷ []
    → said (step_machine b (Datagram call)) ≡ 0x01 ∷ 0x02 ∷ 0x71 ∷ 0x06 ∷ 0x87 ∷ 0x03 ∷ []
example_1 b call c s d =
    let i = idle_only b.client.state s in
    ap said (mode_start b call (calling b call c (ap is_closed i)) i (ap read_of d ∙ reads_1))
    ∙ said_back call (control_frame 0x71 (0x06 ∷ [])) (control_short 0x71 0x06) c.lends.room
    ∙ started_bytes

-- E0 with 05, of a code that is no request and of wrong values
parameter_said : (b : Board) (call : LentCall) → 14 ≤ length call.buffer
    → said (answered b call parameter_error) ≡ 0x01 ∷ 0x02 ∷ 0xE0 ∷ 0x05 ∷ 0x19 ∷ 0x03 ∷ []
parameter_said b call room = said_back call parameter_error (omega arith) room

example_3_any : (b : Board) (call : LentCall) (m : ℕ) → Calls b call → live b.client.state ≡ true → read_of call.datagram ≡ Some (Control 0x60 m)
    → said (step_machine b (Datagram call)) ≡ 0x01 ∷ 0x02 ∷ 0xE0 ∷ 0x05 ∷ 0x19 ∷ 0x03 ∷ []
example_3_any b call m c s r =
    ap said (no_request_is b call (calling b call c (not-true (is_closed b.client.state) s)) 0x60 m r refl)
    ∙ parameter_said b call c.lends.room

example_3 : (b : Board) (call : LentCall) → Calls b call → live b.client.state ≡ true → call.datagram ≡ 0x01 ∷ 0x01 ∷ 0x60 ∷ 0x9F ∷ 0x03 ∷ []
    → said (step_machine b (Datagram call)) ≡ 0x01 ∷ 0x02 ∷ 0xE0 ∷ 0x05 ∷ 0x19 ∷ 0x03 ∷ []
example_3 b call c s d = example_3_any b call 0 c s (ap read_of d ∙ reads_3)

example_6 : (b : Board) (call : LentCall) → Calls b call → live b.client.state ≡ true → call.datagram ≡ []
    → said (step_machine b (Datagram call)) ≡ 0x01 ∷ 0x02 ∷ 0xE0 ∷ 0x07 ∷ 0x17 ∷ 0x03 ∷ []
example_6 b call c s d =
    let room = c.lends.room in
    ap said (fault b call (calling b call c (not-true (is_closed b.client.state) s)) (ap read_of d ∙ reads_6))
    ∙ said_back call frame_error (omega (arith, length_error)) room
    ∙ error_bytes

-- ---- packets

module _ (b : Board) (call : LentCall) (sector m : ℕ) (p : Brings b call sector m) where
  own : from_stranger b.client call.address ≡ false
  own = from_opener_lem b.client call.address p.sender

  packet_heard : Heard b call
  packet_heard = calling b call p.calls (ap is_closed p.writing)

  abbrev bytes : List ℕ
  bytes = data_in call.datagram

  abbrev result : ℕ
  result = store_result (blank_of bytes) (same_of (sector_of (lent_target b call) sector) (padded_of bytes))

  unworn : sector - 1 < b.client.fixed.n → is_worn (get_or call.marks (sector - 1) 0) ≡ false
  unworn h =
      ap (λ (l : List ℕ). is_worn (get_or l (sector - 1) 0)) p.calls.lends.marks
      ∙ ap is_worn (get_or-replicate {A = ℕ} b.client.fixed.n (sector - 1) 0 0 h)

  stored_is : values_good b.client.fixed.n sector m ≡ true → step_machine b (Datagram call) ≡ packet_stored b call (Some (Write sector m p.footer))
  stored_is v =
      let low = values_low b.client.fixed.n sector m v in
      let high = values-high b.client.fixed.n sector m v in
      packet b call packet_heard sector m p.footer own p.writing p.reads v (unworn (omega arith))

  stored_said : values_good b.client.fixed.n sector m ≡ true
      → said (step_machine b (Datagram call)) ≡ write_frame sector (written_bytes 0x06 result (crc_of (padded_of bytes))) End
  stored_said v =
      ap said (stored_is v)
      ∙ said_back call (write_frame sector (written_bytes 0x06 result (crc_of (padded_of bytes))) End)
      (written_short sector 0x06 result (crc_of (padded_of bytes))) p.calls.lends.room

  taken : values_good b.client.fixed.n sector m ≡ true → PacketTaken true b call
  unfolding answer_bytes
  taken v =
      ap is_stored (stored_said v)
      ∙ written_stored sector result (crc_of (padded_of bytes))
      (accepted (blank_of bytes) (same_of (sector_of (lent_target b call) sector) (padded_of bytes)))

  refused : values_good b.client.fixed.n sector m ≡ false → PacketTaken false b call
  refused v =
      ap said (packet_wrong b call packet_heard sector m p.footer own p.writing p.reads v)
      ∙ parameter_said b call p.calls.lends.room

-- 7
good_7 : (m : ℕ) → values_good 491 491 m ≡ good_length m
unfolding values_good
good_7 m = refl

example_7 : (b : Board) (call : LentCall) (m : ℕ) → b.client.fixed.n ≡ 491 → good_length m ≡ true → Brings b call 491 m → PacketTaken true b call
example_7 b call m n g p = taken b call 491 m p (ap (λ (x : ℕ). values_good x 491 m) n ∙ good_7 m ∙ g)

example_7_above : (b : Board) (call : LentCall) (m : ℕ) → b.client.fixed.n ≡ 491 → good_length m ≡ true
    → Brings b call 492 m → PacketTaken false b call
example_7_above b call m n g p =
    refused b call 492 m p (ap (λ (x : ℕ). values_good x 492 m) n ∙ sym (values-above 491 492 m (omega arith) (omega arith)))

example_7_zero : (b : Board) (call : LentCall) (m : ℕ) → b.client.fixed.n ≡ 491 → good_length m ≡ true → Brings b call 0 m → PacketTaken false b call
example_7_zero b call m n g p = refused b call 0 m p (sym (values_zero b.client.fixed.n 0 m (omega arith)))

-- 8
module _ (b : Board) (call : LentCall) (sector : ℕ) (low : 1 ≤ sector) (high : sector ≤ b.client.fixed.n) where
  example_8 : Brings b call sector 512 → PacketTaken true b call
  example_8 p = taken b call sector 512 p (sym (values-words b.client.fixed.n sector 512 low high (omega arith) (omega arith)))

  example_8_long : Brings b call sector 516 → PacketTaken false b call
  example_8_long p = refused b call sector 516 p (sym (values-long b.client.fixed.n sector 516 low high (omega arith) (omega arith)))

  example_8_none : Brings b call sector 0 → PacketTaken false b call
  example_8_none p = refused b call sector 0 p (sym (values-empty b.client.fixed.n sector 0 low high (omega arith)))

  example_8_odd : Brings b call sector 6 → PacketTaken false b call
  example_8_odd p = refused b call sector 6 p (sym (values-words b.client.fixed.n sector 6 low high (omega arith) (omega arith)))

-- 9
module _ (b : Board) (call again : LentCall) (sector m : ℕ) (p : Brings b call sector m)
    (stored : is_stored (said (step_machine b (Datagram call))) ≡ true)
    (repeats : again.datagram ≡ call.datagram) (comes : SentFrom b.client.opener b.client.fixed.n again) where
  -- what was accepted has good values
  values : values_good b.client.fixed.n sector m ≡ true
  values = by (values_good b.client.fixed.n sector m) refl
    where
      by : (t : Bool) → values_good b.client.fixed.n sector m ≡ t → t ≡ true
      by true v = refl
      by false v = absurd (false≢true (sym (ap is_stored (refused b call sector m p v)) ∙ stored))

  abbrev next : Board
  next = (step_machine b (Datagram call)).board

  abbrev data-bytes : List ℕ
  data-bytes = data_in call.datagram

  -- the target as it was left
  abbrev left : List ℕ
  left = with_sector (lent_target b call) sector (padded_of data-bytes)

  abbrev other : Bank
  other = other_of b.client.fixed.running

  lent_size : length (lent_target b call) ≡ bank_size b.client.fixed.n
  lent_size = lent_whole b call b.client.fixed.n p.calls.lends p.calls.whole other

  fits : FitsAt (lent_target b call) sector data-bytes
  fits =
      fits_stored b.client (lent_target b call) call.datagram sector
      (storing b.client (length (lent_target b call)) call.datagram sector m p.footer p.reads p.writing p.calls.good
      lent_size values)

  padded_size : length (padded_of data-bytes) ≡ 512
  padded_size = length_padded data-bytes fits.short

  left_size : length left ≡ bank_size b.client.fixed.n
  left_size = length_with (lent_target b call) sector (padded_of data-bytes) fits.inside padded_size ∙ lent_size

  lent_again : lent_target next again ≡ left
  lent_again =
      ap (λ (o : Outcome). lent_target o.board again) (stored_is b call sector m p values)
      ∙ lent_in again.lent _ other
      ∙ ap (take (again.lent other)) (bank_there other b.pair)
      ∙ take_at left (drop (call.lent other) (bank_in other b.pair)) (again.lent other) (left_size ∙ sym (comes.lends.banks other))

  fixed_next : next.client.fixed ≡ b.client.fixed
  fixed_next = machine_stays b (Datagram call)

  brings_again : Brings next again sector m
  brings_again =
      record {
        calls = record {
          good = ap (λ (f : Fixed). good_n f.n) fixed_next ∙ p.calls.good;
          whole = λ x. lengths_kept b (Datagram call) x ∙ p.calls.whole x ∙ ap (λ (f : Fixed). bank_size f.n) (sym fixed_next);
          lends = subst (λ (f : Fixed). Lends f.n again) (sym fixed_next) comes.lends;
        };
        sender = comes.sender ∙ sym (ap (λ (o : Outcome). o.board.client.opener) (stored_is b call sector m p values));
        writing = ap (λ (o : Outcome). o.board.client.state) (stored_is b call sector m p values) ∙ p.writing;
        footer = p.footer;
        reads = ap read_of repeats ∙ p.reads;
      }

  already : same_of (sector_of (lent_target next again) sector) (padded_of (data_in again.datagram)) ≡ true
  already =
      ap (λ (d : List ℕ). same_of (sector_of (lent_target next again) sector) (padded_of (data_in d))) repeats
      ∙ ap (λ (t : List ℕ). same_of (sector_of t sector) (padded_of data-bytes)) lent_again
      ∙ ap (λ (s : List ℕ). same_of s (padded_of data-bytes)) (with_here (lent_target b call) sector (padded_of data-bytes) fits.inside padded_size)
      ∙ same_self (padded_of data-bytes)

  omitted : (blank same : Bool) → same ≡ true → store_result blank same ≡ 0x1D
  omitted true same e = refl
  omitted false same e = rw e

  example_9 : said (step_machine next (Datagram again)) ≡ write_frame sector (written_bytes 0x06 0x1D (crc_of (padded_of data-bytes))) End
  example_9 =
      stored_said next again sector m brings_again (ap (λ (f : Fixed). values_good f.n sector m) fixed_next ∙ values)
      ∙ ap₂ (λ (w : ℕ) (d : List ℕ). write_frame sector (written_bytes 0x06 w (crc_of (padded_of (data_in d)))) End)
      (omitted (blank_of (data_in again.datagram)) (same_of (sector_of (lent_target next again) sector) (padded_of (data_in again.datagram))) already)
      repeats

-- 10
module _ (bank : Bank) (n : ℕ) (image : List ℕ) (g : good_n n ≡ true) (e : length image ≡ sector_size * n) where
  example_10 : (text_read [] bank n image).answer ≡ Err (Line (record { kind = H6; line = 1; byte = 1 }))
  unfolding text_read read_lines lines
  example_10 = rw (g, eq-eqb (length image) (sector_size * n) e)

  example_10_end : (text_read (0x3A ∷ 48 ∷ 48 ∷ 48 ∷ 48 ∷ 48 ∷ 48 ∷ 48 ∷ 49 ∷ 70 ∷ 70 ∷ []) bank n image).answer ≡ Ok tt
  unfolding text_read read_lines lines found_of record_of digits_whole digits_in typed data_at digit_bytes byte_of is_digit value_of total
  example_10_end = rw (g, eq-eqb (length image) (sector_size * n) e)

pub examples : Examples
examples =
    also request_1
    (also example_1
    (also sum_2
    (also example_3
    (also example_3_any
    (also request_4
    (also request_5
    (also example_6
    (also example_7
    (also example_7_above
    (also example_7_zero
    (also example_8
    (also example_8_long
    (also example_8_none
    (also example_8_odd
    (also example_9
    (also example_10
    (also example_10_end
    (also sum_11
    none))))))))))))))))))
