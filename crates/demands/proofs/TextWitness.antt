-- The premises of the way from the text to the bank can be met: the text of the image of `Witness.antt`, for bank 1.
-- Assumes nothing.
use mathlib.Core.Path.{◌≡◌, refl, ap, ◌∙◌}
use mathlib.Core.Bool.{true}
use mathlib.Core.List.{List, [], ◌∷◌, ◌++◌}
use Prim.Native.Nat.{ℕ, ◌*◌}
use lib.ListN.{length, replicate}
use Rattle.std.specs.Prelude.{Ok}
use Rattle.buffer.specs.Total.{total}
use Rattle.layout.specs.declared.Bank.TheVariants.{Zero, One}
use Rattle.layout.specs.Layout.{sector_size, good_n, start_of}
use Rattle.layout.specs.Pair.{bank_in}
use Rattle.lines.specs.Line.{lines}
use Rattle.digits.specs.Digit.{value_of, is_digit}
use Rattle.hex_text.specs.Meaning.{Leaves}
use Rattle.hex_text.specs.Spell.{byte_of, digit_bytes}
use Rattle.hex_text.specs.Record.{digits_in, digits_whole, record_of, in_bank, data_at, typed, found_of}
use Rattle.hex_text.specs.Read.{Reading, read_lines, text_read}
use Rattle.sender.specs.declared.request.Request.TheVariants.{WriteStart, WriteEnd}
use Rattle.sender.specs.Packet.{packet_count}
use Rattle.sender.specs.Request.{request_frame}
use Rattle.client.specs.Perform.{fit_of}
use Rattle.client.specs.Host.{fixed_of}
use Rattle.demands.specs.Board.{Datagram, after, step_machine}
use Rattle.demands.proofs.Text.{text_to_bank}
use Rattle.demands.proofs.Witness.{image, image_fit, two_packets, witness_board, calling, order, sending, delivery, ready}

-- :020000041400E6
unfoldable pub upper_line : List ℕ
upper_line =
    0x3A ∷ 0x30 ∷ 0x32 ∷ 0x30 ∷ 0x30 ∷ 0x30 ∷ 0x30 ∷ 0x30 ∷ 0x34 ∷ 0x31 ∷ 0x34 ∷ 0x30 ∷ 0x30 ∷ 0x45 ∷ 0x36 ∷ 0x0A ∷ []

-- :140A0000040001010000025800000004B63CFBCD4719217BC8
unfoldable pub table_line : List ℕ
table_line =
    0x3A ∷ 0x31 ∷ 0x34 ∷ 0x30 ∷ 0x41 ∷ 0x30 ∷ 0x30 ∷ 0x30 ∷ 0x30 ∷ 0x30 ∷ 0x34 ∷ 0x30 ∷ 0x30 ∷ 0x30 ∷ 0x31 ∷ 0x30 ∷ 0x31 ∷ 0x30 ∷ 0x30 ∷ 0x30 ∷
    0x30 ∷ 0x30 ∷ 0x32 ∷ 0x35 ∷
    0x38 ∷ 0x30 ∷ 0x30 ∷ 0x30 ∷ 0x30 ∷ 0x30 ∷ 0x30 ∷ 0x30 ∷ 0x34 ∷ 0x42 ∷ 0x36 ∷ 0x33 ∷ 0x43 ∷ 0x46 ∷ 0x42 ∷ 0x43 ∷ 0x44 ∷ 0x34 ∷ 0x37 ∷ 0x31 ∷
    0x39 ∷ 0x32 ∷ 0x31 ∷ 0x37 ∷
    0x42 ∷ 0x43 ∷ 0x38 ∷ 0x0A ∷ []

-- :040C5800010203048E
unfoldable pub body_line : List ℕ
body_line =
    0x3A ∷ 0x30 ∷ 0x34 ∷ 0x30 ∷ 0x43 ∷ 0x35 ∷ 0x38 ∷ 0x30 ∷ 0x30 ∷ 0x30 ∷ 0x31 ∷ 0x30 ∷ 0x32 ∷ 0x30 ∷ 0x33 ∷ 0x30 ∷ 0x34 ∷ 0x38 ∷ 0x45 ∷ 0x0A ∷ []

-- :00000001FF
unfoldable pub end_line : List ℕ
end_line =
    0x3A ∷ 0x30 ∷ 0x30 ∷ 0x30 ∷ 0x30 ∷ 0x30 ∷ 0x30 ∷ 0x30 ∷ 0x31 ∷ 0x46 ∷ 0x46 ∷ 0x0A ∷ []

unfoldable pub text : List ℕ
text = upper_line ++ table_line ++ body_line ++ end_line

text_read_lem : text_read text One 2 (replicate 1024 0) ≡ record { answer = Ok tt; image = image }
unfolding text upper_line table_line body_line end_line image text_read good_n read_lines lines found_of record_of digits_whole digits_in typed data_at
    in_bank digit_bytes byte_of is_digit value_of total
text_read_lem = refl

pub text_witness : Leaves (start_of One) (sector_size * 2) (lines text) (length (lines text))
    (bank_in One
    (step_machine
    (after step_machine witness_board
    (Datagram (calling (request_frame (WriteStart One 2))) ∷ sending (text_read text One 2 (replicate 1024 0)).image))
    (Datagram (calling (request_frame WriteEnd)))).board.pair)
unfolding witness_board
text_witness =
    let read : text_read text One 2 (replicate 1024 0) ≡ record { answer = Ok tt; image = image } = text_read_lem in
    let fit : fit_of (fixed_of 2 Zero 1 0 0) (text_read text One 2 (replicate 1024 0)).image ≡ true =
    ap (λ (r : Reading). fit_of (fixed_of 2 Zero 1 0 0) r.image) read ∙ image_fit (fixed_of 2 Zero 1 0 0) in
    let two : packet_count (text_read text One 2 (replicate 1024 0)).image 2 ≡ 2 =
    ap (λ (r : Reading). packet_count r.image 2) read ∙ two_packets in
    text_to_bank witness_board text (replicate 1024 0) ready (ap (λ (r : Reading). r.answer) read) fit _ order _ _ (delivery _ two)
