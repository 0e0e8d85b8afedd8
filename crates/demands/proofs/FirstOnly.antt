-- What demand 2 shuts out, from the demand alone: every machine that handles the first packet of a session and only acknowledges the rest.
-- Two fit images of two sectors are alike in the second and not in the first. The second is sent first, so the machine leaves the same bank for
-- both, and demand 2 wants each of them there.
-- Assumes nothing.
use Rattle.std.specs.Prelude.{Some}
use mathlib.Core.Path.{◌≡◌, refl, sym, ap, subst, ◌∙◌}
use mathlib.Core.Bool.{true}
use mathlib.Core.List.{List, [], ◌∷◌, ◌++◌}
use Prim.Native.Nat.{ℕ}
use native.Mathlib.Omega.{arith}
use lib.ListN.{length, get_or, replicate}
use Rattle.buffer.specs.Compare.{blank_of}
use Rattle.buffer.specs.Number.{number_at, number_of}
use Rattle.crc.specs.Crc.{feed, crc_bit, crc_bits, crc_byte, crc_more, crc_of}
use Rattle.frame.specs.Read.{read_of}
use Rattle.frame.specs.declared.read.Frame.TheVariants.{Write}
use Rattle.frame.specs.declared.read.Footer.TheVariants.{End, Continued}
use Rattle.layout.specs.declared.Bank.TheVariants.{Zero, One}
use Rattle.layout.specs.Layout.{good_n, whole_length, sector_of}
use Rattle.bank.specs.Sound.{header_good, table_fits, table_good, laid_out_good, body_good, all_good, bodies_good, listed_good, contents_good}
use Rattle.bank.specs.Sound.{blank_good, sound_of, verdict_of}
use Rattle.bank.specs.Stretch.{fits_at, laid_out, blank_outside}
use Rattle.bank.specs.Table.{crc_place, table_end, entry_at, entries_from, rest_of, stretches_of}
use Rattle.sender.specs.declared.request.Request.TheVariants.{WriteStart, WriteEnd}
use Rattle.sender.specs.Packet.{sent_of, packet_count, packet_sector, footer_of, packet_frame}
use Rattle.sender.specs.Request.{request_frame}
use Rattle.sender.proofs.Image.{packet_read}
use Rattle.decision.specs.declared.plan.Fixed.{Fixed}
use Rattle.client.specs.Host.{fixed_of}
use Rattle.client.specs.Perform.{fit_of}
use Rattle.exchange.specs.Answer.{answer_bytes}
use Rattle.demands.specs.Board.{LentCall, Input, Datagram, Outcome, said, Machine}
use Rattle.demands.specs.Demand1.{is_packet}
use Rattle.demands.specs.Demand2.{Fit, Taken, AllTaken, more_taken, Delivered, Meets2}
use Rattle.demands.specs.Session.{is_begin, is_stored}
use Rattle.demands.specs.ShutOut.{SameButBytes, none_alike, more_alike, FirstHandled, target_after, FirstOnly}
use Rattle.demands.proofs.Bytes.{written_stored}
use Rattle.demands.proofs.ShutOut.{delivered, fit}
use Rattle.demands.proofs.Witness.{image, witness_board, calling, order, sending, image_size, two_packets, two_good, sectors_are}

-- the same sectors but for the table: it gives the body eight bytes instead of four
unfoldable longer : List ℕ
longer =
    (0x04 ∷ 0x00 ∷ 0x01 ∷ 0x01 ∷ 0x00 ∷ 0x00 ∷ 0x02 ∷ 0x58 ∷ 0x00 ∷ 0x00 ∷ 0x00 ∷ 0x08 ∷ 0x93 ∷ 0xB8 ∷ 0x3A ∷ 0x53 ∷ 0x36 ∷ 0x6F ∷ 0x78 ∷ 0x66 ∷ [])
    ++ replicate 580 0xFF ++ (0x01 ∷ 0x02 ∷ 0x03 ∷ 0x04 ∷ []) ++ replicate 420 0xFF

longer_size : length longer ≡ 1024
unfolding longer
longer_size = refl

longer_sound : (fixed : Fixed) → fit_of fixed longer ≡ true
unfolding longer verdict_of whole_length good_n sound_of contents_good header_good table_fits table_good listed_good laid_out_good bodies_good body_good all_good
    blank_good laid_out fits_at blank_outside crc_place table_end entry_at entries_from rest_of stretches_of blank_of number_at number_of
    crc_of crc_more crc_byte crc_bits crc_bit feed
longer_sound fixed = refl

longer_packets : packet_count longer 2 ≡ 2
unfolding longer sent_of sector_of blank_of
longer_packets = refl

longer_sectors : (packet_sector longer 2 0 ≡ 1) × (packet_sector longer 2 1 ≡ 2)
unfolding longer sent_of sector_of blank_of
longer_sectors = (refl, refl)

-- the packet that is sent first is the same
same_sector : sector_of longer 2 ≡ sector_of image 2
unfolding longer image sector_of
same_sector = refl

same_first : packet_frame longer 2 1 ≡ packet_frame image 2 1
unfolding packet_frame
same_first =
    rw (longer_sectors.1, sectors_are.1, longer_packets, two_packets, same_sector)

not_same : image ≡ longer → ⊥
unfolding longer image
not_same e = absurd (omega (arith, ap (λ (l : List ℕ). get_or l 11 0) e))

-- what the packets of an image of two packets, in its sectors 1 and 2, are read as
module _ (img : List ℕ) (size : length img ≡ 1024) (two : packet_count img 2 ≡ 2) (sectors : (packet_sector img 2 0 ≡ 1) × (packet_sector img 2 1 ≡ 2)) where
  reads_0 : read_of (packet_frame img 2 0) ≡ Some (Write 1 512 Continued)
  unfolding footer_of
  reads_0 = sym (packet_read img 2 0 two_good size (omega (arith, two))) ∙ rw (sectors.0, two)

  reads_1 : read_of (packet_frame img 2 1) ≡ Some (Write 2 512 End)
  unfolding footer_of
  reads_1 = sym (packet_read img 2 1 two_good size (omega (arith, two))) ∙ rw (sectors.1, two)

-- a packet that is answered as demand 2 wants it has been handled
taken_stored : (img : List ℕ) (n p : ℕ) (o : Outcome) → Taken img n p o → is_stored (said o) ≡ true
unfolding answer_bytes
taken_stored img n p o t = ap is_stored t.answer ∙ written_stored (packet_sector img n p) t.write _ t.accepted

first_taken : (img : List ℕ) (n p : ℕ) (ps : List ℕ) (o : Outcome) (os : List Outcome) → AllTaken img n (p ∷ ps) (o ∷ os) → Taken img n p o
first_taken img n p ps o os (more_taken t rest) = t

longer_fit : Fit longer (fixed_of 2 Zero 1 0 0)
longer_fit = record { size = longer_size; sound = longer_sound (fixed_of 2 Zero 1 0 0) }

-- what follows the first packet
rest : List ℕ → List Input
rest img = Datagram (calling (packet_frame img 2 0)) ∷ Datagram (calling (packet_frame img 2 1)) ∷ []

rest_alike : SameButBytes (rest image) (rest longer)
unfolding rest calling
rest_alike =
    more_alike 1 512 Continued (reads_0 image image_size two_packets sectors_are) (reads_0 longer longer_size longer_packets longer_sectors)
    (more_alike 2 512 End (reads_1 image image_size two_packets sectors_are) (reads_1 longer longer_size longer_packets longer_sectors) none_alike)

pub no_first_only : (m : Machine) → FirstOnly m → Meets2 m → ⊥
unfolding witness_board order sending calling rest
no_first_only m only meets = not_same (sym one.bank ∙ same ∙ subst Leaves same_first two.bank)
  where
    start : LentCall
    start = calling (request_frame (WriteStart One 2))

    first : LentCall
    first = calling (packet_frame image 2 1)

    end : LentCall
    end = calling (request_frame WriteEnd)

    one : Delivered m witness_board image (calling (request_frame (WriteStart One 2))) order (sending image) (calling (request_frame WriteEnd))
    one = delivered m meets image fit two_packets

    two : Delivered m witness_board longer (calling (request_frame (WriteStart One 2))) order (sending longer) (calling (request_frame WriteEnd))
    two = delivered m meets longer longer_fit longer_packets

    handled : FirstHandled m witness_board start first
    handled =
        record {
          begins = ap is_begin one.started;
          packet = ap is_packet (reads_1 image image_size two_packets sectors_are);
          handled = taken_stored image 2 1 _ (first_taken image 2 1 _ _ _ one.taken);
        }

    same : target_after m witness_board start first (rest image) end ≡ target_after m witness_board start first (rest longer) end
    same = only witness_board start first end (rest image) (rest longer) handled refl rest_alike

    Leaves : List ℕ → Type 0
    Leaves datagram = target_after m witness_board start (calling datagram) (rest longer) end ≡ longer
