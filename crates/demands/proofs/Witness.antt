-- The premises of demand 2 can be met: two sectors, both with a byte other than 0xFF, delivered in reverse and one of them twice.
-- Assumes nothing.
use mathlib.Core.Path.{◌≡◌, refl}
use mathlib.Core.Bool.{true}
use mathlib.Core.List.{List, [], ◌∷◌, ◌++◌, Memᴰ}
use Prim.Native.Nat.{ℕ, zero, suc, ◌<◌}
use native.Mathlib.Omega.{arith}
use lib.ListN.{length, replicate, length-replicate}
use Rattle.buffer.specs.Compare.{blank_of}
use Rattle.buffer.specs.Number.{number_at, number_of}
use Rattle.crc.specs.Crc.{feed, crc_bit, crc_bits, crc_byte, crc_more, crc_of}
use Rattle.layout.specs.declared.Bank.{Bank}
use Rattle.layout.specs.declared.Bank.TheVariants.{Zero, One}
use Rattle.layout.specs.Layout.{good_n, whole_length, sector_of}
use Rattle.layout.specs.Pair.{banks, bank_in}
use Rattle.decision.specs.declared.plan.Fixed.{Fixed}
use Rattle.bank.specs.Sound.{header_good, table_fits, table_good, laid_out_good, body_good, all_good, bodies_good, listed_good, contents_good}
use Rattle.bank.specs.Sound.{blank_good, sound_of, verdict_of}
use Rattle.bank.specs.Stretch.{fits_at, laid_out, blank_outside}
use Rattle.bank.specs.Table.{crc_place, table_end, entry_at, entries_from, rest_of, stretches_of}
use Rattle.sender.specs.declared.request.Request.TheVariants.{WriteStart, WriteEnd}
use Rattle.sender.specs.Packet.{sent_of, packet_count, packet_sector, packet_frame}
use Rattle.sender.specs.Request.{request_frame}
use Rattle.exchange.specs.declared.state.State.TheVariants.{Control}
use Rattle.client.specs.Perform.{fit_of}
use Rattle.client.specs.Host.{fixed_of}
use Rattle.client.specs.Record.{nobody, closed_client, in_state}
use Rattle.calls.specs.Call.{Board}
use Rattle.demands.specs.Board.{LentCall, Input, Datagram, step_machine}
use Rattle.demands.specs.Demand2.{Lends, SentFrom, none, more, Ready, Delivery, Delivered}
use Rattle.demands.proofs.Demand2.{demand2}

-- a table with one body, four bytes in the second sector
unfoldable pub image : List ℕ
image =
    (0x04 ∷ 0x00 ∷ 0x01 ∷ 0x01 ∷ 0x00 ∷ 0x00 ∷ 0x02 ∷ 0x58 ∷ 0x00 ∷ 0x00 ∷ 0x00 ∷ 0x04 ∷ 0xB6 ∷ 0x3C ∷ 0xFB ∷ 0xCD ∷ 0x47 ∷ 0x19 ∷ 0x21 ∷ 0x7B ∷ [])
    ++ replicate 580 0xFF ++ (0x01 ∷ 0x02 ∷ 0x03 ∷ 0x04 ∷ []) ++ replicate 420 0xFF

pub image_size : length image ≡ 1024
unfolding image
image_size = refl

pub image_fit : (fixed : Fixed) → fit_of fixed image ≡ true
unfolding image verdict_of whole_length good_n sound_of contents_good header_good table_fits table_good listed_good laid_out_good bodies_good body_good all_good
    blank_good laid_out fits_at blank_outside crc_place table_end entry_at entries_from rest_of stretches_of blank_of number_at number_of
    crc_of crc_more crc_byte crc_bits crc_bit feed
image_fit fixed = refl

pub two_packets : packet_count image 2 ≡ 2
unfolding image sent_of sector_of blank_of
two_packets = refl

pub two_good : good_n 2 ≡ true
unfolding good_n
two_good = refl

pub sectors_are : (packet_sector image 2 0 ≡ 1) × (packet_sector image 2 1 ≡ 2)
unfolding image sent_of sector_of blank_of
sectors_are = (refl, refl)

-- banks of zeros
unfoldable pub witness_board : Board
witness_board =
    record {
      client = in_state Control (closed_client (fixed_of 2 Zero 1 0 0) Zero);
      pair = banks (replicate 1024 0) (replicate 1024 0);
    }

unfoldable pub calling : List ℕ → LentCall
calling datagram = record { datagram = datagram; address = replicate 16 0; marks = replicate 2 0; buffer = replicate 14 0; lent = λ x. 1024 }

pub lends : (datagram : List ℕ) → Lends 2 (calling datagram)
unfolding calling
lends datagram =
    record {
      address = length-replicate {A = ℕ} 16 0;
      marks = refl;
      room = omega (arith, length-replicate {A = ℕ} 14 0);
      banks = λ x. refl;
    }

pub comes : (datagram : List ℕ) → SentFrom witness_board.client.opener 2 (calling datagram)
unfolding witness_board calling nobody
comes datagram = record { sender = refl; lends = lends datagram }

unfoldable pub order : List ℕ
order = 1 ∷ 0 ∷ 1 ∷ []

unfoldable pub sending : List ℕ → List Input
sending img = Datagram (calling (packet_frame img 2 1)) ∷ Datagram (calling (packet_frame img 2 0)) ∷ Datagram (calling (packet_frame img 2 1)) ∷ []

each_sent : (p : ℕ) → p < 2 → Memᴰ p order
unfolding order
each_sent zero h = Memᴰ.tail (Memᴰ.head refl)
each_sent (suc zero) h = Memᴰ.head refl
each_sent (suc (suc p)) h = absurd (omega arith)

-- any image of two packets
pub delivery : (img : List ℕ) → packet_count img 2 ≡ 2
    → Delivery witness_board.client.opener witness_board img (calling (request_frame (WriteStart One 2))) order (sending img) (calling (request_frame WriteEnd))
unfolding witness_board calling order sending
delivery img two =
    record {
      start_sent = refl;
      start_comes = comes (request_frame (WriteStart One 2));
      packets =
          more {p = 1} (omega (arith, two)) refl (comes (packet_frame img 2 1))
          (more {p = 0} (omega (arith, two)) refl (comes (packet_frame img 2 0))
          (more {p = 1} (omega (arith, two)) refl (comes (packet_frame img 2 1)) none));
      each = λ p h. each_sent p (omega (arith, two));
      end_sent = refl;
      end_comes = comes (request_frame WriteEnd);
    }

pub ready : Ready witness_board
unfolding witness_board good_n
ready = record { good = refl; control = refl; whole = both }
  where
    both : (x : Bank) → length (bank_in x (banks (replicate 1024 0) (replicate 1024 0))) ≡ 1024
    both Zero = length-replicate {A = ℕ} 1024 0
    both One = length-replicate {A = ℕ} 1024 0

pub witness : Delivered step_machine witness_board image (calling (request_frame (WriteStart One 2))) order (sending image) (calling (request_frame WriteEnd))
unfolding witness_board
witness = demand2 witness_board image ready (record { size = image_size; sound = image_fit (fixed_of 2 Zero 1 0 0) }) _ _ _ _ (delivery image two_packets)
