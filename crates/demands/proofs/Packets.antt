-- The sender's packets are as asked, and a sender that invents their number is shut out.
-- Assumes nothing.
use Rattle.std.specs.Prelude.{Option, Some, None}
use mathlib.Core.Path.{◌≡◌, sym, ap, ap₂, ◌∙◌}
use mathlib.Core.Bool.{true, ◌&&◌}
use mathlib.Core.List.{List}
use Prim.Native.Nat.{ℕ, ◌+◌, ◌*◌, ◌≤◌, ◌<◌}
use native.Mathlib.Omega.{arith}
use lib.Dec.{leb}
use lib.ListN.{length, take, drop, replicate, length-replicate}
use borrow.Author.Tests.{leb-true, eqb-true, lt-ltb, le-ltb, eq-eqb, le-leb}
use Rattle.std.specs.Prelude.{Result, Ok}
use Rattle.buffer.specs.Place.{front_of}
use Rattle.buffer.proofs.Bools.{and_left, and_right, and_both}
use Rattle.buffer.proofs.Places.{front_take, front_drop}
use Rattle.frame.specs.Read.{read_of, data_in}
use Rattle.frame.specs.declared.read.Frame.{Frame as ReadFrame}
use Rattle.frame.specs.declared.read.Frame.TheVariants.{Control, Write}
use Rattle.frame.proofs.Writing.{length_write}
use Rattle.layout.specs.Layout.{good_n, sector_of}
use Rattle.layout.specs.Said.{Said, value}
use Rattle.sender.specs.declared.made.Refusal.{Refusal}
use Rattle.sender.specs.Made.{room, made_said, buffer_after}
use Rattle.sender.specs.Packet.{packet_count, packet_sector, footer_of, packet_frame, image_good, packet_made}
use Rattle.sender.proofs.Image.{packet_read, packet_data}
use Rattle.sender.proofs.Packets.{Sent, sent_in, sector_length}
use Rattle.demands.specs.Packets.{MadeOut, Maker, Packet, MeetsPackets, packet_maker, InventsNumber, first_maker}
use Rattle.demands.proofs.Witness.{image, image_size, two_packets, two_good, sectors_are}

pub packet_long : (img : List ℕ) (n p : ℕ) → length img ≡ 512 * n → p < packet_count img n → length (packet_frame img n p) ≡ 519
unfolding packet_frame
packet_long img n p sized h =
    let s : Sent img n (packet_sector img n p) = sent_in img n p h in
    length_write (packet_sector img n p) (sector_of img (packet_sector img n p)) (footer_of (packet_count img n) p)
    ∙ ap (λ (x : ℕ). x + 7) (sector_length img n sized (packet_sector img n p) s.low s.high)

module _ (img : List ℕ) (n p : ℕ) (before : List ℕ) (g : good_n n ≡ true) (l : (image_good img n && leb room (length before)) ≡ true) where
  roomy : 519 ≤ length before
  roomy = leb-true 519 (length before) (and_right (image_good img n) (leb room (length before)) l)

  sized : length img ≡ 512 * n
  sized = eqb-true (length img) (512 * n) (and_left (image_good img n) (leb room (length before)) l)

  module _ (h : p < packet_count img n) where
    made_is : packet_made img n p (length before) ≡ Ok (length (packet_frame img n p))
    unfolding packet_made
    made_is = rw (g, l, lt-ltb p (packet_count img n) h)

    frame-long : length (packet_frame img n p) ≡ 519
    frame-long = packet_long img n p sized h

    buffer_is : (packet_maker img n p before).buffer ≡ front_of before (packet_frame img n p)
    buffer_is = ap (λ (m : Result ℕ Refusal). buffer_after m before (packet_frame img n p)) made_is

    front_is : take (length (packet_frame img n p)) (packet_maker img n p before).buffer ≡ packet_frame img n p
    front_is =
        let room-is = roomy in
        ap (take (length (packet_frame img n p))) buffer_is ∙ front_take before (packet_frame img n p) (omega (arith, frame-long))

    is-packet : Packet img n p before (packet_maker img n p before)
    is-packet =
        let room-is = roomy in
        record {
          size = length (packet_frame img n p);
          made = ap made_said made_is;
          reads = ap read_of front_is ∙ sym (packet_read img n p g sized h);
          bytes = ap data_in front_is ∙ packet_data img n p;
          rest = ap (drop (length (packet_frame img n p))) buffer_is ∙ front_drop before (packet_frame img n p) (omega (arith, frame-long));
        }

pub packets_meet : MeetsPackets packet_maker
unfolding packet_made
packets_meet =
    record {
      bad_n = λ img n p before g. record { says = rw g; stays = rw g };
      bad_length = λ img n p before g l. record { says = rw (g, l); stays = rw (g, l) };
      past = λ img n p before g l h.
          let e = le-ltb p (packet_count img n) h in record { says = rw (g, l, e); stays = rw (g, l, e) };
      packet = λ img n p before g l h. is-packet img n p before g l h;
    }

-- ---- shut out: one that makes the same packet for each number

pub one_inventor : InventsNumber first_maker
one_inventor img n p q before h k = rw (lt-ltb p (packet_count img n) h, lt-ltb q (packet_count img n) k)

same_size : {said : Said} {s t : ℕ} → said ≡ value s → said ≡ value t → s ≡ t
same_size p q = cc

sector_in : Option ReadFrame → ℕ
sector_in None = 0
sector_in (Some (Control code n)) = 0
sector_in (Some (Write sector m footer)) = sector

pub no_inventor : (s : Maker) → InventsNumber s → MeetsPackets s → ⊥
unfolding sector_in
no_inventor s invents meets =
    let before : List ℕ = replicate 519 0 in
    let l : (image_good image 2 && leb room (length before)) ≡ true =
    and_both (image_good image 2) (leb room (length before)) (eq-eqb (length image) 1024 image_size)
    (le-leb 519 (length before) (omega (arith, length-replicate {A = ℕ} 519 0))) in
    let zero = meets.packet image 2 0 before two_good l (omega (arith, two_packets)) in
    let one = meets.packet image 2 1 before two_good l (omega (arith, two_packets)) in
    let same = invents image 2 0 1 before (omega (arith, two_packets)) (omega (arith, two_packets)) in
    let size : zero.size ≡ one.size = same_size zero.made (ap (λ (o : MadeOut). made_said o.answer) same ∙ one.made) in
    let e : packet_sector image 2 0 ≡ packet_sector image 2 1 =
    ap sector_in (sym zero.reads ∙ ap₂ (λ (k : ℕ) (o : MadeOut). read_of (take k o.buffer)) size same ∙ one.reads) in
    absurd (omega (arith, e, sectors_are.0, sectors_are.1))
