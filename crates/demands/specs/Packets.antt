-- What is asked of a maker of sector packets, whatever it is (01, 'Hex text', "The sender sends, lowest first"; 'What comes back when it is no',
-- "Sender: 3, 2, 5"). A packet is judged by what its bytes say when they are read as a frame.
-- Assumes nothing.
use Rattle.std.specs.Prelude.{◌≡◌, true, false, ◌&&◌, cond, List, ℕ, ◌≤◌, ◌<◌, leb, ltb, length, take, drop, Some, Result}
use Rattle.frame.specs.Read.{read_of, data_in}
use Rattle.frame.specs.declared.read.Frame.TheVariants.{Write}
use Rattle.layout.specs.Layout.{sector_size, good_n, sector_of}
use Rattle.layout.specs.Said.{number, value}
use Rattle.sender.specs.declared.made.Refusal.{Refusal}
use Rattle.sender.specs.Made.{room, made_said, buffer_after}
use Rattle.sender.specs.Packet.{packet_count, packet_sector, footer_of, packet_frame, image_good, packet_made}

-- what a maker gives back, and the buffer then
pub record MadeOut : Type 0 where
  pub answer : Result ℕ Refusal
  pub buffer : List ℕ

abbrev pub out : Result ℕ Refusal → List ℕ → MadeOut
out answer buffer = record { answer = answer; buffer = buffer }

-- refused by this number, and the buffer keeps its bytes
pub record RefusedBy (k : ℕ) (before : List ℕ) (o : MadeOut) : Type 0 where
  pub says : made_said o.answer ≡ number k
  pub stays : o.buffer ≡ before

-- image, N, packet number, buffer
abbrev pub Maker : Type 0
Maker = List ℕ → ℕ → ℕ → List ℕ → MadeOut

-- a packet as it should be: `length` bytes at the front that read as the sector with this number, with its 512 bytes and its footer; the rest stays
pub record Packet (image : List ℕ) (n p : ℕ) (before : List ℕ) (o : MadeOut) : Type 0 where
  pub size : ℕ
  pub made : made_said o.answer ≡ value size
  pub reads : read_of (take size o.buffer) ≡ Some (Write (packet_sector image n p) sector_size (footer_of (packet_count image n) p))
  pub bytes : data_in (take size o.buffer) ≡ sector_of image (packet_sector image n p)
  pub rest : drop size o.buffer ≡ drop size before

-- 3, 2, 5, and then the packet
pub record MeetsPackets (s : Maker) : Type 0 where
  pub bad_n : (image : List ℕ) (n p : ℕ) (before : List ℕ) → good_n n ≡ false → RefusedBy 3 before (s image n p before)
  pub bad_length : (image : List ℕ) (n p : ℕ) (before : List ℕ) → good_n n ≡ true → (image_good image n && leb room (length before)) ≡ false
      → RefusedBy 2 before (s image n p before)
  pub past : (image : List ℕ) (n p : ℕ) (before : List ℕ) → good_n n ≡ true → (image_good image n && leb room (length before)) ≡ true
      → packet_count image n ≤ p → RefusedBy 5 before (s image n p before)
  pub packet : (image : List ℕ) (n p : ℕ) (before : List ℕ) → good_n n ≡ true → (image_good image n && leb room (length before)) ≡ true
      → p < packet_count image n → Packet image n p before (s image n p before)

-- the maker of the contracts
abbrev pub packet_maker : Maker
packet_maker image n p before =
    out (packet_made image n p (length before)) (buffer_after (packet_made image n p (length before)) before (packet_frame image n p))

-- one that invents the packet number: whichever packet of an image is asked for, it makes the same
abbrev pub InventsNumber : Maker → Type 0
InventsNumber s =
    (image : List ℕ) (n p q : ℕ) (before : List ℕ) → p < packet_count image n → q < packet_count image n → s image n p before ≡ s image n q before

-- one of them: it makes packet 0
abbrev pub first_maker : Maker
first_maker image n p before = packet_maker image n (cond (ltb p (packet_count image n)) 0 p) before
