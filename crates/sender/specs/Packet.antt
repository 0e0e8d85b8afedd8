-- The sector packets of an image (01, 'Hex text', "The sender sends, lowest first"; 'Frames').
-- Assumes nothing.
use Rattle.std.specs.Prelude.{◌≡◌, Bool, false, not, ◌&&◌, cond, List, [], ◌∷◌, ◌++◌, ℕ, zero, suc, ◌+◌, ◌*◌, eqb, leb, ltb, length, get_or, Result, Ok, Err}
use Rattle.buffer.specs.Compare.{blank_of}
use Rattle.frame.specs.Frame.{write_frame}
use Rattle.frame.specs.declared.read.Footer.{Footer}
use Rattle.frame.specs.declared.read.Footer.TheVariants.{End, Continued}
use Rattle.layout.specs.Layout.{sector_size, good_n, sector_of}
use Rattle.layout.specs.Said.{Said, number, value}
use Rattle.sender.specs.declared.made.Place.{Place}
use Rattle.sender.specs.declared.made.Refusal.{Refusal}
use Rattle.sender.specs.declared.made.Refusal.TheVariants.{BadN, BadLength, PastLast}
use Rattle.sender.specs.Made.{room, refusal_number, made_said, sender_says, buffer_after}

-- of the first k sectors those that have "a byte other than 0xFF", lowest first
unfoldable pub sent_of : List ℕ → ℕ → List ℕ
sent_of image zero = []
sent_of image (suc k) = sent_of image k ++ cond (blank_of (sector_of image (suc k))) [] (suc k ∷ [])

-- how many packets an image of n sectors has, and the sector of packet p, "by number, from 0"
abbrev pub packet_count : List ℕ → ℕ → ℕ
packet_count image n = length (sent_of image n)

abbrev pub packet_sector : List ℕ → ℕ → ℕ → ℕ
packet_sector image n p = get_or (sent_of image n) p 0

-- 03 "on its last sector packet", 17 on each before it
unfoldable pub footer_of : ℕ → ℕ → Footer
footer_of count p = cond (eqb (p + 1) count) End Continued

-- packet p: "512 bytes" of its sector
unfoldable pub packet_frame : List ℕ → ℕ → ℕ → List ℕ
packet_frame image n p =
    write_frame (packet_sector image n p) (sector_of image (packet_sector image n p)) (footer_of (packet_count image n) p)

-- "image not 512·N"
abbrev pub image_good : List ℕ → ℕ → Bool
image_good image n = eqb (length image) (sector_size * n)

-- "Sender: 3, 2, 5"
unfoldable pub packet_made : List ℕ → ℕ → ℕ → ℕ → Result ℕ Refusal
packet_made image n p size =
    cond (good_n n)
    (cond (image_good image n && leb room size)
    (cond (ltb p (packet_count image n)) (Ok (length (packet_frame image n p))) (Err PastLast))
    (Err BadLength))
    (Err BadN)

-- the same in the paper's numbers
abbrev pub packet_says : List ℕ → ℕ → ℕ → ℕ → Said
packet_says image n p size =
    sender_says (not (good_n n)) (not (image_good image n && leb room size)) (not (ltb p (packet_count image n))) (length (packet_frame image n p))

-- of an image that is as long as its sectors 5, and else the sector of packet p, and how many packets there are
unfoldable pub placed_in : List ℕ → ℕ → ℕ → Result Place Refusal
placed_in image n p = cond (ltb p (packet_count image n)) (Ok (record { sector = packet_sector image n p; count = packet_count image n })) (Err PastLast)

-- 3, 2, 5, and else its place; the same in the paper's numbers, with the sector
unfoldable pub placed_of : List ℕ → ℕ → ℕ → Result Place Refusal
placed_of image n p = cond (good_n n) (cond (image_good image n) (placed_in image n p) (Err BadLength)) (Err BadN)

abbrev pub placed_said : Result Place Refusal → Said
placed_said (Err why) = number (refusal_number why)
placed_said (Ok place) = value place.sector

abbrev pub place_says : List ℕ → ℕ → ℕ → Said
place_says image n p = sender_says (not (good_n n)) (not (image_good image n)) (not (ltb p (packet_count image n))) (packet_sector image n p)

-- 3, 2, and else how many
unfoldable pub tally_of : List ℕ → ℕ → Result ℕ Refusal
tally_of image n = cond (good_n n) (cond (image_good image n) (Ok (packet_count image n)) (Err BadLength)) (Err BadN)

abbrev pub count_says : List ℕ → ℕ → Said
count_says image n = sender_says (not (good_n n)) (not (image_good image n)) false (packet_count image n)

-- what is known when the first k sectors were looked at
unfoldable pub seen_of : List ℕ → ℕ → ℕ → Place
seen_of image k p = record { sector = packet_sector image k p; count = packet_count image k }

pub record IsCount (image : List ℕ) (n : ℕ) (r : Result ℕ Refusal) : Type 0 where
  pub answered : r ≡ tally_of image n
  pub says : made_said r ≡ count_says image n

pub record IsPlace (image : List ℕ) (n p : ℕ) (r : Result Place Refusal) : Type 0 where
  pub answered : r ≡ placed_of image n p
  pub says : placed_said r ≡ place_says image n p

pub record IsPacket (image : List ℕ) (n p : ℕ) (before : List ℕ) (r : Result ℕ Refusal) (after : List ℕ) : Type 0 where
  pub answered : r ≡ packet_made image n p (length before)
  pub says : made_said r ≡ packet_says image n p (length before)
  pub stands : after ≡ buffer_after (packet_made image n p (length before)) before (packet_frame image n p)
