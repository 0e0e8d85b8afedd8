-- What is lent, looked at before anything else (02 §4, "Refusals, in this order").
-- Assumes nothing.
use Rattle.std.specs.Prelude.{Bool, ◌&&◌, cond, List, ℕ, leb, ltb, Result, Ok, Err}
use Rattle.layout.specs.Layout.{good_n}
use Rattle.sender.specs.declared.made.Place.{Place}
use Rattle.sender.specs.Made.{room}
use Rattle.sender.specs.Packet.{packet_count, packet_sector, image_good}
use Rattle.night.specs.declared.record.Refusal.{Refusal}
use Rattle.night.specs.declared.record.Refusal.TheVariants.{BadN, BadLength, BadTries, NoPacket}

-- "T from 1 to 9"
unfoldable pub tries_good : ℕ → Bool
tries_good tries = leb 1 tries && leb tries 9

-- the lengths of what is lent: the image's, and room for the longest request
abbrev pub lengths_good : List ℕ → ℕ → ℕ → Bool
lengths_good image n size = image_good image n && leb room size

-- the buffer and the tries, and then what was found in the image
unfoldable pub room_given : ℕ → ℕ → Result Place Refusal → Result Place Refusal
room_given size tries found = cond (leb room size) (cond (tries_good tries) found (Err BadTries)) (Err BadLength)

-- 3, 2, 7, 8, and else the sector of packet p, and how many packets there are
unfoldable pub looked_of : List ℕ → ℕ → ℕ → ℕ → ℕ → Result Place Refusal
looked_of image n tries size p =
    cond (good_n n)
    (cond (lengths_good image n size)
    (cond (tries_good tries)
    (cond (ltb p (packet_count image n)) (Ok (record { sector = packet_sector image n p; count = packet_count image n })) (Err NoPacket))
    (Err BadTries))
    (Err BadLength))
    (Err BadN)
