-- What the sender's packets come to: an image put together from them.
-- Assumes nothing.
use Rattle.std.specs.Prelude.{List, ℕ, zero, suc, ◌*◌, replicate, Option, Some, None}
use Rattle.buffer.specs.Place.{place_of}
use Rattle.frame.specs.Read.{read_of, data_in}
use Rattle.frame.specs.declared.read.Frame.{Frame}
use Rattle.frame.specs.declared.read.Frame.TheVariants.{Control, Write}
use Rattle.layout.specs.Layout.{sector_size, sector_start}
use Rattle.sender.specs.Packet.{packet_frame}

-- the data of a write frame go to its sector
abbrev pub put_back : List ℕ → List ℕ → Option Frame → List ℕ
put_back bank d None = bank
put_back bank d (Some (Control code n)) = bank
put_back bank d (Some (Write sector m footer)) = place_of bank (sector_start sector) (data_in d)

-- what the first p packets make of a blank bank of n sectors
unfoldable pub restored : List ℕ → ℕ → ℕ → List ℕ
restored image n zero = replicate (sector_size * n) 0xFF
restored image n (suc p) = put_back (restored image n p) (packet_frame image n p) (read_of (packet_frame image n p))
