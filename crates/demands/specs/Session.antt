-- What a write session shows, told by the bytes that went in and came back alone (01, 'The client, step by step'): "each sector as last
-- accepted, 0xFF elsewhere".
-- Assumes nothing.
use Rattle.std.specs.Prelude.{Bool, ◌&&◌, ◌||◌, cond, List, [], ◌∷◌, ℕ, eqb, Option, Some, None}
use Rattle.buffer.specs.Number.{byte_at}
use Rattle.frame.specs.Read.{read_of, data_in}
use Rattle.frame.specs.declared.read.Frame.{Frame}
use Rattle.frame.specs.declared.read.Frame.TheVariants.{Control, Write}
use Rattle.flash.specs.Bank.{with_sector, blank_sector}
use Rattle.flash.specs.Sector.{blanks, padded_of}
use Rattle.layout.specs.Layout.{bank_size}
use Rattle.demands.specs.Board.{Input, Initiate, Terminate, Datagram, Outcome, said}

-- a control response with this code and result
abbrev pub is_response : ℕ → ℕ → List ℕ → Bool
is_response code result answer = eqb (byte_at answer 0) 0x01 && (eqb (byte_at answer 2) code && eqb (byte_at answer 3) result)

-- a write response with response result 06 and write result 06 or 1D
abbrev pub is_stored : List ℕ → Bool
is_stored answer = eqb (byte_at answer 0) 0x02 && (eqb (byte_at answer 5) 0x06 && (eqb (byte_at answer 6) 0x06 || eqb (byte_at answer 6) 0x1D))

-- the answer to a write start that begins a session, and to a write end that ends one after the sweep
abbrev pub is_begin : List ℕ → Bool
is_begin answer = is_response 0x70 0x06 answer

abbrev pub ends_session : List ℕ → Bool
ends_session answer = is_response 0x75 0x06 answer || is_response 0x75 0x1E answer

-- a packet leaves its data in its sector, "followed by 0xFF"
abbrev pub packet_in : List ℕ → List ℕ → Option Frame → List ℕ
packet_in image datagram None = image
packet_in image datagram (Some (Control code n)) = image
packet_in image datagram (Some (Write sector m footer)) = with_sector image sector (padded_of (data_in datagram))

abbrev pub all_blank : ℕ → List ℕ
all_blank n = blanks (bank_size n)

-- one exchange more: an accepted start shows 0xFF alone, an accepted packet its sector
abbrev pub exchanged : ℕ → List ℕ → List ℕ → List ℕ → List ℕ
exchanged n image datagram answer =
    cond (is_begin answer) (all_blank n) (cond (is_stored answer) (packet_in image datagram (read_of datagram)) image)

abbrev pub noted : ℕ → List ℕ → Input → Outcome → List ℕ
noted n image Initiate o = image
noted n image Terminate o = image
noted n image (Datagram call) o = exchanged n image call.datagram (said o)

abbrev pub shown : ℕ → List ℕ → List Input → List Outcome → List ℕ
shown n image [] os = image
shown n image (i ∷ is) [] = image
shown n image (i ∷ is) (o ∷ os) = shown n (noted n image i o) is os

-- ---- one sector of it, told by itself: as last accepted since the session began, else 0xFF

abbrev pub packet_for : ℕ → List ℕ → List ℕ → Option Frame → List ℕ
packet_for k sector datagram None = sector
packet_for k sector datagram (Some (Control code n)) = sector
packet_for k sector datagram (Some (Write number m footer)) = cond (eqb number k) (padded_of (data_in datagram)) sector

abbrev pub next_accepted : ℕ → List ℕ → List ℕ → List ℕ → List ℕ
next_accepted k sector datagram answer =
    cond (is_begin answer) blank_sector (cond (is_stored answer) (packet_for k sector datagram (read_of datagram)) sector)

abbrev pub last_accepted : ℕ → List ℕ → List Input → List Outcome → List ℕ
last_accepted k sector [] os = sector
last_accepted k sector (i ∷ is) [] = sector
last_accepted k sector (Initiate ∷ is) (o ∷ os) = last_accepted k sector is os
last_accepted k sector (Terminate ∷ is) (o ∷ os) = last_accepted k sector is os
last_accepted k sector (Datagram call ∷ is) (o ∷ os) = last_accepted k (next_accepted k sector call.datagram (said o)) is os
