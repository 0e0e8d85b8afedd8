-- What is told to C of a sector packet: how long its frame is, or the number by which 01 refuses it.
-- Assumes nothing.
use Rattle.std.specs.Prelude.{ℕ, ◌≡◌, List, length}
use Rattle.layout.specs.Said.{code}
use Rattle.sender.specs.Made.{buffer_after}
use Rattle.sender.specs.Packet.{packet_made, packet_says, packet_frame}

pub record IsPacketNumber (image : List ℕ) (n p : ℕ) (before : List ℕ) (r : ℕ) (after : List ℕ) : Type 0 where
  pub number_is : r ≡ code (packet_says image n p (length before))
  pub stands : after ≡ buffer_after (packet_made image n p (length before)) before (packet_frame image n p)
