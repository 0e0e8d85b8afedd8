-- The requests of a night and their frames (02 §4, "through mode, version, bank, write start, P sector packets, write end, mode end").
-- Assumes nothing.
use Rattle.std.specs.Prelude.{List, ℕ}
use Rattle.layout.specs.declared.Bank.{Bank}
use Rattle.sender.specs.declared.request.Request.TheVariants as request
use Rattle.sender.specs.Packet.{packet_frame}
use Rattle.sender.specs.Request.{request_frame}
use Rattle.night.specs.declared.name.Name.{Name}
use Rattle.night.specs.declared.name.Name.TheVariants.{ModeStart, VersionInfo, BankInfo, WriteStart, Packet, WriteEnd, ModeEnd}

-- the packet that an image has to have where this request is at hand: for any but a packet, one at all
abbrev pub number_of : Name → ℕ
number_of ModeStart = 0
number_of VersionInfo = 0
number_of BankInfo = 0
number_of WriteStart = 0
number_of (Packet p) = p
number_of WriteEnd = 0
number_of ModeEnd = 0

-- each is the sender's own
abbrev pub frame_of : List ℕ → Bank → ℕ → Name → List ℕ
frame_of image bank n ModeStart = request_frame request.ModeStart
frame_of image bank n VersionInfo = request_frame request.VersionInfo
frame_of image bank n BankInfo = request_frame request.BankInfo
frame_of image bank n WriteStart = request_frame (request.WriteStart bank n)
frame_of image bank n (Packet p) = packet_frame image n p
frame_of image bank n WriteEnd = request_frame request.WriteEnd
frame_of image bank n ModeEnd = request_frame request.ModeEnd
