-- `sender::request::control` meets its contract: without room nothing is written, with room the frame.
-- Assumes nothing.
use native.Mathlib.Omega.{arith}
use Rattle.sender.proofs.Making.{control_refused, control_made}
use Rattle.sender.proofs.request.control.Goals as goal

pub returns-then-buffer-lt-ROOM : goal.returns-then-buffer-lt-ROOM
returns-then-buffer-lt-ROOM c = control_refused _ _ _ (omega arith)

pub returns : goal.returns
returns c =
    control_made _ _ _ _ c.requires (omega arith)
    c.put_control.ensures
