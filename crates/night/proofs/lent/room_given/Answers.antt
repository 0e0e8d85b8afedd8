-- `night::lent::room_given` meets its contract: each way out is a case of the definition.
-- Assumes nothing.
use mathlib.Core.Path.{sym, ◌∙◌}
use native.Mathlib.Omega.{arith}
use Rattle.night.proofs.Lending.{no_room, bad_tries, given}
use Rattle.night.proofs.lent.room_given.Goals as goal

pub returns-then-room-lt-ROOM : goal.returns-then-room-lt-ROOM
returns-then-room-lt-ROOM c = no_room _ _ _ c.if-room-lt-ROOM.true

pub returns-then-not-tries_good : goal.returns-then-not-tries_good
returns-then-not-tries_good c = bad_tries _ _ _ (omega arith) (sym c.tries_good.ensures ∙ c.if-not-tries_good.true)

pub returns : goal.returns
returns c = given _ _ _ (omega arith) (sym c.tries_good.ensures ∙ c.if-not-tries_good.false)
