-- `rows::text::measure` meets its contract: behind each row it is known how far the text goes.
-- Assumes nothing.
use Rattle.std.proofs.Common.{◌≡◌, ◌/◌, ◌≤◌, length}
use Rattle.rows.specs.Text.{row_size}
use Rattle.rows.specs.Places.{reached_at}
use Rattle.rows.proofs.text.measure.Given as goal

abbrev pub invariant-loop-k : goal.invariant-loop-k
invariant-loop-k l = (l.k ≤ length l.image / row_size) × (l.reached ≡ reached_at l.image l.base l.k)
