-- `rows::text::put_rows` meets its contract: behind each row the text so far stands at the front.
-- Assumes nothing.
use Rattle.std.proofs.Common.{◌≡◌, ◌/◌, ◌≤◌, length}
use lib.Seq.{sets}
use Rattle.rows.specs.Text.{row_size, rows_text}
use Rattle.rows.specs.Places.{reached_at}
use Rattle.rows.proofs.text.put_rows.Given as goal

abbrev pub invariant-loop-k : goal.invariant-loop-k
invariant-loop-k l = (l.k ≤ length l.image / row_size) × (l.reached ≡ reached_at l.image l.base l.k) × (length l.text ≡ length l.initial.text) × (l.text ≡ sets l.initial.text 0 (rows_text l.image l.base l.k))
