-- `hex_text::read::take_line` meets its contract: by what the line says.
-- Assumes nothing.
use Rattle.std.proofs.Common.{arith}
use Rattle.hex_text.proofs.Says.{looked_in, data_held}
use Rattle.hex_text.proofs.Steps.{took_data}
use Rattle.hex_text.proofs.read.take_line.Goals as goal

pub overflow_sub-start : goal.overflow_sub-start
overflow_sub-start c = (looked_in (rw c.in-Data.is at c.in_ok-found.ensures)).low

pub overflow_add-n : goal.overflow_add-n
overflow_add-n c = omega (arith, data_held (rw c.in-Data.is at c.in_ok-found.ensures) (omega arith))

pub slice_bounds-put_at-end : goal.slice_bounds-put_at-end
slice_bounds-put_at-end c = omega (arith, data_held (rw c.in-Data.is at c.in_ok-found.ensures) (omega arith))

pub overflow_add-result : goal.overflow_add-result
overflow_add-result c =
    let q = c.requires in
    omega (arith, q.base_small, q.size_small, (looked_in (rw c.in-Data.is at c.in_ok-found.ensures)).high)

pub returns-in-Data : goal.returns-in-Data
returns-in-Data c = took_data (rw c.in-Data.is at c.in_ok-found.ensures) c.put_at.ensures
