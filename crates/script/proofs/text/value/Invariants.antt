-- `script::text::value` meets its contract: what was read so far has room for one digit more.
-- Assumes nothing.
use mathlib.Core.Path.{◌≡◌}
use mathlib.Core.List.{foldl}
use lib.ListN.{drop}
use Rattle.script.specs.Spelt.{with_digit, number_in}
use Rattle.script.proofs.text.value.Given as goal

abbrev pub invariant-loop-digit : goal.invariant-loop-digit
invariant-loop-digit l = foldl (with_digit l.base) l.number (drop l.digit-index l.text) ≡ number_in l.base l.text
