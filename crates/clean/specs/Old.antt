-- The old bytes of a bank (02 §7): "bytes other than 0xFF outside table and bodies".
-- Assumes nothing.
use Rattle.std.specs.Prelude.{Bool, not, ◌&&◌, List, ℕ, eqb}
use Rattle.buffer.specs.Number.{byte_at}
use Rattle.bank.specs.Gaps.{outside}

unfoldable pub old : List ℕ → ℕ → Bool
old b k = outside b k && not (eqb (byte_at b k) 0xFF)
