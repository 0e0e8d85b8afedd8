-- What is told to C of a bank: the number or the result by which 01 says the verdict. No two verdicts share one.
-- Assumes nothing.
use Rattle.std.specs.Prelude.{ℕ, ◌≡◌, List}
use Rattle.layout.specs.Said.{code}
use Rattle.bank.specs.Said.{check_says}

abbrev pub IsCheckNumber : List ℕ → ℕ → Type 0
IsCheckNumber b r = r ≡ code (check_says b)
