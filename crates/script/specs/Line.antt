-- The line that was found, and what a program has before the first.
-- Assumes nothing.
use Rattle.std.specs.Prelude.{◌≡◌, cond, List, [], ℕ, ◌-◌, eqb, ltb, length, take, get_or}
use Rattle.script.specs.declared.line.Found.{Found}
use Rattle.script.specs.declared.line.Found.TheVariants.{Line, TooLong, End}
use Rattle.script.specs.declared.line.Turn.{Turn}

-- nothing was read
abbrev pub before_first : Turn
before_first = record { found = End; from = 0; to = 0 }

abbrev pub IsBefore : Turn → Type 0
IsBefore r = r ≡ before_first

-- how many of the first bytes are the line's own: a CR before its LF is not
abbrev pub own_length : List ℕ → ℕ → ℕ
own_length line size = cond (eqb size 0) 0 (cond (eqb (get_or line (size - 1) 0) 0x0D) (size - 1) size)

-- what was found is no line where it has more bytes than there are
abbrev pub held_of : List ℕ → Found → List ℕ
held_of line (Line size) = cond (ltb (length line) size) [] (take (own_length line size) line)
held_of line TooLong = []
held_of line End = []

abbrev pub IsHeld : List ℕ → Turn → List ℕ → Type 0
IsHeld line turn r = r ≡ held_of line turn.found
