-- The lines of a text (01, 'Hex text': "Lines end in LF or CR LF").
-- Assumes nothing.
use Rattle.std.specs.Prelude.{ℕ, List, [], ◌∷◌, Bool, false, ◌&&◌, cond, eqb}

-- one byte in front of the first line
abbrev pub front : ℕ → List (List ℕ) → List (List ℕ)
front c [] = (c ∷ []) ∷ []
front c (l ∷ ls) = (c ∷ l) ∷ ls

-- whether a text goes on with an LF
abbrev pub lf_next : List ℕ → Bool
lf_next [] = false
lf_next (c ∷ text) = eqb c 0x0A

-- A line ends with LF, and a CR directly before it belongs to that end; any other CR is a byte like others. The last line "may end
-- with the text": where nothing follows the last LF, no line does.
unfoldable pub lines : List ℕ → List (List ℕ)
lines [] = []
lines (c ∷ text) =
    cond (eqb c 0x0A) ([] ∷ lines text) (cond (eqb c 0x0D && lf_next text) (lines text) (front c (lines text)))
