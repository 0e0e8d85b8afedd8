-- Lines by positions in the text, and the contracts of the line reader.
-- Assumes nothing.
use Rattle.std.specs.Prelude.{ℕ, suc, ◌+◌, ◌≤◌, ◌<◌, ◌≡◌, List, [], ◌∷◌, Bool, true, ◌&&◌, cond, length, drop, eqb, leb, ltb, Option, Some, None}
use Rattle.std.specs.Borrow.{Bor}
use Rattle.lines.specs.declared.line.Line.{Line}
use Rattle.lines.specs.declared.line.LineReader.{LineReader}
use Rattle.lines.specs.Line.{lf_next, lines}

-- how many bytes the end of a line has with which a text begins; 0 for none
unfoldable pub end_len : List ℕ → ℕ
end_len [] = 0
end_len (c ∷ t) = cond (eqb c 0x0A) 1 (cond (eqb c 0x0D && lf_next t) 2 0)

-- the length of a text's first line without its end, and with it
unfoldable pub line_len : List ℕ → ℕ
line_len [] = 0
line_len (c ∷ t) = cond (eqb (end_len (c ∷ t)) 0) (suc (line_len t)) 0

unfoldable pub line_all : List ℕ → ℕ
line_all [] = 0
line_all (c ∷ t) = cond (eqb (end_len (c ∷ t)) 0) (suc (line_all t)) (end_len (c ∷ t))

-- none of these bytes is below 14, so none is a CR or an LF
unfoldable pub quiet : List ℕ → Bool
quiet [] = true
quiet (c ∷ t) = leb 14 c && quiet t

-- the line goes on from `at` to r
pub record Skipped (t : List ℕ) (at r : ℕ) : Type 0 where
  pub after : at ≤ r
  pub within : r ≤ length t
  pub len : at + line_len (drop at t) ≡ r + line_len (drop r t)
  pub all : at + line_all (drop at t) ≡ r + line_all (drop r t)

-- the line that starts at `at` and the next one
pub record LineAt (text : List ℕ) (at end next : ℕ) : Type 0 where
  pub end_is : end ≡ at + line_len (drop at text)
  pub next_is : next ≡ at + line_all (drop at text)
  pub after : at ≤ end
  pub before : end ≤ next
  pub on : at < next
  pub within : next ≤ length text

-- what a line reader finds at its place
unfoldable pub ahead_at : List ℕ → ℕ → Option Line
ahead_at t at =
    cond (ltb at (length t)) (Some (record { end = at + line_len (drop at t); next = at + line_all (drop at t) })) None

-- the text that it was lent, and the place
pub record IsReader (text : Bor (List ℕ)) (at : ℕ) (r : LineReader) : Type 0 where
  pub text_is : r.text ≡ text
  pub at_is : r.at ≡ at

abbrev pub IsNext : LineReader → Option Line → Type 0
IsNext reader r = r ≡ ahead_at reader.text.now reader.at

-- the lines that it gives: those of the text from its place on
abbrev pub lines_left : LineReader → List (List ℕ)
lines_left reader = lines (drop reader.at reader.text.now)
