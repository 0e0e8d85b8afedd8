-- What the maker of a frame answers, and what it leaves in the buffer (01, 'What comes back when it is no').
-- Assumes nothing.
use Rattle.std.specs.Prelude.{◌≡◌, Bool, cond, List, ℕ, leb, length, Result, Ok, Err}
use Rattle.buffer.specs.Place.{front_of}
use Rattle.layout.specs.Said.{Said, number, value}
use Rattle.sender.specs.declared.made.Refusal.{Refusal}
use Rattle.sender.specs.declared.made.Refusal.TheVariants.{BadN, BadLength, PastLast}

-- an answer buffer under "519 (sender)" is refused
abbrev pub room : ℕ
room = 519

-- what each answer says: a number of the paper, or how many bytes were made or packets there are
abbrev pub refusal_number : Refusal → ℕ
refusal_number BadN = 3
refusal_number BadLength = 2
refusal_number PastLast = 5

abbrev pub IsRefusalNumber : Refusal → ℕ → Type 0
IsRefusalNumber why r = r ≡ refusal_number why

abbrev pub made_said : Result ℕ Refusal → Said
made_said (Err why) = number (refusal_number why)
made_said (Ok n) = value n

-- "Sender: 3, 2, 5", in the paper's numbers: the first that applies, and else what was made or counted
unfoldable pub sender_says : Bool → Bool → Bool → ℕ → Said
sender_says badN badLength past n = cond badN (number 3) (cond badLength (number 2) (cond past (number 5) (value n)))

-- a frame's answer in a buffer of some length
unfoldable pub room_for : ℕ → List ℕ → Result ℕ Refusal
room_for size bytes = cond (leb room size) (Ok (length bytes)) (Err BadLength)

-- the buffer then: the frame at its front, "the rest keeps its bytes", and a refusal changes nothing
abbrev pub buffer_after : Result ℕ Refusal → List ℕ → List ℕ → List ℕ
buffer_after (Err why) before bytes = before
buffer_after (Ok n) before bytes = front_of before bytes
