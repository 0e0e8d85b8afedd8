-- How the record of a night moves, and what a call says in the paper's numbers (02 §4, "Each request is sent at most T times").
-- Assumes nothing.
use Rattle.std.specs.Prelude.{◌≡◌, cond, ℕ, ◌+◌, ltb, Result, Ok, Err}
use Rattle.sender.specs.declared.made.Refusal.{Refusal as Unmade}
use Rattle.sender.specs.declared.made.Refusal.TheVariants as made
use Rattle.night.specs.declared.judge.Verdict.{Verdict}
use Rattle.night.specs.declared.judge.Verdict.TheVariants.{Settled, Spent, Stops}
use Rattle.night.specs.declared.name.Name.{Name}
use Rattle.night.specs.declared.name.Name.TheVariants.{ModeStart, VersionInfo, BankInfo, WriteStart, Packet, WriteEnd, ModeEnd}
use Rattle.night.specs.declared.record.Next.{Next}
use Rattle.night.specs.declared.record.Night.{Night}
use Rattle.night.specs.declared.record.Refusal.{Refusal}
use Rattle.night.specs.declared.record.Refusal.TheVariants.{BadN, BadLength, BadTries, NoPacket}
use Rattle.night.specs.declared.record.Stand.{Stand}
use Rattle.night.specs.declared.record.Stand.TheVariants as stand
use Rattle.night.specs.declared.record.Why.TheVariants.{Tries}

-- the request behind one that is settled, of an image with so many packets
abbrev pub following_of : Name → ℕ → Stand
following_of ModeStart count = stand.At VersionInfo 1
following_of VersionInfo count = stand.At BankInfo 1
following_of BankInfo count = stand.At WriteStart 1
following_of WriteStart count = stand.At (Packet 0) 1
following_of (Packet p) count = cond (ltb (p + 1) count) (stand.At (Packet (p + 1)) 1) (stand.At WriteEnd 1)
following_of WriteEnd count = stand.At ModeEnd 1
following_of ModeEnd count = stand.Finished

-- a try was spent: it goes out again unless it has gone out T times
unfoldable pub again_of : Name → ℕ → ℕ → Stand
again_of name gone tries = cond (ltb gone tries) (stand.At name (gone + 1)) (stand.GaveUp name Tries)

abbrev pub moved_of : Name → ℕ → ℕ → ℕ → Verdict → Stand
moved_of name gone tries count Settled = following_of name count
moved_of name gone tries count Spent = again_of name gone tries
moved_of name gone tries count (Stops why) = stand.GaveUp name why

-- the record with another stand
abbrev pub standing : Stand → Night → Night
standing stand night = record { bank = night.bank; n = night.n; tries = night.tries; stand = stand }

-- "3, 2 for lent lengths, 7 for T out of range, 8 for an image with no packet to send"
abbrev pub refusal_number : Refusal → ℕ
refusal_number BadN = 3
refusal_number BadLength = 2
refusal_number BadTries = 7
refusal_number NoPacket = 8

abbrev pub IsRefusalNumber : Refusal → ℕ → Type 0
IsRefusalNumber why r = r ≡ refusal_number why

-- 0 of all else
abbrev pub next_number : Result Next Refusal → ℕ
next_number (Err why) = refusal_number why
next_number (Ok next) = 0

abbrev pub IsNextNumber : Result Next Refusal → ℕ → Type 0
IsNextNumber next r = r ≡ next_number next

-- what the sender refuses
abbrev pub taken_over : Unmade → Refusal
taken_over made.BadN = BadN
taken_over made.BadLength = BadLength
taken_over made.PastLast = NoPacket

abbrev pub IsTakenOver : Unmade → Refusal → Type 0
IsTakenOver why r = r ≡ taken_over why
