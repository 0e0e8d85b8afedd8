-- Do: a plan carried out on the target bank (01, 'The client, step by step'). The running bank is never seen here.
-- Assumes nothing.
use Rattle.std.specs.Prelude.{◌≡◌, Ok, Err, ◌⊎◌, Bool, true, false, ◌||◌, cond, List, ℕ, ◌≤◌, is_ok}
use Rattle.buffer.specs.Compare.{blank_of}
use Rattle.crc.specs.Crc.{crc_of}
use Rattle.flash.specs.Bank.{written_at, already_at, swept_of}
use Rattle.bank.specs.Sound.{verdict_of}
use Rattle.layout.specs.Layout.{bank_size, most_sectors, other_of, sector_of}
use Rattle.commands.specs.declared.Command.TheVariants.{ModeStart, WriteStart, WriteEnd, ModeEnd}
use Rattle.exchange.specs.declared.answer.Answer.{Answer}
use Rattle.exchange.specs.declared.answer.Answer.TheVariants.{Response, Written}
use Rattle.exchange.specs.Answer.{Reply}
use Rattle.decision.specs.declared.plan.Fixed.{Fixed}
use Rattle.decision.specs.declared.plan.Plan.{Plan}
use Rattle.decision.specs.declared.plan.Plan.TheVariants.{Refuse, Keep, Open, Leave, Begin, Store, Wear, Finish}
use Rattle.client.specs.declared.perform.Served.{Served}
use Rattle.client.specs.declared.record.Client.{Client}
use Rattle.client.specs.declared.record.Latest.TheVariants.{Good, Otherwise}
use Rattle.client.specs.Record.{starting, opened, mode_ended, begun, marked, ended}

-- whether a client may start a bank: a sound one, and no other ("unsound gives 1E"); by the bank, and by what was fixed when the client was made
-- (of use from 02 §10 on)
abbrev pub fit_of : Fixed → List ℕ → Bool
fit_of fixed bank = is_ok (verdict_of bank)

-- "1D if the data are all 0xFF", or if the sector already was what it should become
abbrev pub store_result : Bool → Bool → ℕ
store_result blank already = cond (blank || already) 0x1D 0x06

-- the write results of a packet that was stored
abbrev pub Accepted : ℕ → Type 0
Accepted write = (write ≡ 0x06) ⊎ (write ≡ 0x1D)

-- of all 512 bytes, "as it stands afterwards"
abbrev pub sector_crc : List ℕ → ℕ → ℕ
sector_crc bank k = crc_of (sector_of bank k)

-- what a plan leads to: the record, the answer, the target bank
pub record Done : Type 0 where
  pub client : Client
  pub answer : Reply
  pub target : List ℕ

abbrev pub done : Client → Answer → List ℕ → Done
done c answer target = record { client = c; answer = Ok answer; target = target }

-- "Write packet in write state": its data to their sector
unfoldable pub store_of : Client → ℕ → List ℕ → List ℕ → Done
store_of c sector bytes target =
    done (marked sector c)
    (Written sector 0x06 (store_result (blank_of bytes) (already_at target sector bytes)) (sector_crc (written_at target sector bytes) sector))
    (written_at target sector bytes)

-- the bank check of what the sweep left; the next-start bank is set last, and only by 06
unfoldable pub checked_of : Client → List ℕ → Done
checked_of c target =
    cond (fit_of c.fixed target)
    (done (starting (other_of c.fixed.running) (ended Good c)) (Response WriteEnd 0x06) target)
    (done (ended Otherwise c) (Response WriteEnd 0x1E) target)

-- the sweep, "then the bank check runs"
abbrev pub finish_of : Client → List ℕ → Done
finish_of c target = checked_of c (swept_of target c.fixed.n c.received)

-- a plan, the target bank, the sender's address, the data of the datagram; at a write start the next-start bank is set first
unfoldable pub served_of : Client → Plan → List ℕ → List ℕ → List ℕ → Done
served_of c (Refuse why) target address bytes = record { client = c; answer = Err why; target = target }
served_of c (Keep answer) target address bytes = done c answer target
served_of c Open target address bytes = done (opened address c) (Response ModeStart 0x06) target
served_of c Leave target address bytes = done (mode_ended c) (Response ModeEnd 0x06) target
served_of c Begin target address bytes = done (begun (starting c.fixed.running c)) (Response WriteStart 0x06) target
served_of c (Store sector) target address bytes = store_of c sector bytes target
served_of c Wear target address bytes = done (ended Otherwise c) (Response WriteEnd 0x1C) target
served_of c Finish target address bytes = finish_of c target

abbrev pub served : Client → Answer → Served
served c answer = record { client = c; answer = Ok answer }

pub record IsServed (d : Done) (r : Served) (after : List ℕ) : Type 0 where
  pub client : r.client ≡ d.client
  pub answer : r.answer ≡ d.answer
  pub target : after ≡ d.target

-- what a plan needs of the target's length: that its sector is there
pub record Storable (sector target : ℕ) : Type 0 where
  pub first : 1 ≤ sector
  pub last : sector ≤ most_sectors
  pub inside : bank_size sector ≤ target

abbrev pub Fair : Plan → ℕ → Type 0
Fair (Refuse why) target = Unit {0}
Fair (Keep answer) target = Unit {0}
Fair Open target = Unit {0}
Fair Leave target = Unit {0}
Fair Begin target = Unit {0}
Fair (Store sector) target = Storable sector target
Fair Wear target = Unit {0}
Fair Finish target = Unit {0}

-- what it needs of the address: where it is kept or told to the host it has its 16 bytes
abbrev pub Addressed : Plan → ℕ → Type 0
Addressed (Refuse why) address = Unit {0}
Addressed (Keep answer) address = Unit {0}
Addressed Open address = address ≡ 16
Addressed Leave address = address ≡ 16
Addressed Begin address = Unit {0}
Addressed (Store sector) address = Unit {0}
Addressed Wear address = Unit {0}
Addressed Finish address = Unit {0}
