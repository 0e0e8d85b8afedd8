-- Each way out of the carrying out.
-- Assumes nothing.
use mathlib.Core.Path.{◌≡◌, refl, sym, ap, ap₂, ◌∙◌}
use mathlib.Core.Bool.{Bool, true, false}
use mathlib.Core.List.{List}
use Prim.Native.Nat.{ℕ, ◌+◌, ◌-◌, ◌≤◌}
use lib.ListN.{take, drop}
use Rattle.crc.specs.Crc.{crc_of}
use Rattle.layout.specs.declared.Bank.{Bank}
use Rattle.layout.specs.Layout.{other_of, sector_size, most_sectors, sector_start, sector_offset}
use Rattle.layout.proofs.Layouts.{good_told, offset_good, lent_out}
use Rattle.commands.specs.declared.Command.{Command}
use Rattle.commands.specs.declared.Command.TheVariants.{WriteEnd}
use Rattle.exchange.specs.declared.answer.Answer.TheVariants.{Response}
use Rattle.client.specs.declared.perform.Served.{Served}
use Rattle.client.specs.declared.record.Client.{Client}
use Rattle.client.specs.declared.record.Latest.TheVariants.{Good, Otherwise}
use Rattle.client.specs.Record.{starting, ended}
use Rattle.client.specs.Perform.{fit_of, sector_crc, done, checked_of, served, IsServed}

-- where the sector starts
pub starts : (k start : ℕ) → (1 ≤ k) × (k ≤ most_sectors) → start ≡ sector_offset k → start ≡ sector_start k
starts k start h e = e ∙ sym (offset_good k (good_told k h.0 h.1))

-- the part that is handed on is the sector
pub crc_part : (bank : List ℕ) (k start r : ℕ) → start ≡ sector_start k → r ≡ crc_of (take ((start + sector_size) - start) (drop start bank)) → r ≡ sector_crc bank k
crc_part bank k start r e c = c ∙ ap crc_of (lent_out bank k start e)

-- a response with nothing behind its result, which leaves the target as it is
pub responded : (c m : Client) (command : Command) (result : ℕ) (target : List ℕ) (r : Served) → m ≡ c → r ≡ served m (Response command result)
    → IsServed (done c (Response command result) target) r target
responded c m command result target r k e = rw e (record { client = k; answer = refl; target = refl })

module _ (c : Client) (target : List ℕ) (good : Bool) (is : good ≡ fit_of c.fixed target) (m : Client) (r : Served) where
  pub checked_good : good ≡ true → (next : Bank) (e : Client) → next ≡ other_of c.fixed.running → e ≡ ended Good c → m ≡ starting next e
      → r ≡ served m (Response WriteEnd 0x06) → IsServed (checked_of c target) r target
  unfolding checked_of
  checked_good g next e x d k q = rw (← is, g) (responded _ m WriteEnd 0x06 target r (k ∙ ap₂ starting x d) q)

  pub checked_bad : good ≡ false → m ≡ ended Otherwise c → r ≡ served m (Response WriteEnd 0x1E) → IsServed (checked_of c target) r target
  unfolding checked_of
  checked_bad g k q = rw (← is, g) (responded _ m WriteEnd 0x1E target r k q)
