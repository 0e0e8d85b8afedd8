-- Each way in which the record moves.
-- Assumes nothing.
use mathlib.Core.Path.{◌≡◌, sym, ap, ◌∙◌}
use Prim.Native.Nat.{ℕ, ◌+◌, ◌≤◌, ◌<◌}
use borrow.Author.Tests.{lt-ltb, le-ltb}
use Rattle.night.specs.declared.name.Name.{Name}
use Rattle.night.specs.declared.name.Name.TheVariants.{Packet, WriteEnd}
use Rattle.night.specs.declared.record.Stand.{Stand}
use Rattle.night.specs.declared.record.Stand.TheVariants.{At, GaveUp}
use Rattle.night.specs.declared.record.Why.TheVariants.{Tries}
use Rattle.night.specs.Record.{following_of, again_of}

module _ (name : Name) (gone tries : ℕ) where
  pub goes_again : gone < tries → At name (gone + 1) ≡ again_of name gone tries
  unfolding again_of
  goes_again h = rw (lt-ltb gone tries h)

  pub given_up : tries ≤ gone → GaveUp name Tries ≡ again_of name gone tries
  unfolding again_of
  given_up h = rw (le-ltb gone tries h)

pub followed_as : (name k : Name) (count : ℕ) (r : Stand) → name ≡ k → r ≡ following_of k count → r ≡ following_of name count
followed_as name k count r e q = q ∙ ap (λ (x : Name). following_of x count) (sym e)

module _ (p count : ℕ) where
  pub next_packet : p + 1 < count → At (Packet (p + 1)) 1 ≡ following_of (Packet p) count
  next_packet h = rw (lt-ltb (p + 1) count h)

  pub last_packet : count ≤ p + 1 → At WriteEnd 1 ≡ following_of (Packet p) count
  last_packet h = rw (le-ltb (p + 1) count h)
