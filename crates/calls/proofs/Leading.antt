-- What the deciding tells of record, target and datagram where a session begins, a sector is stored, a session ends.
-- Assumes nothing.
use Rattle.std.specs.Prelude.{Some, Ok}
use mathlib.Core.Path.{◌≡◌, ap, subst, ◌∙◌}
use mathlib.Core.Bool.{true}
use mathlib.Core.List.{List}
use Prim.Native.Nat.{ℕ, ◌%◌}
use native.Mathlib.Omega.{arith}
use lib.ListN.{length}
use Rattle.std.specs.Prelude.{Ok}
use Rattle.frame.specs.Read.{read_of, parameters_in, data_in}
use Rattle.frame.specs.declared.read.Footer.{Footer}
use Rattle.frame.specs.declared.read.Frame.TheVariants.{Write}
use Rattle.flash.proofs.Writes.{FitsAt}
use Rattle.layout.specs.Layout.{good_n, bank_size}
use Rattle.layout.proofs.Layouts.{good_below}
use Rattle.exchange.specs.declared.request.Request.TheVariants.{Packet}
use Rattle.exchange.specs.declared.state.State.TheVariants as state
use Rattle.exchange.specs.Request.{asked_by, asked_of}
use Rattle.exchange.proofs.Bearing.{Packed, Asks, asks}
use Rattle.decision.specs.declared.plan.Plan.{Plan}
use Rattle.decision.specs.declared.plan.Plan.TheVariants.{Refuse, Keep, Open, Leave, Begin, Store, Wear, Finish}
use Rattle.decision.specs.Plan.{values_good}
use Rattle.decision.proofs.Leading.{Quiet, Leads as Decided}
use Rattle.decision.proofs.Planning.{values_low, values-high, values-short, values-whole}
use Rattle.client.specs.declared.record.Client.{Client}
use Rattle.client.specs.Record.{standing_of}
use Rattle.client.specs.Step.{planned}
use Rattle.client.proofs.Promising.{heard, decides}

-- a packet that is stored
pub record Storing (c : Client) (target : ℕ) (datagram : List ℕ) (sector : ℕ) : Type 0 where
  pub m : ℕ
  pub asks : asked_of datagram ≡ Ok (Packet sector m)
  pub writing : c.state ≡ state.Write
  pub good : good_n c.fixed.n ≡ true
  pub whole : target ≡ bank_size c.fixed.n
  pub values : values_good c.fixed.n sector m ≡ true

pub record Beginning (c : Client) (target : ℕ) : Type 0 where
  pub good : good_n c.fixed.n ≡ true
  pub whole : target ≡ bank_size c.fixed.n

pub record Finishing (c : Client) (target : ℕ) : Type 0 where
  pub writing : c.state ≡ state.Write
  pub good : good_n c.fixed.n ≡ true
  pub whole : target ≡ bank_size c.fixed.n

abbrev pub Leads : Client → ℕ → List ℕ → Plan → Type 0
Leads c target datagram (Refuse why) = Unit {0}
Leads c target datagram (Keep answer) = Quiet (Ok answer)
Leads c target datagram Open = Unit {0}
Leads c target datagram Leave = Unit {0}
Leads c target datagram Begin = Beginning c target
Leads c target datagram (Store sector) = Storing c target datagram sector
Leads c target datagram Wear = Unit {0}
Leads c target datagram Finish = Finishing c target

module _ (c : Client) (target marks address buffer datagram : List ℕ) where
  led : (plan : Plan) → Decided (standing_of c) (heard c target marks address buffer datagram) (asked_of datagram) plan → Leads c (length target) datagram plan
  led (Refuse why) h = tt
  led (Keep answer) h = h.0
  led Open h = tt
  led Leave h = tt
  led Begin h = record { good = h.good; whole = h.lengths.whole_target }
  led (Store sector) h =
      record {
        m = h.1.m;
        asks = h.1.asks;
        writing = h.1.writing;
        good = h.0.good;
        whole = h.0.lengths.whole_target;
        values = h.1.values;
      }
  led Wear h = tt
  led Finish h = record { writing = h.1; good = h.0.good; whole = h.0.lengths.whole_target }

  pub leads : Leads c (length target) datagram (planned c target marks address buffer datagram)
  leads = led (planned c target marks address buffer datagram) (decides c target marks address buffer datagram)

-- a packet that is stored, from how its datagram is read
pub storing : (c : Client) (target : ℕ) (d : List ℕ) (sector m : ℕ) (footer : Footer) → read_of d ≡ Some (Write sector m footer) → c.state ≡ state.Write
    → good_n c.fixed.n ≡ true → target ≡ bank_size c.fixed.n → values_good c.fixed.n sector m ≡ true → Storing c target d sector
unfolding asked_by
storing c target d sector m footer e s g w v =
    record { m = m; asks = ap (asked_by (parameters_in d)) e; writing = s; good = g; whole = w; values = v }

-- a datagram that asks for a packet to be stored has its data
pub packed_in : (datagram : List ℕ) (sector m : ℕ) → asked_of datagram ≡ Ok (Packet sector m) → Packed datagram sector m
packed_in datagram sector m e = subst (Asks datagram) e (asks datagram)

-- a packet that is stored fits its sector
pub fits_stored : (c : Client) (target datagram : List ℕ) (sector : ℕ) → Storing c (length target) datagram sector → FitsAt target sector (data_in datagram)
fits_stored c target datagram sector s =
    let n : ℕ = c.fixed.n in
    let low = values_low n sector s.m s.values in
    let high = values-high n sector s.m s.values in
    let whole = s.whole in
    let sent = (packed_in datagram sector s.m s.asks).sent in
    let short = values-short n sector s.m s.values in
    record {
      good = good_below n s.good sector low high;
      inside = record { first = low; last = omega arith };
      short = omega arith;
      words = ap (λ (x : ℕ). x % 4) sent ∙ values-whole n sector s.m s.values;
    }
