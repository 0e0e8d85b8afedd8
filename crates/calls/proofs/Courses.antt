-- The course of a call: what it makes of record, answer and target, and that two targets of one length make no difference but 06 or 1D.
-- Assumes nothing.
use mathlib.Core.Path.{◌≡◌, refl, sym, ap, ◌∙◌}
use mathlib.Core.Logic.{◌⊎◌, inl, inr}
use mathlib.Core.Bool.{Bool, true, false, ◌||◌, false≢true}
use mathlib.Core.List.{List}
use Prim.Native.Nat.{ℕ}
use lib.ListN.{length}
use Rattle.std.specs.Prelude.{Ok}
use Rattle.buffer.specs.Compare.{blank_of}
use Rattle.buffer.proofs.Bools.{split}
use Rattle.crc.specs.Crc.{crc_of}
use Rattle.frame.specs.Read.{data_in}
use Rattle.flash.specs.Bank.{written_at, already_at, swept_of}
use Rattle.flash.specs.Sector.{padded_of}
use Rattle.flash.proofs.Writes.{written_here}
use Rattle.commands.specs.declared.Command.TheVariants.{WriteStart, WriteEnd}
use Rattle.exchange.specs.declared.answer.Answer.TheVariants.{Response, Written}
use Rattle.exchange.specs.Answer.{Reply}
use Rattle.exchange.specs.declared.state.State.{State}
use Rattle.exchange.specs.declared.state.State.TheVariants as state
use Rattle.decision.specs.declared.plan.Plan.{Plan}
use Rattle.decision.specs.declared.plan.Plan.TheVariants.{Refuse, Keep, Open, Leave, Begin, Store, Wear, Finish}
use Rattle.decision.proofs.Leading.{Quiet}
use Rattle.client.specs.declared.record.Client.{Client}
use Rattle.client.specs.Perform.{fit_of, Accepted, store_result, sector_crc, Done, store_of, checked_of, served_of}
use Rattle.client.specs.Record.{none_received, marked}
use Rattle.client.specs.Step.{notice_of, Carried, carried_of, said_of, planned, take_of}
use Rattle.calls.proofs.Leading.{Storing, Beginning, Finishing, Leads, leads, fits_stored}

-- ---- one target

pub accepted : (blank already : Bool) → Accepted (store_result blank already)
accepted blank already = split Accepted (blank || already) (λ _. inr refl) (λ _. inl refl)

pub data Course (c : Client) (target datagram : List ℕ) (r : Carried) : Type 0 where
  still : Quiet r.answer → r.target ≡ target → (r.client.state ≡ state.Write → (c.state ≡ state.Write) × (r.client.received ≡ c.received))
      → Course c target datagram r
  begins : r.answer ≡ Ok (Response WriteStart 0x06) → r.target ≡ target → r.client.received ≡ none_received → Beginning c (length target)
      → Course c target datagram r
  stores : (sector write : ℕ) → Storing c (length target) datagram sector → Accepted write
      → r.answer ≡ Ok (Written sector 0x06 write (crc_of (padded_of (data_in datagram))))
      → r.target ≡ written_at target sector (data_in datagram) → r.client ≡ marked sector c
      → Course c target datagram r
  ends : (result : ℕ) → (result ≡ 0x06) ⊎ (result ≡ 0x1E) → r.answer ≡ Ok (Response WriteEnd result)
      → r.target ≡ swept_of target c.fixed.n c.received
      → r.client.state ≡ state.Control → Finishing c (length target)
      → Course c target datagram r

abbrev pub in_write : State → Bool
in_write state.Closed = false
in_write state.Idle = false
in_write state.Control = false
in_write state.Write = true

-- a state other than write
pub not_write : (s : State) → in_write s ≡ false → s ≡ state.Write → ⊥
not_write s e w = false≢true (sym e ∙ ap in_write w)

stored_crc : (c : Client) (target datagram : List ℕ) (sector : ℕ) → Storing c (length target) datagram sector
    → sector_crc (written_at target sector (data_in datagram)) sector ≡ crc_of (padded_of (data_in datagram))
stored_crc c target datagram sector s = ap crc_of (written_here target sector (data_in datagram) (fits_stored c target datagram sector s))

module _ (c : Client) (target address buffer datagram : List ℕ) where
  abbrev bytes : List ℕ
  bytes = data_in datagram

  pub course : (plan : Plan) → Leads c (length target) datagram plan → Course c target datagram (carried_of c plan target address buffer bytes)
  unfolding carried_of served_of store_of checked_of
  course (Refuse why) l = still tt refl (λ e. (e, refl))
  course (Keep answer) l = still l refl (λ e. (e, refl))
  course Open l = still (refl, refl) refl (λ e. absurd (not_write state.Control refl e))
  course Leave l = still (refl, refl) refl (λ e. absurd (not_write state.Idle refl e))
  course Begin l = begins refl refl refl l
  course (Store sector) l =
      let already : Bool = already_at target sector bytes in
      stores sector (store_result (blank_of bytes) already) l (accepted (blank_of bytes) already)
      (ap (λ (x : ℕ). Ok (Written sector 0x06 (store_result (blank_of bytes) already) x)) (stored_crc c target datagram sector l)) refl refl
  course Wear l = still (refl, refl) refl (λ e. absurd (not_write state.Control refl e))
  course Finish l =
      split (λ (d : Done). Course c target datagram (said_of d (notice_of Finish c.latest address) buffer))
      (fit_of c.fixed (swept_of target c.fixed.n c.received))
      (λ _. ends 0x06 (inl refl) refl refl refl l)
      (λ _. ends 0x1E (inr refl) refl refl refl l)

-- ---- two targets

-- two answers: the same, or 06 here and 1D there
pub data Match (a b : Reply) : Type 0 where
  same : a ≡ b → Match a b
  either : (sector crc v w : ℕ) → Accepted v → Accepted w → a ≡ Ok (Written sector 0x06 v crc) → b ≡ Ok (Written sector 0x06 w crc) → Match a b

pub record Alike (r s : Carried) : Type 0 where
  pub client : r.client ≡ s.client
  pub notice : r.notice ≡ s.notice
  pub answer : Match r.answer s.answer

alike_same : (r s : Carried) → r ≡ s → Alike r s
alike_same r s e =
    record { client = ap (λ (x : Carried). x.client) e; notice = ap (λ (x : Carried). x.notice) e; answer = same (ap (λ (x : Carried). x.answer) e) }

module _ (c : Client) (one two address buffer datagram : List ℕ) (l : length one ≡ length two)
    (swept : Finishing c (length one) → swept_of one c.fixed.n c.received ≡ swept_of two c.fixed.n c.received) where
  pub alike : (plan : Plan) → Leads c (length one) datagram plan → Alike (carried_of c plan one address buffer (data_in datagram)) (carried_of c plan two address buffer (data_in datagram))
  unfolding carried_of served_of store_of
  alike (Refuse why) h = record { client = refl; notice = refl; answer = same refl }
  alike (Keep answer) h = record { client = refl; notice = refl; answer = same refl }
  alike Open h = record { client = refl; notice = refl; answer = same refl }
  alike Leave h = record { client = refl; notice = refl; answer = same refl }
  alike Begin h = record { client = refl; notice = refl; answer = same refl }
  alike (Store sector) h =
      let g : Storing c (length two) datagram sector = rw l at h in
      let v : ℕ = store_result (blank_of (data_in datagram)) (already_at one sector (data_in datagram)) in
      let w : ℕ = store_result (blank_of (data_in datagram)) (already_at two sector (data_in datagram)) in
      record {
        client = refl;
        notice = refl;
        answer = either sector (crc_of (padded_of (data_in datagram))) v w (accepted (blank_of (data_in datagram)) (already_at one sector (data_in datagram)))
            (accepted (blank_of (data_in datagram)) (already_at two sector (data_in datagram)))
            (ap (λ (x : ℕ). Ok (Written sector 0x06 v x)) (stored_crc c one datagram sector h))
            (ap (λ (x : ℕ). Ok (Written sector 0x06 w x)) (stored_crc c two datagram sector g));
      }
  alike Wear h = record { client = refl; notice = refl; answer = same refl }
  alike Finish h = alike_same _ _ (ap (λ (t : List ℕ). said_of (checked_of c t) (notice_of Finish c.latest address) buffer) (swept h))

-- ---- the call

pub take_course : (c : Client) (target marks address buffer datagram : List ℕ) → Course c target datagram (take_of c target marks address buffer datagram)
unfolding take_of
take_course c target marks address buffer datagram =
    course c target address buffer datagram (planned c target marks address buffer datagram) (leads c target marks address buffer datagram)
