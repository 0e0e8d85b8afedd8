-- Each way out of a call.
-- Assumes nothing.
use Rattle.std.specs.Prelude.{Option}
use mathlib.Core.Path.{◌≡◌, refl, sym, ap, subst, ◌∙◌}
use mathlib.Core.List.{List}
use Prim.Native.Nat.{ℕ, ◌+◌, ◌<◌}
use native.Mathlib.Omega.{arith}
use lib.Dec.{leb, ltb}
use lib.ListN.{length}
use borrow.Author.Tests.{ltb-true}
use Rattle.std.specs.Prelude.{Result, Ok, Err}
use Rattle.buffer.proofs.Bools.{split}
use Rattle.layout.specs.declared.Bank.{Bank}
use Rattle.response.specs.declared.read.Response.{Response}
use Rattle.response.specs.Response.{response_of}
use Rattle.sender.specs.declared.made.Place.{Place}
use Rattle.night.specs.declared.judge.Verdict.{Verdict}
use Rattle.night.specs.declared.judge.Verdict.TheVariants.{Settled, Spent, Stops}
use Rattle.night.specs.declared.name.Name.{Name}
use Rattle.night.specs.declared.name.Name.TheVariants.{ModeStart, VersionInfo, BankInfo, WriteStart, Packet, WriteEnd, ModeEnd}
use Rattle.night.specs.declared.record.Called.{Called}
use Rattle.night.specs.declared.record.Next.{Next}
use Rattle.night.specs.declared.record.Next.TheVariants as next
use Rattle.night.specs.declared.record.Night.{Night}
use Rattle.night.specs.declared.record.Refusal.{Refusal}
use Rattle.night.specs.declared.record.Stand.{Stand}
use Rattle.night.specs.declared.record.Stand.TheVariants.{NotBegun, At, Finished, GaveUp}
use Rattle.night.specs.declared.record.Why.{Why}
use Rattle.night.specs.Call.{
  stands_at,
  called,
  next_of,
  gone_on,
  end_told,
  over_of,
  judged,
  at_hand_of,
  by_stand,
  step_of,
  night_of,
  begun,
  start_of,
  buffer_after,
  buffer_by,
  lent_says,
  step_says,
  IsGoesOn,
  IsAtHand,
  IsMake,
  IsStep,
  IsHeard,
  IsStart,
}
use Rattle.night.specs.Judge.{judge_of}
use Rattle.night.specs.Lent.{looked_of}
use Rattle.night.specs.Name.{number_of}
use Rattle.night.specs.Record.{following_of, again_of, moved_of, standing, next_number}
use Rattle.night.proofs.Lending.{says_refused, says_good}

-- ---- where the record moves there is a packet

pub following_there : (name : Name) (count : ℕ) → number_of name < count → stands_at (following_of name count) < count
following_there ModeStart count h = h
following_there VersionInfo count h = h
following_there BankInfo count h = h
following_there WriteStart count h = h
following_there (Packet p) count h =
    split (λ (s : Stand). stands_at s < count) (ltb (p + 1) count) (λ t. ltb-true (p + 1) count t) (λ _. omega arith)
following_there WriteEnd count h = h
following_there ModeEnd count h = h

pub moved_there : (name : Name) (gone tries count : ℕ) (verdict : Verdict) → number_of name < count
    → stands_at (moved_of name gone tries count verdict) < count
unfolding again_of
moved_there name gone tries count Settled h = following_there name count h
moved_there name gone tries count Spent h = split (λ (s : Stand). stands_at s < count) (ltb gone tries) (λ _. h) (λ _. h)
moved_there name gone tries count (Stops why) h = h

-- what was moved to, of as many packets as the image has
pub stands_there : (name : Name) (gone tries count : ℕ) (verdict : Verdict) (stand : Stand) {packets : ℕ} → number_of name < packets → count ≡ packets
    → stand ≡ moved_of name gone tries count verdict → stands_at stand < packets
stands_there name gone tries count verdict stand {packets} h q e =
    subst (λ (s : Stand). stands_at s < packets) (sym e)
    (subst (λ (x : ℕ). stands_at (moved_of name gone tries count verdict) < x) q (moved_there name gone tries count verdict (omega arith)))

-- ---- the request goes out, or the end is told

module _ (night : Night) (image before : List ℕ) (r : Called) where
  -- the buffer is as it was, by where the record stands
  pub gone_end : (stand : Stand) → night.stand ≡ stand → r ≡ called night (Ok (next_of image night.bank night.n stand))
      → before ≡ buffer_after image night.bank night.n before (Ok (next_of image night.bank night.n stand)) → IsGoesOn night image before r before
  gone_end stand e a s =
      record {
        answered = a ∙ ap (λ (x : Stand). called night (Ok (next_of image night.bank night.n x))) (sym e);
        stands = s ∙ ap (λ (x : Stand). buffer_after image night.bank night.n before (Ok (next_of image night.bank night.n x))) (sym e);
      }

  pub gone_out : (after : List ℕ) (name : Name) (gone : ℕ) (next : Result Next Refusal) → night.stand ≡ At name gone
      → IsMake name night.bank night.n image before next after
      → r ≡ called night next → IsGoesOn night image before r after
  gone_out after name gone next e m a =
      record {
        answered = a ∙ ap (called night) m.answered ∙ ap (λ (x : Stand). called night (Ok (next_of image night.bank night.n x))) (sym e);
        stands = m.stands ∙ ap (λ (x : Stand). buffer_after image night.bank night.n before (Ok (next_of image night.bank night.n x))) (sym e);
      }

-- ---- the night is over

module _ (night : Night) (p : ℕ) (end : Next) (image : List ℕ) (size : ℕ) (r : Called) where
  pub over_refused : (why : Refusal) → Err why ≡ looked_of image night.n night.tries size p → r ≡ called night (Err why)
      → r ≡ over_of night p end image size
  unfolding over_of
  over_refused why e a = a ∙ ap (end_told night end) e

  pub over_told : (place : Place) → Ok place ≡ looked_of image night.n night.tries size p → r ≡ called night (Ok end)
      → r ≡ over_of night p end image size
  unfolding over_of
  over_told place e a = a ∙ ap (end_told night end) e

-- ---- a request is at hand

module _ (night : Night) (name : Name) (gone : ℕ) (response : Option Response) (image before : List ℕ) (r : Called) where
  abbrev looked : Result Place Refusal
  looked = looked_of image night.n night.tries (length before) (number_of name)

  pub hand_refused : (why : Refusal) → Err why ≡ looked → r ≡ called night (Err why) → IsAtHand night name gone response image before r before
  unfolding at_hand_of
  hand_refused why e a =
      record {
        answered = a ∙ ap (judged night name gone response image) e;
        stands = ap (λ (l : Result Place Refusal). buffer_by image before (judged night name gone response image l)) e;
      }

  pub hand_moved : (after : List ℕ) (place : Place) (verdict : Verdict) (stand : Stand) → Ok place ≡ looked
      → verdict ≡ judge_of name (leb 2 gone) night.bank image place.sector response → stand ≡ moved_of name gone night.tries place.count verdict
      → IsGoesOn (standing stand night) image before r after → IsAtHand night name gone response image before r after
  unfolding at_hand_of
  hand_moved after place verdict stand e v s g =
      let m : stand ≡ moved_of name gone night.tries place.count (judge_of name (leb 2 gone) night.bank image place.sector response) =
      s ∙ ap (moved_of name gone night.tries place.count) v in
      record {
        answered = g.answered ∙ ap (λ (x : Stand). gone_on image (standing x night)) m ∙ ap (judged night name gone response image) e;
        stands =
            g.stands
            ∙ ap (λ (x : Stand). buffer_by image before (gone_on image (standing x night))) m
            ∙ ap (λ (l : Result Place Refusal). buffer_by image before (judged night name gone response image l)) e;
      }

-- ---- an event

module _ (night : Night) (name : Name) (gone : ℕ) (response : Option Response) (image : List ℕ) (size : ℕ) where
  pub hand_says : next_number (at_hand_of night name gone response image size).next ≡ lent_says image night.n night.tries size (number_of name)
  unfolding at_hand_of
  hand_says = by (looked_of image night.n night.tries size (number_of name)) refl
    where
      by : (l : Result Place Refusal) → l ≡ looked_of image night.n night.tries size (number_of name)
          → next_number (judged night name gone response image l).next ≡ lent_says image night.n night.tries size (number_of name)
      by (Err why) e = says_refused image night.n night.tries size (number_of name) why e
      by (Ok place) e = says_good image night.n night.tries size (number_of name) place e

module _ (night : Night) (p : ℕ) (end : Next) (image : List ℕ) (size : ℕ) where
  pub over_says : next_number (over_of night p end image size).next ≡ lent_says image night.n night.tries size p
  unfolding over_of
  over_says = by (looked_of image night.n night.tries size p) refl
    where
      by : (l : Result Place Refusal) → l ≡ looked_of image night.n night.tries size p
          → next_number (end_told night end l).next ≡ lent_says image night.n night.tries size p
      by (Err why) e = says_refused image night.n night.tries size p why e
      by (Ok place) e = says_good image night.n night.tries size p place e

  over_keeps : (before : List ℕ) → buffer_after image night.bank night.n before (Ok end) ≡ before
      → before ≡ buffer_by image before (over_of night p end image size)
  unfolding over_of
  over_keeps before z = by (looked_of image night.n night.tries size p) refl
    where
      by : (l : Result Place Refusal) → l ≡ looked_of image night.n night.tries size p → before ≡ buffer_by image before (end_told night end l)
      by (Err why) e = refl
      by (Ok place) e = sym z

module _ (night : Night) (response : Option Response) (image before : List ℕ) (r : Called) where
  by_stand_lem : (after : List ℕ) (stand : Stand) → night.stand ≡ stand → r ≡ by_stand night response image (length before) stand
      → next_number (by_stand night response image (length before) stand).next ≡ step_says image night (length before) stand
      → after ≡ buffer_by image before (by_stand night response image (length before) stand) → IsStep night response image before r after
  by_stand_lem after stand e a s b =
      let back : stand ≡ night.stand = sym e in
      record {
        answered = a ∙ ap (by_stand night response image (length before)) back;
        says = ap (λ (c : Called). next_number c.next) a ∙ s ∙ ap (step_says image night (length before)) back;
        stands = b ∙ ap (λ (x : Stand). buffer_by image before (by_stand night response image (length before) x)) back;
      }

  pub step_unbegun : night.stand ≡ NotBegun → r ≡ called night (Ok next.NotBegun) → IsStep night response image before r before
  step_unbegun e a = by_stand_lem before NotBegun e a refl refl

  pub step_hand : (after : List ℕ) (name : Name) (gone : ℕ) → night.stand ≡ At name gone → IsAtHand night name gone response image before r after
      → IsStep night response image before r after
  step_hand after name gone e h = by_stand_lem after (At name gone) e h.answered (hand_says night name gone response image (length before)) h.stands

  pub step_finished : night.stand ≡ Finished → r ≡ over_of night 0 next.Finished image (length before) → IsStep night response image before r before
  step_finished e a =
      by_stand_lem before Finished e a (over_says night 0 next.Finished image (length before)) (over_keeps night 0 next.Finished image (length before) before refl)

  pub step_gave_up : (name : Name) (why : Why) (p : ℕ) → night.stand ≡ GaveUp name why → p ≡ number_of name
      → r ≡ over_of night p (next.GaveUp name why) image (length before)
      → IsStep night response image before r before
  step_gave_up name why p e q a =
      by_stand_lem before (GaveUp name why) e (a ∙ ap (λ (x : ℕ). over_of night x (next.GaveUp name why) image (length before)) q)
      (over_says night (number_of name) (next.GaveUp name why) image (length before))
      (over_keeps night (number_of name) (next.GaveUp name why) image (length before) before refl)

-- a response, as it reads
pub step_heard : (night : Night) (response : Option Response) (datagram image before : List ℕ) (r : Called) (after : List ℕ) → response ≡ response_of datagram
    → IsStep night response image before r after → IsHeard night datagram image before r after
step_heard night response datagram image before r after e s =
    record {
      answered = s.answered ∙ ap (λ (x : Option Response). step_of night x image (length before)) e;
      says = s.says;
      stands = s.stands ∙ ap (λ (x : Option Response). buffer_by image before (step_of night x image (length before))) e;
    }

-- ---- the start

module _ (image : List ℕ) (bank : Bank) (n tries : ℕ) (before : List ℕ) (r : Called) where
  abbrev first : Result Place Refusal
  first = looked_of image n tries (length before) 0

  pub start_refused : (why : Refusal) → Err why ≡ first → r ≡ called (night_of bank n tries NotBegun) (Err why)
      → IsStart image bank n tries before r before
  unfolding start_of
  start_refused why e a =
      record {
        answered = a ∙ ap (begun image bank n tries) e;
        says = ap (λ (c : Called). next_number c.next) a ∙ says_refused image n tries (length before) 0 why e;
        stands = ap (λ (l : Result Place Refusal). buffer_by image before (begun image bank n tries l)) e;
      }

  pub start_gone : (after : List ℕ) (place : Place) → Ok place ≡ first
      → IsGoesOn (night_of bank n tries (At ModeStart 1)) image before r after
      → IsStart image bank n tries before r after
  unfolding start_of
  start_gone after place e g =
      record {
        answered = g.answered ∙ ap (begun image bank n tries) e;
        says = ap (λ (c : Called). next_number c.next) g.answered ∙ says_good image n tries (length before) 0 place e;
        stands = g.stands ∙ ap (λ (l : Result Place Refusal). buffer_by image before (begun image bank n tries l)) e;
      }
