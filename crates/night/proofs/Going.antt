-- A call whose lent lengths are right, and a record of a night that goes on: what comes of it, for the crates above.
-- Assumes nothing.
use Rattle.std.specs.Prelude.{Option}
use mathlib.Core.Path.{◌≡◌, ap, ◌∙◌}
use mathlib.Core.Bool.{true}
use mathlib.Core.List.{List}
use Prim.Native.Nat.{ℕ, ◌*◌, ◌≤◌, ◌<◌}
use lib.Dec.{leb}
use lib.ListN.{length}
use borrow.Author.Tests.{eq-eqb, le-leb, lt-ltb}
use Rattle.std.specs.Prelude.{Ok}
use Rattle.layout.specs.declared.Bank.{Bank}
use Rattle.layout.specs.Layout.{sector_size, good_n}
use Rattle.response.specs.declared.read.Response.{Response}
use Rattle.sender.specs.Made.{room}
use Rattle.sender.specs.Packet.{packet_count, packet_sector}
use Rattle.night.specs.declared.name.Name.{Name}
use Rattle.night.specs.declared.name.Name.TheVariants.{ModeStart}
use Rattle.night.specs.declared.record.Next.TheVariants as next
use Rattle.night.specs.declared.record.Night.{Night}
use Rattle.night.specs.declared.record.Stand.TheVariants.{At, Finished, GaveUp}
use Rattle.night.specs.declared.record.Why.{Why}
use Rattle.night.specs.Call.{called, gone_on, end_told, over_of, judged, at_hand_of, by_stand, step_of, night_of, begun, start_of}
use Rattle.night.specs.Judge.{judge_of}
use Rattle.night.specs.Lent.{tries_good, looked_of}
use Rattle.night.specs.Name.{number_of}
use Rattle.night.specs.Record.{moved_of, standing}

-- nothing of what is lent is refused
pub record Fits (image : List ℕ) (n tries size : ℕ) : Type 0 where
  pub good : good_n n ≡ true
  pub whole : length image ≡ sector_size * n
  pub low : 1 ≤ tries
  pub high : tries ≤ 9
  pub roomy : room ≤ size

tried : (tries : ℕ) → 1 ≤ tries → tries ≤ 9 → tries_good tries ≡ true
unfolding tries_good
tried tries l h = rw (le-leb 1 tries l, le-leb tries 9 h)

module _ (image : List ℕ) (n tries size : ℕ) (f : Fits image n tries size) where
  looked_good : (p : ℕ) → p < packet_count image n → looked_of image n tries size p ≡ Ok (record { sector = packet_sector image n p; count = packet_count image n })
  unfolding looked_of
  looked_good p h =
      rw (f.good, eq-eqb (length image) (sector_size * n) f.whole, le-leb room size f.roomy, tried tries f.low f.high, lt-ltb p (packet_count image n) h)

  pub start_goes : (bank : Bank) → 0 < packet_count image n → start_of image bank n tries size ≡ gone_on image (night_of bank n tries (At ModeStart 1))
  unfolding start_of
  start_goes bank h = ap (begun image bank n tries) (looked_good 0 h)

module _ (night : Night) (response : Option Response) (image : List ℕ) (size : ℕ) (f : Fits image night.n night.tries size) where
  -- the record moves by what the event is judged to be
  pub hand_goes : (name : Name) (gone : ℕ) → night.stand ≡ At name gone → number_of name < packet_count image night.n
      → step_of night response image size
      ≡ gone_on image
      (standing
      (moved_of name gone night.tries (packet_count image night.n)
      (judge_of name (leb 2 gone) night.bank image (packet_sector image night.n (number_of name)) response))
      night)
  unfolding at_hand_of
  hand_goes name gone e h =
      ap (by_stand night response image size) e
      ∙ ap (judged night name gone response image) (looked_good image night.n night.tries size f (number_of name) h)

  -- an end is told again
  pub finished_again : night.stand ≡ Finished → 0 < packet_count image night.n → step_of night response image size ≡ called night (Ok next.Finished)
  unfolding over_of
  finished_again e h =
      ap (by_stand night response image size) e ∙ ap (end_told night next.Finished) (looked_good image night.n night.tries size f 0 h)

  pub gave_up_again : (name : Name) (why : Why) → night.stand ≡ GaveUp name why → number_of name < packet_count image night.n
      → step_of night response image size ≡ called night (Ok (next.GaveUp name why))
  unfolding over_of
  gave_up_again name why e h =
      ap (by_stand night response image size) e
      ∙ ap (end_told night (next.GaveUp name why)) (looked_good image night.n night.tries size f (number_of name) h)
