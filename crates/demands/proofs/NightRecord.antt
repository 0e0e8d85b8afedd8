-- Of an arbitrary record: a refusal says its number, changes nothing and uses up no event; what has gone out T times does not go out again, and is
-- given up unless it is settled.
-- Assumes nothing.
use mathlib.Core.Path.{◌≡◌, refl, ap, ◌∙◌}
use mathlib.Core.List.{List, ◌∷◌}
use Prim.Native.Nat.{ℕ, ◌≤◌}
use lib.ListN.{length}
use Rattle.night.specs.declared.record.Called.{Called}
use Rattle.night.specs.declared.record.Night.{Night}
use Rattle.night.specs.declared.record.Stand.TheVariants.{NotBegun}
use Rattle.night.specs.Call.{heard_in, start_of, buffer_by}
use Rattle.night.proofs.Judged.{step_kept, not_again, gives_up, step_says_lem, unbegun_told, start_says, start_kept}
use Rattle.demands.specs.Night.{
  Told,
  NightSender,
  night_sender,
  RefusesInVain,
  MeetsRefusals,
  NotOnceMore,
  tolds,
  Given,
  Call,
  after_calls,
  after_events,
  LeftOut,
  no_more,
  kept,
  refused,
  kept_tolds,
  UsesUpNothing,
}
use Rattle.demands.specs.NightEnds.{GivesUpAtLast}
use Rattle.demands.proofs.NightEnds.{of-spends}

pub refuses_in_vain : RefusesInVain night_sender
refuses_in_vain r event image before h =
    let k = step_kept r (heard_in event) image before h in record { same = k.same; buffer = k.buffer }

pub not_once_more : NotOnceMore night_sender
not_once_more r name gone size event image before e l q = not_again name size r (heard_in event) image (length before) gone e l q

pub gives_up_at_last : GivesUpAtLast night_sender
gives_up_at_last r name gone event image before e l z x =
    let up = gives_up r (heard_in event) image (length before) name gone e l z (of-spends image r.bank r.n name gone (2 ≤ gone) (λ h. h) (λ h. h) event x) in
    record {
      told = ap (λ (c : Called). c.next) up;
      stands = ap (λ (c : Called). c.night) up;
      buffer = ap (buffer_by image before) up;
    }

pub refusals_met : MeetsRefusals night_sender
refusals_met =
    record {
      start_says = λ image bank n tries before. start_says image bank n tries before;
      start_keeps = λ image bank n tries before h. (start_kept image bank n tries before h).buffer;
      not_begun = λ image bank n tries before h event other buffer.
          let r : Night = (start_of image bank n tries (length before)).night in
          let stands : r.stand ≡ NotBegun = ap (λ (x : Night). x.stand) (start_kept image bank n tries before h).same in
          let c = unbegun_told r (heard_in event) other buffer stands in
          record {
            told = ap (λ (x : Called). x.next) c;
            keeps = record { same = ap (λ (x : Called). x.night) c; buffer = ap (buffer_by other buffer) c };
          };
      event_says = λ r event image before. step_says_lem r (heard_in event) image before;
    }

-- of any night sender whose refusals change nothing
module _ {S : Type 0} (m : NightSender S) (vain : RefusesInVain m) (image : List ℕ) where
  record_left : (r : S) {cs : List Call} {gs : List Given} → LeftOut m image r cs gs → after_calls m r cs ≡ after_events m image r gs
  record_left r no_more = refl
  record_left r (kept {g = g} rest) = record_left (m.event r g.event image g.buffer).record_then rest
  record_left r (refused {c = c} {gs = gs} h rest) =
      record_left (m.event r c.event c.image c.buffer).record_then rest
      ∙ ap (λ (x : S). after_events m image x gs) (vain r c.event c.image c.buffer h).same

  told_left : (r : S) {cs : List Call} {gs : List Given} (l : LeftOut m image r cs gs) → kept_tolds l ≡ tolds m image r gs
  told_left r no_more = refl
  told_left r (kept {g = g} rest) =
      ap (λ (os : List (Told S)). m.event r g.event image g.buffer ∷ os) (told_left (m.event r g.event image g.buffer).record_then rest)
  told_left r (refused {c = c} {gs = gs} h rest) =
      told_left (m.event r c.event c.image c.buffer).record_then rest
      ∙ ap (λ (x : S). tolds m image x gs) (vain r c.event c.image c.buffer h).same

pub uses_up_nothing : {S : Type 0} (m : NightSender S) → RefusesInVain m → UsesUpNothing m
uses_up_nothing m vain image r cs gs l = record { record_is = record_left m vain image r l; told_is = told_left m vain image r l }
