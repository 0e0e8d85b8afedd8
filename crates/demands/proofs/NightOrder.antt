-- The night sender's requests go out in their order, each at most T times, and it is over within T·(P + 6) events.
-- Assumes nothing.
use mathlib.Core.Path.{◌≡◌, refl, sym, ap, subst, ◌∙◌}
use mathlib.Core.Bool.{true}
use mathlib.Core.List.{List, [], ◌∷◌, ◌++◌, append_assoc}
use Prim.Native.Nat.{ℕ, zero, suc, ◌+◌, ◌*◌, ◌≤◌}
use native.Mathlib.Nat.{mul-suc}
use native.Mathlib.Omega.{arith}
use lib.ListN.{length, replicate, length-append, replicate-append-replicate}
use Rattle.std.specs.Prelude.{Ok}
use Rattle.layout.specs.declared.Bank.{Bank}
use Rattle.sender.specs.Packet.{packet_count}
use Rattle.night.specs.declared.name.Name.{Name}
use Rattle.night.specs.declared.name.Name.TheVariants.{ModeStart, WriteEnd, ModeEnd}
use Rattle.night.specs.declared.record.Stand.{Stand}
use Rattle.night.specs.declared.record.Stand.TheVariants.{At, Finished, GaveUp}
use Rattle.night.specs.declared.record.Why.{Why}
use Rattle.night.specs.Call.{next_of}
use Rattle.night.specs.Name.{frame_of}
use Rattle.demands.specs.Night.{night_sender, Given, Startable, packets_from, names_of, Sent, sent, InOrder, over, each, is_over, MeetsOrder}
use Rattle.demands.proofs.NightRuns.{
  behind,
  Right,
  Goes,
  onto,
  done,
  repeats,
  ends,
  SettlesAt,
  moves,
  lastStand,
  sentAt,
  sentsAt,
  goes_at,
  begins-right,
  run-sends,
  run_ends,
}

module _ (image : List ℕ) (bank : Bank) (n tries : ℕ) (s : Startable image n tries) where
  abbrev count : ℕ
  count = packet_count image n

  abbrev sents : Stand → List Given → List Sent
  sents = sentsAt image bank n tries

  abbrev final : Stand → List Given → Stand
  final = lastStand image bank n tries

  abbrev request : Name → Sent
  request name = sent name (frame_of image bank n name)

  -- ---- an end stays

  finished_quiet : (gs : List Given) → sents Finished gs ≡ []
  finished_quiet [] = refl
  finished_quiet (g ∷ gs) = finished_quiet gs

  gave_up_quiet : (name : Name) (why : Why) (gs : List Given) → sents (GaveUp name why) gs ≡ []
  gave_up_quiet name why [] = refl
  gave_up_quiet name why (g ∷ gs) = gave_up_quiet name why gs

  pub stays_finished : (gs : List Given) → final Finished gs ≡ Finished
  stays_finished [] = refl
  stays_finished (g ∷ gs) = stays_finished gs

  pub stays_given_up : (name : Name) (why : Why) (gs : List Given) → final (GaveUp name why) gs ≡ GaveUp name why
  stays_given_up name why [] = refl
  stays_given_up name why (g ∷ gs) = stays_given_up name why gs

  -- ---- the order

  abbrev Orderly : List Name → List Sent → Type 0
  Orderly = InOrder tries (frame_of image bank n)

  abbrev OrderlyFrom : List Given → Type 0
  OrderlyFrom gs =
      (name : Name) (gone : ℕ) → Right count tries (At name gone)
      → Orderly (name ∷ behind count name) (replicate gone (request name) ++ sents (At name gone) gs)

  one_more : (x : Sent) (gone : ℕ) (rest : List Sent) → replicate (gone + 1) x ++ rest ≡ replicate gone x ++ (x ∷ rest)
  one_more x gone rest = ap (λ (l : List Sent). l ++ rest) (sym (replicate-append-replicate gone 1 x)) ∙ append_assoc (replicate gone x) (x ∷ []) rest

  orderly_on : (gs : List Given) → OrderlyFrom gs → (name : Name) (gone : ℕ) (settling : Type 0) (stand : Stand) → Right count tries (At name gone)
      → Goes count tries name gone settling stand
      → Orderly (name ∷ behind count name) (replicate gone (request name) ++ (sentAt image bank n tries stand ++ sents stand gs))
  orderly_on gs ih name gone settling _ r (onto {next = next} t e q) =
      each gone r.0 r.1 (subst (λ (l : List Name). Orderly l (request next ∷ sents (At next 1) gs)) (sym e) (ih next 1 q))
  orderly_on gs ih name gone settling _ r (done t e) =
      each gone r.0 r.1 (subst (Orderly (behind count name)) (sym (finished_quiet gs)) over)
  orderly_on gs ih name gone settling _ r (repeats no-settling h) =
      subst (Orderly (name ∷ behind count name)) (one_more (request name) gone (sents (At name (gone + 1)) gs))
      (ih name (gone + 1) (omega arith, omega arith, r.2))
  orderly_on gs ih name gone settling _ r (ends {why = why} no-settling) =
      each gone r.0 r.1 (subst (Orderly (behind count name)) (sym (gave_up_quiet name why gs)) over)

  orderly : (gs : List Given) → OrderlyFrom gs
  orderly [] name gone r = each gone r.0 r.1 over
  orderly (g ∷ gs) name gone r =
      orderly_on gs (orderly gs) name gone (SettlesAt image bank n tries name gone g.event) (moves image bank n tries (At name gone) g.event) r
      (goes_at image bank n tries s name gone g.event r)

  -- ---- the end

  abbrev Over : Stand → Type 0
  Over stand = is_over (Ok (next_of image bank n stand)) ≡ true

  -- how many events may still come
  abbrev EndsFrom : List Given → Type 0
  EndsFrom gs =
      (name : Name) (gone : ℕ) → Right count tries (At name gone) → tries + 1 + tries * length (behind count name) ≤ length gs + gone
      → Over (final (At name gone) gs)

  ends_on : (gs : List Given) → EndsFrom gs → (name : Name) (gone : ℕ) (settling : Type 0) (stand : Stand) → Right count tries (At name gone)
      → tries + 1 + tries * length (behind count name) ≤ suc (length gs) + gone → Goes count tries name gone settling stand → Over (final stand gs)
  ends_on gs ih name gone settling _ r h (onto {next = next} t e q) =
      ih next 1 q (omega (arith, ap (λ (l : List Name). tries * length l) e, mul-suc tries (length (behind count next))))
  ends_on gs ih name gone settling _ r h (done t e) = subst Over (sym (stays_finished gs)) refl
  ends_on gs ih name gone settling _ r h (repeats no-settling l) = ih name (gone + 1) (omega arith, omega arith, r.2) (omega arith)
  ends_on gs ih name gone settling _ r h (ends {why = why} no-settling) = subst Over (sym (stays_given_up name why gs)) refl

  ends_in : (gs : List Given) → EndsFrom gs
  ends_in [] name gone r h = absurd (omega arith)
  ends_in (g ∷ gs) name gone r h =
      ends_on gs (ends_in gs) name gone (SettlesAt image bank n tries name gone g.event) (moves image bank n tries (At name gone) g.event) r h
      (goes_at image bank n tries s name gone g.event r)

packets_length : (p k : ℕ) → length (packets_from p k) ≡ k
packets_length p zero = refl
packets_length p (suc k) = ap suc (packets_length (suc p) k)

-- mode start, and P + 5 behind it
pub behind_length : (count : ℕ) → length (behind count ModeStart) ≡ count + 5
behind_length count =
    omega (arith, length-append (packets_from 0 count) (WriteEnd ∷ ModeEnd ∷ []), packets_length 0 count)

pub order_met : MeetsOrder night_sender
order_met =
    record {
      order = λ image bank n tries before gs s h hs.
          subst (InOrder tries (frame_of image bank n) (names_of (packet_count image n))) (sym (run-sends image bank n tries s before gs h hs))
          (orderly image bank n tries s gs ModeStart 1 (begins-right image bank n tries s));
      bounded = λ image bank n tries before gs s h hs l.
          ap is_over (run_ends image bank n tries s before gs h hs)
          ∙ ends_in image bank n tries s gs ModeStart 1 (begins-right image bank n tries s)
          (omega (arith, ap (λ (x : ℕ). tries * x) (behind_length (packet_count image n))));
    }
