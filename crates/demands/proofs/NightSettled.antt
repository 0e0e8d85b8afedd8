-- The night sender says finished exactly when every request was settled.
-- Assumes nothing.
use Rattle.std.specs.Prelude.{Option, Some}
use mathlib.Core.Path.{◌≡◌, refl, sym, ap, subst, ◌∙◌}
use mathlib.Core.Bool.{Bool, true}
use mathlib.Core.List.{List, [], ◌∷◌}
use mathlib.Core.Logic.{◌⊎◌, inl, inr}
use Prim.Native.Nat.{ℕ, ◌+◌, ◌≤◌}
use native.Mathlib.Omega.{arith}
use lib.Dec.{leb}
use borrow.Author.Tests.{leb-true, le-leb}
use Rattle.std.specs.Prelude.{Result, Ok}
use Rattle.buffer.proofs.Bools.{no_way}
use Rattle.commands.specs.declared.Command.TheVariants as command
use Rattle.layout.specs.declared.Bank.{Bank}
use Rattle.response.specs.declared.read.Response.{Response}
use Rattle.response.specs.declared.read.Response.TheVariants.{Written}
use Rattle.response.specs.Response.{response_of}
use Rattle.sender.specs.Packet.{packet_count, packet_sector}
use Rattle.night.specs.declared.name.Name.{Name}
use Rattle.night.specs.declared.name.Name.TheVariants.{ModeStart, VersionInfo, BankInfo, WriteStart, Packet, WriteEnd, ModeEnd}
use Rattle.night.specs.declared.record.Next.{Next}
use Rattle.night.specs.declared.record.Next.TheVariants as next
use Rattle.night.specs.declared.record.Refusal.{Refusal}
use Rattle.night.specs.declared.record.Stand.{Stand}
use Rattle.night.specs.declared.record.Stand.TheVariants.{NotBegun, At, Finished, GaveUp}
use Rattle.night.specs.declared.record.Why.{Why}
use Rattle.night.specs.Call.{Event, Heard, Silence, next_of}
use Rattle.night.specs.Name.{number_of}
use Rattle.night.proofs.Judged.{
  Settling,
  Fields,
  own_done,
  done_own,
  own_ended,
  ended_own,
  version_settled,
  settled_version,
  bank_settled,
  settled_bank,
  packet_settled,
  settled_packet,
  silence_spends,
}
use Rattle.demands.specs.Night.{
  night_sender,
  Given,
  Startable,
  packets_from,
  names_of,
  Turn,
  turn,
  AnyVersion,
  version,
  Stored,
  Awaited,
  Declined,
  Repeated,
  again,
  Settles,
  SettledIn,
  here,
  after,
  EachSettled,
  all,
  one,
  MeetsSettled,
}
use Rattle.demands.proofs.NightOrder.{stays_finished, stays_given_up}
use Rattle.demands.proofs.NightTurns.{Hits, now_or_later, nothing_settled, mode_end_in}
use Rattle.demands.proofs.NightRuns.{
  behind,
  Right,
  Goes,
  onto,
  done,
  repeats,
  ends,
  SettlesAt,
  moves,
  lastStand,
  turnsAt,
  goes_at,
  stays-right,
  begins-right,
  run_ends,
  run-turns,
}

-- ---- what settles a request, of the response as it reads

module _ (image : List ℕ) (bank : Bank) (n : ℕ) (repeated : Bool) (r : Option Response) where
  abbrev pub Reads : Name → Type 0
  Reads name = Awaited image bank n name r ⊎ (Declined name r × (repeated ≡ true))

  abbrev pub Settled·Is : Name → Type 0
  Settled·Is name = Settling name repeated bank image (packet_sector image n (number_of name)) r

  stored : (sector number result write crc : ℕ) → Fields image sector number result write crc → Stored image sector (Some (Written number result write crc))
  stored sector number result write crc f =
      record { write = write; accepted = f.write-is; reads = rw (f.number_is, f.result-is, f.crc-is) }

  pub judge_reads : (name : Name) → Settled·Is name → Reads name
  judge_reads ModeStart e = own_done command.ModeStart repeated r e
  judge_reads VersionInfo e = inl (version_settled AnyVersion (λ id major minor revision. version id major minor revision) r e)
  judge_reads BankInfo e = inl (bank_settled bank r e)
  judge_reads WriteStart e = own_done command.WriteStart repeated r e
  judge_reads (Packet p) e =
      let sector : ℕ = packet_sector image n p in
      inl (packet_settled image sector (Stored image sector) (λ number result write crc f. stored sector number result write crc f) r e)
  judge_reads WriteEnd e = inl (own_ended command.WriteEnd repeated r e)
  judge_reads ModeEnd e = own_done command.ModeEnd repeated r e

  version_judged : {x : Option Response} → AnyVersion x → Settling VersionInfo repeated bank image (packet_sector image n 0) x
  version_judged (version id major minor revision) = settled_version id major minor revision

  pub reads_judged : (name : Name) → Reads name → Settled·Is name
  reads_judged ModeStart e = done_own command.ModeStart repeated r e
  reads_judged VersionInfo (inl v) = version_judged v
  reads_judged VersionInfo (inr d) = absurd d.0
  reads_judged BankInfo (inl e) = settled_bank bank r e
  reads_judged BankInfo (inr d) = absurd d.0
  reads_judged WriteStart e = done_own command.WriteStart repeated r e
  reads_judged (Packet p) (inl st) =
      let sector : ℕ = packet_sector image n p in
      subst (Settling (Packet p) repeated bank image sector) (sym st.reads) (settled_packet image sector st.write st.accepted)
  reads_judged (Packet p) (inr d) = absurd d.0
  reads_judged WriteEnd (inl e) = ended_own command.WriteEnd repeated r e
  reads_judged WriteEnd (inr d) = absurd d.0
  reads_judged ModeEnd e = done_own command.ModeEnd repeated r e

module _ (image : List ℕ) (bank : Bank) (n tries : ℕ) (s : Startable image n tries) where
  abbrev count : ℕ
  count = packet_count image n

  abbrev final : Stand → List Given → Stand
  final = lastStand image bank n tries

  abbrev turns : Stand → List Given → List Turn
  turns = turnsAt image bank n tries

  abbrev Each : List Name → Result Next Refusal → List Turn → Type 0
  Each = EachSettled image bank n

  -- ---- finished only then

  later_each : {names : List Name} {last : Result Next Refusal} {t : Turn} {rest : List Turn} → Each names t.hand rest → Each names last (t ∷ rest)
  later_each all = all
  later_each (one x xs) = one (after x) (later_each xs)

  -- what settles it was heard
  settled_here : (name : Name) (gone : ℕ) (event : Event) (last : Result Next Refusal) (rest : List Turn) → (2 ≤ gone → Repeated name last)
      → SettlesAt image bank n tries name gone event → SettledIn image bank n name last (turn (Ok (next_of image bank n (At name gone))) event ∷ rest)
  settled_here name gone (Heard datagram) last rest twice t =
      here (by (judge_reads image bank n (leb 2 gone) (response_of datagram) name t))
    where
      by : Reads image bank n (leb 2 gone) (response_of datagram) name → Settles image bank n name last (response_of datagram)
      by (inl a) = inl a
      by (inr d) = inr (d.0, twice (leb-true 2 gone d.1))
  settled_here name gone Silence last rest twice t =
      absurd (silence_spends (leb 2 gone) name bank image (packet_sector image n (number_of name)) t)

  abbrev OnlyFrom : List Given → Type 0
  OnlyFrom gs =
      (name : Name) (gone : ℕ) (last : Result Next Refusal) → Right count tries (At name gone) → (2 ≤ gone → Repeated name last) → final (At name gone) gs ≡ Finished
      → Each (name ∷ behind count name) last (turns (At name gone) gs)

  only_on : (gs : List Given) → OnlyFrom gs → (name : Name) (gone : ℕ) (event : Event) (last : Result Next Refusal) (stand : Stand)
      → Right count tries (At name gone)
      → (2 ≤ gone → Repeated name last) → final stand gs ≡ Finished
      → Goes count tries name gone (SettlesAt image bank n tries name gone event) stand
      → Each (name ∷ behind count name) last (turn (Ok (next_of image bank n (At name gone))) event ∷ turns stand gs)
  only_on gs ih name gone event last _ r twice e (onto {next = k} t b q) =
      one (settled_here name gone event last (turns (At k 1) gs) twice t)
      (subst (λ (l : List Name). Each l last (turn (Ok (next_of image bank n (At name gone))) event ∷ turns (At k 1) gs)) (sym b)
      (later_each (ih k 1 (Ok (next_of image bank n (At name gone))) q (λ h. absurd (omega arith)) e)))
  only_on gs ih name gone event last _ r twice e (done t b) =
      one (settled_here name gone event last (turns Finished gs) twice t)
      (subst (λ (l : List Name). Each l last (turn (Ok (next_of image bank n (At name gone))) event ∷ turns Finished gs)) (sym b) all)
  only_on gs ih name gone event last _ r twice e (repeats no-settling h) =
      later_each (ih name (gone + 1) (Ok (next_of image bank n (At name gone))) (omega arith, omega arith, r.2) (λ _. again) e)
  only_on gs ih name gone event last _ r twice e (ends {why = why} no-settling) =
      let q : GaveUp name why ≡ Finished = sym (stays_given_up image bank n tries s name why gs) ∙ e in no_way cc

  only_from : (gs : List Given) → OnlyFrom gs
  only_from [] name gone last r twice e = no_way cc
  only_from (g ∷ gs) name gone last r twice e =
      only_on gs (only_from gs) name gone g.event last (moves image bank n tries (At name gone) g.event) r twice e
      (goes_at image bank n tries s name gone g.event r)

  finished_told : (stand : Stand) → ◌≡◌ {A = Result Next Refusal} (Ok (next_of image bank n stand)) (Ok next.Finished) → stand ≡ Finished
  finished_told NotBegun e = no_way cc
  finished_told (At name gone) e = no_way cc
  finished_told Finished e = refl
  finished_told (GaveUp name why) e = no_way cc

  -- ---- finished always then

  -- what can come of the mode end
  mode_end_goes : (P : Stand → Type 0) (gone : ℕ) (settling : Type 0) {stand : Stand} → Goes count tries ModeEnd gone settling stand
      → (settling → P Finished) → ((settling → ⊥) → P (At ModeEnd (gone + 1))) → ((settling → ⊥) → (why : Why) → P (GaveUp ModeEnd why)) → P stand
  mode_end_goes P gone settling (onto t b q) f a u = no_way cc
  mode_end_goes P gone settling (done t b) f a u = f t
  mode_end_goes P gone settling (repeats no-settling h) f a u = a no-settling
  mode_end_goes P gone settling (ends {why = why} no-settling) f a u = u no-settling why

  -- one that is at hand a second time has gone out twice
  abbrev Twice : Stand → Result Next Refusal → Type 0
  Twice stand last = (gone : ℕ) → stand ≡ At ModeEnd gone → Repeated ModeEnd last → 2 ≤ gone

  repeated_is : {last : Result Next Refusal} → Repeated ModeEnd last → (size : ℕ) × (last ≡ Ok (next.Send ModeEnd size))
  repeated_is (again {size = size}) = (size, refl)

  mode_end_twice : (gone : ℕ) (event : Event) (k : ℕ) → Right count tries (At ModeEnd gone)
      → moves image bank n tries (At ModeEnd gone) event ≡ At ModeEnd k → 2 ≤ k
  mode_end_twice gone event k r e =
      mode_end_goes (λ (x : Stand). x ≡ At ModeEnd k → 2 ≤ k) gone (SettlesAt image bank n tries ModeEnd gone event)
      (goes_at image bank n tries s ModeEnd gone event r)
      (λ _ q. no_way cc)
      (λ _ q. let same : gone + 1 ≡ k = cc in omega (arith, r.0))
      (λ _ why q. no_way cc)
      e

  twice_kept : (stand : Stand) (event : Event) → Right count tries stand → Twice (moves image bank n tries stand event) (Ok (next_of image bank n stand))
  twice_kept stand event r k e rep = by stand r e (repeated_is rep).0 (repeated_is rep).1
    where
      by : (x : Stand) → Right count tries x → moves image bank n tries x event ≡ At ModeEnd k → (size : ℕ)
          → ◌≡◌ {A = Result Next Refusal} (Ok (next_of image bank n x)) (Ok (next.Send ModeEnd size)) → 2 ≤ k
      by NotBegun q m size h = absurd q
      by (At name gone) q m size h =
          let same : name ≡ ModeEnd = cc in
          mode_end_twice gone event k (subst (λ (x : Name). Right count tries (At x gone)) same q)
          (subst (λ (x : Name). moves image bank n tries (At x gone) event ≡ At ModeEnd k) same m)
      by Finished q m size h = no_way cc
      by (GaveUp name why) q m size h = no_way cc

  -- 06, or 15 after a repeat, and it is finished
  mode_end_done : (gone : ℕ) (event : Event) (last : Result Next Refusal) (datagram : List ℕ) (gs : List Given) → Right count tries (At ModeEnd gone)
      → Twice (At ModeEnd gone) last → event ≡ Heard datagram → Settles image bank n ModeEnd last (response_of datagram)
      → final (moves image bank n tries (At ModeEnd gone) event) gs ≡ Finished
  mode_end_done gone event last datagram gs r twice e x =
      let t : SettlesAt image bank n tries ModeEnd gone event =
      subst (SettlesAt image bank n tries ModeEnd gone) (sym e) (reads_judged image bank n (leb 2 gone) (response_of datagram) ModeEnd (by x)) in
      mode_end_goes (λ (y : Stand). final y gs ≡ Finished) gone (SettlesAt image bank n tries ModeEnd gone event)
      (goes_at image bank n tries s ModeEnd gone event r)
      (λ _. stays_finished image bank n tries s gs)
      (λ no-settling. absurd (no-settling t))
      (λ no-settling why. absurd (no-settling t))
    where
      by : Settles image bank n ModeEnd last (response_of datagram) → Reads image bank n (leb 2 gone) (response_of datagram) ModeEnd
      by (inl a) = inl a
      by (inr d) = inr (d.0, le-leb 2 gone (twice gone refl d.1))

  hit_done : (stand : Stand) (event : Event) (last : Result Next Refusal) (gs : List Given) → Right count tries stand → Twice stand last
      → Hits image bank n ModeEnd last (turn (Ok (next_of image bank n stand)) event) → final (moves image bank n tries stand event) gs ≡ Finished
  hit_done NotBegun event last gs r twice h = absurd r
  hit_done (At name gone) event last gs r twice h =
      let at : (Ok (next.Send name _)) ≡ (Ok (next.Send ModeEnd h.size)) = h.hand-is in
      let same : name ≡ ModeEnd = cc in
      subst (λ (x : Name). final (moves image bank n tries (At x gone) event) gs ≡ Finished) (sym same)
      (mode_end_done gone event last h.datagram gs (subst (λ (x : Name). Right count tries (At x gone)) same r)
      (subst (λ (x : Name). Twice (At x gone) last) same twice)
      h.event-is h.settles)
  hit_done Finished event last gs r twice h = stays_finished image bank n tries s gs
  hit_done (GaveUp name why) event last gs r twice h = let at : (Ok (next.GaveUp name why)) ≡ (Ok (next.Send ModeEnd h.size)) = h.hand-is in no_way cc

  always_from : (gs : List Given) (stand : Stand) (last : Result Next Refusal) → Right count tries stand → Twice stand last
      → SettledIn image bank n ModeEnd last (turns stand gs) → final stand gs ≡ Finished
  always_from [] stand last r twice x = absurd (nothing_settled image bank n ModeEnd refl x)
  always_from (g ∷ gs) stand last r twice x =
      by (now_or_later image bank n ModeEnd (turn (Ok (next_of image bank n stand)) g.event) (turns (moves image bank n tries stand g.event) gs) x refl)
      (always_from gs (moves image bank n tries stand g.event) (Ok (next_of image bank n stand)) (stays-right image bank n tries s stand g.event r)
      (twice_kept stand g.event r))
    where
      rest : List Turn
      rest = turns (moves image bank n tries stand g.event) gs

      by : Hits image bank n ModeEnd last (turn (Ok (next_of image bank n stand)) g.event) ⊎ SettledIn image bank n ModeEnd (Ok (next_of image bank n stand)) rest
          → (SettledIn image bank n ModeEnd (Ok (next_of image bank n stand)) rest → final (moves image bank n tries stand g.event) gs ≡ Finished)
          → final (moves image bank n tries stand g.event) gs ≡ Finished
      by (inl h) ih = hit_done stand g.event last gs r twice h
      by (inr y) ih = ih y

pub settled_met : MeetsSettled night_sender
settled_met =
    record {
      only = λ image bank n tries before gs s h hs e.
          subst (EachSettled image bank n (names_of (packet_count image n)) (Ok next.NotBegun)) (sym (run-turns image bank n tries s before gs h hs))
          (only_from image bank n tries s gs ModeStart 1 (Ok next.NotBegun) (begins-right image bank n tries s) (λ l. absurd (omega arith))
          (finished_told image bank n tries s (lastStand image bank n tries (At ModeStart 1) gs)
          (sym (run_ends image bank n tries s before gs h hs) ∙ e)));
      always = λ image bank n tries before gs s h hs e.
          run_ends image bank n tries s before gs h hs
          ∙ ap (λ (x : Stand). Ok (next_of image bank n x))
          (always_from image bank n tries s gs (At ModeStart 1) (Ok next.NotBegun) (begins-right image bank n tries s) (λ gone q rep. no_way cc)
          (mode_end_in image bank n (ModeStart ∷ VersionInfo ∷ BankInfo ∷ WriteStart ∷ packets_from 0 (packet_count image n))
          (subst (EachSettled image bank n (names_of (packet_count image n)) (Ok next.NotBegun)) (run-turns image bank n tries s before gs h hs) e)));
    }
