-- Night senders that are shut out: finished at once, never over, a packet skipped, given up too early; and one of each class.
-- Assumes nothing.
use Rattle.std.specs.Prelude.{Some}
use mathlib.Core.Path.{◌≡◌, refl, sym, ap, subst, ◌∙◌}
use mathlib.Core.Bool.{false, or-true, false≢true}
use mathlib.Core.List.{List, [], ◌∷◌}
use mathlib.Core.Logic.{◌⊎◌, inl, inr}
use Prim.Native.Nat.{ℕ, zero, suc, ◌+◌, ◌*◌, ◌≤◌, ◌<◌}
use native.Mathlib.Omega.{arith}
use lib.Dec.{eqb}
use lib.ListN.{length, replicate, length-replicate}
use borrow.Author.Tests.{eqb-true, eqb-false}
use Rattle.std.specs.Prelude.{Result, Ok}
use Rattle.buffer.proofs.Bools.{split, no_way}
use Rattle.crc.specs.Crc.{crc_of}
use Rattle.layout.specs.declared.Bank.{Bank}
use Rattle.layout.specs.declared.Bank.TheVariants.{Zero}
use Rattle.layout.specs.Layout.{sector_of}
use Rattle.response.specs.declared.read.Response.TheVariants.{Written}
use Rattle.response.specs.Response.{may_carry, repeats_of, stored_of, crc_fits, response_of}
use Rattle.response.proofs.Answers.{written_back}
use Rattle.sender.specs.Made.{room}
use Rattle.sender.specs.Packet.{packet_count, packet_sector}
use Rattle.sender.proofs.Packets.{packet_small}
use Rattle.night.specs.declared.name.Name.{Name}
use Rattle.night.specs.declared.name.Name.TheVariants.{ModeStart, Packet}
use Rattle.night.specs.declared.record.Next.{Next}
use Rattle.night.specs.declared.record.Next.TheVariants.{NotBegun, Send, Finished, GaveUp}
use Rattle.night.specs.declared.record.Refusal.{Refusal}
use Rattle.night.specs.declared.record.Why.TheVariants.{Tries}
use Rattle.night.specs.Call.{Heard, Silence}
use Rattle.demands.specs.Night.{
  Told,
  NightSender,
  Given,
  Roomy,
  none,
  more,
  tolds,
  last_told,
  names_of,
  is_over,
  MeetsOrder,
  Turn,
  turn,
  turns_of,
  Settles,
  SettledIn,
  EachSettled,
  one,
  MeetsSettled,
}
use Rattle.demands.specs.NightShutOut.{
  Begin,
  ends_from,
  FinishedAtOnce,
  tells,
  finished_at_once,
  NeverEnds,
  never_ending,
  WrongCrc,
  OnlyWrong,
  no_turn,
  elsewhere,
  silence,
  wrong,
  SkipsPacket,
  Going,
  going_on,
  heedless,
  other_crc,
  wrong_answer,
  wrong_answers,
  Times,
  no_time,
  another,
  once_more,
  GivesUpEarly,
  hopeless,
}
use Rattle.demands.specs.NightEnds.{InVain, enough, in-vain, TriedInVain, from-here, from-later, AllTold, MeetsGivingUp}
use Rattle.demands.proofs.NightOrder.{behind_length}
use Rattle.demands.proofs.NightTurns.{Hits, now_or_later, nothing_settled, packet_among}
use Rattle.demands.proofs.Witness.{image, image_size, two_packets, two_good}

-- something that a start accepts: two sectors, one try
pub some_begin : Begin
some_begin =
    record {
      image = image;
      bank = Zero;
      n = 2;
      tries = 1;
      before = replicate room 0;
      starts = record { good = two_good; whole = image_size; low = omega arith; high = omega arith; some = omega (arith, two_packets) };
      roomy = omega (arith, length-replicate {A = ℕ} room 0);
    }

roomy_all : (k : ℕ) (g : Given) → room ≤ length g.buffer → Roomy (replicate k g)
roomy_all zero g h = none
roomy_all (suc k) g h = more h (roomy_all k g h)

-- ---- finished at once

pub no_hasty : {S : Type 0} (m : NightSender S) → FinishedAtOnce m → MeetsSettled m → ⊥
no_hasty m f meets =
    let b = f.begin in by (meets.only b.image b.bank b.n b.tries b.before [] b.starts b.roomy none f.tells)
  where
    by : EachSettled f.begin.image f.begin.bank f.begin.n (names_of (packet_count f.begin.image f.begin.n)) (Ok NotBegun) [] → ⊥
    by (one x xs) = nothing_settled f.begin.image f.begin.bank f.begin.n ModeStart refl x

pub one_hasty : FinishedAtOnce finished_at_once
one_hasty = record { begin = some_begin; tells = refl }

-- ---- never over

pub no_endless : {S : Type 0} (m : NightSender S) → NeverEnds m → MeetsOrder m → ⊥
no_endless m e meets =
    let b = e.begin in
    let k : ℕ = b.tries * (packet_count b.image b.n + 6) in
    let quiet : Given = record { event = Silence; buffer = b.before } in
    let roomies : Roomy (replicate k quiet) = roomy_all k quiet b.roomy in
    false≢true
    (sym (e.never (replicate k quiet) roomies)
    ∙ meets.bounded b.image b.bank b.n b.tries b.before (replicate k quiet) b.starts b.roomy roomies
    (omega (arith, length-replicate k quiet)))

endless_told : (image before : List ℕ) (gs : List Given)
    → is_over (last_told (tells (Ok (Send ModeStart 5)) before) (tolds never_ending image tt gs)).next ≡ false
endless_told image before [] = refl
endless_told image before (g ∷ gs) = endless_told image g.buffer gs

pub one_endless : NeverEnds never_ending
one_endless = record { begin = some_begin; never = λ gs _. endless_told some_begin.image some_begin.before gs }

-- ---- a packet skipped

module _ (image : List ℕ) (bank : Bank) (n p : ℕ) where
  -- a wrong CRC settles nothing
  wrong_hit : (t : Turn) (datagram : List ℕ) {last : Result Next Refusal} → t.event ≡ Heard datagram → WrongCrc image (packet_sector image n p) (response_of datagram)
      → Hits image bank n (Packet p) last t → ⊥
  wrong_hit t datagram {last} e w h = by h.settles
    where
      by : Settles image bank n (Packet p) last (response_of h.datagram) → ⊥
      by (inl s) =
          let same : Heard h.datagram ≡ Heard datagram = sym h.event-is ∙ e in
          let bytes : h.datagram ≡ datagram = cc in
          let both : Some (Written (packet_sector image n p) w.result w.write w.crc)
          ≡ Some (Written (packet_sector image n p) 0x06 s.write (crc_of (sector_of image (packet_sector image n p)))) =
          sym w.reads ∙ sym (ap response_of bytes) ∙ s.reads in
          w.other cc
      by (inr d) = absurd d.0

  never_right : {ts : List Turn} {last : Result Next Refusal} → OnlyWrong image n p ts → SettledIn image bank n (Packet p) last ts → ⊥
  never_right no_turn x = nothing_settled image bank n (Packet p) refl x
  never_right (elsewhere {t = t} {ts = ts} h os) x = by (now_or_later image bank n (Packet p) t ts x refl) (λ y. never_right os y)
    where
      by : {last : Result Next Refusal} → Hits image bank n (Packet p) last t ⊎ SettledIn image bank n (Packet p) t.hand ts
          → (SettledIn image bank n (Packet p) t.hand ts → ⊥) → ⊥
      by (inl k) ih = h k.size k.hand-is
      by (inr y) ih = ih y
  never_right (silence {hand = hand} {ts = ts} os) x = by (now_or_later image bank n (Packet p) (turn hand Silence) ts x refl) (λ y. never_right os y)
    where
      by : {last : Result Next Refusal} → Hits image bank n (Packet p) last (turn hand Silence) ⊎ SettledIn image bank n (Packet p) hand ts
          → (SettledIn image bank n (Packet p) hand ts → ⊥) → ⊥
      by (inl k) ih = let e : Silence ≡ Heard k.datagram = k.event-is in no_way cc
      by (inr y) ih = ih y
  never_right (wrong {hand = hand} {datagram = datagram} {ts = ts} w os) x =
      by (now_or_later image bank n (Packet p) (turn hand (Heard datagram)) ts x refl) (λ y. never_right os y)
    where
      by : {last : Result Next Refusal} → Hits image bank n (Packet p) last (turn hand (Heard datagram)) ⊎ SettledIn image bank n (Packet p) hand ts
          → (SettledIn image bank n (Packet p) hand ts → ⊥) → ⊥
      by (inl k) ih = wrong_hit (turn hand (Heard datagram)) datagram refl w k
      by (inr y) ih = ih y

-- packet p among the names, behind the four first
packet_in : (image : List ℕ) (bank : Bank) (n p : ℕ) {ts : List Turn} → p < packet_count image n
    → EachSettled image bank n (names_of (packet_count image n)) (Ok NotBegun) ts → SettledIn image bank n (Packet p) (Ok NotBegun) ts
packet_in image bank n p h (one a (one b (one c (one d es)))) =
    packet_among image bank n 0 (packet_count image n) p (omega arith) (omega arith) es

pub no_skipper : {S : Type 0} (m : NightSender S) → SkipsPacket m → MeetsSettled m → ⊥
no_skipper m k meets =
    let b = k.begin in
    never_right b.image b.bank b.n k.packet k.skipped
    (packet_in b.image b.bank b.n k.packet k.there
    (meets.only b.image b.bank b.n b.tries b.before k.events b.starts b.roomy k.roomy k.finishes))

-- one of them

crc_low : (c : ℕ) → other_crc c < 4294967296
crc_low c = split (λ (x : ℕ). x < 4294967296) (eqb c 0) (λ _. omega arith) (λ _. omega arith)

crc_other : (c : ℕ) → other_crc c ≡ c → ⊥
crc_other c =
    split (λ (x : ℕ). x ≡ c → ⊥) (eqb c 0)
    (λ z e. absurd (omega (arith, eqb-true c 0 z)))
    (λ z e. eqb-false c 0 z (sym e))

wrong_answer_lem : (image : List ℕ) (sector : ℕ) → sector < 65536 → WrongCrc image sector (response_of (wrong_answer image sector))
unfolding may_carry repeats_of crc_fits stored_of
wrong_answer_lem image sector h =
    let crc : ℕ = other_crc (crc_of (sector_of image sector)) in
    record {
      result = 0x06;
      write = 0x06;
      crc = crc;
      reads = sym (written_back sector 0x06 0x06 crc h (crc_low (crc_of (sector_of image sector))) refl refl refl (or-true (eqb crc 0)));
      other = crc_other (crc_of (sector_of image sector));
    }

all_wrong : {S : Type 0} (m : NightSender S) (image : List ℕ) (n p : ℕ) (datagram buffer : List ℕ)
    → WrongCrc image (packet_sector image n p) (response_of datagram) → (k : ℕ) (o : Told S)
    → OnlyWrong image n p (turns_of m image o (replicate k (record { event = Heard datagram; buffer = buffer })))
all_wrong m image n p datagram buffer w zero o = no_turn
all_wrong m image n p datagram buffer w (suc k) o =
    wrong w (all_wrong m image n p datagram buffer w k (m.event o.record_then (Heard datagram) image buffer))

heedless_ends : (image : List ℕ) (bank : Bank) (n : ℕ) (g : Given) (before : List ℕ) (names : List Name)
    → (let o : Told Going = going_on bank n image before names in
    (last_told o (tolds heedless image o.record_then (replicate (length names) g))).next ≡ Ok Finished)
heedless_ends image bank n g before [] = refl
heedless_ends image bank n g before (name ∷ names) = heedless_ends image bank n g g.buffer names

pub one_skipper : SkipsPacket heedless
one_skipper =
    let b : Begin = some_begin in
    let sector : ℕ = packet_sector b.image b.n 0 in
    let g : Given = record { event = Heard (wrong_answer b.image sector); buffer = replicate room 0 } in
    let count : ℕ = packet_count b.image b.n in
    let many : length (names_of count) ≡ count + 6 = omega (arith, behind_length count) in
    record {
      begin = b;
      events = wrong_answers b.image b.n;
      roomy = roomy_all (count + 6) g (omega (arith, length-replicate {A = ℕ} room 0));
      finishes =
          subst (λ (k : ℕ). ends_from heedless b (replicate k g) ≡ Ok Finished) many
          (heedless_ends b.image b.bank b.n g b.before (names_of count));
      packet = 0;
      there = b.starts.some;
      skipped =
          all_wrong heedless b.image b.n 0 (wrong_answer b.image sector) (replicate room 0)
          (wrong_answer_lem b.image sector (packet_small b.image b.n 0 b.starts.good sector b.starts.some refl))
          (count + 6) (heedless.start b.image b.bank b.n b.tries b.before);
    }

-- ---- given up too early

module _ (image : List ℕ) (bank : Bank) (n : ℕ) (Rest : List Turn → Type 0) (name : Name) where
  -- the turns of a request that was at hand so often, and how often it went out
  record Vain·Head (left : ℕ) (t : Turn) (rest : List Turn) : Type 0 where
    size : ℕ
    hand-is : t.hand ≡ Ok (Send name size)
    fewer : ℕ
    left_is : left ≡ suc fewer
    vain : InVain image bank n Rest name fewer t.hand rest

  vain_head : {left : ℕ} {last : Result Next Refusal} {ts : List Turn} (t : Turn) (rest : List Turn) → InVain image bank n Rest name left last ts → ts ≡ t ∷ rest
      → (left ≡ 0) ⊎ Vain·Head left t rest
  vain_head t rest (enough _) e = inl refl
  vain_head t rest (in-vain {k = k} {size = size} {event = event} {rest = us} spent v) e =
      let same : turn (Ok (Send name size)) event ≡ t = cc in
      let rests : us ≡ rest = cc in
      inr
      (record {
        size = size;
        hand-is = sym (ap (λ (u : Turn). u.hand) same);
        fewer = k;
        left_is = refl;
        vain = subst (InVain image bank n Rest name k t.hand) rests (subst (λ (u : Turn). InVain image bank n Rest name k u.hand us) same v);
      })

  vain_none : {left : ℕ} {last : Result Next Refusal} {ts : List Turn} → InVain image bank n Rest name left last ts → ts ≡ [] → left ≡ 0
  vain_none (enough _) e = refl
  vain_none (in-vain spent v) e = no_way cc

  record Times·Head {S : Type 0} (times : ℕ) (o : Told S) (os : List (Told S)) : Type 0 where
    rest : ℕ
    times-rest : Times name rest os
    no_more : rest ≤ times
    counts : (size : ℕ) → o.next ≡ Ok (Send name size) → times ≡ suc rest

  times_head : {S : Type 0} {times : ℕ} {l : List (Told S)} (o : Told S) (os : List (Told S)) → Times name times l → l ≡ o ∷ os
      → Times·Head times o os
  times_head o os no_time e = no_way cc
  times_head {S} o os (another {k = k} {o = p} {os = ps} other t) e =
      let same : p ≡ o = cc in
      let rests : ps ≡ os = cc in
      record {
        rest = k;
        times-rest = subst (Times name k) rests t;
        no_more = omega arith;
        counts = λ size q. absurd (other size (ap (λ (x : Told S). x.next) same ∙ q));
      }
  times_head o os (once_more {k = k} {o = p} {os = ps} q t) e =
      let rests : ps ≡ os = cc in
      record { rest = k; times-rest = subst (Times name k) rests t; no_more = omega arith; counts = λ size _. refl }

  module _ {S : Type 0} (m : NightSender S) where
    vain-counted : (gs : List Given) (o : Told S) (left times : ℕ) {last : Result Next Refusal} → InVain image bank n Rest name left last (turns_of m image o gs)
        → Times name times (o ∷ tolds m image o.record_then gs) → left ≤ times
    vain-counted [] o left times v t = let none_left = vain_none v refl in omega arith
    vain-counted (g ∷ gs) o left times v t =
        let next-told : Told S = m.event o.record_then g.event image g.buffer in
        let ts : List Turn = turns_of m image next-told gs in
        let h : Times·Head times o (next-told ∷ tolds m image next-told.record_then gs) =
        times_head o (next-told ∷ tolds m image next-told.record_then gs) t refl in
        by h.rest h.counts (λ fewer x. vain-counted gs next-told fewer h.rest x h.times-rest)
        (vain_head (turn o.next g.event) ts v refl)
      where
        by : (rest : ℕ) → ((size : ℕ) → o.next ≡ Ok (Send name size) → times ≡ suc rest)
            → ((fewer : ℕ) → InVain image bank n Rest name fewer o.next (turns_of m image (m.event o.record_then g.event image g.buffer) gs) → fewer ≤ rest)
            → (left ≡ 0) ⊎ Vain·Head left (turn o.next g.event) (turns_of m image (m.event o.record_then g.event image g.buffer) gs)
            → left ≤ times
        by rest counts ih (inl z) = omega arith
        by rest counts ih (inr k) =
            let less : k.fewer ≤ rest = ih k.fewer k.vain in
            omega (arith, k.left_is, counts k.size k.hand-is)

    tried-counted : (tries : ℕ) (gs : List Given) (o : Told S) (times : ℕ) {last : Result Next Refusal} {ts : List Turn} → TriedInVain image bank n Rest name tries last ts
        → ts ≡ turns_of m image o gs → Times name times (o ∷ tolds m image o.record_then gs) → tries ≤ times
    tried-counted tries gs o times {last} (from-here new v) e t = vain-counted gs o tries times (subst (InVain image bank n Rest name tries last) e v) t
    tried-counted tries [] o times (from-later x) e t = no_way cc
    tried-counted tries (g ∷ gs) o times (from-later {t = u} {rest = us} x) e t =
        let next-told : Told S = m.event o.record_then g.event image g.buffer in
        let rests : us ≡ turns_of m image next-told gs = cc in
        let h : Times·Head times o (next-told ∷ tolds m image next-told.record_then gs) =
        times_head o (next-told ∷ tolds m image next-told.record_then gs) t refl in
        omega (arith, tried-counted tries gs next-told h.rest x rests h.times-rest, h.no_more)

pub no_early : {S : Type 0} (m : NightSender S) → GivesUpEarly m → MeetsGivingUp m → ⊥
no_early m k meets =
    let b = k.begin in
    let few = k.fewer in
    let many : b.tries ≤ k.times =
    tried-counted b.image b.bank b.n (AllTold (Ok (GaveUp k.name Tries))) k.name m b.tries k.events (m.start b.image b.bank b.n b.tries b.before) k.times
    (meets.why-tries b.image b.bank b.n b.tries b.before k.events k.name b.starts b.roomy k.roomy k.gives_up)
    refl k.counted in
    absurd (omega arith)

pub one_early : GivesUpEarly hopeless
one_early =
    record {
      begin = some_begin;
      events = [];
      roomy = none;
      name = ModeStart;
      gives_up = refl;
      times = 0;
      counted = another (λ size e. let q : (Ok (GaveUp ModeStart Tries)) ≡ (Ok (Send ModeStart size)) = e in no_way cc) no_time;
      fewer = omega (arith, some_begin.starts.low);
    }
