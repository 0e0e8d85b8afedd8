-- The closed loop: each answer that the board has given to the night sender tells of it as it stands now, and what the night sender has passed
-- it has heard. Told once for any openers whose modes count and any passages, whether others send or not.
-- Assumes nothing.
use Rattle.std.specs.Prelude.{Option, Some, None}
use mathlib.Core.Path.{◌≡◌, refl, sym, ap, subst, ◌∙◌}
use mathlib.Core.Logic.{◌⊎◌, inl, inr}
use mathlib.Core.Bool.{true, false, false≢true}
use mathlib.Core.List.{List, [], ◌∷◌, ◌++◌, append_assoc, append-nil}
use Prim.Native.Nat.{ℕ, zero, suc, ◌+◌, ◌^◌, ◌≤◌, ◌<◌}
use native.Mathlib.Decide.{dec_lt}
use native.Mathlib.Omega.{arith}
use lib.Dec.{leb, ltb}
use lib.ListN.{length, get_or}
use borrow.Author.Tests.{ltb-false}
use Rattle.std.specs.Prelude.{Ok}
use Rattle.buffer.proofs.Bools.{split, no_way}
use Rattle.buffer.proofs.Places.{front_take}
use Rattle.frame.specs.Read.{read_of}
use Rattle.layout.specs.declared.Bank.{Bank}
use Rattle.layout.specs.Layout.{bank_size, sector_of}
use Rattle.commands.specs.declared.Command.TheVariants as command
use Rattle.response.specs.declared.read.Response.{Response}
use Rattle.response.specs.declared.read.Response.TheVariants.{Plain, Error, Target, Firmware, Written}
use Rattle.response.specs.Response.{response_in, response_of}
use Rattle.sender.specs.declared.request.Request.TheVariants as request
use Rattle.sender.specs.Made.{room}
use Rattle.sender.specs.Packet.{packet_count, packet_sector}
use Rattle.sender.specs.Request.{request_frame}
use Rattle.sender.proofs.Packets.{Sent, sent_in}
use Rattle.client.specs.Perform.{Accepted}
use Rattle.decision.specs.declared.plan.Fixed.{Fixed}
use Rattle.calls.specs.Call.{Board}
use Rattle.night.specs.declared.name.Name.{Name}
use Rattle.night.specs.declared.name.Name.TheVariants.{ModeStart, VersionInfo, BankInfo, WriteStart, Packet, WriteEnd, ModeEnd}
use Rattle.night.specs.declared.record.Night.{Night}
use Rattle.night.specs.declared.record.Stand.{Stand}
use Rattle.night.specs.declared.record.Stand.TheVariants.{NotBegun, At, Finished, GaveUp}
use Rattle.night.specs.Call.{Event, heard_in, next_of}
use Rattle.night.specs.Name.{number_of, frame_of}
use Rattle.night.specs.Record.{following_of}
use Rattle.night.proofs.Judged.{Moved, onward, again, up, moved_by, own_ended, version_settled, Fields, packet_settled}
use Rattle.demands.specs.Board.{LentCall, Input, Initiate, Terminate, Datagram, Outcome, said, Machine, after, outcomes, step_machine}
use Rattle.demands.specs.Demand1.{Unchanged}
use Rattle.demands.specs.Session.{noted}
use Rattle.demands.specs.Night.{Told, NightSender, night_sender, Startable, AnyVersion, version, Stored}
use Rattle.demands.specs.NightLoop.{
  Passage,
  HostInitiates,
  HostTerminates,
  Arrives,
  Another,
  Arrival,
  EachIn,
  no_passage,
  passage_more,
  EachPassage,
  no_rounds,
  each_more,
  NoOther,
  NobodyElse,
  call_of,
  input_of,
  inputs_of,
  Comes,
  Nothing,
  Answer,
  Round,
  RoomyRounds,
  no_round,
  round_more,
  Loop,
  request_after,
  said_on,
  said_in,
  event_by,
  round,
  rounds,
  begins,
  is_in,
  MeetsLoop,
  Updated,
}
use Rattle.demands.proofs.NightBoard.{
  is_early,
  is_ending,
  ending_late,
  Ours,
  AllIn,
  Writing,
  Clean,
  Done,
  Ends,
  Says,
  Moves,
  mode-start-moves,
  version-moves,
  bank-moves,
  write-start-moves,
  packet-moves,
  write-end-moves,
  mode-end-moves,
  initiate-moves,
  terminate-moves,
}
use Rattle.demands.proofs.NightRuns.{Right, SettlesAt, moves, toldAt, stays-right, begins-right, start_is, event-is, frame_short}
use Rattle.demands.proofs.Steps.{after_both, machine_stays, run_stays, run_running}

-- ---- the board behind one input more

pub at_next : (start : Board) (is : List Input) (b : Board) (i : Input) → after step_machine start is ≡ b
    → after step_machine start (is ++ (i ∷ [])) ≡ (step_machine b i).board
at_next start is b i e = after_both step_machine start is (i ∷ []) ∙ ap (λ (x : Board). (step_machine x i).board) e

-- ---- answers of this run

pub data Among (a : List ℕ) : List (List ℕ) → Type 0 where
  here : {rest : List (List ℕ)} → Among a (a ∷ rest)
  behind : {x : List ℕ} {rest : List (List ℕ)} → Among a rest → Among a (x ∷ rest)

among_more : {a : List ℕ} (xs ys : List (List ℕ)) → Among a xs → Among a (xs ++ ys)
among_more {a = a} [] ys m = elim m [ ]
among_more (x ∷ xs) ys here = here
among_more (x ∷ xs) ys (behind m) = behind (among_more xs ys m)

among_last : (a : List ℕ) (xs : List (List ℕ)) → Among a (xs ++ (a ∷ []))
among_last a [] = here
among_last a (x ∷ xs) = behind (among_last a xs)

among_parts : {a : List ℕ} (xs : List (List ℕ)) (b : List ℕ) → Among a (xs ++ (b ∷ [])) → Among a xs ⊎ (a ≡ b)
among_parts [] b here = inr refl
among_parts {a = a} [] b (behind m) = elim m [ ]
among_parts (x ∷ xs) b here = inl here
among_parts (x ∷ xs) b (behind m) = by (among_parts xs b m)
  where
    by : {a : List ℕ} → Among a xs ⊎ (a ≡ b) → Among a (x ∷ xs) ⊎ (a ≡ b)
    by (inl n) = inl (behind n)
    by (inr e) = inr e

-- one of them, by its place, or an empty datagram
among_at : (xs : List (List ℕ)) (i : ℕ) → Among (get_or xs i []) xs ⊎ (get_or xs i [] ≡ [])
among_at [] i = inr (getD-none i)
  where
    getD-none : (i : ℕ) → get_or {A = List ℕ} [] i [] ≡ []
    getD-none zero = refl
    getD-none (suc i) = refl
among_at (x ∷ xs) zero = inl here
among_at (x ∷ xs) (suc i) = by (among_at xs i)
  where
    by : Among (get_or xs i []) xs ⊎ (get_or xs i [] ≡ []) → Among (get_or xs i []) (x ∷ xs) ⊎ (get_or xs i [] ≡ [])
    by (inl m) = inl (behind m)
    by (inr e) = inr e

-- a response that is heard is one of them, or says nothing
pub data From (answers : List (List ℕ)) : Option Response → Type 0 where
  one : {a : List ℕ} → Among a answers → From answers (response_of a)
  none : From answers None

empty_reads : response_of [] ≡ None
unfolding read_of response_in
empty_reads = refl

pub event_from : (answers : List (List ℕ)) (c : Comes) → From answers (heard_in (event_by answers c))
event_from answers Nothing = none
event_from answers (Answer i) = by (among_at answers i)
  where
    by : Among (get_or answers i []) answers ⊎ (get_or answers i [] ≡ []) → From answers (response_of (get_or answers i []))
    by (inl m) = one m
    by (inr e) = subst (From answers) (sym (ap response_of e ∙ empty_reads)) none

-- one of the answers reads so
pub record HeardIn (answers : List (List ℕ)) (Q : Option Response → Type 0) : Type 0 where
  pub bytes : List ℕ
  pub among : Among bytes answers
  pub reads : Q (response_of bytes)

heard_more : {Q : Option Response → Type 0} (xs ys : List (List ℕ)) → HeardIn xs Q → HeardIn (xs ++ ys) Q
heard_more xs ys h = record { bytes = h.bytes; among = among_more xs ys h.among; reads = h.reads }

heard_from : (answers : List (List ℕ)) (Q : Option Response → Type 0) (r : Option Response) → From answers r → (Q None → ⊥) → Q r → HeardIn answers Q
heard_from answers Q r (one {a} m) never q = record { bytes = a; among = m; reads = q }
heard_from answers Q r none never q = absurd (never q)

-- ---- what has been heard where a request is at hand, and what each answer tells

module _ (image : List ℕ) (bank : Bank) (n tries : ℕ) (st : Startable image n tries) where
  abbrev count : ℕ
  count = packet_count image n

  size : length image ≡ bank_size n
  size = omega (arith, st.whole)

  abbrev VersionHeard : List (List ℕ) → Type 0
  VersionHeard answers = HeardIn answers AnyVersion

  abbrev PacketsHeard : ℕ → List (List ℕ) → Type 0
  PacketsHeard p answers = (q : ℕ) → q < p → HeardIn answers (Stored image (packet_sector image n q))

  abbrev EndHeard : List (List ℕ) → Type 0
  EndHeard answers = HeardIn answers (λ (r : Option Response). r ≡ Some (Plain command.WriteEnd 0x06))

  abbrev pub Past : Name → List (List ℕ) → Type 0
  Past ModeStart answers = Unit {0}
  Past VersionInfo answers = Unit {0}
  Past BankInfo answers = VersionHeard answers
  Past WriteStart answers = VersionHeard answers
  Past (Packet p) answers = VersionHeard answers × PacketsHeard p answers
  Past WriteEnd answers = VersionHeard answers × PacketsHeard count answers
  Past ModeEnd answers = EndHeard answers

  packets_more : (p : ℕ) (xs ys : List (List ℕ)) → PacketsHeard p xs → PacketsHeard p (xs ++ ys)
  packets_more p xs ys h q l = heard_more xs ys (h q l)

  past_more : (k : Name) (xs ys : List (List ℕ)) → Past k xs → Past k (xs ++ ys)
  past_more ModeStart xs ys h = tt
  past_more VersionInfo xs ys h = tt
  past_more BankInfo xs ys h = heard_more xs ys h
  past_more WriteStart xs ys h = heard_more xs ys h
  past_more (Packet p) xs ys h = (heard_more xs ys h.0, packets_more p xs ys h.1)
  past_more WriteEnd xs ys h = (heard_more xs ys h.0, packets_more count xs ys h.1)
  past_more ModeEnd xs ys h = heard_more xs ys h

  -- the request that went out last, by where the record stands
  abbrev pub lastName : Stand → Name
  lastName NotBegun = ModeStart
  lastName (At name gone) = name
  lastName Finished = ModeEnd
  lastName (GaveUp name why) = name

  -- one packet more was heard
  packet_more : (p : ℕ) (answers : List (List ℕ)) → PacketsHeard p answers → HeardIn answers (Stored image (packet_sector image n p))
      → PacketsHeard (p + 1) answers
  packet_more p answers before h q l = by (dec_lt q p)
    where
      by : Dec (q < p) → HeardIn answers (Stored image (packet_sector image n q))
      by (yes m) = before q m
      by (no m) =
          let e : p ≡ q = omega arith in
          subst (λ (x : ℕ). HeardIn answers (Stored image (packet_sector image n x))) e h

  no_version : AnyVersion None → ⊥
  no_version a = by None refl a
    where
      by : (r : Option Response) → r ≡ None → AnyVersion r → ⊥
      by r e (version id major minor revision) = no_way cc

  -- ---- the request at hand

  named : (stand : Stand) → Right count tries stand → number_of (lastName stand) < count
  named NotBegun r = absurd r
  named (At name gone) r = r.2
  named Finished r = st.some
  named (GaveUp name why) r = r

  -- an end names the request that was at hand
  abbrev AtEnd : Name → Stand → Type 0
  AtEnd name NotBegun = Unit {0}
  AtEnd name (At k gone) = Unit {0}
  AtEnd name Finished = name ≡ ModeEnd
  AtEnd name (GaveUp k why) = name ≡ k

  following_end : (name : Name) → AtEnd name (following_of name count)
  following_end ModeStart = tt
  following_end VersionInfo = tt
  following_end BankInfo = tt
  following_end WriteStart = tt
  following_end (Packet p) = split (AtEnd (Packet p)) (ltb (p + 1) count) (λ _. tt) (λ _. tt)
  following_end WriteEnd = tt
  following_end ModeEnd = refl

  at_end : (name : Name) (gone : ℕ) (event : Event) {stand : Stand}
      → Moved count tries name gone (SettlesAt image bank n tries name gone event) stand → AtEnd name stand
  at_end name gone event (onward t) = following_end name
  at_end name gone event (again n h) = tt
  at_end name gone event (up n) = refl

  -- what is at hand then
  pub request_then : (stand : Stand) (event : Event) (buffer former : List ℕ) → Right count tries stand → room ≤ length buffer
      → former ≡ frame_of image bank n (lastName stand)
      → request_after (toldAt image bank n tries buffer (moves image bank n tries stand event)).next (toldAt image bank n tries buffer (moves image bank n tries stand event)).buffer former
      ≡ frame_of image bank n (lastName (moves image bank n tries stand event))
  request_then NotBegun event buffer former r h e = absurd r
  request_then (At name gone) event buffer former r h e =
      by (moves image bank n tries (At name gone) event) (stays-right image bank n tries st (At name gone) event r)
      (at_end name gone event (moved_by name gone bank image (packet_sector image n (number_of name)) (heard_in event) count tries))
    where
      by : (s : Stand) → Right count tries s → AtEnd name s
          → request_after (toldAt image bank n tries buffer s).next (toldAt image bank n tries buffer s).buffer former ≡ frame_of image bank n (lastName s)
      by NotBegun q a = absurd q
      by (At k g) q a =
          let f = frame_short image bank n tries st k q.2 in
          front_take buffer (frame_of image bank n k) (omega arith)
      by Finished q a = e ∙ ap (frame_of image bank n) a
      by (GaveUp k why) q a = e ∙ ap (frame_of image bank n) a
  request_then Finished event buffer former r h e = e
  request_then (GaveUp name why) event buffer former r h e = e

  pub first_request : (before : List ℕ) (b : Board) → room ≤ length before
      → (begins night_sender step_machine image bank n tries before b).request ≡ frame_of image bank n ModeStart
  first_request before b h =
      let f = frame_short image bank n tries st ModeStart st.some in
      ap (λ (o : Told Night). request_after o.next o.buffer []) (start_is image bank n tries st before h)
      ∙ front_take before (frame_of image bank n ModeStart) (omega arith)

-- D is what the answer 06 to the write end brought, by all that was put to the board since `start` and by the board
module _ (image : List ℕ) (bank : Bank) (n tries : ℕ) (st : Startable image n tries) (P : List ℕ → Type 0) (start : Board)
    (D : List Input → Board → Type 0) where
  abbrev pub Tells : Name → List Input → Board → List ℕ → Option Response → Type 0
  Tells k is b g None = Unit {0}
  Tells k is b g (Some (Plain command.ModeStart r)) = Unit {0}
  Tells k is b g (Some (Plain command.BankInfo r)) = Unit {0}
  Tells k is b g (Some (Plain command.VersionInfo r)) = Unit {0}
  Tells k is b g (Some (Plain command.WriteStart r)) = Unit {0}
  Tells k is b g (Some (Plain command.WriteEnd r)) = r ≡ 0x06 → (is_ending k ≡ true) × D is b
  Tells k is b g (Some (Plain command.ModeEnd r)) = Unit {0}
  Tells k is b g (Some (Error r)) = Unit {0}
  Tells k is b g (Some (Target x)) = Unit {0}
  Tells k is b g (Some (Firmware id major minor revision)) = Clean image bank n P b g
  Tells k is b g (Some (Written s r w crc)) =
      r ≡ 0x06 → Accepted w → (is_early k ≡ false) × (Writing image bank n P b → 1 ≤ s → s ≤ n → sector_of g s ≡ sector_of image s)

  pub record Inv (k : Name) (is : List Input) (b : Board) (answers : List (List ℕ)) : Type 0 where
    pub ghost : List ℕ
    pub known : (a : List ℕ) → Among a answers → Tells k is b ghost (response_of a)
    pub past : Past image bank n tries st k answers
    pub revision : b.client.fixed.revision < 2 ^ 32
    pub at : after step_machine start is ≡ b

  -- ---- what follows of it

  module _ (k : Name) (is : List Input) (b : Board) (answers : List (List ℕ)) (v : Inv k is b answers) where
    pub clean-heard : VersionHeard image bank n tries st answers → Clean image bank n P b v.ghost
    clean-heard h = by (response_of h.bytes) h.reads (v.known h.bytes h.among)
      where
        by : (r : Option Response) → AnyVersion r → Tells k is b v.ghost r → Clean image bank n P b v.ghost
        by r (version id major minor revision) t = t

    pub end_heard : EndHeard image bank n tries st answers → D is b
    end_heard h = (subst (Tells k is b v.ghost) h.reads (v.known h.bytes h.among) refl).1

    pub all-heard : Writing image bank n P b → PacketsHeard image bank n tries st (packet_count image n) answers → AllIn image bank n v.ghost
    all-heard w h q l =
        let s : Sent image n (packet_sector image n q) = sent_in image n q l in
        let i = h q l in
        let t = subst (Tells k is b v.ghost) i.reads.reads (v.known i.bytes i.among) refl i.reads.accepted in
        t.1 w s.low s.high

  abbrev Cleans : Name → Board → List ℕ → Type 0
  Cleans k b g = is_early k ≡ false → Clean image bank n P b g

  -- ---- answers, old and new

  abbrev BringsOn : Name → Board → List ℕ → Board → List ℕ → Type 0
  BringsOn k b g c h =
      is_early k ≡ false → Clean image bank n P b g → Writing image bank n P c
      → Writing image bank n P b × ((s : ℕ) → 1 ≤ s → s ≤ n → sector_of g s ≡ sector_of image s → sector_of h s ≡ sector_of image s)

  -- what was told is so still
  tells_still : (k : Name) (is : List Input) (b : Board) (g : List ℕ) (js : List Input) (c : Board) (h : List ℕ) → Cleans k b g
      → (Clean image bank n P b g → Clean image bank n P c h) → BringsOn k b g c h → (is_ending k ≡ true → D is b → D js c)
      → (r : Option Response) → Tells k is b g r → Tells k js c h r
  tells_still k is b g js c h clean m kept d None t = tt
  tells_still k is b g js c h clean m kept d (Some (Plain command.ModeStart r)) t = tt
  tells_still k is b g js c h clean m kept d (Some (Plain command.BankInfo r)) t = tt
  tells_still k is b g js c h clean m kept d (Some (Plain command.VersionInfo r)) t = tt
  tells_still k is b g js c h clean m kept d (Some (Plain command.WriteStart r)) t = tt
  tells_still k is b g js c h clean m kept d (Some (Plain command.WriteEnd r)) t = λ e. ((t e).0, d (t e).0 (t e).1)
  tells_still k is b g js c h clean m kept d (Some (Plain command.ModeEnd r)) t = tt
  tells_still k is b g js c h clean m kept d (Some (Error r)) t = tt
  tells_still k is b g js c h clean m kept d (Some (Target x)) t = tt
  tells_still k is b g js c h clean m kept d (Some (Firmware id major minor revision)) t = m t
  tells_still k is b g js c h clean m kept d (Some (Written s r w crc)) t = λ e a.
      let early = (t e a).0 in
      (early, λ write l u. let before = kept early (clean early) write in before.1 s l u ((t e a).1 before.0 l u))

  -- the new answer tells as much
  tells_new : (k : Name) (b : Board) (g : List ℕ) (js : List Input) (o : Outcome) (h : List ℕ) → Cleans k b g
      → (k ≡ WriteEnd → Writing image bank n P b → AllIn image bank n g)
      → (Ends image bank n P k b g o → Done image bank n P o.board → D js o.board)
      → (r : Option Response) → Says image bank n P k b g o h r → Tells k js o.board h r
  tells_new k b g js o h clean all d None t = tt
  tells_new k b g js o h clean all d (Some (Plain command.ModeStart r)) t = tt
  tells_new k b g js o h clean all d (Some (Plain command.BankInfo r)) t = tt
  tells_new k b g js o h clean all d (Some (Plain command.VersionInfo r)) t = tt
  tells_new k b g js o h clean all d (Some (Plain command.WriteStart r)) t = tt
  tells_new k b g js o h clean all d (Some (Plain command.WriteEnd r)) t = λ e.
      let x = t e in
      let is : k ≡ WriteEnd = x.hand in
      (ap is_ending is, d x (x.done (clean (ap is_early is)) (all is x.writing)))
  tells_new k b g js o h clean all d (Some (Plain command.ModeEnd r)) t = tt
  tells_new k b g js o h clean all d (Some (Error r)) t = tt
  tells_new k b g js o h clean all d (Some (Target x)) t = tt
  tells_new k b g js o h clean all d (Some (Firmware id major minor revision)) t = t
  tells_new k b g js o h clean all d (Some (Written s r w crc)) t = λ e a. ((t e a).0, λ write l u. (t e a).1 (clean (t e a).0) write)

  all_in : (k : Name) (is : List Input) (b : Board) (answers : List (List ℕ)) (v : Inv k is b answers) → k ≡ WriteEnd → Writing image bank n P b
      → AllIn image bank n v.ghost
  all_in k is b answers v e w = all-heard k is b answers v w (subst (λ (x : Name). Past image bank n tries st x answers) e v.past).1

  -- nothing was answered yet
  pub first_known : start.client.fixed.revision < 2 ^ 32 → Inv ModeStart [] start []
  first_known revision = record { ghost = []; known = λ a among. absurd (nothing_yet a among); past = tt; revision = revision; at = refl }
    where
      nothing_yet : (a : List ℕ) → Among a [] → ⊥
      nothing_yet a m = by [] refl m
        where
          by : (l : List (List ℕ)) → l ≡ [] → Among a l → ⊥
          by [] e m = elim m [ ]
          by (x ∷ l) e here = no_way cc
          by (x ∷ l) e (behind m) = no_way cc

  -- ---- an event

  -- a later request: what was told is told of it too
  advance : (k l : Name) → (is_early k ≡ false → is_early l ≡ false) → (is_ending k ≡ true → is_ending l ≡ true)
      → (is : List Input) (b : Board) (answers : List (List ℕ)) → Past image bank n tries st l answers
      → Inv k is b answers → Inv l is b answers
  advance k l early ending is b answers past v =
      record { ghost = v.ghost; known = λ a among. by (response_of a) (v.known a among); past = past; revision = v.revision; at = v.at }
    where
      by : (r : Option Response) → Tells k is b v.ghost r → Tells l is b v.ghost r
      by None t = tt
      by (Some (Plain command.ModeStart r)) t = tt
      by (Some (Plain command.BankInfo r)) t = tt
      by (Some (Plain command.VersionInfo r)) t = tt
      by (Some (Plain command.WriteStart r)) t = tt
      by (Some (Plain command.WriteEnd r)) t = λ e. (ending (t e).0, (t e).1)
      by (Some (Plain command.ModeEnd r)) t = tt
      by (Some (Error r)) t = tt
      by (Some (Target x)) t = tt
      by (Some (Firmware id major minor revision)) t = t
      by (Some (Written s r w crc)) t = λ e a. (early (t e a).0, (t e a).1)

  abbrev pub InvAt : Stand → List Input → Board → List (List ℕ) → Type 0
  InvAt stand is b answers = Inv (lastName image bank n tries st stand) is b answers

  follow : (k : Name) (gone : ℕ) (event : Event) (is : List Input) (b : Board) (answers : List (List ℕ)) → number_of k < packet_count image n
      → SettlesAt image bank n tries k gone event
      → From answers (heard_in event) → Inv k is b answers → InvAt (following_of k (packet_count image n)) is b answers
  follow ModeStart gone event is b answers l t f v = advance ModeStart VersionInfo (λ e. absurd (false≢true (sym e))) (λ e. absurd (false≢true e)) is b answers tt v
  follow VersionInfo gone event is b answers l t f v =
      advance VersionInfo BankInfo (λ e. absurd (false≢true (sym e))) (λ e. absurd (false≢true e)) is b answers
      (heard_from answers AnyVersion (heard_in event) f (no_version image bank n tries st) (version_settled AnyVersion version (heard_in event) t)) v
  follow BankInfo gone event is b answers l t f v = advance BankInfo WriteStart (λ e. absurd (false≢true (sym e))) (λ e. absurd (false≢true e)) is b answers v.past v
  follow WriteStart gone event is b answers l t f v =
      advance WriteStart (Packet 0) (λ _. refl) (λ e. absurd (false≢true e)) is b answers (v.past, λ q h. absurd (omega arith)) v
  follow (Packet p) gone event is b answers l t f v =
      split (λ (s : Stand). InvAt s is b answers) (ltb (p + 1) (packet_count image n))
      (λ _. advance (Packet p) (Packet (p + 1)) (λ e. e) (λ e. e) is b answers (v.past.0, more) v)
      (λ e.
      let least = ltb-false (p + 1) (packet_count image n) e in
      let last : p + 1 ≡ packet_count image n = omega arith in
      advance (Packet p) WriteEnd (λ _. refl) (λ e. absurd (false≢true e)) is b answers
      (v.past.0, subst (λ (x : ℕ). PacketsHeard image bank n tries st x answers) last more) v)
    where
      is-stored : (number result write crc : ℕ) → Fields image (packet_sector image n p) number result write crc
          → Stored image (packet_sector image n p) (Some (Written number result write crc))
      is-stored number result write crc a =
          record {
            write = write;
            accepted = a.write-is;
            reads = rw (a.number_is, a.result-is, a.crc-is);
          }

      more : PacketsHeard image bank n tries st (p + 1) answers
      more =
          packet_more image bank n tries st p answers v.past.1
          (heard_from answers (Stored image (packet_sector image n p)) (heard_in event) f (λ s. no_way (cc s.reads))
          (packet_settled image (packet_sector image n p) (Stored image (packet_sector image n p)) is-stored (heard_in event) t))
  follow WriteEnd gone event is b answers l t f v =
      advance WriteEnd ModeEnd (λ _. refl) (λ _. refl) is b answers
      (heard_from answers (λ (r : Option Response). r ≡ Some (Plain command.WriteEnd 0x06)) (heard_in event) f (λ e. no_way cc) (own_ended command.WriteEnd (leb 2 gone) (heard_in event) t)) v
  follow ModeEnd gone event is b answers l t f v = v

  pub event_keeps : (stand : Stand) (event : Event) (is : List Input) (b : Board) (answers : List (List ℕ)) → Right (packet_count image n) tries stand → From answers (heard_in event)
      → InvAt stand is b answers → InvAt (moves image bank n tries stand event) is b answers
  event_keeps NotBegun event is b answers r f v = v
  event_keeps (At name gone) event is b answers r f v =
      by (moved_by name gone bank image (packet_sector image n (number_of name)) (heard_in event) (packet_count image n) tries)
    where
      by : {stand : Stand} → Moved (packet_count image n) tries name gone (SettlesAt image bank n tries name gone event) stand → InvAt stand is b answers
      by (onward t) = follow name gone event is b answers r.2 t f v
      by (again n h) = v
      by (up n) = v
  event_keeps Finished event is b answers r f v = v
  event_keeps (GaveUp name why) event is b answers r f v = v

  -- it is in where that is told
  pub in_done : (stand : Stand) → Right (packet_count image n) tries stand → is_in (Ok (next_of image bank n stand)) ≡ true → (is : List Input) (b : Board) (answers : List (List ℕ))
      → InvAt stand is b answers
      → D is b
  in_done NotBegun r e is b answers v = absurd r
  in_done (At name gone) r e is b answers v = absurd (false≢true e)
  in_done Finished r e is b answers v = end_heard ModeEnd is b answers v v.past
  in_done (GaveUp ModeStart why) r e is b answers v = absurd (false≢true e)
  in_done (GaveUp VersionInfo why) r e is b answers v = absurd (false≢true e)
  in_done (GaveUp BankInfo why) r e is b answers v = absurd (false≢true e)
  in_done (GaveUp WriteStart why) r e is b answers v = absurd (false≢true e)
  in_done (GaveUp (Packet p) why) r e is b answers v = absurd (false≢true e)
  in_done (GaveUp WriteEnd why) r e is b answers v = absurd (false≢true e)
  in_done (GaveUp ModeEnd why) r e is b answers v = end_heard ModeEnd is b answers v v.past

  -- ---- one input

  still_small : (b : Board) (i : Input) → b.client.fixed.revision < 2 ^ 32 → (step_machine b i).board.client.fixed.revision < 2 ^ 32
  still_small b i h = subst (λ (f : Fixed). f.revision < 2 ^ 32) (sym (machine_stays b i)) h

  -- a passage: which are looked at (Q), and what is known of them
  module _ (Q : Passage → Type 0) (own : (a : Arrival) → Q (Arrives a) → P a.address)
      (rests : (is : List Input) (b : Board) → D is b → Writing image bank n P b → ⊥)
      (ends : (is : List Input) (b : Board) (g asked : List ℕ) (a : Arrival) → Q (Arrives a) → asked ≡ request_frame request.WriteEnd
      → after step_machine start is ≡ b → Ends image bank n P WriteEnd b g (step_machine b (Datagram (call_of asked a)))
      → Done image bank n P (step_machine b (Datagram (call_of asked a))).board
      → D (is ++ (Datagram (call_of asked a) ∷ [])) (step_machine b (Datagram (call_of asked a))).board)
      (goes : (k : Name) (is : List Input) (b : Board) (asked : List ℕ) (p : Passage) → is_ending k ≡ true → Q p → asked ≡ frame_of image bank n k
      → (NoOther p → Done image bank n P b → Done image bank n P (step_machine b (input_of asked p)).board)
      → (Writing image bank n P (step_machine b (input_of asked p)).board → Writing image bank n P b)
      → D is b → D (is ++ (input_of asked p ∷ [])) (step_machine b (input_of asked p)).board)
      (others : (b : Board) (call : LentCall) → Q (Another call) → Writing image bank n P (step_machine b (Datagram call)).board
      → (step_machine b (Datagram call)).board ≡ b) where
    pub cleans : (k : Name) (is : List Input) (b : Board) (answers : List (List ℕ)) (v : Inv k is b answers) → Cleans k b v.ghost
    cleans ModeStart is b answers v e = absurd (false≢true (sym e))
    cleans VersionInfo is b answers v e = absurd (false≢true (sym e))
    cleans BankInfo is b answers v e = absurd (false≢true (sym e))
    cleans WriteStart is b answers v e = absurd (false≢true (sym e))
    cleans (Packet p) is b answers v e = clean-heard (Packet p) is b answers v v.past.0
    cleans WriteEnd is b answers v e = clean-heard WriteEnd is b answers v v.past.0
    cleans ModeEnd is b answers v e = λ w. absurd (rests is b (end_heard ModeEnd is b answers v v.past) w)

    -- one that brings the night sender no answer
    silent-keeps : (k : Name) (is : List Input) (b : Board) (answers : List (List ℕ)) (v : Inv k is b answers) (asked : List ℕ) (p : Passage)
        → Q p → asked ≡ frame_of image bank n k
        → (Clean image bank n P b v.ghost → Clean image bank n P (step_machine b (input_of asked p)).board v.ghost)
        → BringsOn k b v.ghost (step_machine b (input_of asked p)).board v.ghost
        → (is_ending k ≡ true → NoOther p → Done image bank n P b → Done image bank n P (step_machine b (input_of asked p)).board)
        → Inv k (is ++ (input_of asked p ∷ [])) (step_machine b (input_of asked p)).board answers
    silent-keeps k is b answers v asked p q f clean kept moves =
        let i : Input = input_of asked p in
        record {
          ghost = v.ghost;
          known = λ a among.
              tells_still k is b v.ghost (is ++ (i ∷ [])) (step_machine b i).board v.ghost (cleans k is b answers v) clean kept
              (λ z d. goes k is b asked p z q f (moves z) (λ w. (kept (ending_late k z) (cleans k is b answers v (ending_late k z)) w).0) d)
              (response_of a) (v.known a among);
          past = v.past;
          revision = still_small b i v.revision;
          at = at_next start is b i v.at;
        }

    -- a host command
    host-keeps : (k : Name) (is : List Input) (b : Board) (answers : List (List ℕ)) (v : Inv k is b answers) (asked : List ℕ) (p : Passage)
        → Q p → asked ≡ frame_of image bank n k → Moves image bank n P k b v.ghost (step_machine b (input_of asked p)) v.ghost
        → Inv k (is ++ (input_of asked p ∷ [])) (step_machine b (input_of asked p)).board answers
    host-keeps k is b answers v asked p q f m = silent-keeps k is b answers v asked p q f m.clean m.kept (λ z _. m.done z)

    -- somebody else's datagram
    other-keeps : (k : Name) (is : List Input) (b : Board) (answers : List (List ℕ)) (v : Inv k is b answers) (asked : List ℕ) (call : LentCall) → Q (Another call)
        → asked ≡ frame_of image bank n k
        → Inv k (is ++ (Datagram call ∷ [])) (step_machine b (Datagram call)).board answers
    other-keeps k is b answers v asked call q f =
        let c : Board = (step_machine b (Datagram call)).board in
        let same : Writing image bank n P c → c ≡ b = others b call q in
        let back : Writing image bank n P c → Writing image bank n P b = λ w. subst (Writing image bank n P) (same w) w in
        silent-keeps k is b answers v asked (Another call) q f
        (λ clean w. subst (λ (x : Board). Ours image bank n x v.ghost) (sym (same w)) (clean (back w)))
        (λ _ _ w. (back w, λ s l u e. e)) (λ _ x. absurd x)

    -- the request at hand, which is answered
    input-keeps : (k : Name) (is : List Input) (b : Board) (answers : List (List ℕ)) (v : Inv k is b answers) (asked : List ℕ) (a : Arrival) (h : List ℕ)
        → Q (Arrives a) → asked ≡ frame_of image bank n k → Moves image bank n P k b v.ghost (step_machine b (Datagram (call_of asked a))) h
        → Inv k (is ++ (Datagram (call_of asked a) ∷ [])) (step_machine b (Datagram (call_of asked a))).board (answers ++ (said (step_machine b (Datagram (call_of asked a))) ∷ []))
    input-keeps k is b answers v asked a h q f m =
        record {
          ghost = h;
          known = λ x among. by x (among_parts answers (said o) among);
          past = past_more image bank n tries st k answers (said o ∷ []) v.past;
          revision = still_small b i v.revision;
          at = at_next start is b i v.at;
        }
      where
        i : Input
        i = Datagram (call_of asked a)

        o : Outcome
        o = step_machine b i

        brought : Ends image bank n P k b v.ghost o → Done image bank n P o.board → D (is ++ (i ∷ [])) o.board
        brought x d =
            ends is b v.ghost asked a q (f ∙ ap (frame_of image bank n) x.hand) v.at
            (subst (λ (z : Name). Ends image bank n P z b v.ghost o) x.hand x) d

        by : (x : List ℕ) → Among x answers ⊎ (x ≡ said o) → Tells k (is ++ (i ∷ [])) o.board h (response_of x)
        by x (inl among) =
            tells_still k is b v.ghost (is ++ (i ∷ [])) o.board h (cleans k is b answers v) m.clean m.kept
            (λ z d.
            goes k is b asked (Arrives a) z q f (λ _. m.done z) (λ w. (m.kept (ending_late k z) (cleans k is b answers v (ending_late k z)) w).0) d)
            (response_of x) (v.known x among)
        by x (inr z) =
            subst (λ (y : List ℕ). Tells k (is ++ (i ∷ [])) o.board h (response_of y)) (sym z)
            (tells_new k b v.ghost (is ++ (i ∷ [])) o h (cleans k is b answers v) (all_in k is b answers v) brought (response_of (said o)) m.says)

    -- the request at hand arrives
    request-moves : (b : Board) (g : List ℕ) → b.client.fixed.revision < 2 ^ 32 → (k : Name) → number_of k < packet_count image n → (call : LentCall)
        → P call.address → call.datagram ≡ frame_of image bank n k
        → Moves image bank n P k b g (step_machine b (Datagram call)) (noted b.client.fixed.n g (Datagram call) (step_machine b (Datagram call)))
    request-moves b g revision ModeStart l call o e = mode-start-moves image bank n P b g call e
    request-moves b g revision VersionInfo l call o e = version-moves image bank n P b g call revision e
    request-moves b g revision BankInfo l call o e = bank-moves image bank n P b g call e
    request-moves b g revision WriteStart l call o e = write-start-moves image bank n P b g call st.good e
    request-moves b g revision (Packet p) l call o e = packet-moves image bank n P st.good (size image bank n tries st) p l b g call e
    request-moves b g revision WriteEnd l call o e = write-end-moves image bank n P (size image bank n tries st) b g call o e
    request-moves b g revision ModeEnd l call o e = mode-end-moves image bank n P b g call e

    unheard : (k : Name) (is : List Input) (i : Input) (b : Board) (answers : List (List ℕ)) → Inv k (is ++ (i ∷ [])) (step_machine b i).board answers
        → Inv k (is ++ (i ∷ [])) (step_machine b i).board (answers ++ [])
    unheard k is i b answers v = subst (Inv k (is ++ (i ∷ [])) (step_machine b i).board) (sym (append-nil answers)) v

    passage-keeps : (k : Name) → number_of k < packet_count image n → (request : List ℕ) → request ≡ frame_of image bank n k
        → (is : List Input) (b : Board) (answers : List (List ℕ)) (p : Passage) → Q p → Inv k is b answers
        → Inv k (is ++ (input_of request p ∷ [])) (step_machine b (input_of request p)).board (answers ++ said_on p (step_machine b (input_of request p)))
    passage-keeps k l request e is b answers HostInitiates q v =
        unheard k is Initiate b answers (host-keeps k is b answers v request HostInitiates q e (initiate-moves image bank n P k b v.ghost))
    passage-keeps k l request e is b answers HostTerminates q v =
        unheard k is Terminate b answers (host-keeps k is b answers v request HostTerminates q e (terminate-moves image bank n P k b v.ghost))
    passage-keeps k l request e is b answers (Arrives a) q v =
        input-keeps k is b answers v request a _ q e (request-moves b v.ghost v.revision k l (call_of request a) (own a q) e)
    passage-keeps k l request e is b answers (Another call) q v = unheard k is (Datagram call) b answers (other-keeps k is b answers v request call q e)

    pub passages-keep : (k : Name) → number_of k < packet_count image n → (request : List ℕ) → request ≡ frame_of image bank n k
        → (ps : List Passage) → EachIn Q ps → (is : List Input) (b : Board) (answers : List (List ℕ)) → Inv k is b answers
        → Inv k (is ++ inputs_of request ps) (after step_machine b (inputs_of request ps)) (answers ++ said_in ps (outcomes step_machine b (inputs_of request ps)))
    passages-keep k l request e [] no_passage is b answers v =
        subst (λ (x : List Input). Inv k x b (answers ++ [])) (sym (append-nil is)) (subst (Inv k is b) (sym (append-nil answers)) v)
    passages-keep k l request e (p ∷ ps) (passage_more q qs) is b answers v =
        let i : Input = input_of request p in
        let o : Outcome = step_machine b i in
        let rest : List (List ℕ) = said_in ps (outcomes step_machine o.board (inputs_of request ps)) in
        let last : Board = after step_machine o.board (inputs_of request ps) in
        subst (λ (x : List Input). Inv k x last (answers ++ (said_on p o ++ rest))) (append_assoc is (i ∷ []) (inputs_of request ps))
        (subst (Inv k ((is ++ (i ∷ [])) ++ inputs_of request ps) last) (append_assoc answers (said_on p o) rest)
        (passages-keep k l request e ps qs (is ++ (i ∷ [])) o.board (answers ++ said_on p o) (passage-keeps k l request e is b answers p q v)))

    -- ---- the loop

    pub record LoopInv (l : Loop Night) : Type 0 where
      pub stand : Stand
      pub buffer : List ℕ
      pub told : l.told ≡ toldAt image bank n tries buffer stand
      pub right : Right (packet_count image n) tries stand
      pub request : l.request ≡ frame_of image bank n (lastName image bank n tries st stand)
      pub inv : InvAt stand l.inputs l.board l.answers

    pub round_keeps : (l : Loop Night) (r : Round) → room ≤ length r.buffer → EachIn Q r.passages → LoopInv l → LoopInv (round night_sender step_machine image l r)
    round_keeps l r h qs v =
        let inputs : List Input = inputs_of l.request r.passages in
        let b : Board = after step_machine l.board inputs in
        let answers : List (List ℕ) = l.answers ++ said_in r.passages (outcomes step_machine l.board inputs) in
        let event : Event = event_by answers r.comes in
        let s : Stand = v.stand in
        let told-then : night_sender.event l.told.record_then event image r.buffer ≡ toldAt image bank n tries r.buffer (moves image bank n tries s event) =
        ap (λ (o : Told Night). night_sender.event o.record_then event image r.buffer) v.told
        ∙ event-is image bank n tries st s event r.buffer v.right h in
        record {
          stand = moves image bank n tries s event;
          buffer = r.buffer;
          told = told-then;
          right = stays-right image bank n tries st s event v.right;
          request =
              ap (λ (o : Told Night). request_after o.next o.buffer l.request) told-then
              ∙ request_then image bank n tries st s event r.buffer l.request v.right h v.request;
          inv =
              event_keeps s event (l.inputs ++ inputs) b answers v.right (event_from answers r.comes)
              (passages-keep (lastName image bank n tries st s) (named image bank n tries st s v.right) l.request v.request r.passages qs l.inputs l.board l.answers v.inv);
        }

    pub rounds-keep : (rs : List Round) (l : Loop Night) → RoomyRounds rs → EachPassage Q rs → LoopInv l → LoopInv (rounds night_sender step_machine image l rs)
    rounds-keep [] l no_round no_rounds v = v
    rounds-keep (r ∷ rs) l (round_more h hs) (each_more q qs) v =
        rounds-keep rs (round night_sender step_machine image l r) hs qs (round_keeps l r h q v)

    pub begins_so : (before : List ℕ) → room ≤ length before → start.client.fixed.revision < 2 ^ 32
        → LoopInv (begins night_sender step_machine image bank n tries before start)
    begins_so before h revision =
        record {
          stand = At ModeStart 1;
          buffer = before;
          told = start_is image bank n tries st before h;
          right = begins-right image bank n tries st;
          request = first_request image bank n tries st before start h;
          inv = first_known revision;
        }

    -- where it is told to be in
    pub loop-in : (before : List ℕ) (rs : List Round) → room ≤ length before → RoomyRounds rs → EachPassage Q rs → start.client.fixed.revision < 2 ^ 32
        → is_in (rounds night_sender step_machine image (begins night_sender step_machine image bank n tries before start) rs).told.next ≡ true
        → D (rounds night_sender step_machine image (begins night_sender step_machine image bank n tries before start) rs).inputs (rounds night_sender step_machine image (begins night_sender step_machine image bank n tries before start) rs).board
    loop-in before rs h hs qs revision e =
        let l : Loop Night = begins night_sender step_machine image bank n tries before start in
        let v = rounds-keep rs l hs qs (begins_so before h revision) in
        let last : Loop Night = rounds night_sender step_machine image l rs in
        in_done v.stand v.right (sym (ap (λ (o : Told Night). is_in o.next) v.told) ∙ e) last.inputs last.board last.answers v.inv

-- the board is what all its inputs made of the first one
pub board_after : {S : Type 0} (m : NightSender S) (machine : Machine) (image : List ℕ) (b : Board) (rs : List Round) (l : Loop S)
    → after machine b l.inputs ≡ l.board
    → after machine b (rounds m machine image l rs).inputs ≡ (rounds m machine image l rs).board
board_after m machine image b [] l e = e
board_after m machine image b (r ∷ rs) l e =
    let is : List Input = inputs_of l.request r.passages in
    board_after m machine image b rs (round m machine image l r)
    (after_both machine b l.inputs is ∙ ap (λ (x : Board). after machine x is) e)

-- what no input changes is as it was when all began
pub updated : {image : List ℕ} {bank : Bank} {n : ℕ} {P : List ℕ → Type 0} {start b : Board} (is : List Input) → after step_machine start is ≡ b
    → Done image bank n P b → Updated start b image bank n
updated {start = start} is at d =
    record {
      sectors = d.sectors;
      target = d.target;
      is_image = d.is_image;
      starts_next = d.starts_next;
      kept = subst (Unchanged start) at (record { client = run_stays is start; bytes = run_running is start });
    }

-- ---- where nobody else sends, every opener's mode counts

abbrev pub Anyone : List ℕ → Type 0
Anyone opener = Unit {0}

module _ (image : List ℕ) (bank : Bank) (n tries : ℕ) (st : Startable image n tries) (start : Board) where
  abbrev pub UpdateIn : List Input → Board → Type 0
  UpdateIn is b = Done image bank n Anyone b

  abbrev pub Known : Name → List Input → Board → List (List ℕ) → Type 0
  Known k is b answers = Inv image bank n tries st Anyone start UpdateIn k is b answers

  pub known_on : (k : Name) → number_of k < packet_count image n → (asked : List ℕ) → asked ≡ frame_of image bank n k → (ps : List Passage) → EachIn NoOther ps
      → (is : List Input) (b : Board) (answers : List (List ℕ)) → Known k is b answers
      → Known k (is ++ inputs_of asked ps) (after step_machine b (inputs_of asked ps)) (answers ++ said_in ps (outcomes step_machine b (inputs_of asked ps)))
  known_on =
      passages-keep image bank n tries st Anyone start UpdateIn NoOther (λ a q. tt) (λ is b d w. d.resting w) (λ is b g asked a q f z x d. d)
      (λ k is b asked p z q f moves back d. moves q d) (λ b call q w. absurd q)

  pub update_in : (before : List ℕ) (rs : List Round) → room ≤ length before → RoomyRounds rs → NobodyElse rs → start.client.fixed.revision < 2 ^ 32
      → is_in (rounds night_sender step_machine image (begins night_sender step_machine image bank n tries before start) rs).told.next ≡ true
      → Done image bank n Anyone (rounds night_sender step_machine image (begins night_sender step_machine image bank n tries before start) rs).board
  update_in =
      loop-in image bank n tries st Anyone start UpdateIn NoOther (λ a q. tt) (λ is b d w. d.resting w) (λ is b g asked a q f z x d. d)
      (λ k is b asked p z q f moves back d. moves q d) (λ b call q w. absurd q)

pub loop_met : MeetsLoop night_sender step_machine
loop_met image bank n tries before b rs st h hs alone revision e =
    let l : Loop Night = begins night_sender step_machine image bank n tries before b in
    updated (rounds night_sender step_machine image l rs).inputs (board_after night_sender step_machine image b rs l refl)
    (update_in image bank n tries st b before rs h hs alone revision e)
