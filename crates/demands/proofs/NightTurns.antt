-- The turns of a run of any night sender: which event settles a request, and that a sender that is as asked heard the write end answered.
-- Assumes nothing.
use Rattle.std.specs.Prelude.{Some}
use mathlib.Core.Path.{◌≡◌, refl, sym, ap, ap₂, subst, ◌∙◌}
use mathlib.Core.Bool.{false}
use mathlib.Core.List.{List, [], ◌∷◌, ◌++◌}
use mathlib.Core.Logic.{◌⊎◌, inl, inr}
use Prim.Native.Nat.{ℕ, zero, suc, ◌+◌, ◌≤◌, ◌<◌}
use native.Mathlib.Decide.{dec_lt}
use native.Mathlib.Omega.{arith}
use Rattle.std.specs.Prelude.{Result, Ok}
use Rattle.buffer.specs.Number.{byte_at}
use Rattle.buffer.proofs.Bools.{no_way}
use Rattle.commands.specs.declared.Command.TheVariants as command
use Rattle.frame.specs.Checksum.{checksum_of, taken_away}
use Rattle.frame.specs.Frame.{framed, control_frame}
use Rattle.layout.specs.declared.Bank.{Bank}
use Rattle.response.specs.declared.read.Response.TheVariants.{Plain}
use Rattle.response.specs.Response.{response_of}
use Rattle.response.specs.Six.{six_of}
use Rattle.response.proofs.Six.{unreadable, six_exactly}
use Rattle.sender.specs.Packet.{packet_count}
use Rattle.night.specs.declared.name.Name.{Name}
use Rattle.night.specs.declared.name.Name.TheVariants.{ModeStart, VersionInfo, BankInfo, WriteStart, Packet, WriteEnd, ModeEnd}
use Rattle.night.specs.declared.record.Next.{Next}
use Rattle.night.specs.declared.record.Next.TheVariants as next
use Rattle.night.specs.declared.record.Refusal.{Refusal}
use Rattle.night.specs.Call.{Heard}
use Rattle.demands.specs.Night.{
  Told,
  NightSender,
  Given,
  first,
  packets_from,
  Turn,
  turn,
  turns_of,
  Settles,
  SettledIn,
  here,
  after,
  EachSettled,
  one,
  MeetsSettled,
  EndAnswered,
  answered,
  later_answered,
  BytesIn,
  Bytewise,
  heard,
  FinishedMeansEnded,
}
use Rattle.demands.specs.Responses.{spelled}
use Rattle.demands.proofs.Responses.{responses_meet}

module _ (image : List ℕ) (bank : Bank) (n : ℕ) where
  -- this event settles the request that is at hand
  pub record Hits (name : Name) (last : Result Next Refusal) (t : Turn) : Type 0 where
    pub size : ℕ
    pub datagram : List ℕ
    pub hand-is : t.hand ≡ Ok (next.Send name size)
    pub event-is : t.event ≡ Heard datagram
    pub settles : Settles image bank n name last (response_of datagram)

  pub now_or_later : (name : Name) {last : Result Next Refusal} {ts : List Turn} (t : Turn) (rest : List Turn) → SettledIn image bank n name last ts → ts ≡ t ∷ rest
      → Hits name last t ⊎ SettledIn image bank n name t.hand rest
  now_or_later name t rest (here {size = size} {datagram = datagram} x) e =
      let same : turn (Ok (next.Send name size)) (Heard datagram) ≡ t = cc in
      inl
      (record {
        size = size;
        datagram = datagram;
        hand-is = sym (ap (λ (u : Turn). u.hand) same);
        event-is = sym (ap (λ (u : Turn). u.event) same);
        settles = x;
      })
  now_or_later name t rest (after {t = u} {rest = us} x) e =
      let same : u ≡ t = cc in
      let rests : us ≡ rest = cc in
      inr (subst (SettledIn image bank n name t.hand) rests (subst (λ (v : Turn). SettledIn image bank n name v.hand us) same x))

  pub nothing_settled : (name : Name) {last : Result Next Refusal} {ts : List Turn} → ts ≡ [] → SettledIn image bank n name last ts → ⊥
  nothing_settled name e (here x) = no_way cc
  nothing_settled name e (after x) = no_way cc

  -- one of the names

  write_end_in : (names : List Name) {last : Result Next Refusal} {ts : List Turn} → EachSettled image bank n (names ++ (WriteEnd ∷ ModeEnd ∷ [])) last ts
      → SettledIn image bank n WriteEnd last ts
  write_end_in [] (one w ws) = w
  write_end_in (name ∷ names) (one x xs) = write_end_in names xs

  pub mode_end_in : (names : List Name) {last : Result Next Refusal} {ts : List Turn} → EachSettled image bank n (names ++ (WriteEnd ∷ ModeEnd ∷ [])) last ts
      → SettledIn image bank n ModeEnd last ts
  mode_end_in [] (one w (one m ms)) = m
  mode_end_in (name ∷ names) (one x xs) = mode_end_in names xs

  pub packet_among : (first_packet k p : ℕ) {last : Result Next Refusal} {ts : List Turn} → first_packet ≤ p → p < first_packet + k
      → EachSettled image bank n (packets_from first_packet k ++ (WriteEnd ∷ ModeEnd ∷ [])) last ts → SettledIn image bank n (Packet p) last ts
  packet_among first_packet zero p l h es = absurd (omega arith)
  packet_among first_packet (suc k) p {last} {ts} l h (one x xs) =
      by (dec_lt first_packet p) (λ d. packet_among (suc first_packet) k p d (omega arith) xs)
    where
      by : Dec (first_packet < p) → (first_packet < p → SettledIn image bank n (Packet p) last ts) → SettledIn image bank n (Packet p) last ts
      by (yes d) ih = ih d
      by (no d) ih = let same : first_packet ≡ p = omega arith in subst (λ (i : ℕ). SettledIn image bank n (Packet i) last ts) same x

-- ---- the write end's answer

end_bytes : control_frame 0x75 (0x06 ∷ []) ≡ 0x01 ∷ 0x02 ∷ 0x75 ∷ 0x06 ∷ 0x83 ∷ 0x03 ∷ []
unfolding control_frame framed checksum_of taken_away
end_bytes = refl

-- what reads so are these six bytes
six_bytes : (d : List ℕ) → ((i : ℕ) → byte_at d i < 256) → response_of d ≡ Some (Plain command.WriteEnd 0x06)
    → d ≡ 0x01 ∷ 0x02 ∷ 0x75 ∷ 0x06 ∷ 0x83 ∷ 0x03 ∷ []
six_bytes d small e =
    let read : six_of d ≡ false = sym (six_exactly d) ∙ ap unreadable e in
    sym (responses_meet.else d small read).whole ∙ ap spelled e ∙ end_bytes

module _ {S : Type 0} (m : NightSender S) (image : List ℕ) (bank : Bank) (n : ℕ) where
  hit_answered : (t : Turn) (rest : List Turn) {last : Result Next Refusal} → BytesIn t.event → Hits image bank n WriteEnd last t → EndAnswered (t ∷ rest)
  hit_answered t rest {last} b h = by h.settles
    where
      by : Settles image bank n WriteEnd last (response_of h.datagram) → EndAnswered (t ∷ rest)
      by (inl e) =
          let bytes = six_bytes h.datagram (subst BytesIn h.event-is b) e in
          let same : turn (Ok (next.Send WriteEnd h.size)) (Heard (0x01 ∷ 0x02 ∷ 0x75 ∷ 0x06 ∷ 0x83 ∷ 0x03 ∷ [])) ≡ t =
          ap₂ turn (sym h.hand-is) (sym (h.event-is ∙ ap Heard bytes)) in
          subst (λ (u : Turn). EndAnswered (u ∷ rest)) same answered
      by (inr d) = absurd d.0

  ended : (o : Told S) (gs : List Given) (last : Result Next Refusal) → Bytewise gs → SettledIn image bank n WriteEnd last (turns_of m image o gs)
      → EndAnswered (turns_of m image o gs)
  ended o [] last b x = absurd (nothing_settled image bank n WriteEnd refl x)
  ended o (g ∷ gs) last (heard b bs) x =
      by
      (now_or_later image bank n WriteEnd (turn o.next g.event) (turns_of m image (m.event o.record_then g.event image g.buffer) gs) x refl)
      (ended (m.event o.record_then g.event image g.buffer) gs o.next bs)
    where
      rest : List Turn
      rest = turns_of m image (m.event o.record_then g.event image g.buffer) gs

      by : Hits image bank n WriteEnd last (turn o.next g.event) ⊎ SettledIn image bank n WriteEnd o.next rest
          → (SettledIn image bank n WriteEnd o.next rest → EndAnswered rest) → EndAnswered (turn o.next g.event ∷ rest)
      by (inl h) ih = hit_answered (turn o.next g.event) rest b h
      by (inr y) ih = later_answered (ih y)

pub end_answered : {S : Type 0} (m : NightSender S) → MeetsSettled m → FinishedMeansEnded m
end_answered m meets image bank n tries before gs s h hs b e =
    ended m image bank n (first m image bank n tries before gs) gs (Ok next.NotBegun) b
    (write_end_in image bank n (ModeStart ∷ VersionInfo ∷ BankInfo ∷ WriteStart ∷ packets_from 0 (packet_count image n))
    (meets.only image bank n tries before gs s h hs e))
