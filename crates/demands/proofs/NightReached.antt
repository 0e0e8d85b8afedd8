-- T·(P + 6) events can come: each request goes out T times, and the awaited response comes to the last of them.
-- Assumes nothing.
use Rattle.std.specs.Prelude.{Option, Some}
use mathlib.Core.Path.{◌≡◌, refl, sym, ap, subst, ◌∙◌}
use mathlib.Core.Bool.{false, or-true}
use mathlib.Core.List.{List, [], ◌∷◌, ◌++◌, foldl}
use mathlib.Core.Logic.{inl}
use Prim.Native.Nat.{ℕ, zero, suc, ◌+◌, ◌-◌, ◌*◌, ◌/◌, ◌%◌, ◌^◌, ◌≤◌, ◌<◌}
use native.Mathlib.Nat.{mul-suc}
use native.Mathlib.Omega.{arith}
use lib.Dec.{eqb, leb}
use lib.ListN.{length, replicate, length-append, length-replicate}
use Rattle.std.specs.Prelude.{Ok}
use Rattle.buffer.specs.Number.{bytes_of}
use Rattle.buffer.proofs.Bools.{no_way}
use Rattle.commands.specs.declared.Command.TheVariants as command
use Rattle.crc.specs.Crc.{crc_of}
use Rattle.crc.proofs.Laws.{of_lt}
use Rattle.frame.specs.Checksum.{checksum_of, taken_away}
use Rattle.frame.specs.Frame.{footer_byte, framed, control_frame, write_frame}
use Rattle.frame.specs.declared.read.Footer.TheVariants.{End}
use Rattle.layout.specs.declared.Bank.{Bank}
use Rattle.layout.specs.declared.Bank.TheVariants.{Zero, One}
use Rattle.layout.specs.Layout.{bank_number, sector_of}
use Rattle.response.specs.declared.read.Response.{Response}
use Rattle.response.specs.declared.read.Response.TheVariants.{Plain, Target, Firmware, Written}
use Rattle.response.specs.Response.{may_carry, added_of, repeats_of, stored_of, crc_fits, response_of}
use Rattle.response.proofs.Answers.{plain_back, bank_back, version_back, written_back}
use Rattle.sender.specs.Made.{room}
use Rattle.sender.specs.Packet.{packet_count, packet_sector}
use Rattle.sender.proofs.Packets.{packet_small}
use Rattle.night.specs.declared.name.Name.{Name}
use Rattle.night.specs.declared.name.Name.TheVariants.{ModeStart, VersionInfo, BankInfo, WriteStart, Packet, WriteEnd, ModeEnd}
use Rattle.night.specs.declared.record.Stand.{Stand}
use Rattle.night.specs.declared.record.Stand.TheVariants.{At}
use Rattle.night.specs.Call.{Heard, Silence, next_of}
use Rattle.night.specs.Name.{number_of}
use Rattle.night.proofs.Judged.{Settling, done_own, ended_own, settled_version, settled_bank, settled_packet, silence_repeats}
use Rattle.demands.specs.Night.{night_sender, Given, Roomy, none, more, Startable, Bytewise, unheard, heard, is_over, BoundReached}
use Rattle.demands.specs.Responses.{spelled}
use Rattle.demands.specs.Written.{AreBytes}
use Rattle.demands.proofs.NightOrder.{behind_length}
use Rattle.demands.proofs.NightRuns.{behind, Goes, onto, done, repeats, ends, SettlesAt, moves, lastStand, goes_at, run_ends}
use Rattle.demands.proofs.WrittenLines.{bytes_cons, bytes_none, bytes_append}

-- ---- frames are bytes

sum_low : (bytes : List ℕ) (sum : ℕ) → sum < 256 → foldl taken_away sum bytes < 256
unfolding taken_away
sum_low [] sum h = h
sum_low (x ∷ xs) sum h = sum_low xs ((sum + 256 - x) % 256) (omega arith)

framed_bytes : (start : ℕ) (covered : List ℕ) (footer : ℕ) → start < 256 → AreBytes covered → footer < 256 → AreBytes (framed start covered footer)
unfolding framed checksum_of
framed_bytes start covered footer a c f =
    bytes_append (start ∷ covered) (foldl taken_away 0x00 covered ∷ footer ∷ []) (bytes_cons start covered a c)
    (bytes_cons (foldl taken_away 0x00 covered) (footer ∷ []) (sum_low covered 0x00 (omega arith)) (bytes_cons footer [] f bytes_none))

control_bytes : (code : ℕ) (parameters : List ℕ) → code < 256 → length parameters < 255 → AreBytes parameters
    → AreBytes (control_frame code parameters)
unfolding control_frame
control_bytes code parameters c l b =
    framed_bytes 0x01 (length (code ∷ parameters) ∷ code ∷ parameters) 0x03 (omega arith)
    (bytes_cons (length (code ∷ parameters)) (code ∷ parameters) (omega arith) (bytes_cons code parameters c b))
    (omega arith)

number_are_bytes : (w number : ℕ) → AreBytes (bytes_of w number)
unfolding bytes_of
number_are_bytes zero number = bytes_none
number_are_bytes (suc w) number = bytes_cons (number / 256 ^ w % 256) (bytes_of w number) (omega arith) (number_are_bytes w number)

write_bytes : (sector : ℕ) (bytes : List ℕ) → AreBytes bytes → AreBytes (write_frame sector bytes End)
unfolding write_frame footer_byte
write_bytes sector bytes b =
    framed_bytes 0x02 (bytes_of 2 sector ++ bytes_of 2 (length bytes) ++ bytes) 0x03 (omega arith)
    (bytes_append (bytes_of 2 sector ++ bytes_of 2 (length bytes)) bytes
    (bytes_append (bytes_of 2 sector) (bytes_of 2 (length bytes)) (number_are_bytes 2 sector) (number_are_bytes 2 (length bytes))) b)
    (omega arith)

one_byte : (x : ℕ) → x < 256 → AreBytes (x ∷ [])
one_byte x h = bytes_cons x [] h bytes_none

plain_bytes : (code : ℕ) → code < 256 → AreBytes (control_frame code (0x06 ∷ []))
plain_bytes code h = control_bytes code (0x06 ∷ []) h (omega arith) (one_byte 0x06 (omega arith))

version_bytes : AreBytes (control_frame 0x78 (0x06 ∷ bytes_of 2 0x0400 ++ 1 ∷ 0 ∷ bytes_of 4 0))
unfolding bytes_of
version_bytes =
    control_bytes 0x78 (0x06 ∷ bytes_of 2 0x0400 ++ 1 ∷ 0 ∷ bytes_of 4 0) (omega arith) (omega arith)
    (bytes_append (0x06 ∷ bytes_of 2 0x0400) (1 ∷ 0 ∷ bytes_of 4 0) (bytes_cons 0x06 (bytes_of 2 0x0400) (omega arith) (number_are_bytes 2 0x0400))
    (bytes_cons 1 (0 ∷ bytes_of 4 0) (omega arith) (bytes_cons 0 (bytes_of 4 0) (omega arith) (number_are_bytes 4 0))))

bank_low : (bank : Bank) → bank_number bank < 256
bank_low Zero = omega arith
bank_low One = omega arith

bank_bytes : (bank : Bank) → AreBytes (control_frame 0x72 (0x06 ∷ bank_number bank ∷ []))
bank_bytes bank =
    control_bytes 0x72 (0x06 ∷ bank_number bank ∷ []) (omega arith) (omega arith)
    (bytes_cons 0x06 (bank_number bank ∷ []) (omega arith) (one_byte (bank_number bank) (bank_low bank)))

-- ---- the awaited response to each request

module _ (image : List ℕ) (bank : Bank) (n : ℕ) where
  abbrev stored : ℕ → ℕ
  stored p = crc_of (sector_of image (packet_sector image n p))

  abbrev reply : Name → Option Response
  reply ModeStart = Some (Plain command.ModeStart 0x06)
  reply VersionInfo = Some (Firmware 0x0400 1 0 0)
  reply BankInfo = Some (Target bank)
  reply WriteStart = Some (Plain command.WriteStart 0x06)
  reply (Packet p) = Some (Written (packet_sector image n p) 0x06 0x06 (stored p))
  reply WriteEnd = Some (Plain command.WriteEnd 0x06)
  reply ModeEnd = Some (Plain command.ModeEnd 0x06)

  reply_bytes : (name : Name) → AreBytes (spelled (reply name))
  reply_bytes ModeStart = plain_bytes 0x71 (omega arith)
  reply_bytes VersionInfo = version_bytes
  reply_bytes BankInfo = bank_bytes bank
  reply_bytes WriteStart = plain_bytes 0x70 (omega arith)
  reply_bytes (Packet p) =
      write_bytes (packet_sector image n p) (0x06 ∷ 0x06 ∷ bytes_of 4 (stored p))
      (bytes_cons 0x06 (0x06 ∷ bytes_of 4 (stored p)) (omega arith) (bytes_cons 0x06 (bytes_of 4 (stored p)) (omega arith) (number_are_bytes 4 (stored p))))
  reply_bytes WriteEnd = plain_bytes 0x75 (omega arith)
  reply_bytes ModeEnd = plain_bytes 0x74 (omega arith)

  module _ (tries : ℕ) (s : Startable image n tries) where
    reply-read : (name : Name) → number_of name < packet_count image n → response_of (spelled (reply name)) ≡ reply name
    unfolding may_carry added_of repeats_of crc_fits stored_of
    reply-read ModeStart h = sym (plain_back command.ModeStart 0x06 refl refl)
    reply-read VersionInfo h = sym (version_back 0x0400 1 0 0 (omega arith) (omega arith))
    reply-read BankInfo h = sym (bank_back bank)
    reply-read WriteStart h = sym (plain_back command.WriteStart 0x06 refl refl)
    reply-read (Packet p) h =
        sym
        (written_back (packet_sector image n p) 0x06 0x06 (stored p) (packet_small image n p s.good (packet_sector image n p) h refl)
        (of_lt (sector_of image (packet_sector image n p)))
        refl refl refl (or-true (eqb (stored p) 0)))
    reply-read WriteEnd h = sym (plain_back command.WriteEnd 0x06 refl refl)
    reply-read ModeEnd h = sym (plain_back command.ModeEnd 0x06 refl refl)

    reply-settles : (name : Name) (gone : ℕ) → number_of name < packet_count image n
        → SettlesAt image bank n tries name gone (Heard (spelled (reply name)))
    reply-settles name gone h =
        subst (Settling name (leb 2 gone) bank image (packet_sector image n (number_of name))) (sym (reply-read name h)) (by name)
      where
        by : (k : Name) → Settling k (leb 2 gone) bank image (packet_sector image n (number_of k)) (reply k)
        by ModeStart = done_own command.ModeStart (leb 2 gone) (reply ModeStart) (inl refl)
        by VersionInfo = settled_version 0x0400 1 0 0
        by BankInfo = settled_bank bank (reply BankInfo) refl
        by WriteStart = done_own command.WriteStart (leb 2 gone) (reply WriteStart) (inl refl)
        by (Packet p) = settled_packet image (packet_sector image n p) 0x06 (inl refl)
        by WriteEnd = ended_own command.WriteEnd (leb 2 gone) (reply WriteEnd) refl
        by ModeEnd = done_own command.ModeEnd (leb 2 gone) (reply ModeEnd) (inl refl)

    -- ---- the events: each request goes out T times

    module _ (before : List ℕ) (h : room ≤ length before) where
      abbrev quiet : Given
      quiet = record { event = Silence; buffer = before }

      abbrev replying : Name → Given
      replying name = record { event = Heard (spelled (reply name)); buffer = before }

      abbrev waiting : List Given → List Given
      waiting rest = replicate (tries - 1) quiet ++ rest

      abbrev waits : Name → List Name → List Given
      waits name [] = waiting []
      waits name (k ∷ names) = waiting (replying name ∷ waits k names)

      roomy-on : (k : ℕ) (rest : List Given) → Roomy rest → Roomy (replicate k quiet ++ rest)
      roomy-on zero rest r = r
      roomy-on (suc k) rest r = more h (roomy-on k rest r)

      roomy-waits : (name : Name) (names : List Name) → Roomy (waits name names)
      roomy-waits name [] = roomy-on (tries - 1) [] none
      roomy-waits name (k ∷ names) = roomy-on (tries - 1) (replying name ∷ waits k names) (more h (roomy-waits k names))

      bytes_on : (k : ℕ) (rest : List Given) → Bytewise rest → Bytewise (replicate k quiet ++ rest)
      bytes_on zero rest r = r
      bytes_on (suc k) rest r = heard tt (bytes_on k rest r)

      bytes-waits : (name : Name) (names : List Name) → Bytewise (waits name names)
      bytes-waits name [] = bytes_on (tries - 1) [] unheard
      bytes-waits name (k ∷ names) = bytes_on (tries - 1) (replying name ∷ waits k names) (heard (reply_bytes name) (bytes-waits k names))

      waiting-length : (rest : List Given) → suc (length (waiting rest)) ≡ tries + length rest
      waiting-length rest =
          omega (arith, length-append (replicate (tries - 1) quiet) rest, length-replicate (tries - 1) quiet, s.low)

      waits-length : (name : Name) (names : List Name) → suc (length (waits name names)) ≡ tries * suc (length names)
      waits-length name [] = omega (arith, waiting-length [])
      waits-length name (k ∷ names) =
          omega (arith, waiting-length (replying name ∷ waits k names), waits-length k names, mul-suc tries (suc (length names)))

      abbrev final : Stand → List Given → Stand
      final = lastStand image bank n tries

      silences : (k : ℕ) (name : Name) (gone : ℕ) (rest : List Given) → gone + k ≤ tries
          → final (At name gone) (replicate k quiet ++ rest) ≡ final (At name (gone + k)) rest
      silences zero name gone rest l = let same : gone ≡ gone + 0 = omega arith in ap (λ (x : ℕ). final (At name x) rest) same
      silences (suc k) name gone rest l =
          let same : gone + 1 + k ≡ gone + suc k = omega arith in
          ap (λ (x : Stand). final x (replicate k quiet ++ rest))
          (silence_repeats (leb 2 gone) name gone tries (packet_count image n) bank image (packet_sector image n (number_of name)) (omega arith))
          ∙ silences k name (gone + 1) rest (omega arith)
          ∙ ap (λ (x : ℕ). final (At name x) rest) same

      waited : (name : Name) (rest : List Given) → final (At name 1) (waiting rest) ≡ final (At name tries) rest
      waited name rest =
          let low = s.low in
          let all : 1 + (tries - 1) ≡ tries = omega arith in
          silences (tries - 1) name 1 rest (omega arith) ∙ ap (λ (x : ℕ). final (At name x) rest) all

      -- the awaited response, and the next request goes out
      record Onto (next : Name) (names : List Name) (stand : Stand) : Type 0 where
        there : number_of next < packet_count image n
        rest : behind (packet_count image n) next ≡ names
        stands : stand ≡ At next 1

      goes-onto : (name next : Name) (names : List Name) {gone : ℕ} {settling : Type 0} {stand : Stand} → settling
          → behind (packet_count image n) name ≡ next ∷ names → Goes (packet_count image n) tries name gone settling stand → Onto next names stand
      goes-onto name next names t e (onto {next = k} _ b r) =
          let same : k ≡ next = cc in
          let rests : behind (packet_count image n) k ≡ names = cc in
          record {
            there = subst (λ (x : Name). number_of x < packet_count image n) same r.2;
            rest = sym (ap (behind (packet_count image n)) same) ∙ rests;
            stands = ap (λ (x : Name). At x 1) same;
          }
      goes-onto name next names t e (done _ b) = no_way cc
      goes-onto name next names t e (repeats no-settling l) = absurd (no-settling t)
      goes-onto name next names t e (ends no-settling) = absurd (no-settling t)

      replied : (name next : Name) (names : List Name) → number_of name < packet_count image n → behind (packet_count image n) name ≡ next ∷ names
          → Onto next names (moves image bank n tries (At name tries) (Heard (spelled (reply name))))
      replied name next names l e =
          goes-onto name next names (reply-settles name tries l) e
          (goes_at image bank n tries s name tries (Heard (spelled (reply name))) (s.low, omega arith, l))

      abbrev Runs : Stand → Type 0
      Runs stand = is_over (Ok (next_of image bank n stand)) ≡ false

      runs_on : (names : List Name) (name : Name) → number_of name < packet_count image n → behind (packet_count image n) name ≡ names
          → Runs (final (At name 1) (waits name names))
      runs_on [] name l e = subst Runs (sym (waited name [])) refl
      runs_on (k ∷ names) name l e =
          let o = replied name k names l e in
          subst Runs
          (sym (waited name (replying name ∷ waits k names) ∙ ap (λ (x : Stand). final x (waits k names)) o.stands))
          (runs_on names k o.there o.rest)

pub bound_reached : BoundReached night_sender
bound_reached image bank n tries before s h =
    let names : List Name = behind (packet_count image n) ModeStart in
    let roomies = roomy-waits image bank n tries s before h ModeStart names in
    record {
      events = waits image bank n tries s before h ModeStart names;
      roomy = roomies;
      bytes = bytes-waits image bank n tries s before h ModeStart names;
      many = waits-length image bank n tries s before h ModeStart names
          ∙ ap (λ (x : ℕ). tries * x) (ap suc (behind_length (packet_count image n)) ∙ omega arith);
      runs = ap is_over (run_ends image bank n tries s before (waits image bank n tries s before h ModeStart names) h roomies)
          ∙ runs_on image bank n tries s before h names ModeStart s.some refl;
    }
