-- A night whose board another gateway takes over behind its mode end; and a board that takes every datagram for the opener's does not keep the
-- update until its mode is left. The two runs are computed, with an image of one sector.
-- Assumes nothing.
use mathlib.Core.Path.{◌≡◌, refl, sym, ap, ◌∙◌}
use mathlib.Core.Bool.{Bool, true, false, not, ◌&&◌, false≢true}
use mathlib.Core.List.{List, [], ◌∷◌, ◌++◌}
use Prim.Native.Nat.{ℕ, zero, suc, ◌≤◌}
use native.Mathlib.Omega.{arith}
use lib.ListN.{get_or, replicate}
use borrow.Author.Tests.{not-true}
use Rattle.std.specs.Prelude.{Result, Ok}
use Rattle.layout.specs.Layout.{good_n, whole_length, sector_of, end_of}
use Rattle.buffer.specs.Compare.{same_of, blank_of}
use Rattle.buffer.specs.Number.{number_of, bytes_of, number_at}
use Rattle.buffer.specs.Place.{front_of}
use Rattle.crc.specs.Crc.{feed, crc_bit, crc_bits, crc_byte, crc_more, crc_of}
use Rattle.frame.specs.Checksum.{taken_away, checksum_of}
use Rattle.frame.specs.Read.{checked_at, read_control, read_write, read_of, part_from, parameters_in, data_in}
use Rattle.frame.specs.Frame.{footer_byte, footer_in, framed, control_frame, write_frame}
use Rattle.flash.specs.Bank.{has_sector, with_sector, at_sector, already_at, swept}
use Rattle.flash.specs.Sector.{padded_of, fits_sector, written_of, already_of}
use Rattle.bank.specs.Sound.{header_good, table_fits, table_good, laid_out_good, body_good, all_good, bodies_good, listed_good, contents_good}
use Rattle.bank.specs.Sound.{blank_good, sound_of, verdict_of}
use Rattle.bank.specs.Stretch.{fits_at, laid_out, blank_outside}
use Rattle.bank.specs.Table.{crc_place, table_end, entry_at, entries_from, rest_of, stretches_of}
use Rattle.commands.specs.Command.{coded_by}
use Rattle.exchange.specs.Request.{counted, asked_by}
use Rattle.exchange.specs.Answer.{answer_bytes, told_length}
use Rattle.decision.specs.Plan.{lent_good, any_worn, values_good, addresses_good, is_stranger}
use Rattle.decision.specs.Plan.{plan_start, plan_end, plan_packet, plan_control, plan_good, plan_request, plan_asked, plan_of}
use Rattle.client.specs.Step.{carried_of, take_of, beside_of}
use Rattle.client.specs.Perform.{store_of, checked_of, served_of}
use Rattle.client.specs.Record.{none_received}
use Rattle.sender.specs.Packet.{packet_count, sent_of, footer_of, packet_frame}
use Rattle.night.specs.Call.{at_hand_of, start_of}
use Rattle.night.specs.Lent.{tries_good, looked_of}
use Rattle.night.specs.Judge.{own_verdict, fields_awaited}
use Rattle.night.specs.Record.{again_of}
use Rattle.response.specs.Response.{may_carry, added_of, bank_named, own_of, control_of, repeats_of, stored_of, crc_fits, write_of, response_in}
use Rattle.buffer.proofs.Bools.{and_left, and_right, no_way}
use Rattle.buffer.proofs.Comparing.{same_self}
use Rattle.layout.specs.declared.Bank.{Bank}
use Rattle.layout.specs.declared.Bank.TheVariants.{Zero, One}
use Rattle.sender.specs.Made.{room}
use Rattle.sender.specs.declared.request.Request.{Request}
use Rattle.sender.specs.declared.request.Request.TheVariants.{ModeStart, WriteStart}
use Rattle.sender.specs.Request.{request_frame}
use Rattle.calls.specs.Call.{Board}
use Rattle.night.specs.declared.name.Name.TheVariants.{ModeEnd}
use Rattle.night.specs.declared.record.Next.{Next}
use Rattle.night.specs.declared.record.Next.TheVariants.{Finished, GaveUp}
use Rattle.night.specs.declared.record.Night.{Night}
use Rattle.night.specs.declared.record.Refusal.{Refusal}
use Rattle.night.specs.declared.record.Why.TheVariants.{Tries}
use Rattle.demands.specs.Board.{LentCall, Input, Initiate, Terminate, Datagram, said, Machine, after, step_machine}
use Rattle.demands.specs.Night.{NightSender, night_sender, Startable}
use Rattle.demands.specs.NightLoop.{
  Passage,
  Arrives,
  Another,
  call_of,
  Nothing,
  Answer,
  Round,
  no_passage,
  passage_more,
  EachPassage,
  no_rounds,
  each_more,
  RoomyRounds,
  no_round,
  round_more,
  Loop,
  begins,
  is_in,
  AnswerLost,
  Through,
  round_of,
}
use Rattle.demands.specs.NightStrangers.{
  Apart,
  InPlace,
  UntilLeft,
  to_the_end,
  still,
  left,
  SinceEnd,
  ended,
  later,
  MeetsNightAmong,
  NightAmong,
  last_of,
  TakenOver,
  NotLeft,
  never_left,
  not_left,
  Undone,
}
use Rattle.demands.specs.Strangers.{Leaves, mode_ended_lem, takes_all}
use Rattle.demands.proofs.NightLoop.{board_after}
use Rattle.demands.proofs.NightWitness.{idle_board, idle_small, coming, buffer_room}

-- ---- a board on which the update is undone fails

module _ (machine : Machine) (k : NightAmong) where
  abbrev InThen : Board → Type 0
  InThen b = InPlace machine k.address k.begin.image k.begin.bank k.begin.n k.board b

  until_in : {b : Board} {is : List Input} → NotLeft machine k b is
      → UntilLeft machine k.address k.begin.image k.begin.bank k.begin.n k.board b is → InThen (after machine b is)
  until_in never_left (to_the_end x) = x
  until_in (not_left n ns) (still x u) = until_in ns u
  until_in (not_left n ns) (left x l y) = absurd (n l)

  since_in : {b : Board} {is : List Input} → NotLeft machine k b is
      → SinceEnd machine k.address k.begin.image k.begin.bank k.begin.n k.board b is → InThen (after machine b is)
  since_in (never_left {b = b}) since = elim since [ ]
  since_in (not_left n ns) (ended a e s u) = until_in ns u
  since_in (not_left n ns) (later x) = since_in ns x

pub undone_fails : {S : Type 0} (m : NightSender S) (machine : Machine) → MeetsNightAmong m machine → Undone m machine → ⊥
undone_fails {S} m machine meets u =
    let k : NightAmong = u.night in
    let begun : Loop S = begins m machine k.begin.image k.begin.bank k.begin.n k.begin.tries k.begin.before k.board in
    let since =
    meets k.begin.image k.begin.bank k.begin.n k.begin.tries k.begin.before k.address k.board k.rs k.begin.starts k.begin.roomy k.roomy_rounds
    k.apart k.small u.it_is_in in
    u.not_next
    (sym (ap (λ (b : Board). b.client.next) (board_after m machine k.begin.image k.board k.rs begun refl))
    ∙ (since_in machine k u.in_mode_lem since).starts_next)

-- ---- the image: a table with one body, four bytes behind it

unfoldable image : List ℕ
image =
    (0x04 ∷ 0x00 ∷ 0x01 ∷ 0x01 ∷ 0x00 ∷ 0x00 ∷ 0x00 ∷ 0x14 ∷ 0x00 ∷ 0x00 ∷ 0x00 ∷ 0x04 ∷ 0xB6 ∷ 0x3C ∷ 0xFB ∷ 0xCD ∷ 0x7B ∷ 0x4A ∷ 0x01 ∷ 0x55 ∷ [])
    ++ (0x01 ∷ 0x02 ∷ 0x03 ∷ 0x04 ∷ []) ++ replicate 488 0xFF

one_packet : packet_count image 1 ≡ 1
unfolding image sent_of sector_of blank_of
one_packet = refl

starts : (tries : ℕ) → 1 ≤ tries → tries ≤ 9 → Startable image 1 tries
unfolding image good_n
starts tries low high = record { good = refl; whole = refl; low = low; high = high; some = omega (arith, one_packet) }

-- ---- the rounds

abbrev ours : List ℕ
ours = replicate 16 0

abbrev buffer : List ℕ
buffer = replicate room 0

-- k requests go through, one after another
abbrev going : ℕ → ℕ → List Round → List Round
going zero given rs = rs
going (suc k) given rs = round_of given buffer (Through (coming 1 ours)) ∷ going k (suc given) rs

-- another gateway asks
abbrev theirs : Request → Passage
theirs asked = Another (call_of (request_frame asked) (coming 1 (replicate 16 1)))

going_roomy : (k given : ℕ) {rs : List Round} → RoomyRounds rs → RoomyRounds (going k given rs)
going_roomy zero given h = h
going_roomy (suc k) given h = round_more buffer_room (going_roomy k (suc given) h)

is_ours : Apart ours (Arrives (coming 1 ours))
unfolding coming
is_ours = refl

is_theirs : (asked : Request) → Apart ours (theirs asked)
unfolding coming
is_theirs asked e = no_way (sym (ap (λ (l : List ℕ). get_or l 0 0) e))

going_apart : (k given : ℕ) {rs : List Round} → EachPassage (Apart ours) rs → EachPassage (Apart ours) (going k given rs)
going_apart zero given h = h
going_apart (suc k) given h = each_more (passage_more is_ours no_passage) (going_apart k (suc given) h)

-- a night of six requests that go through, and then these rounds
abbrev night : (tries : ℕ) → 1 ≤ tries → tries ≤ 9 → (rs : List Round) → RoomyRounds rs → EachPassage (Apart ours) rs → NightAmong
night tries low high rs roomy apart =
    record {
      begin = record { image = image; bank = One; n = 1; tries = tries; before = buffer; starts = starts tries low high; roomy = buffer_room };
      address = ours;
      board = idle_board 1;
      rs = going 6 0 rs;
      roomy_rounds = going_roomy 6 0 roomy;
      apart = going_apart 6 0 apart;
      small = idle_small 1;
    }

-- the mode end arrives and its answer is lost; before it arrives again the other has opened the mode and begun to write
abbrev taken_night : NightAmong
taken_night =
    night 2 (omega arith) (omega arith)
    (round_of 6 buffer (AnswerLost (coming 1 ours))
    ∷ record { passages = theirs ModeStart ∷ theirs (WriteStart One 1) ∷ Arrives (coming 1 ours) ∷ []; comes = Answer 7; buffer = buffer }
    ∷ [])
    (round_more buffer_room (round_more buffer_room no_round))
    (each_more (passage_more is_ours no_passage)
    (each_more (passage_more (is_theirs ModeStart) (passage_more (is_theirs (WriteStart One 1)) (passage_more is_ours no_passage))) no_rounds))

-- our mode end is lost, and the other begins to write in our mode
abbrev undone_night : NightAmong
undone_night =
    night 1 (omega arith) (omega arith) (record { passages = theirs (WriteStart One 1) ∷ []; comes = Nothing; buffer = buffer } ∷ [])
    (round_more buffer_room no_round)
    (each_more (passage_more (is_theirs (WriteStart One 1)) no_passage) no_rounds)

-- ---- a test that the mode was not left: all inputs are datagrams, and none is answered as a mode end is that ends it

abbrev left_bytes : List ℕ
left_bytes = 0x01 ∷ 0x02 ∷ 0x74 ∷ 0x06 ∷ 0x84 ∷ 0x03 ∷ []

module _ (machine : Machine) where
  abbrev leavesNot : Board → LentCall → Bool
  leavesNot b call = not (same_of (said (machine b (Datagram call))) left_bytes)

  abbrev unanswered : Board → List Input → Bool
  unanswered b [] = true
  unanswered b (Initiate ∷ is) = false
  unanswered b (Terminate ∷ is) = false
  unanswered b (Datagram call ∷ is) = leavesNot b call && unanswered (machine b (Datagram call)).board is

  no_end : (k : NightAmong) (b : Board) (call : LentCall) → leavesNot b call ≡ true
      → Leaves machine k.address b (Datagram call) → ⊥
  no_end k b call t (mode_ended_lem a r e) =
      false≢true (sym (not-true _ t) ∙ ap (λ (l : List ℕ). same_of l left_bytes) e ∙ same_self left_bytes)

  stays : (k : NightAmong) (b : Board) (is : List Input) → unanswered b is ≡ true → NotLeft machine k b is
  stays k b [] e = never_left
  stays k b (Initiate ∷ is) e = absurd (false≢true e)
  stays k b (Terminate ∷ is) e = absurd (false≢true e)
  stays k b (Datagram call ∷ is) e =
      let test : Bool = leavesNot b call in
      let rest : Bool = unanswered (machine b (Datagram call)).board is in
      not_left (no_end k b call (and_left test rest e)) (stays k (machine b (Datagram call)).board is (and_right test rest e))

-- ---- where they lead

-- what the night sender was told, and the bank that starts next
abbrev seen : Loop Night → Result Next Refusal × Bank
seen l = (l.told.next, l.board.client.next)

both_end : (seen (last_of night_sender step_machine taken_night) ≡ ((Ok Finished), Zero))
    × (seen (last_of night_sender takes_all undone_night) ≡ ((Ok (GaveUp ModeEnd Tries)), Zero))
    × (unanswered takes_all (idle_board 1) (last_of night_sender takes_all undone_night).inputs ≡ true)
unfolding image idle_board coming good_n whole_length sector_of end_of same_of blank_of number_of bytes_of number_at front_of feed crc_bit crc_bits crc_byte
    crc_more crc_of taken_away checksum_of checked_at read_control read_write read_of part_from parameters_in data_in footer_byte footer_in framed
    control_frame write_frame has_sector with_sector at_sector already_at swept padded_of fits_sector written_of already_of header_good table_fits table_good laid_out_good
    body_good all_good bodies_good listed_good contents_good blank_good sound_of verdict_of fits_at laid_out blank_outside crc_place table_end entry_at
    entries_from rest_of stretches_of coded_by counted asked_by answer_bytes told_length lent_good any_worn values_good addresses_good plan_start plan_end
    plan_packet plan_control plan_good is_stranger plan_request plan_asked plan_of carried_of take_of beside_of store_of checked_of served_of none_received
    sent_of footer_of packet_frame at_hand_of start_of tries_good looked_of own_verdict fields_awaited again_of may_carry added_of bank_named own_of control_of
    repeats_of stored_of crc_fits write_of response_in
both_end = (refl, refl, refl)

not_one : Zero ≡ One → ⊥
not_one e = no_way cc

pub taken_over : TakenOver night_sender step_machine
taken_over =
    record {
      night = taken_night;
      finished = ap (λ (s : Result Next Refusal × Bank). s.0) both_end.0;
      not_next = λ e. not_one (sym (ap (λ (s : Result Next Refusal × Bank). s.1) both_end.0) ∙ e);
    }

pub takes_all_undone : Undone night_sender takes_all
takes_all_undone =
    record {
      night = undone_night;
      it_is_in = ap (λ (s : Result Next Refusal × Bank). is_in s.0) both_end.1;
      in_mode_lem = stays takes_all undone_night (idle_board 1) _ both_end.2;
      not_next = λ e. not_one (sym (ap (λ (s : Result Next Refusal × Bank). s.1) both_end.1) ∙ e);
    }

pub takes_all_fails : MeetsNightAmong night_sender takes_all → ⊥
takes_all_fails meets = undone_fails night_sender takes_all meets takes_all_undone
