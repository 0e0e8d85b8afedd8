-- The premises of the closed loop and of 'it gets there' can be met: the two sectors of the witness, an idle board, T = 2, and each request but the
-- write end loses one answer first.
-- Assumes nothing.
use mathlib.Core.Path.{◌≡◌, refl, ap}
use mathlib.Core.List.{List, [], ◌∷◌}
use Prim.Native.Nat.{ℕ, suc, ◌-◌, ◌^◌, ◌≤◌, ◌<◌}
use native.Mathlib.Omega.{arith}
use lib.ListN.{length, replicate, length-replicate}
use Rattle.std.specs.Prelude.{Ok}
use Rattle.buffer.proofs.Bools.{split}
use Rattle.layout.specs.declared.Bank.{Bank}
use Rattle.layout.specs.declared.Bank.TheVariants.{Zero, One}
use Rattle.layout.specs.Layout.{bank_size}
use Rattle.layout.specs.Pair.{banks, bank_in}
use Rattle.sender.specs.Made.{room}
use Rattle.sender.specs.Packet.{packet_count}
use Rattle.exchange.specs.declared.state.State.TheVariants.{Idle}
use Rattle.client.specs.Host.{fixed_of}
use Rattle.client.specs.Record.{closed_client, in_state}
use Rattle.calls.specs.Call.{Board}
use Rattle.night.specs.declared.name.Name.{Name}
use Rattle.night.specs.declared.record.Next.TheVariants.{Finished}
use Rattle.demands.specs.Board.{step_machine}
use Rattle.demands.specs.Night.{night_sender, Startable, names_of}
use Rattle.demands.specs.NightLoop.{
  Arrival,
  Arrives,
  Round,
  EachIn,
  no_passage,
  passage_more,
  no_rounds,
  each_more,
  NoOther,
  NobodyElse,
  RoomyRounds,
  no_round,
  round_more,
  rounds,
  begins,
  is_in,
  AnswerLost,
  Right,
  may_lose,
  answer_lost,
  Goes,
  home,
  fails,
  through,
  Waits,
  losing,
  LosingNight,
}
use Rattle.demands.proofs.NightArrival.{arrival_met}
use Rattle.demands.proofs.NightLoop.{loop_met}
use Rattle.demands.proofs.Witness.{image, image_size, image_fit, two_packets, two_good}

-- ---- losing one answer of each

module _ (a : Arrival) (buffer : List ℕ) (h : room ≤ length buffer) where
  losing_roomy : (names : List Name) (given : ℕ) → RoomyRounds (losing a buffer names given)
  losing_roomy [] given = no_round
  losing_roomy (name ∷ names) given =
      split RoomyRounds (may_lose name)
      (λ _. round_more h (round_more h (losing_roomy names (suc (suc given)))))
      (λ _. round_more h (losing_roomy names (suc given)))

  losing_alone : (names : List Name) (given : ℕ) → NobodyElse (losing a buffer names given)
  losing_alone [] given = no_rounds
  losing_alone (name ∷ names) given =
      split NobodyElse (may_lose name)
      (λ _. each_more once (each_more once (losing_alone names (suc (suc given)))))
      (λ _. each_more once (losing_alone names (suc given)))
    where
      once : EachIn NoOther (Arrives a ∷ [])
      once = passage_more tt no_passage

  losing_goes : (address : List ℕ) (n : ℕ) → Right address n a → (names : List Name) (given : ℕ)
      → Goes address n 2 names (2 - 1) given (losing a buffer names given)
  losing_goes address n r [] given = home
  losing_goes address n r (name ∷ names) given =
      split (Goes address n 2 (name ∷ names) (2 - 1) given) (may_lose name)
      (λ t.
      fails {left = 0} (AnswerLost a) buffer (answer_lost t r) h (through a buffer r h (losing_goes address n r names (suc (suc given)))))
      (λ _. through a buffer r h (losing_goes address n r names (suc given)))

-- ---- this night

-- an idle board of N sectors that runs bank 0; both banks are zeros
unfoldable pub idle_board : ℕ → Board
idle_board n =
    record {
      client = in_state Idle (closed_client (fixed_of n Zero 1 0 0) Zero);
      pair = banks (replicate (bank_size n) 0) (replicate (bank_size n) 0);
    }

idle_waits : Waits (idle_board 2) One 2
unfolding idle_board
idle_waits = record { idle = refl; sectors = refl; target = refl; whole = both }
  where
    both : (x : Bank) → length (bank_in x (banks (replicate 1024 0) (replicate 1024 0))) ≡ bank_size 2
    both Zero = length-replicate {A = ℕ} 1024 0
    both One = length-replicate {A = ℕ} 1024 0

pub idle_small : (n : ℕ) → (idle_board n).client.fixed.revision < 2 ^ 32
unfolding idle_board
idle_small n = omega arith

-- what is lent with it is right for N sectors
unfoldable pub coming : ℕ → List ℕ → Arrival
coming n address = record { address = address; marks = replicate n 0; buffer = replicate 14 0; lent = λ x. bank_size n }

comes_right : Right (replicate 16 0) 2 (coming 2 (replicate 16 0))
unfolding coming
comes_right =
    record {
      sender = refl;
      lends =
          record {
            address = length-replicate {A = ℕ} 16 0;
            marks = refl;
            room = omega (arith, length-replicate {A = ℕ} 14 0);
            banks = λ x. refl;
          };
    }

starts : Startable image 2 2
starts = record { good = two_good; whole = image_size; low = omega arith; high = omega arith; some = omega (arith, two_packets) }

pub buffer_room : room ≤ length (replicate {A = ℕ} room 0)
buffer_room = omega (arith, length-replicate {A = ℕ} room 0)

pub losing_night : LosingNight night_sender step_machine
losing_night =
    let address : List ℕ = replicate 16 0 in
    let a : Arrival = coming 2 address in
    let idle : Board = idle_board 2 in
    let names : List Name = names_of (packet_count image 2) in
    let buffer : List ℕ = replicate room 0 in
    let rs : List Round = losing a buffer names 0 in
    let roomies : RoomyRounds rs = losing_roomy a buffer buffer_room names 0 in
    let going : Goes address 2 2 names (2 - 1) 0 rs = losing_goes a buffer buffer_room address 2 comes_right names 0 in
    let end : (rounds night_sender step_machine image (begins night_sender step_machine image One 2 2 buffer idle) rs).told.next ≡ (Ok Finished) =
    arrival_met image One 2 2 buffer address idle rs starts buffer_room idle_waits (image_fit idle.client.fixed) (idle_small 2) going in
    record {
      image = image;
      bank = One;
      n = 2;
      before = buffer;
      address = address;
      board = idle;
      arrival = a;
      rs = rs;
      losing_rounds = refl;
      startable = starts;
      roomy = buffer_room;
      roomy_rounds = roomies;
      alone = losing_alone a buffer buffer_room names 0;
      waits = idle_waits;
      fit = image_fit idle.client.fixed;
      small = idle_small 2;
      goes = going;
      finished = end;
      updated = loop_met image One 2 2 buffer idle rs starts buffer_room roomies (losing_alone a buffer buffer_room names 0) (idle_small 2) (ap is_in end);
    }
