-- What is answered says the paper's numbers, in the paper's order.
-- Assumes nothing.
use mathlib.Core.Path.{◌≡◌, refl, sym, ◌∙◌}
use mathlib.Core.Bool.{Bool, true, false, not, ◌&&◌, cond}
use mathlib.Core.List.{List}
use Prim.Native.Nat.{ℕ, ◌*◌, ◌≤◌}
use Rattle.std.specs.Prelude.{Ok, Err}
use lib.Dec.{leb, ltb}
use lib.ListN.{length}
use borrow.Author.Tests.{eq-eqb, le-leb, le-ltb, ltb-false}
use Rattle.buffer.proofs.Bools.{no_way}
use Rattle.layout.specs.Layout.{sector_size, good_n}
use Rattle.layout.specs.Said.{number}
use Rattle.sender.specs.declared.made.Place.{Place}
use Rattle.sender.specs.declared.made.Refusal.TheVariants.{BadN, BadLength, PastLast}
use Rattle.sender.specs.declared.request.Request.{Request}
use Rattle.sender.specs.Made.{room, made_said, sender_says, room_for}
use Rattle.sender.specs.Request.{request_frame, given_good, request_made, request_says}
use Rattle.sender.specs.Packet.{packet_count, packet_sector, packet_frame, image_good, packet_made, packet_says, tally_of, count_says, placed_in, placed_of, placed_said, place_says}

by_tests :
    (a b c : Bool) (n : ℕ)
    → made_said (cond a (cond b (cond c (Ok n) (Err PastLast)) (Err BadLength)) (Err BadN)) ≡ sender_says (not a) (not b) (not c) n
unfolding sender_says
by_tests true true true n = refl
by_tests true true false n = refl
by_tests true false c n = refl
by_tests false b c n = refl

pub request_says_lem : (request : Request) (size : ℕ) → made_said (request_made request size) ≡ request_says request size
unfolding request_made room_for
request_says_lem request size = by_tests (given_good request) (leb room size) true (length (request_frame request))

pub count_says_lem : (image : List ℕ) (n : ℕ) → made_said (tally_of image n) ≡ count_says image n
unfolding tally_of
count_says_lem image n = by_tests (good_n n) (image_good image n) true (packet_count image n)

pub place_says_lem : (image : List ℕ) (n p : ℕ) → placed_said (placed_of image n p) ≡ place_says image n p
unfolding placed_of placed_in sender_says
place_says_lem image n p = by (good_n n) (image_good image n) (ltb p (packet_count image n))
  where
    there : Place
    there = record { sector = packet_sector image n p; count = packet_count image n }

    by : (a b c : Bool) → placed_said (cond a (cond b (cond c (Ok there) (Err PastLast)) (Err BadLength)) (Err BadN))
        ≡ sender_says (not a) (not b) (not c) (packet_sector image n p)
    by true true true = refl
    by true true false = refl
    by true false c = refl
    by false b c = refl

module _ (image : List ℕ) (n p size : ℕ) where
  pub packet_says_lem : made_said (packet_made image n p size) ≡ packet_says image n p size
  unfolding packet_made
  packet_says_lem = by_tests (good_n n) (image_good image n && leb room size) (ltb p (packet_count image n)) (length (packet_frame image n p))

  -- 5 is said only from the count on
  pub five_only : made_said (packet_made image n p size) ≡ number 5 → packet_count image n ≤ p
  unfolding sender_says
  five_only e =
      by (not (good_n n)) (not (image_good image n && leb room size)) (ltb p (packet_count image n)) (length (packet_frame image n p)) refl
      (sym packet_says_lem ∙ e)
    where
      by : (a b c : Bool) (k : ℕ) → ltb p (packet_count image n) ≡ c → sender_says a b (not c) k ≡ number 5 → packet_count image n ≤ p
      by true b c k t q = no_way cc
      by false true c k t q = no_way cc
      by false false true k t q = no_way cc
      by false false false k t q = ltb-false p (packet_count image n) t

  -- and always there, where nothing else is refused
  pub five_always : good_n n ≡ true → length image ≡ sector_size * n → room ≤ size → packet_count image n ≤ p
      → made_said (packet_made image n p size) ≡ number 5
  unfolding sender_says
  five_always g e h q =
      packet_says_lem ∙ rw (g, eq-eqb (length image) (sector_size * n) e, le-leb room size h, le-ltb p (packet_count image n) q)
