-- What is lent, looked at: each refusal, and what is known where nothing is refused.
-- Assumes nothing.
use mathlib.Core.Path.{◌≡◌, refl, ap, ◌∙◌}
use mathlib.Core.Bool.{Bool, true, false, not, ◌&&◌, cond}
use mathlib.Core.List.{List}
use Prim.Native.Nat.{ℕ, ◌*◌, ◌≤◌, ◌<◌}
use native.Mathlib.Omega.{arith}
use lib.Dec.{leb, ltb}
use lib.ListN.{length}
use borrow.Author.Tests.{eqb-true, le-leb, lt-leb, leb-true, ltb-true}
use Rattle.std.specs.Prelude.{Result, Ok, Err}
use Rattle.buffer.proofs.Bools.{no_way}
use Rattle.layout.specs.Layout.{sector_size, good_n}
use Rattle.layout.proofs.Layouts.{good_below}
use Rattle.sender.specs.declared.made.Place.{Place}
use Rattle.sender.specs.declared.made.Refusal.{Refusal as Unmade}
use Rattle.sender.specs.declared.made.Refusal.TheVariants.{BadN, BadLength, PastLast}
use Rattle.sender.specs.Made.{room}
use Rattle.sender.specs.Packet.{packet_count, packet_sector, image_good, placed_of}
use Rattle.sender.proofs.Packets.{Sent, sent_in, placed_is}
use Rattle.night.specs.declared.record.Refusal.{Refusal}
use Rattle.night.specs.declared.record.Refusal.TheVariants as refusal
use Rattle.night.specs.Call.{refusal_says, lent_says}
use Rattle.night.specs.Lent.{tries_good, lengths_good, room_given, looked_of}
use Rattle.night.specs.Record.{refusal_number}

-- ---- the buffer and the tries

module _ (size tries : ℕ) (found : Result Place Refusal) where
  pub no_room : size < room → Err refusal.BadLength ≡ room_given size tries found
  unfolding room_given
  no_room h = rw (lt-leb room size h)

  pub bad_tries : room ≤ size → tries_good tries ≡ false → Err refusal.BadTries ≡ room_given size tries found
  unfolding room_given
  bad_tries h t = rw (le-leb room size h, t)

  pub given : room ≤ size → tries_good tries ≡ true → found ≡ room_given size tries found
  unfolding room_given
  given h t = rw (le-leb room size h, t)

-- ---- by where the packet stands

abbrev by_placed : ℕ → ℕ → Result Place Unmade → Result Place Refusal
by_placed size tries (Err BadN) = Err refusal.BadN
by_placed size tries (Err BadLength) = Err refusal.BadLength
by_placed size tries (Err PastLast) = room_given size tries (Err refusal.NoPacket)
by_placed size tries (Ok place) = room_given size tries (Ok place)

by_tests : (size tries : ℕ) (g i p : Bool) (place : Place)
    → by_placed size tries (cond g (cond i (cond p (Ok place) (Err PastLast)) (Err BadLength)) (Err BadN))
    ≡ cond g
    (cond (i && leb room size) (cond (tries_good tries) (cond p (Ok place) (Err refusal.NoPacket)) (Err refusal.BadTries)) (Err refusal.BadLength))
    (Err refusal.BadN)
unfolding room_given
by_tests size tries true true true place = refl
by_tests size tries true true false place = refl
by_tests size tries true false p place = refl
by_tests size tries false i p place = refl

pub looked_by : (image : List ℕ) (n tries size p : ℕ) (placed : Result Place Unmade) → placed ≡ placed_of image n p
    → by_placed size tries placed ≡ looked_of image n tries size p
unfolding looked_of
looked_by image n tries size p placed e =
    ap (by_placed size tries) (e ∙ placed_is image n p)
    ∙ by_tests size tries (good_n n) (image_good image n) (ltb p (packet_count image n)) _

-- the number of the packet, as it was handed on
pub looked_for : (image : List ℕ) (n tries size p k : ℕ) (l : Result Place Refusal) → p ≡ k → l ≡ looked_of image n tries size p → l ≡ looked_of image n tries size k
looked_for image n tries size p k l q e = e ∙ ap (looked_of image n tries size) q

-- ---- nothing is refused

pub record Lent (image : List ℕ) (n tries size p : ℕ) (place : Place) : Type 0 where
  pub good : good_n n ≡ true
  pub whole : image_good image n ≡ true
  pub roomy : room ≤ size
  pub tried : tries_good tries ≡ true
  pub there : p < packet_count image n
  pub sector_is : place.sector ≡ packet_sector image n p
  pub count_is : place.count ≡ packet_count image n

pub lent : (image : List ℕ) (n tries size p : ℕ) (place : Place) → Ok place ≡ looked_of image n tries size p
    → Lent image n tries size p place
unfolding looked_of
lent image n tries size p place e =
    by (good_n n) (image_good image n) (leb room size) (tries_good tries) (ltb p (packet_count image n)) refl refl refl refl refl e
  where
    by : (g i r t b : Bool) → good_n n ≡ g → image_good image n ≡ i → leb room size ≡ r → tries_good tries ≡ t → ltb p (packet_count image n) ≡ b
        → Ok place
        ≡ cond g
        (cond (i && r) (cond t (cond b (Ok (record { sector = packet_sector image n p; count = packet_count image n })) (Err refusal.NoPacket)) (Err refusal.BadTries)) (Err refusal.BadLength))
        (Err refusal.BadN)
        → Lent image n tries size p place
    by true true true true true eg ei er et eb q =
        record {
          good = eg;
          whole = ei;
          roomy = leb-true room size er;
          tried = et;
          there = ltb-true p (packet_count image n) eb;
          sector_is = cc;
          count_is = cc;
        }
    by true true true true false eg ei er et eb q = no_way cc
    by true true true false b eg ei er et eb q = no_way cc
    by true true false t b eg ei er et eb q = no_way cc
    by true false r t b eg ei er et eb q = no_way cc
    by false i r t b eg ei er et eb q = no_way cc

-- its sector lies within the image
module _ (image : List ℕ) (n tries size p : ℕ) (place : Place) (l : Lent image n tries size p place) where
  sent : Sent image n (packet_sector image n p)
  sent = sent_in image n p l.there

  pub sector_good : good_n place.sector ≡ true
  sector_good = rw l.sector_is (good_below n l.good (packet_sector image n p) sent.low sent.high)

  pub sector_inside : place.sector * sector_size ≤ length image
  sector_inside = omega (arith, l.sector_is, sent.high, eqb-true (length image) (sector_size * n) l.whole)

-- ---- the same in the paper's numbers

abbrev number_in : Result Place Refusal → ℕ
number_in (Err why) = refusal_number why
number_in (Ok place) = 0

pub looked_says : (image : List ℕ) (n tries size p : ℕ) → number_in (looked_of image n tries size p) ≡ lent_says image n tries size p
unfolding looked_of refusal_says
looked_says image n tries size p = by (good_n n) (lengths_good image n size) (tries_good tries) (ltb p (packet_count image n))
  where
    by : (g i t b : Bool)
        → number_in (cond g (cond i (cond t (cond b (Ok (record { sector = packet_sector image n p; count = packet_count image n })) (Err refusal.NoPacket)) (Err refusal.BadTries)) (Err refusal.BadLength)) (Err refusal.BadN))
        ≡ refusal_says (not g) (not i) (not t) (not b)
    by true true true true = refl
    by true true true false = refl
    by true true false b = refl
    by true false t b = refl
    by false i t b = refl

pub says_refused : (image : List ℕ) (n tries size p : ℕ) (why : Refusal) → Err why ≡ looked_of image n tries size p
    → refusal_number why ≡ lent_says image n tries size p
says_refused image n tries size p why e = ap number_in e ∙ looked_says image n tries size p

pub says_good : (image : List ℕ) (n tries size p : ℕ) (place : Place) → Ok place ≡ looked_of image n tries size p
    → 0 ≡ lent_says image n tries size p
says_good image n tries size p place e = ap number_in e ∙ looked_says image n tries size p
