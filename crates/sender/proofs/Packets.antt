-- The sectors that are sent, and each way out of the packets.
-- Assumes nothing.
use mathlib.Core.Path.{◌≡◌, refl, sym, ap, ap₂, subst, ◌∙◌}
use mathlib.Core.Bool.{Bool, true, false, ◌&&◌, cond}
use mathlib.Core.List.{List, [], ◌∷◌, ◌++◌, append-nil}
use Prim.Native.Nat.{ℕ, zero, suc, ◌+◌, ◌*◌, ◌≤◌, ◌<◌}
use native.Mathlib.Decide.{dec_lt}
use native.Mathlib.Numerals.{add-one}
use native.Mathlib.Omega.{arith}
use lib.ListN.{length, get_or, length-append, get_or-append, get_or-eq_default}
use lib.Seq.{get_or_at}
use lib.Dec.{leb, ltb}
use borrow.Author.Tests.{eq-eqb, ne_eqb, le-leb, lt-leb, lt-ltb, le-ltb, ltb-true}
use Rattle.std.specs.Borrow.{Bor}
use Rattle.std.specs.Prelude.{Some, None, Result, Ok, Err}
use Rattle.buffer.specs.Compare.{blank_of}
use Rattle.buffer.specs.Place.{front_of}
use Rattle.buffer.proofs.Bools.{no_way}
use Rattle.buffer.proofs.Parts.{part_length}
use Rattle.frame.specs.Frame.{write_frame}
use Rattle.frame.specs.Write.{put_write}
use Rattle.frame.specs.declared.read.Footer.{Footer}
use Rattle.frame.proofs.Writing.{length_write, write_fits}
use Rattle.layout.specs.Layout.{sector_size, good_n, sector_start, sector_of}
use Rattle.layout.proofs.Layouts.{good_high, sector_part}
use Rattle.sender.specs.declared.made.Place.{Place}
use Rattle.sender.specs.declared.made.Refusal.{Refusal}
use Rattle.sender.specs.declared.made.Refusal.TheVariants.{BadN, BadLength, PastLast}
use Rattle.sender.specs.declared.sectors.Image.{Image}
use Rattle.sender.specs.Image.{image_fault, Holds}
use Rattle.sender.specs.Made.{room, made_said, buffer_after}
use Rattle.sender.specs.Packet.{
  sent_of,
  packet_count,
  packet_sector,
  footer_of,
  packet_frame,
  packet_made,
  image_good,
  tally_of,
  seen_of,
  placed_in,
  placed_of,
  placed_said,
  IsCount,
  IsPlace,
  IsPacket,
}
use Rattle.sender.proofs.Refusals.{packet_says_lem, place_says_lem, count_says_lem}

-- ---- a sector of an image

pub sector_length : (image : List ℕ) (n : ℕ) → length image ≡ sector_size * n → (k : ℕ) → 1 ≤ k → k ≤ n → length (sector_of image k) ≡ sector_size
sector_length image n e k l u = ap length (sym (sector_part image k)) ∙ part_length image (sector_start k) sector_size (omega arith)

-- ---- the list of those that are sent

module _ (image : List ℕ) (k : ℕ) where
  pub sent_blank : blank_of (sector_of image (suc k)) ≡ true → sent_of image (suc k) ≡ sent_of image k
  unfolding sent_of
  sent_blank b = rw b (append-nil (sent_of image k))

  pub sent_more : blank_of (sector_of image (suc k)) ≡ false → sent_of image (suc k) ≡ sent_of image k ++ (suc k ∷ [])
  unfolding sent_of
  sent_more b = rw b

pub sent_few : (image : List ℕ) (k : ℕ) → length (sent_of image k) ≤ k
unfolding sent_of
sent_few image zero = omega arith
sent_few image (suc k) = by (blank_of (sector_of image (suc k))) (sent_few image k)
  where
    by : (b : Bool) → length (sent_of image k) ≤ k → length (sent_of image k ++ cond b [] (suc k ∷ [])) ≤ suc k
    by true h = omega (arith, length-append (sent_of image k) [])
    by false h = omega (arith, length-append (sent_of image k) (suc k ∷ []))

-- the part that was looked at is the sector behind the first k
pub looked_at : (image : List ℕ) (k : ℕ) (part : List ℕ) (r : Bool) → part ≡ sector_of image (k + 1) → r ≡ blank_of part
    → r ≡ blank_of (sector_of image (suc k))
looked_at image k part r e b = b ∙ ap blank_of (e ∙ ap (sector_of image) (add-one k))

-- an element behind a list changes no other
kept : (l : List ℕ) (x i : ℕ) → (i ≡ length l → ⊥) → get_or l i 0 ≡ get_or (l ++ (x ∷ [])) i 0
kept l x i h = by (dec_lt i (length l))
  where
    by : Dec (i < length l) → get_or l i 0 ≡ get_or (l ++ (x ∷ [])) i 0
    by (yes d) = sym (get_or-append l (x ∷ []) 0 i d)
    by (no d) =
        get_or-eq_default l 0 (omega arith)
        ∙ sym (get_or-eq_default (l ++ (x ∷ [])) 0 (omega (arith, length-append l (x ∷ []))))

module _ (image : List ℕ) (p : ℕ) where
  pub seen_none : record { sector = 0; count = 0 } ≡ seen_of image 0 p
  unfolding seen_of sent_of
  seen_none = refl

  module _ (k : ℕ) where
    pub seen-count : (s : Place) → s ≡ seen_of image k p → s.count ≡ packet_count image k
    unfolding seen_of
    seen-count s e = ap (λ (x : Place). x.count) e

    pub seen-sector : (s : Place) → s ≡ seen_of image k p → s.sector ≡ packet_sector image k p
    unfolding seen_of
    seen-sector s e = ap (λ (x : Place). x.sector) e

    pub seen-blank : (s : Place) → s ≡ seen_of image k p → blank_of (sector_of image (suc k)) ≡ true → s ≡ seen_of image (k + 1) p
    unfolding seen_of
    seen-blank s e b = e ∙ rw (add-one, sent_blank image k b)

    -- packet p is found
    pub seen_here : (s : Place) → s ≡ seen_of image k p → blank_of (sector_of image (suc k)) ≡ false → s.count ≡ p
        → record { sector = k + 1; count = s.count + 1 } ≡ seen_of image (k + 1) p
    unfolding seen_of
    seen_here s e b q =
        let l : List ℕ = sent_of image k in
        let n : s.count ≡ length l = seen-count s e in
        let c : s.count + 1 ≡ length (l ++ (suc k ∷ [])) = omega (arith, length-append l (suc k ∷ [])) in
        let f : k + 1 ≡ get_or (l ++ (suc k ∷ [])) p 0 = add-one k ∙ sym (get_or_at l (suc k) [] 0 p (sym n ∙ q)) in
        rw (add-one k, sent_more image k b) (ap₂ (λ (x y : ℕ). record { sector = y; count = x }) c (sym (add-one k) ∙ f))

    pub seen_other : (s : Place) → s ≡ seen_of image k p → blank_of (sector_of image (suc k)) ≡ false → (s.count ≡ p → ⊥)
        → record { sector = s.sector; count = s.count + 1 } ≡ seen_of image (k + 1) p
    unfolding seen_of
    seen_other s e b q =
        let l : List ℕ = sent_of image k in
        let n : s.count ≡ length l = seen-count s e in
        let f : s.sector ≡ get_or l p 0 = seen-sector s e in
        let c : s.count + 1 ≡ length (l ++ (suc k ∷ [])) = omega (arith, length-append l (suc k ∷ [])) in
        rw (add-one k, sent_more image k b) (ap₂ (λ (x y : ℕ). record { sector = y; count = x }) c (f ∙ kept l (suc k) p (λ r. q (n ∙ sym r))))

-- ---- what a sector that is sent is

pub record Sent (image : List ℕ) (n k : ℕ) : Type 0 where
  pub low : 1 ≤ k
  pub high : k ≤ n
  pub some : blank_of (sector_of image k) ≡ false

sent_none : (image : List ℕ) → sent_of image 0 ≡ []
unfolding sent_of
sent_none image = refl

wider : (image : List ℕ) (n k : ℕ) → Sent image n k → Sent image (suc n) k
wider image n k s = record { low = s.low; high = omega (arith, s.high); some = s.some }

pub sent_in : (image : List ℕ) (n p : ℕ) → p < packet_count image n → Sent image n (packet_sector image n p)
sent_in image zero p h = absurd (omega (arith, ap length (sent_none image)))
sent_in image (suc n) p h = by (blank_of (sector_of image (suc n))) refl (λ q. sent_in image n p q)
  where
    l : List ℕ
    l = sent_of image n

    last : blank_of (sector_of image (suc n)) ≡ false → Dec (p < length l) → p < length (l ++ (suc n ∷ []))
        → (p < length l → Sent image n (get_or l p 0))
        → Sent image (suc n) (get_or (l ++ (suc n ∷ [])) p 0)
    last e (yes d) c before = rw (get_or-append l (suc n ∷ []) 0 p d) (wider image n _ (before d))
    last e (no d) c before =
        let q : length l ≡ p = omega (arith, length-append l (suc n ∷ [])) in
        rw (get_or_at l (suc n) [] 0 p q) (record { low = omega arith; high = omega arith; some = e })

    by : (b : Bool) → blank_of (sector_of image (suc n)) ≡ b → (p < length l → Sent image n (get_or l p 0))
        → Sent image (suc n) (packet_sector image (suc n) p)
    by true e before = rw (sent_blank image n e) (wider image n _ (before (omega (arith, ap length (sent_blank image n e)))))
    by false e before =
        let c : p < length (l ++ (suc n ∷ [])) = omega (arith, ap length (sent_more image n e)) in
        rw (sent_more image n e) (last e (dec_lt p (length l)) c before)

-- the number of a packet's sector fits two bytes
pub packet_small : (image : List ℕ) (n p : ℕ) → good_n n ≡ true → (k : ℕ) → p < packet_count image n → k ≡ packet_sector image n p → k < 65536
packet_small image n p g k q e = omega (arith, good_high n g, (sent_in image n p q).high)

-- ---- each way out

module _ (image : List ℕ) (n : ℕ) where
  pub fault-n : good_n n ≡ false → image_fault image n ≡ Some BadN
  unfolding image_fault
  fault-n g = rw g

  pub fault-length : good_n n ≡ true → (length image ≡ sector_size * n → ⊥) → image_fault image n ≡ Some BadLength
  unfolding image_fault
  fault-length g e = rw (g, ne_eqb (length image) (sector_size * n) e)

  -- an image that is none is refused so by whoever looks at it
  pub faulty : {A : Type 0} (why : Refusal) (r : Result A Refusal) → image_fault image n ≡ Some why
      → Err why ≡ cond (good_n n) (cond (image_good image n) r (Err BadLength)) (Err BadN)
  unfolding image_fault
  faulty {A} why r e = by (good_n n) (image_good image n) e
    where
      by : (a b : Bool) → cond a (cond b None (Some BadLength)) (Some BadN) ≡ Some why → Err why ≡ cond a (cond b r (Err BadLength)) (Err BadN)
      by true true q = no_way cc
      by true false q = cc
      by false b q = cc

  -- what is answered is all: what it says follows
  count_is : (r : Result ℕ Refusal) → r ≡ tally_of image n → IsCount image n r
  count_is r e = record { answered = e; says = ap made_said e ∙ count_says_lem image n }

  pub count_refused : {why : Refusal} → image_fault image n ≡ Some why → IsCount image n (Err why)
  unfolding tally_of
  count_refused {why} e = count_is (Err why) (faulty why (Ok (packet_count image n)) e)

  count_told : {count : ℕ} → count ≡ packet_count image n → good_n n ≡ true → length image ≡ sector_size * n → IsCount image n (Ok count)
  unfolding tally_of
  count_told {count} q g e = count_is (Ok count) (ap Ok q ∙ rw (g, eq-eqb (length image) (sector_size * n) e))

-- what a place says
pub record At (image : List ℕ) (n p : ℕ) (place : Place) : Type 0 where
  pub there : p < packet_count image n
  pub sector_is : place.sector ≡ packet_sector image n p
  pub count_is : place.count ≡ packet_count image n

module _ (image : List ℕ) (n p : ℕ) where
  -- where it stands, as the crates above take it
  pub placed_is : placed_of image n p
      ≡ cond (good_n n)
      (cond (image_good image n)
      (cond (ltb p (packet_count image n)) (Ok (record { sector = packet_sector image n p; count = packet_count image n })) (Err PastLast))
      (Err BadLength))
      (Err BadN)
  unfolding placed_of placed_in
  placed_is = refl

  pub place_past : packet_count image n ≤ p → Err PastLast ≡ placed_in image n p
  unfolding placed_in
  place_past q = rw (le-ltb p (packet_count image n) q)

  pub place_found : (place : Place) → place ≡ seen_of image n p → p < packet_count image n → Ok place ≡ placed_in image n p
  unfolding placed_in seen_of
  place_found place e q = ap Ok e ∙ rw (lt-ltb p (packet_count image n) q)

  pub place_at : {place : Place} → placed_in image n p ≡ Ok place → At image n p place
  unfolding placed_in
  place_at {place} e = by (ltb p (packet_count image n)) refl e
    where
      by : (c : Bool) → ltb p (packet_count image n) ≡ c
          → cond {A = Result Place Refusal} c (Ok (record { sector = packet_sector image n p; count = packet_count image n })) (Err PastLast) ≡ Ok place
          → At image n p place
      by true t q = record { there = ltb-true p (packet_count image n) t; sector_is = cc; count_is = cc }
      by false t q = no_way cc

  place_is : (r : Result Place Refusal) → r ≡ placed_of image n p → IsPlace image n p r
  place_is r e = record { answered = e; says = ap placed_said e ∙ place_says_lem image n p }

  pub place_refused : {why : Refusal} → image_fault image n ≡ Some why → IsPlace image n p (Err why)
  unfolding placed_of
  place_refused {why} e = place_is (Err why) (faulty image n why (placed_in image n p) e)

  place_told : {r : Result Place Refusal} → r ≡ placed_in image n p → good_n n ≡ true → length image ≡ sector_size * n → IsPlace image n p r
  unfolding placed_of
  place_told {r} q g e = place_is r (q ∙ rw (g, eq-eqb (length image) (sector_size * n) e))

  frame_length : good_n n ≡ true → length image ≡ sector_size * n → p < packet_count image n → length (packet_frame image n p) ≡ sector_size + 7
  unfolding packet_frame
  frame_length g e q =
      let k : ℕ = packet_sector image n p in
      let s : Sent image n k = sent_in image n p q in
      let l : length (sector_of image k) ≡ sector_size = sector_length image n e k s.low s.high in
      omega (arith, length_write k (sector_of image k) (footer_of (packet_count image n) p))

  module _ (size : ℕ) where
    pub made_refused : {why : Refusal} → image_fault image n ≡ Some why → Err why ≡ packet_made image n p size
    unfolding image_fault packet_made
    made_refused {why} e = by (good_n n) (image_good image n) e
      where
        by : (a b : Bool) → cond a (cond b None (Some BadLength)) (Some BadN) ≡ Some why
            → Err why
            ≡ cond a
            (cond (b && leb room size) (cond (ltb p (packet_count image n)) (Ok (length (packet_frame image n p))) (Err PastLast)) (Err BadLength))
            (Err BadN)
        by true true q = no_way cc
        by true false q = cc
        by false b q = cc

    module _ (g : good_n n ≡ true) (e : length image ≡ sector_size * n) where
      pub made-no-room : size < room → Err BadLength ≡ packet_made image n p size
      unfolding packet_made
      made-no-room h = rw (g, eq-eqb (length image) (sector_size * n) e, lt-leb room size h)

      pub made_unplaced : {why : Refusal} → room ≤ size → placed_in image n p ≡ Err why → Err why ≡ packet_made image n p size
      unfolding packet_made placed_in
      made_unplaced {why} h q =
          rw (g, eq-eqb (length image) (sector_size * n) e, le-leb room size h) (by (ltb p (packet_count image n)) q)
        where
          by : (c : Bool) → cond {A = Result Place Refusal} c (Ok (record { sector = packet_sector image n p; count = packet_count image n })) (Err PastLast) ≡ Err why
              → Err why ≡ cond c (Ok (length (packet_frame image n p))) (Err PastLast)
          by true r = no_way cc
          by false r = cc

      made-frame : room ≤ size → p < packet_count image n → Ok (sector_size + 7) ≡ packet_made image n p size
      unfolding packet_made
      made-frame h q =
          rw (g, eq-eqb (length image) (sector_size * n) e, le-leb room size h, lt-ltb p (packet_count image n) q)
          (ap Ok (sym (frame_length g e q)))

      -- a packet that there is, where there is room
      pub packet-made : room ≤ size → p < packet_count image n → packet_made image n p size ≡ Ok (length (packet_frame image n p))
      packet-made h q = sym (made-frame h q) ∙ ap Ok (sym (frame_length g e q))

  -- what is answered and what stands is all: what it says follows
  packet_is : (before after : List ℕ) (m : Result ℕ Refusal) → m ≡ packet_made image n p (length before)
      → after ≡ buffer_after (packet_made image n p (length before)) before (packet_frame image n p) → IsPacket image n p before m after
  packet_is before after m e s = record { answered = e; says = ap made_said e ∙ packet_says_lem image n p (length before); stands = s }

  -- a refusal changes nothing
  pub packet_refused : (before : List ℕ) {why : Refusal} → Err why ≡ packet_made image n p (length before) → IsPacket image n p before (Err why) before
  packet_refused before {why} e =
      packet_is before before (Err why) e (ap (λ (x : Result ℕ Refusal). buffer_after x before (packet_frame image n p)) e)

  pub packet_put :
      (before after part : List ℕ) (sector : ℕ) (footer : Footer) → good_n n ≡ true → length image ≡ sector_size * n → room ≤ length before
      → p < packet_count image n → sector ≡ packet_sector image n p → part ≡ sector_of image sector → footer ≡ footer_of (packet_count image n) p
      → after ≡ put_write before sector part footer
      → IsPacket image n p before (Ok (sector_size + 7)) after
  unfolding packet_frame
  packet_put before after part sector footer g e h q k o f a =
      let number : ℕ = packet_sector image n p in
      let s : Sent image n number = sent_in image n p q in
      let m : Ok (sector_size + 7) ≡ packet_made image n p (length before) = made-frame (length before) g e h q in
      let b : part ≡ sector_of image number = o ∙ ap (sector_of image) k in
      let l : length part ≡ sector_size = ap length b ∙ sector_length image n e number s.low s.high in
      packet_is before after (Ok (sector_size + 7)) m
      (a
      ∙ write_fits before sector part footer (omega arith)
      ∙ ap (front_of before) (ap₂ (λ (x : ℕ) (y : List ℕ). write_frame x y footer) k b ∙ ap (write_frame number (sector_of image number)) f)
      ∙ ap (λ (x : Result ℕ Refusal). buffer_after x before (packet_frame image n p)) m)

-- ---- the same of an image that was taken

module _ {bytes : Bor (List ℕ)} {n : ℕ} {image : Image} (h : Holds bytes n image) where
  -- what is known of the image is known of what was given
  pub of_given : {A : Type 0} (f : List ℕ → ℕ → A) → f image.bytes.now image.n ≡ f bytes.now n
  of_given f = ap₂ (λ (b : Bor (List ℕ)) (k : ℕ). f b.now k) h.bytes_is h.n_is

  pub given_n : good_n n ≡ true
  given_n = sym (of_given (λ (l : List ℕ) (k : ℕ). good_n k)) ∙ image.n_good

  pub given_length : length bytes.now ≡ sector_size * n
  given_length = subst (λ (k : ℕ). length bytes.now ≡ sector_size * k) h.n_is (sym (ap (λ (b : Bor (List ℕ)). length b.now) h.bytes_is) ∙ image.whole)

  pub image_counted : {place : Place} → place ≡ seen_of image.bytes.now image.n 0 → IsCount bytes.now n (Ok place.count)
  image_counted {place} e =
      count_told bytes.now n (seen-count image.bytes.now 0 image.n place e ∙ of_given packet_count) given_n given_length

  module _ {p : ℕ} where
    pub image_placed : {r : Result Place Refusal} → r ≡ placed_in image.bytes.now image.n p → IsPlace bytes.now n p r
    image_placed e = place_told bytes.now n p (e ∙ of_given (λ (l : List ℕ) (k : ℕ). placed_in l k p)) given_n given_length

    pub image_unplaced : (before : List ℕ) {r : Result Place Refusal} {why : Refusal} → room ≤ length before → r ≡ placed_in image.bytes.now image.n p
        → r ≡ Err why → IsPacket bytes.now n p before (Err why) before
    image_unplaced before m e q =
        packet_refused bytes.now n p before
        (made_unplaced bytes.now n p (length before) given_n given_length m (sym (of_given (λ (l : List ℕ) (k : ℕ). placed_in l k p)) ∙ sym e ∙ q))

    -- the place is that of packet p, and its sector one of the image
    pub image_place : {place : Place} {r : Result Place Refusal} → r ≡ placed_in image.bytes.now image.n p → r ≡ Ok place → At bytes.now n p place
    image_place e q = place_at bytes.now n p (sym (of_given (λ (l : List ℕ) (k : ℕ). placed_in l k p)) ∙ sym e ∙ q)
