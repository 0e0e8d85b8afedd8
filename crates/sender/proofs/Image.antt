-- The packets of an image: each sector that is not blank is sent, no other is, and together they give the image.
-- Assumes nothing.
use Rattle.std.specs.Prelude.{Some}
use mathlib.Core.Path.{◌≡◌, refl, sym, ap, ap₂, subst, ◌∙◌}
use mathlib.Core.Bool.{Bool, true, false, false≢true}
use mathlib.Core.List.{List, [], ◌∷◌, ◌++◌, append_assoc, append-nil}
use Prim.Native.Nat.{ℕ, zero, suc, ◌+◌, ◌-◌, ◌*◌, ◌≤◌, ◌<◌}
use native.Mathlib.Decide.{dec_le}
use native.Mathlib.Numerals.{add-one}
use native.Mathlib.Omega.{arith}
use lib.ListN.{length, get_or, take, drop, replicate, length-append, length-replicate, replicate-append-replicate, get_or-append}
use lib.Seq.{take-add, take_all, get_or_at, drop_at, length-take-le}
use borrow.Author.Tests.{eq-eqb, ne_eqb}
use Rattle.buffer.specs.Compare.{blank_of}
use Rattle.buffer.specs.Place.{place_of}
use Rattle.buffer.proofs.Comparing.{blank_true}
use Rattle.buffer.proofs.Places.{place_next}
use Rattle.frame.specs.Read.{read_of, data_in}
use Rattle.frame.specs.declared.read.Footer.{Footer}
use Rattle.frame.specs.declared.read.Footer.TheVariants.{End, Continued}
use Rattle.frame.specs.declared.read.Frame.TheVariants.{Write}
use Rattle.frame.proofs.RoundTrip.{write_back, write_data}
use Rattle.layout.specs.Layout.{sector_size, good_n, sector_start, sector_of}
use Rattle.layout.proofs.Layouts.{sector_part}
use Rattle.sender.specs.Packet.{sent_of, packet_count, packet_sector, footer_of, packet_frame}
use Rattle.sender.specs.Meaning.{put_back, restored}
use Rattle.sender.proofs.Packets.{Sent, sector_length, sent_blank, sent_more, sent_in, packet_small}

-- ---- which sector has which packet

-- a packet stays the same, however many sectors follow
later : (image : List ℕ) (n p : ℕ) → p < packet_count image n
    → (p < packet_count image (suc n)) × (packet_sector image (suc n) p ≡ packet_sector image n p)
later image n p h = by (blank_of (sector_of image (suc n))) refl
  where
    l : List ℕ
    l = sent_of image n

    by : (b : Bool) → blank_of (sector_of image (suc n)) ≡ b
        → (p < packet_count image (suc n)) × (packet_sector image (suc n) p ≡ packet_sector image n p)
    by true e = (omega (arith, ap length (sent_blank image n e)), ap (λ (x : List ℕ). get_or x p 0) (sent_blank image n e))
    by false e = (
      omega (arith, ap length (sent_more image n e), length-append l (suc n ∷ [])),
      ap (λ (x : List ℕ). get_or x p 0) (sent_more image n e) ∙ get_or-append l (suc n ∷ []) 0 p h,
    )

-- packet p of the first k sectors is packet p of the first n
record Lasts (image : List ℕ) (k n p : ℕ) : Type 0 where
  below : p < packet_count image n
  alike : packet_sector image n p ≡ packet_sector image k p

lasting : (image : List ℕ) (k n p : ℕ) → k ≤ n → p < packet_count image k → Lasts image k n p
lasting image k zero p le h =
    let e : k ≡ 0 = omega arith in
    subst (λ (x : ℕ). Lasts image k x p) e (record { below = h; alike = refl })
lasting image k (suc n) p le h = by (dec_le k n) (λ d. lasting image k n p d h)
  where
    by : Dec (k ≤ n) → (k ≤ n → Lasts image k n p) → Lasts image k (suc n) p
    by (yes d) before =
        let q : Lasts image k n p = before d in
        let m = later image n p q.below in
        record { below = m.0; alike = m.1 ∙ q.alike }
    by (no d) before =
        let e : k ≡ suc n = omega arith in
        subst (λ (x : ℕ). Lasts image k x p) e (record { below = h; alike = refl })

-- a blank sector is not sent
pub blank_unsent : (image : List ℕ) (n p k : ℕ) → blank_of (sector_of image k) ≡ true → p < packet_count image n → packet_sector image n p ≡ k → ⊥
blank_unsent image n p k b h e = false≢true (sym (sent_in image n p h).some ∙ ap (λ (j : ℕ). blank_of (sector_of image j)) e ∙ b)

-- any other is: its packet's number is how many were sent of those before it
pub record SentAt (image : List ℕ) (n k p : ℕ) : Type 0 where
  pub below : p < packet_count image n
  pub sector : packet_sector image n p ≡ k

pub used_sent : (image : List ℕ) (n k : ℕ) → suc k ≤ n → blank_of (sector_of image (suc k)) ≡ false → SentAt image n (suc k) (packet_count image k)
used_sent image n k le b =
    let l : List ℕ = sent_of image k in
    let c : packet_count image (suc k) ≡ packet_count image k + 1 = ap length (sent_more image k b) ∙ length-append l (suc k ∷ []) in
    let q : Lasts image (suc k) n (packet_count image k) = lasting image (suc k) n (packet_count image k) le (omega arith) in
    record {
      below = q.below;
      sector = q.alike ∙ ap (λ (x : List ℕ). get_or x (length l) 0) (sent_more image k b) ∙ get_or_at l (suc k) [] 0 (length l) refl;
    }

-- ---- what a packet's bytes say

pub packet_data : (image : List ℕ) (n p : ℕ) → data_in (packet_frame image n p) ≡ sector_of image (packet_sector image n p)
unfolding packet_frame
packet_data image n p =
    write_data (packet_sector image n p) (sector_of image (packet_sector image n p)) (footer_of (packet_count image n) p)

module _ (image : List ℕ) (n p : ℕ) (g : good_n n ≡ true) (e : length image ≡ sector_size * n) (h : p < packet_count image n) where
  data_length : length (sector_of image (packet_sector image n p)) ≡ sector_size
  data_length =
      let s : Sent image n (packet_sector image n p) = sent_in image n p h in
      sector_length image n e (packet_sector image n p) s.low s.high

  pub packet_read : Some (Write (packet_sector image n p) sector_size (footer_of (packet_count image n) p)) ≡ read_of (packet_frame image n p)
  unfolding packet_frame
  packet_read =
      let k : ℕ = packet_sector image n p in
      let f : Footer = footer_of (packet_count image n) p in
      ap (λ (m : ℕ). Some (Write k m f)) (sym data_length)
      ∙ write_back k (sector_of image k) f (packet_small image n p g k h refl) (omega (arith, data_length))

  -- 03 on the last packet, 17 on the others
  pub last_footer : p + 1 ≡ packet_count image n → Some (Write (packet_sector image n p) sector_size End) ≡ read_of (packet_frame image n p)
  unfolding footer_of
  last_footer q = ap (λ (x : Footer). Some (Write (packet_sector image n p) sector_size x)) (rw (eq-eqb (p + 1) (packet_count image n) q)) ∙ packet_read

  pub other_footer : p + 1 < packet_count image n → Some (Write (packet_sector image n p) sector_size Continued) ≡ read_of (packet_frame image n p)
  unfolding footer_of
  other_footer q = ap (λ (x : Footer). Some (Write (packet_sector image n p) sector_size x)) (rw (ne_eqb (p + 1) (packet_count image n) (λ r. omega arith))) ∙ packet_read

-- ---- the packets put back give the image

module _ (image : List ℕ) (n : ℕ) (g : good_n n ≡ true) (e : length image ≡ sector_size * n) where
  blanks : ℕ → List ℕ
  blanks k = replicate (sector_size * (n - k)) 0xFF

  -- the first k sectors, and 0xFF behind them
  begun : ℕ → List ℕ
  begun k = take (sector_size * k) image ++ blanks k

  -- where the sector behind them lies
  sector_at : (k : ℕ) → sector_size * k ≡ sector_start (suc k)
  sector_at k = omega arith

  sector_behind : (k : ℕ) → take (sector_size * suc k) image ≡ take (sector_size * k) image ++ sector_of image (suc k)
  sector_behind k =
      let m : sector_size * suc k ≡ sector_size * k + sector_size = omega arith in
      ap (λ (j : ℕ). take j image) m
      ∙ take-add (sector_size * k) sector_size image
      ∙ ap (λ (j : ℕ). take (sector_size * k) image ++ take sector_size (drop j image)) (sector_at k)
      ∙ ap (λ (l : List ℕ). take (sector_size * k) image ++ l) (sector_part image (suc k))

  blanks_behind : (k : ℕ) → k < n → blanks k ≡ replicate sector_size 0xFF ++ blanks (suc k)
  unfolding blanks
  blanks_behind k h =
      let m : sector_size * (n - k) ≡ sector_size + sector_size * (n - suc k) = omega arith in
      ap (λ (j : ℕ). replicate j 0xFF) m ∙ sym (replicate-append-replicate sector_size (sector_size * (n - suc k)) 0xFF)

  whole : (k : ℕ) → k < n → length (sector_of image (suc k)) ≡ sector_size
  whole k h = sector_length image n e (suc k) (omega arith) (omega arith)

  begun_more : (k : ℕ) → take (sector_size * k) image ++ sector_of image (suc k) ++ blanks (suc k) ≡ begun (suc k)
  unfolding begun
  begun_more k = ap (λ (l : List ℕ). l ++ blanks (suc k)) (sym (sector_behind k))

  -- a blank sector stands there already
  over_blank : (k : ℕ) → k < n → blank_of (sector_of image (suc k)) ≡ true → begun k ≡ begun (suc k)
  unfolding begun
  over_blank k h b =
      let s : sector_of image (suc k) ≡ replicate sector_size 0xFF =
      blank_true (sector_of image (suc k)) b ∙ ap (λ (j : ℕ). replicate j 0xFF) (whole k h) in
      ap (λ (l : List ℕ). take (sector_size * k) image ++ l) (blanks_behind k h ∙ ap (λ (l : List ℕ). l ++ blanks (suc k)) (sym s))
      ∙ sym (append_assoc (take (sector_size * k) image) (sector_of image (suc k)) (blanks (suc k)))
      ∙ begun_more k

  -- any other is put there
  over_used : (k : ℕ) → k < n → place_of (begun k) (sector_start (suc k)) (sector_of image (suc k)) ≡ begun (suc k)
  unfolding begun
  over_used k h =
      let front : List ℕ = take (sector_size * k) image in
      let l : length front ≡ sector_size * k = length-take-le (sector_size * k) image (omega arith) in
      let w : length (sector_of image (suc k)) ≡ sector_size = whole k h in
      let r : length (blanks k) ≡ sector_size + length (blanks (suc k)) =
      ap length (blanks_behind k h) ∙ length-append (replicate sector_size 0xFF) (blanks (suc k))
      ∙ ap (λ (j : ℕ). j + length (blanks (suc k))) (length-replicate {A = ℕ} sector_size 0xFF) in
      let d : drop (length (sector_of image (suc k))) (blanks k) ≡ blanks (suc k) =
      ap₂ (λ (j : ℕ) (x : List ℕ). drop j x) w (blanks_behind k h)
      ∙ drop_at (replicate sector_size 0xFF) (blanks (suc k)) sector_size (length-replicate {A = ℕ} sector_size 0xFF) in
      ap (λ (j : ℕ). place_of (front ++ blanks k) j (sector_of image (suc k))) (sym (l ∙ sector_at k))
      ∙ place_next front (blanks k) (sector_of image (suc k)) (omega arith)
      ∙ ap (λ (x : List ℕ). front ++ sector_of image (suc k) ++ x) d
      ∙ begun_more k

  put_next : (k : ℕ) → k < n → blank_of (sector_of image (suc k)) ≡ false → restored image n (packet_count image k) ≡ begun k
      → restored image n (packet_count image (suc k)) ≡ begun (suc k)
  unfolding restored
  put_next k h b before =
      let p : ℕ = packet_count image k in
      let frame : List ℕ = packet_frame image n p in
      let s : SentAt image n (suc k) p = used_sent image n k h b in
      let c : packet_count image (suc k) ≡ suc p = ap length (sent_more image k b) ∙ length-append (sent_of image k) (suc k ∷ []) ∙ add-one p in
      ap (restored image n) c
      ∙ ap (λ (x : List ℕ). put_back x frame (read_of frame)) before
      ∙ ap (put_back (begun k) frame) (sym (packet_read image n p g e s.below))
      ∙ ap₂ (λ (j : ℕ) (x : List ℕ). place_of (begun k) (sector_start j) x) s.sector (packet_data image n p ∙ ap (sector_of image) s.sector)
      ∙ over_used k h

  first : restored image n (packet_count image 0) ≡ begun 0
  unfolding restored sent_of begun blanks
  first =
      let z : sector_size * 0 ≡ 0 = omega arith in
      let m : sector_size * n ≡ sector_size * (n - 0) = omega arith in
      ap (λ (j : ℕ). replicate j 0xFF) m ∙ sym (ap (λ (j : ℕ). take j image ++ blanks 0) z)

  after : (k : ℕ) → k ≤ n → restored image n (packet_count image k) ≡ begun k
  after zero h = first
  after (suc k) h = by (blank_of (sector_of image (suc k))) refl (after k (omega arith))
    where
      by : (b : Bool) → blank_of (sector_of image (suc k)) ≡ b → restored image n (packet_count image k) ≡ begun k
          → restored image n (packet_count image (suc k)) ≡ begun (suc k)
      by true t before = ap (λ (l : List ℕ). restored image n (length l)) (sent_blank image k t) ∙ before ∙ over_blank k (omega arith) t
      by false t before = put_next k (omega arith) t before

  pub packets_give_image : restored image n (packet_count image n) ≡ image
  unfolding begun blanks
  packets_give_image =
      let z : sector_size * (n - n) ≡ 0 = omega arith in
      after n (omega arith)
      ∙ ap₂ (λ (x : List ℕ) (j : ℕ). x ++ replicate j 0xFF) (take_all (sector_size * n) image (omega arith)) z
      ∙ append-nil image
