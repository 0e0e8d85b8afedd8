-- The sender counts its packets as asked, and tells where each stands.
-- Assumes nothing.
use mathlib.Core.Path.{◌≡◌, refl, sym, ap, subst, ◌∙◌}
use mathlib.Core.Bool.{Bool, true, false, false≢true}
use mathlib.Core.List.{List, [], ◌∷◌, ◌++◌}
use Prim.Native.Nat.{ℕ, zero, suc, ◌*◌, ◌≤◌, ◌<◌}
use native.Mathlib.Decide.{dec_lt}
use native.Mathlib.Omega.{arith}
use lib.ListN.{length, get_or, length-append, get_or-append}
use lib.Seq.{get_or_at}
use borrow.Author.Tests.{eq-eqb, ne_eqb, lt-ltb, le-ltb}
use Rattle.std.specs.Prelude.{Result, Ok}
use Rattle.buffer.specs.Compare.{blank_of}
use Rattle.flash.specs.Bank.{blank_sector}
use Rattle.flash.proofs.Blanks.{blank_whole}
use Rattle.layout.specs.Layout.{sector_size, sector_of}
use Rattle.sender.specs.declared.made.Place.{Place}
use Rattle.sender.specs.declared.made.Refusal.{Refusal}
use Rattle.sender.specs.Packet.{sent_of, packet_count, packet_sector, tally_of, placed_in, placed_of}
use Rattle.sender.proofs.Packets.{sent_blank, sent_more, sector_length}
use Rattle.demands.specs.Counting.{Used, none_used, blank_one, used_one, MeetsCounter, MeetsPlacer}

blank_is : blank_of blank_sector ≡ true
unfolding blank_sector blank_of
blank_is = refl

module _ (image : List ℕ) (n : ℕ) (e : length image ≡ sector_size * n) where
  are_used : (k : ℕ) → k ≤ n → Used image k (packet_count image k)
  unfolding sent_of
  are_used zero h = none_used
  are_used (suc k) h = by (blank_of (sector_of image (suc k))) refl (are_used k (omega arith))
    where
      by : (t : Bool) → blank_of (sector_of image (suc k)) ≡ t → Used image k (packet_count image k) → Used image (suc k) (packet_count image (suc k))
      by true t u =
          subst (Used image (suc k)) (sym (ap length (sent_blank image k t)))
          (blank_one (blank_whole (sector_of image (suc k)) (sector_length image n e (suc k) (omega arith) h) t) u)
      by false t u =
          let more : suc (packet_count image k) ≡ packet_count image (suc k) = omega (arith, ap length (sent_more image k t), length-append (sent_of image k) (suc k ∷ [])) in
          subst (Used image (suc k)) more (used_one (λ b. false≢true (sym t ∙ ap blank_of b ∙ blank_is)) u)

pub counter_meets : MeetsCounter tally_of
unfolding tally_of
counter_meets =
    record {
      bad_n = λ image n g. rw g;
      bad_length = λ image n g l. rw (g, ne_eqb (length image) (sector_size * n) l);
      counted = λ image n g e.
          record { count = packet_count image n; counts = rw (g, eq-eqb (length image) (sector_size * n) e); used = are_used image n e n (omega arith) };
    }

-- ---- where a packet stands

-- how many are used is one number
used_once : {image : List ℕ} {k : ℕ} (a b : ℕ) → Used image k a → Used image k b → a ≡ b
used_once a b none_used none_used = refl
used_once a b (blank_one e u) (blank_one f v) = used_once a b u v
used_once a b (blank_one e u) (used_one f v) = absurd (f e)
used_once a b (used_one e u) (blank_one f v) = absurd (e f)
used_once (suc a) (suc b) (used_one e u) (used_one f v) = ap suc (used_once a b u v)

record Stands (image : List ℕ) (n p : ℕ) : Type 0 where
  before : ℕ
  sector_is : packet_sector image n p ≡ suc before
  inside : suc before ≤ n
  some : blank_of (sector_of image (suc before)) ≡ false
  counts : packet_count image before ≡ p

stands : (image : List ℕ) (n p : ℕ) → p < packet_count image n → Stands image n p
unfolding sent_of
stands image zero p h = absurd (omega arith)
stands image (suc n) p h = by (blank_of (sector_of image (suc n))) refl (λ q. stands image n p q)
  where
    l : List ℕ
    l = sent_of image n

    wider : packet_sector image (suc n) p ≡ packet_sector image n p → Stands image n p → Stands image (suc n) p
    wider e s =
        let i = s.inside in
        record { before = s.before; sector_is = e ∙ s.sector_is; inside = omega arith; some = s.some; counts = s.counts }

    last : blank_of (sector_of image (suc n)) ≡ false → Dec (p < length l) → (p < length l → Stands image n p) → p < length (l ++ (suc n ∷ []))
        → Stands image (suc n) p
    last t (yes d) rest c = wider (ap (λ (x : List ℕ). get_or x p 0) (sent_more image n t) ∙ get_or-append l (suc n ∷ []) 0 p d) (rest d)
    last t (no d) rest c =
        let e : length l ≡ p = omega (arith, length-append l (suc n ∷ [])) in
        record {
          before = n;
          sector_is = ap (λ (x : List ℕ). get_or x p 0) (sent_more image n t) ∙ get_or_at l (suc n) [] 0 p e;
          inside = omega arith;
          some = t;
          counts = e;
        }

    by : (t : Bool) → blank_of (sector_of image (suc n)) ≡ t → (p < packet_count image n → Stands image n p) → Stands image (suc n) p
    by true t rest = wider (ap (λ (x : List ℕ). get_or x p 0) (sent_blank image n t)) (rest (omega (arith, ap length (sent_blank image n t))))
    by false t rest = last t (dec_lt p (length l)) rest (omega (arith, ap length (sent_more image n t)))

pub placer_meets : MeetsPlacer placed_of
unfolding placed_of placed_in
placer_meets =
    record {
      bad_n = λ image n p g. rw g;
      bad_length = λ image n p g l. rw (g, ne_eqb (length image) (sector_size * n) l);
      past = λ image n p count g e u h.
          let is : count ≡ packet_count image n = used_once count (packet_count image n) u (are_used image n e n (omega arith)) in
          rw (g, eq-eqb (length image) (sector_size * n) e, le-ltb p (packet_count image n) (omega arith));
      placed = λ image n p count g e u h.
          let is : count ≡ packet_count image n = used_once count (packet_count image n) u (are_used image n e n (omega arith)) in
          let there : p < packet_count image n = omega arith in
          let s = stands image n p there in
          let i = s.inside in
          let at : ℕ → Result Place Refusal = λ x. Ok (record { sector = x; count = packet_count image n }) in
          record {
            before = s.before;
            count = packet_count image n;
            tells =
                rw (g, eq-eqb (length image) (sector_size * n) e, lt-ltb p (packet_count image n) there)
                (ap at s.sector_is);
            inside = s.inside;
            used = λ b. false≢true (sym s.some ∙ ap blank_of b ∙ blank_is);
            number_is = subst (Used image s.before) s.counts (are_used image n e s.before (omega arith));
            all = are_used image n e n (omega arith);
          };
    }
