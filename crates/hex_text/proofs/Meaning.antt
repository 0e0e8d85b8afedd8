-- A text that keeps every rule is accepted and leaves its bytes; one whose first broken rule is Hk at a line and byte is refused by Hk there; and the
-- other way round.
-- Assumes nothing.
use Rattle.std.proofs.Common.{◌≡◌, ℕ, zero, suc, ◌+◌, ◌-◌, ◌*◌, ◌<◌, ◌≤◌, Bool, true, false, eqb, List, [], ◌∷◌, length, drop, replicate, sym, refl, ap, ◌∙◌, not-suc-le-zero, arith, drop-cons, eq-eqb, ne_eqb, eqb-true}
use native.Mathlib.Decide.{dec_lt}
use lib.ListN.{length-replicate, get_or-replicate}
use lib.Seq.{length-sets, drop-length}
use Rattle.buffer.proofs.Bools.{no_way}
use Rattle.layout.specs.declared.Bank.{Bank}
use Rattle.layout.specs.Layout.{good_n, start_of, sector_size}
use Rattle.layout.specs.Said.{number, fault, accepted}
use Rattle.lines.specs.Line.{lines}
use Rattle.hex_text.specs.declared.record.State.{State}
use Rattle.hex_text.specs.declared.record.Found.{Found}
use Rattle.hex_text.specs.declared.record.Found.TheVariants.{Data, Upper, End, Other}
use Rattle.std.specs.Prelude.{Result, Ok, Err}
use Rattle.hex_text.specs.declared.fault.Refusal.{Refusal}
use Rattle.hex_text.specs.declared.read.ReadError.TheVariants.{BadN, BadLength}
use Rattle.hex_text.specs.Spell.{line_bytes}
use Rattle.hex_text.specs.Record.{record_data}
use Rattle.hex_text.specs.Read.{state_after, image_after, LinesRead, read_lines, after_last, at_start, reading_of, lines_read, text_read}
use Rattle.hex_text.specs.Read.{answer_said, lines_say, read_says}
use Rattle.hex_text.specs.Meaning.{line_type, line_at, NotEnded, Keeps, Breaks, KeepsAll, FirstBroken, at_line, no_end, Leaves}
use Rattle.hex_text.proofs.Images.{leaves_same, leaves-data}
use Rattle.hex_text.proofs.Rules.{Ended, StateAt, state_first, still_open, seen, KeptAs, data_line, upper_line, end_line, other_line, no_byte, keeps_as}
use Rattle.hex_text.proofs.Rules.{breaks_faulted, kept, broken, Judged, judge, to_next, state_next}

-- LINE AFTER LINE

module _ (base size : ℕ) (ls : List (List ℕ)) where
  abbrev lined : LinesRead
  lined = read_lines base size at_start 1 (replicate size 0xFF) ls

  -- behind the first i lines
  record Reached (i : ℕ) : Type 0 where
    state : State
    image : List ℕ
    fits : StateAt ls i state
    reads : lined ≡ read_lines base size state (i + 1) image (drop i ls)
    sized : length image ≡ size
    leaves : Leaves base size ls i image

  first : Reached 0
  first =
      record {
        state = at_start;
        image = replicate size 0xFF;
        fits = state_first ls;
        reads = refl;
        sized = length-replicate size 0xFF;
        leaves = record { there = λ m j h. absurd (not-suc-le-zero h); elsewhere = λ a h f. get_or-replicate size a 0xFF 0 h };
      }

  image_length : (line image : List ℕ) (d : Found) → length (image_after base line d image) ≡ length image
  image_length line image (Data start n) = length-sets image (start - base) (record_data n (line_bytes line))
  image_length line image (Upper u) = refl
  image_length line image End = refl
  image_length line image Other = refl

  leaves_next :
      {i : ℕ} {d : Found} (image : List ℕ) → Leaves base size ls i image → length image ≡ size → ((m : ℕ) → m < i → Keeps base size ls m)
      → Keeps base size ls i → KeptAs ls i d → Leaves base size ls (suc i) (image_after base (line_at ls i) d image)
  leaves_next {i} image leaves sized each k (data_line h) = leaves-data base size ls i image leaves sized each k h
  leaves_next {i} image leaves sized each k (upper_line t) = leaves_same base size ls i image leaves (λ j b. omega (arith, b.0))
  leaves_next {i} image leaves sized each k (end_line t) = leaves_same base size ls i image leaves (λ j b. omega (arith, b.0))
  leaves_next {i} image leaves sized each k (other_line h u t) = leaves_same base size ls i image leaves (no_byte ls i h)

  module _ (i : ℕ) (inside : i < length ls) (r : Reached i) where
    here : lined ≡ read_lines base size r.state (i + 1) r.image (line_at ls i ∷ drop (suc i) ls)
    here = r.reads ∙ rw (drop-cons ls i [] inside)

    next : ((m : ℕ) → m < i → Keeps base size ls m) → Keeps base size ls i → Reached (suc i)
    unfolding read_lines
    next each k =
        let says = keeps_as base size ls i r.state r.fits k in
        let d : Found = says.found in
        let e : suc i + 1 ≡ i + 1 + 1 = omega arith in
        record {
          state = state_after d r.state;
          image = image_after base (line_at ls i) d r.image;
          fits = state_next r.fits k says.kept;
          reads = here ∙ rw (says.is, e);
          sized = image_length (line_at ls i) r.image d ∙ r.sized;
          leaves = leaves_next r.image r.leaves r.sized each k says.kept;
        }

    -- one that breaks a rule stops it
    stops : {k byte : ℕ} → Breaks base size ls i k byte → lines_say lined.outcome ≡ fault k (i + 1) byte
    unfolding read_lines
    stops b =
        let f = breaks_faulted base size ls i r.state r.fits b in
        rw (here, f.is, f.numbered)

  reach : (i : ℕ) → i ≤ length ls → ((m : ℕ) → m < i → Keeps base size ls m) → Reached i
  reach zero h each = first
  reach (suc i) h each =
      let before : (m : ℕ) → m < i → Keeps base size ls m = λ m l. each m (omega arith) in
      next i h (reach i (omega arith) before) before (each i (omega arith))

  -- behind the last line
  module _ (r : Reached (length ls)) where
    at_end : lined ≡ record { outcome = after_last r.state (length ls + 1); image = r.image }
    unfolding read_lines
    at_end = r.reads ∙ rw (drop-length ls)

    missing : NotEnded ls (length ls) → lines_say lined.outcome ≡ fault 6 (length ls + 1) 1
    missing n = rw (at_end, still_open r.fits n)

    ended : (m : ℕ) → m < length ls → line_type (line_at ls m) ≡ 1 → lined ≡ record { outcome = Ok tt; image = r.image }
    ended m h t = at_end ∙ rw (seen r.fits m h t)

  -- THE RULES TELL WHAT IS SAID

  pub broken_said : {k l byte : ℕ} → FirstBroken base size ls k l byte → lines_say lined.outcome ≡ fault k l byte
  broken_said (at_line i k byte inside each b) = stops i inside (reach i (omega arith) each) b
  broken_said (no_end each n) = missing (reach (length ls) (omega arith) each) n

  -- what an accepted text comes to
  pub record GoesThrough : Type 0 where
    pub through : lined.outcome ≡ Ok tt
    pub sized : length lined.image ≡ size
    pub leaves : Leaves base size ls (length ls) lined.image

  pub kept_through : KeepsAll base size ls → GoesThrough
  kept_through k =
      let r = reach (length ls) (omega arith) k.each in
      let e = ended r k.last (omega (arith, k.last_line)) k.ends in
      record { through = rw e; sized = rw e r.sized; leaves = rw e r.leaves }

  -- and every text keeps the rules or breaks a first one
  pub data Verdict : Type 0 where
    keeps-all : KeepsAll base size ls → Verdict
    breaks-first : (k l byte : ℕ) → FirstBroken base size ls k l byte → Verdict

  ends_last : ((m : ℕ) → m < length ls → Keeps base size ls m) → Ended ls (length ls) → KeepsAll base size ls
  ends_last each e = by (dec_lt (e.end + 1) (length ls))
    where
      by : Dec (e.end + 1 < length ls) → KeepsAll base size ls
      by (yes h) = absurd ((each (e.end + 1) h).not_ended e.end (omega arith) e.is_end)
      by (no h) = record { each = each; last = e.end; last_line = omega (arith, e.before); ends = e.is_end }

  at_last : ((m : ℕ) → m < length ls → Keeps base size ls m) → Verdict
  at_last each = by r.state.over refl
    where
      r : Reached (length ls)
      r = reach (length ls) (omega arith) each

      by : (o : Bool) → r.state.over ≡ o → Verdict
      by true o = keeps-all (ends_last each (r.fits.is_over o))
      by false o = breaks-first 6 (length ls + 1) 1 (no_end each (r.fits.not_over o))

  verdict_at : (n i : ℕ) → i + n ≡ length ls → ((m : ℕ) → m < i → Keeps base size ls m) → Verdict
  verdict_at zero i e each = at_last (λ m l. each m (omega arith))
  verdict_at (suc n) i e each =
      by (λ k. verdict_at n (suc i) (omega arith) (to_next (Keeps base size ls) i each k))
      (judge base size ls i _ (reach i (omega arith) each).fits)
    where
      by : (Keeps base size ls i → Verdict) → Judged base size ls i → Verdict
      by on (kept k) = on k
      by on (broken k byte b) = breaks-first k (i + 1) byte (at_line i k byte (omega arith) each b)

  pub verdict : Verdict
  verdict = verdict_at (length ls) 0 (omega arith) (λ m h. absurd (not-suc-le-zero h))

-- THE WHOLE TEXT

module _ (text : List ℕ) (bank : Bank) (n : ℕ) (before : List ℕ) where
  abbrev base : ℕ
  base = start_of bank

  abbrev size : ℕ
  size = sector_size * n

  abbrev outcome : Result (Unit {0}) Refusal
  outcome = (lines_read text bank n).outcome

  -- by the two tests that come first
  data Way : Type 0 where
    bad_n : text_read text bank n before ≡ record { answer = Err BadN; image = before } → read_says text bank n before ≡ number 3 → Way
    bad_length : text_read text bank n before ≡ record { answer = Err BadLength; image = before } → read_says text bank n before ≡ number 2 → Way
    lined-up :
        good_n n ≡ true → length before ≡ size → text_read text bank n before ≡ reading_of size outcome (lines_read text bank n).image
        → read_says text bank n before ≡ lines_say outcome → Way

  way : Way
  unfolding text_read read_says
  way = by (good_n n) (eqb (length before) size) refl refl
    where
      by : (g b : Bool) → good_n n ≡ g → eqb (length before) size ≡ b → Way
      by false b e f = bad_n (rw e) (rw e)
      by true false e f = bad_length (rw (e, f)) (rw (e, f))
      by true true e f = lined-up e (eqb-true _ _ f) (rw (e, f)) (rw (e, f))

  -- what is said is what the answer says
  pub answer_said_lem : answer_said (text_read text bank n before).answer ≡ read_says text bank n before
  answer_said_lem = by way
    where
      lined-said : (o : Result (Unit {0}) Refusal) (image : List ℕ) → answer_said (reading_of size o image).answer ≡ lines_say o
      lined-said (Err r) image = refl
      lined-said (Ok done) image = refl

      by : Way → answer_said (text_read text bank n before).answer ≡ read_says text bank n before
      by (bad_n e f) = rw (e, f)
      by (bad_length e f) = rw (e, f)
      by (lined-up g w e f) = rw (e, f) (lined-said outcome (lines_read text bank n).image)

  -- 3 and 2, which leave the image
  pub says_3 : good_n n ≡ false → read_says text bank n before ≡ number 3
  unfolding read_says
  says_3 g = rw g

  pub unread : (m : ℕ) → read_says text bank n before ≡ number m → (text_read text bank n before).image ≡ before
  unread m a = by way outcome refl
    where
      by : Way → (o : Result (Unit {0}) Refusal) → outcome ≡ o → (text_read text bank n before).image ≡ before
      by (bad_n e f) o q = rw e
      by (bad_length e f) o q = rw e
      by (lined-up g w e f) (Err r) q = let z = sym a ∙ f ∙ ap lines_say q in no_way (cc)
      by (lined-up g w e f) (Ok done) q = let z = sym a ∙ f ∙ ap lines_say q in no_way (cc)

  module _ (g : good_n n ≡ true) where
    pub says-2 : (length before ≡ size → ⊥) → read_says text bank n before ≡ number 2
    unfolding read_says
    says-2 w = rw (g, ne_eqb (length before) size w)

    module _ (w : length before ≡ size) where
      says-lines : read_says text bank n before ≡ lines_say outcome
      unfolding read_says
      says-lines = rw (g, eq-eqb (length before) size w)

      -- a text that keeps every rule is accepted
      pub kept-accepted : KeepsAll base size (lines text) → read_says text bank n before ≡ accepted
      kept-accepted k = says-lines ∙ ap lines_say (kept_through base size (lines text) k).through

      -- and one that breaks one is refused by the first, at the first line that does and its byte
      pub broken-refused : {k l byte : ℕ} → FirstBroken base size (lines text) k l byte → read_says text bank n before ≡ fault k l byte
      broken-refused b = says-lines ∙ broken_said base size (lines text) b

  -- the other way round
  pub record IsAccepted : Type 0 where
    pub good : good_n n ≡ true
    pub fits : length before ≡ size
    pub keeps : KeepsAll base size (lines text)
    pub leaves : Leaves base size (lines text) (length (lines text)) (text_read text bank n before).image

  pub accepted_kept : read_says text bank n before ≡ accepted → IsAccepted
  accepted_kept a = by way (verdict base size (lines text))
    where
      by : Way → Verdict base size (lines text) → IsAccepted
      by (bad_n e f) v = let z = sym f ∙ a in no_way (cc)
      by (bad_length e f) v = let z = sym f ∙ a in no_way (cc)
      by (lined-up g w e f) (breaks-first k l byte b) = let z = sym (broken-refused g w b) ∙ a in no_way (cc)
      by (lined-up g w e f) (keeps-all k) =
          let h = kept_through base size (lines text) k in
          record { good = g; fits = w; keeps = k; leaves = rw (e, h.through) h.leaves }

  pub record IsRefused (k l byte : ℕ) : Type 0 where
    pub breaks : FirstBroken base size (lines text) k l byte
    pub erased : (text_read text bank n before).image ≡ replicate (length before) 0xFF

  pub refused_broken : (k l byte : ℕ) → read_says text bank n before ≡ fault k l byte → IsRefused k l byte
  refused_broken k l byte a = by way (verdict base size (lines text))
    where
      blank : (o : Result (Unit {0}) Refusal) (image : List ℕ) → lines_say o ≡ fault k l byte → (reading_of size o image).image ≡ replicate size 0xFF
      blank (Err r) image e = refl
      blank (Ok done) image e = no_way (cc)

      by : Way → Verdict base size (lines text) → IsRefused k l byte
      by (bad_n e f) v = let z = sym f ∙ a in no_way (cc)
      by (bad_length e f) v = let z = sym f ∙ a in no_way (cc)
      by (lined-up g w e f) (keeps-all x) = let z = sym (kept-accepted g w x) ∙ a in no_way (cc)
      by (lined-up g w e f) (breaks-first m o p b) =
          let z : fault m o p ≡ fault k l byte = sym (broken-refused g w b) ∙ a in
          let x : m ≡ k = cc in
          let y : o ≡ l = cc in
          let q : p ≡ byte = cc in
          record { breaks = rw (sym x, sym y, sym q) b; erased = rw e (blank outcome (lines_read text bank n).image (sym f ∙ a) ∙ rw w) }

  -- the image keeps its length
  pub read_length : length (text_read text bank n before).image ≡ length before
  read_length = by way (verdict base size (lines text))
    where
      by : Way → Verdict base size (lines text) → length (text_read text bank n before).image ≡ length before
      by (bad_n e f) v = rw e
      by (bad_length e f) v = rw e
      by (lined-up g w e f) (keeps-all x) =
          let h = kept_through base size (lines text) x in
          rw (e, h.through) (h.sized ∙ sym w)
      by (lined-up g w e f) (breaks-first k l byte b) =
          rw (refused_broken k l byte (broken-refused g w b)).erased (length-replicate (length before) 0xFF)
