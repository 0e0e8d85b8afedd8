-- What follows for every one that cleans as asked, from that alone.
-- Assumes nothing.
use mathlib.Core.Path.{◌≡◌, refl, sym, ap, ◌∙◌}
use mathlib.Core.Bool.{Bool, true, false, cond}
use mathlib.Core.List.{List}
use Prim.Native.Nat.{ℕ, zero, suc}
use native.Mathlib.Omega.{arith}
use mathlib.Core.Logic.{⊎_elim}
use lib.ListN.{length}
use lib.Seq.{ext_get_or}
use Rattle.buffer.specs.Number.{byte_at}
use Rattle.buffer.proofs.Bools.{not_so, no_way}
use Rattle.layout.specs.Layout.{whole_length}
use Rattle.layout.specs.Said.{number, result, accepted}
use Rattle.bank.specs.Gaps.{outside}
use Rattle.bank.specs.Meaning.{KeptInside}
use Rattle.bank.specs.Said.{check_says}
use Rattle.bank.specs.Sound.{contents_good, sound_of}
use Rattle.bank.proofs.Meaning.{kept_inside, inside_back, kept}
use Rattle.bank.proofs.Outside.{is_outside, sound_outside, outside_sound, inside_same, outside_same}
use Rattle.clean.specs.Clean.{done_with, cleaned_said}
use Rattle.clean.specs.Meaning.{OldByte, run_in, AreRuns, AreSectors, CleanedOut, Cleaner, TooMany, DoneRight, MeetsCleaner, cleaner}
use Rattle.clean.specs.Old.{old}
use Rattle.clean.specs.Promises.{Differs, Promised, nothing_listed, Promises}
use Rattle.clean.proofs.Meaning.{old_byte, byte_old, else_blank, runs_most, sectors_most, room, room_known, cleaner_meets}
use Rattle.clean.proofs.Unique.{one_run}

-- where nothing is old, nothing is listed
module _ (b : List ℕ) (none : (k : ℕ) → OldByte b k → ⊥) where
  no_runs : (runs : List ℕ) (n : ℕ) → AreRuns b runs n → n ≡ 0
  no_runs runs zero r = refl
  no_runs runs (suc n) r =
      absurd (none (run_in runs 0).offset (r.are_old 0 _ (omega arith) (record { from = omega arith; before = omega (arith, r.some 0 (omega arith)) })))

  no_sectors : (sectors : List ℕ) (m : ℕ) → AreSectors b sectors m → m ≡ 0
  no_sectors sectors zero r = refl
  no_sectors sectors (suc m) r = let h = r.held 0 (omega arith) in absurd (none h.index h.is_old)

  never_many : (runs sectors : List ℕ) → TooMany b runs sectors → ⊥
  never_many runs sectors t =
      let p = no_runs t.all_runs t.n t.are_runs in
      let q = no_sectors t.all_sectors t.m t.are_sectors in
      ⊎_elim (λ s. omega arith) (λ s. omega arith) t.no_room

-- a sound bank has no old byte
sound_none_old : (b : List ℕ) → sound_of b ≡ true → (k : ℕ) → OldByte b k → ⊥
sound_none_old b s k o = o.other (sound_outside b s k (is_outside b k o.outside))

-- and one with good contents that has none is sound
none_old_sound : (b : List ℕ) → contents_good b ≡ true → ((k : ℕ) → OldByte b k → ⊥) → sound_of b ≡ true
none_old_sound b g none = outside_sound b g λ k o. else_blank b k o (not_so (old b k) (λ e. none k (old_byte b k e)))

-- what the check says
says_sound : (b : List ℕ) → check_says b ≡ result 0x06 → (whole_length (length b) ≡ true) × (sound_of b ≡ true)
unfolding check_says
says_sound b e = by (whole_length (length b)) (sound_of b) e
  where
    by : (w s : Bool) → cond w (cond s (result 0x06) (result 0x1E)) (number 2) ≡ result 0x06 → (w ≡ true) × (s ≡ true)
    by true true e = (refl, refl)
    by true false e = let z : ◌≡◌ {A = ℕ} 0x1E 0x06 = cc in absurd (omega arith)
    by false s e = no_way (cc)

sound_says : (b : List ℕ) → whole_length (length b) ≡ true → sound_of b ≡ true → check_says b ≡ result 0x06
unfolding check_says
sound_says b w s = rw (w, s)

module _ (clean : Cleaner) (meets : MeetsCleaner clean) where
  -- the four that come back, and when
  data Case (b runs sectors : List ℕ) : Type 0 where
    two : whole_length (length b) ≡ false → cleaned_said (clean b runs sectors).answer ≡ number 2 → Case b runs sectors
    nine : whole_length (length b) ≡ true → (KeptInside b → ⊥) → cleaned_said (clean b runs sectors).answer ≡ number 9 → Case b runs sectors
    ten :
        whole_length (length b) ≡ true → KeptInside b → TooMany b runs sectors → cleaned_said (clean b runs sectors).answer ≡ number 10
        → Case b runs sectors
    done :
        whole_length (length b) ≡ true → KeptInside b → cleaned_said (clean b runs sectors).answer ≡ accepted → Case b runs sectors

  case : (b runs sectors : List ℕ) → Case b runs sectors
  case b runs sectors = by (whole_length (length b)) (contents_good b) refl refl
    where
      fitting : whole_length (length b) ≡ true → KeptInside b → Dec (TooMany b runs sectors) → Case b runs sectors
      fitting w k (yes t) = ten w k t ((meets b runs sectors).no_room w k t)
      fitting w k (no f) = done w k (ap cleaned_said ((meets b runs sectors).taken w k f).is)

      by : (w g : Bool) → whole_length (length b) ≡ w → contents_good b ≡ g → Case b runs sectors
      by false g e c = two e ((meets b runs sectors).bad_length e)
      by true false e c =
          let f : KeptInside b → ⊥ = λ k. let z = sym c ∙ inside_back b k in no_way (cc) in
          nine e f ((meets b runs sectors).faulty e f)
      by true true e c = fitting e (kept_inside b c) (room_known b runs sectors e)

  -- a sound bank of a bank's length
  sound_listed : (b runs sectors : List ℕ) → whole_length (length b) ≡ true → sound_of b ≡ true → clean b runs sectors ≡ nothing_listed b runs sectors
  sound_listed b runs sectors w s =
      let none = sound_none_old b s in
      let r = meets b runs sectors in
      let t = r.taken w (kept b s).inside (never_many b none runs sectors) in
      let n : t.runs ≡ 0 = no_runs b none _ _ (r.done _ _ t.is).are_runs in
      let m : t.sectors ≡ 0 = no_sectors b none _ _ (r.done _ _ t.is).are_sectors in
      let is : (clean b runs sectors).answer ≡ done_with 0 0 = rw (n, m) at t.is in
      let d = r.done 0 0 is in
      let bank = ext_get_or 0 (clean b runs sectors).bank b d.same_length (λ k h. d.stays k (none k)) in
      λ x. record { answer = is x; bank = bank x; runs = d.runs_rest x; sectors = d.sectors_rest x }

  -- where it is done
  module _ (b runs sectors : List ℕ) (n m : ℕ) (is : (clean b runs sectors).answer ≡ done_with n m) where
    abbrev o : CleanedOut
    o = clean b runs sectors

    right : DoneRight b runs sectors (clean b runs sectors) n m
    right = (meets b runs sectors).done n m is

    pub taken : (whole_length (length b) ≡ true) × KeptInside b
    taken = by (case b runs sectors) (ap cleaned_said is)
      where
        by : Case b runs sectors → cleaned_said (clean b runs sectors).answer ≡ accepted → (whole_length (length b) ≡ true) × KeptInside b
        by (two w s) a = let z = sym s ∙ a in no_way (cc)
        by (nine w f s) a = let z = sym s ∙ a in no_way (cc)
        by (ten w k t s) a = let z = sym s ∙ a in no_way (cc)
        by (done w k s) a = (w, k)

    inside-stays : (k : ℕ) → outside b k ≡ false → byte_at o.bank k ≡ byte_at b k
    inside-stays k e = right.stays k λ p. let z = sym e ∙ is_outside b k p.outside in no_way (cc)

    bank_whole : whole_length (length o.bank) ≡ true
    bank_whole = rw right.same_length taken.0

    bank-sound : sound_of o.bank ≡ true
    bank-sound =
        let g = inside_back b taken.1 in
        outside_sound o.bank (inside_same b o.bank right.same_length inside-stays g) λ k e.
        by k (sym (outside_same b o.bank right.same_length inside-stays g k) ∙ e) (old b k) refl
      where
        by : (k : ℕ) → outside b k ≡ true → (t : Bool) → old b k ≡ t → byte_at o.bank k ≡ 0xFF
        by k e true t = right.cleared k (old_byte b k t)
        by k e false t = right.stays k (λ p. let z = sym t ∙ byte_old b k p in no_way (cc)) ∙ else_blank b k e t

    -- what is another byte was an old one
    differs-old : (k : ℕ) → Differs b o k → OldByte b k
    differs-old k d = by (old b k) refl
      where
        by : (t : Bool) → old b k ≡ t → OldByte b k
        by true e = old_byte b k e
        by false e = absurd (d (right.stays k (λ p. let z = sym e ∙ byte_old b k p in no_way (cc))))

    old-differs : (k : ℕ) → OldByte b k → Differs b o k
    old-differs k p e = p.other (sym e ∙ right.cleared k p)

    promised : Promised b o n m
    promised =
        record {
          sound = kept o.bank bank-sound;
          inside = λ k f. right.stays k (λ p. f p.outside);
          changed = λ k d.
              let p = differs-old k d in
              let r = right.are_runs.all_old k p in
              record {
                in_run = r;
                no_other = λ i h q. one_run right.are_runs i r.place k h r.below q r.has;
                was = p.other;
                is = right.cleared k p;
              };
          listed = λ i k h q. let p = right.are_runs.are_old i k h q in (p.other, right.cleared k p);
          sector_listed = λ j h.
              let p = right.are_sectors.held j h in
              record { index = p.index; in_it = p.in_it; differs = old-differs p.index p.is_old };
          sector_changed = λ k d. right.are_sectors.all_held k (differs-old k d);
        }

pub promises : (clean : Cleaner) → MeetsCleaner clean → Promises clean
promises clean meets =
    record {
      promised = promised clean meets;
      again = λ b runs sectors n m e runs' sectors'.
          sound_listed clean meets (clean b runs sectors).bank runs' sectors' (bank_whole clean meets b runs sectors n m e)
          (bank-sound clean meets b runs sectors n m e);
      gaps_alone = λ b runs sectors k s. not-nine b runs sectors k s (case clean meets b runs sectors);
      other_fault = λ b runs sectors. (meets b runs sectors).faulty;
      two_length = λ b runs sectors s. not-two b runs sectors s (case clean meets b runs sectors);
      nine_whole = λ b runs sectors s. known b runs sectors (λ e. let z : ◌≡◌ {A = ℕ} 2 9 = cc in omega arith);
      ten_whole = λ b runs sectors s. known b runs sectors (λ e. let z : ◌≡◌ {A = ℕ} 2 10 = cc in omega arith);
      ten_list = λ b runs sectors s. is-ten b runs sectors s (case clean meets b runs sectors);
      enough = λ b runs sectors h l s.
          let w = known b runs sectors (λ e. let z : ◌≡◌ {A = ℕ} 2 10 = cc in omega arith) in
          let t = (is-ten b runs sectors s (case clean meets b runs sectors)).1 in
          room b runs sectors w (let m = runs_most b w in omega arith) (let m = sectors_most b w in omega arith) t;
      sound_none = λ b runs sectors s. let p = says_sound b s in sound_listed clean meets b runs sectors p.0 p.1;
      none_sound = λ b runs sectors e.
          let t = taken clean meets b runs sectors 0 0 e in
          sound_says b t.0
          (none_old_sound b (inside_back b t.1) λ k p. omega (arith, ((right clean meets b runs sectors 0 0 e).are_runs.all_old k p).below));
      sound_after = λ b runs sectors n m e.
          sound_says (clean b runs sectors).bank (bank_whole clean meets b runs sectors n m e) (bank-sound clean meets b runs sectors n m e);
    }
  where
    not-nine : (b runs sectors : List ℕ) → KeptInside b → cleaned_said (clean b runs sectors).answer ≡ number 9 → Case clean meets b runs sectors → ⊥
    not-nine b runs sectors k s (two w a) = let z : ◌≡◌ {A = ℕ} 2 9 = cc in omega arith
    not-nine b runs sectors k s (nine w f a) = f k
    not-nine b runs sectors k s (ten w i t a) = let z : ◌≡◌ {A = ℕ} 10 9 = cc in omega arith
    not-nine b runs sectors k s (done w i a) = no_way (cc)

    not-two :
        (b runs sectors : List ℕ) → cleaned_said (clean b runs sectors).answer ≡ number 2 → Case clean meets b runs sectors
        → whole_length (length b) ≡ false
    not-two b runs sectors s (two w a) = w
    not-two b runs sectors s (nine w f a) = let z : ◌≡◌ {A = ℕ} 9 2 = cc in absurd (omega arith)
    not-two b runs sectors s (ten w i t a) = let z : ◌≡◌ {A = ℕ} 10 2 = cc in absurd (omega arith)
    not-two b runs sectors s (done w i a) = no_way (cc)

    is-ten :
        (b runs sectors : List ℕ) → cleaned_said (clean b runs sectors).answer ≡ number 10 → Case clean meets b runs sectors
        → KeptInside b × TooMany b runs sectors
    is-ten b runs sectors s (two w a) = let z : ◌≡◌ {A = ℕ} 2 10 = cc in absurd (omega arith)
    is-ten b runs sectors s (nine w f a) = let z : ◌≡◌ {A = ℕ} 9 10 = cc in absurd (omega arith)
    is-ten b runs sectors s (ten w i t a) = (i, t)
    is-ten b runs sectors s (done w i a) = no_way (cc)

    -- what is not 2 is said of a bank's length
    known : (b runs sectors : List ℕ) → (cleaned_said (clean b runs sectors).answer ≡ number 2 → ⊥) → whole_length (length b) ≡ true
    known b runs sectors f = by (whole_length (length b)) refl
      where
        by : (w : Bool) → whole_length (length b) ≡ w → whole_length (length b) ≡ true
        by true w = w
        by false w = absurd (f ((meets b runs sectors).bad_length w))

-- of the one of the contract
pub cleaner_promises : Promises cleaner
cleaner_promises = promises cleaner cleaner_meets
