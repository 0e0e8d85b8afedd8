-- A night hears the responses of slots: what one slot more makes of it.
-- Assumes nothing.
use mathlib.Core.Path.{◌≡◌, refl, ap, ◌∙◌}
use mathlib.Core.Bool.{true, false}
use mathlib.Core.List.{List}
use Prim.Native.Nat.{ℕ, ◌+◌, ◌-◌, ◌*◌}
use native.Mathlib.Omega.{arith}
use native.Mathlib.Numerals.{add-one}
use lib.ListN.{take, drop}
use Rattle.layout.specs.declared.Bank.TheVariants.{Zero}
use Rattle.night.specs.declared.record.Called.{Called}
use Rattle.night.specs.declared.record.Night.{Night}
use Rattle.night.specs.Call.{IsStart, IsHeard}
use Rattle.exports.specs.Slots.{slot_size, slot_count, size_at, datagram_at, slots_good}
use Rattle.exports.specs.Heard.{next_code, Stood, stood, heard_next, heard_of, IsNightSlots}

-- the part of the slots behind a slot's length is its datagram
pub slot_heard : (slots : List ℕ) (k size : ℕ) {night : Night} {image before : List ℕ} {r : Called} {after : List ℕ} → size ≡ size_at slots k
    → IsHeard night (take (k * slot_size + 2 + size - (k * slot_size + 2)) (drop (k * slot_size + 2) slots)) image before r after
    → IsHeard night (datagram_at slots k) image before r after
slot_heard slots k size e h =
    let same : k * slot_size + 2 + size - (k * slot_size + 2) ≡ size_at slots k = omega arith in
    rw same at h

module _ (image slots : List ℕ) where
  pub none_heard : (s : Stood) → s ≡ heard_of image slots s 0
  unfolding heard_of
  none_heard s = refl

  pub one_heard : (s : Stood) (k : ℕ) (night : Night) (told : ℕ) (before : List ℕ) (r : Called) (after : List ℕ)
      → stood night told before ≡ heard_of image slots s k → IsHeard night (datagram_at slots k) image before r after
      → stood r.night (next_code r.next) after ≡ heard_of image slots s (k + 1)
  unfolding heard_of
  one_heard s k night told before r after e h =
      let next : stood r.night (next_code r.next) after ≡ heard_next image (datagram_at slots k) (stood night told before) =
      λ i. stood (h.answered i).night (next_code (h.answered i).next) (h.stands i) in
      rw (add-one k) (next ∙ ap (heard_next image (datagram_at slots k)) e)

-- ---- the contract

module _ (image : List ℕ) (n tries : ℕ) (slots before : List ℕ) where
  pub slots_refused : slots_good slots (slot_count slots) ≡ false → IsNightSlots image n tries slots before 2 before
  slots_refused e = record { given = rw e; stands = rw e }

  pub slots_heard : (b : Called) (begun : List ℕ) (night : Night) (told : ℕ) (after : List ℕ) (k : ℕ)
      → slots_good slots (slot_count slots) ≡ true → IsStart image Zero n tries before b begun → k ≡ slot_count slots
      → stood night told after ≡ heard_of image slots (stood b.night (next_code b.next) begun) k
      → IsNightSlots image n tries slots before told after
  slots_heard b begun night told after k g s all e =
      let whole = e ∙ λ i. heard_of image slots (stood (s.answered i).night (next_code (s.answered i).next) (s.stands i)) (all i) in
      record { given = rw g (ap (λ (x : Stood). x.told) whole); stands = rw g (ap (λ (x : Stood). x.buffer) whole) }
