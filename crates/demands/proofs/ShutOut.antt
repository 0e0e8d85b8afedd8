-- What demand 2 shuts out, from the demand alone: a machine that refuses everything, one with a single answer, one that never changes a bank.
-- The first two classes have a member.
-- Assumes nothing.
use mathlib.Core.Path.{◌≡◌, refl, sym, ap, ◌∙◌}
use mathlib.Core.Logic.{◌⊎◌, inl, inr}
use mathlib.Core.Bool.{Bool, true, false, not, false≢true}
use mathlib.Core.List.{List, [], ◌∷◌}
use Prim.Native.Nat.{ℕ, ◌≤◌}
use native.Mathlib.Omega.{arith}
use lib.Dec.{eqb}
use lib.ListN.{length, get_or}
use Rattle.buffer.specs.Number.{byte_at}
use Rattle.buffer.proofs.Bools.{split}
use Rattle.frame.specs.Frame.{frame_error}
use Rattle.layout.specs.declared.Bank.TheVariants.{Zero, One}
use Rattle.layout.specs.Layout.{good_n, bank_size}
use Rattle.layout.specs.Pair.{Banks, bank_in}
use Rattle.exchange.specs.State.{is_closed}
use Rattle.decision.specs.Plan.{lent_good}
use Rattle.decision.proofs.Planning.{lent}
use Rattle.client.specs.declared.record.Client.{Client}
use Rattle.client.specs.Host.{fixed_of}
use Rattle.sender.specs.declared.request.Request.TheVariants.{WriteStart, WriteEnd}
use Rattle.sender.specs.Packet.{packet_count}
use Rattle.sender.specs.Request.{request_frame}
use Rattle.calls.specs.Call.{Board}
use Rattle.demands.specs.Board.{LentCall, Datagram, Outcome, said, Machine, lent_of, lent_target}
use Rattle.demands.specs.Demand2.{Fit, Delivered, Meets2}
use Rattle.demands.specs.ShutOut.{says06, RefusesAll, OneAnswer, faults_only, NeverStores}
use Rattle.demands.proofs.Demand2.{said_back}
use Rattle.demands.proofs.Witness.{image, witness_board, calling, order, sending, delivery, ready, image_size, image_fit, two_packets}

-- what a machine that meets demand 2 does with a fit image of two packets
pub delivered : (m : Machine) → Meets2 m → (img : List ℕ) → Fit img (fixed_of 2 Zero 1 0 0) → packet_count img 2 ≡ 2
    → Delivered m witness_board img (calling (request_frame (WriteStart One 2))) order (sending img) (calling (request_frame WriteEnd))
unfolding witness_board
delivered m meets img fit two = meets witness_board img ready fit _ _ _ _ (delivery img two)

pub fit : Fit image (fixed_of 2 Zero 1 0 0)
fit = record { size = image_size; sound = image_fit (fixed_of 2 Zero 1 0 0) }

pub no_refuser : (m : Machine) → RefusesAll m → Meets2 m → ⊥
no_refuser m r meets = r _ _ (ap says06 (delivered m meets image fit two_packets).started)

-- whoever says something of three bytes says something
speaks : (x y z : ℕ) (l t : List ℕ) → t ≡ x ∷ y ∷ z ∷ l → t ≡ [] → ⊥
speaks x y z l t e n = absurd (omega (arith, ap length (sym e ∙ n)))

pub no_fixed : (m : Machine) → OneAnswer m → Meets2 m → ⊥
no_fixed m f meets =
    let d = delivered m meets image fit two_packets in
    let first = f.always _ _ (speaks _ _ _ _ _ d.started) in
    let last = f.always _ _ (speaks _ _ _ _ _ d.ended) in
    let e = ap (λ (l : List ℕ). byte_at l 2) (sym d.started ∙ first ∙ sym last ∙ d.ended) in
    absurd (omega (arith, e))

-- ---- a machine of both classes

frame_short : length frame_error ≤ 14
unfolding frame_error
frame_short = omega arith

only_fault : (b : Board) (call : LentCall) → (said (faults_only b (Datagram call)) ≡ []) ⊎ (said (faults_only b (Datagram call)) ≡ frame_error)
only_fault b call =
    let c : Client = b.client in
    let P : Outcome → Type 0 = λ o. (said o ≡ []) ⊎ (said o ≡ frame_error) in
    let room : ℕ = length call.buffer in
    split P (not (good_n c.fixed.n)) (λ _. inl refl)
    (λ _. split P (not (eqb (length (bank_in c.fixed.running (lent_of call.lent b.pair))) (bank_size c.fixed.n))) (λ _. inl refl)
    (λ _. split P (not (lent_good c.fixed.n (length (lent_target b call)) (length call.marks) (length call.address) room)) (λ _. inl refl)
    (λ l. split P (is_closed c.state) (λ _. inl refl)
    (λ _. inr (said_back call frame_error frame_short (lent c.fixed.n _ _ _ room (not-false _ l)).roomy)))))
  where
    not-false : (t : Bool) → not t ≡ false → t ≡ true
    not-false true e = refl
    not-false false e = sym e

pub one_fixed : OneAnswer faults_only
one_fixed = record { answer = frame_error; always = λ b call n. by b call n (only_fault b call) }
  where
    by : (b : Board) (call : LentCall) → (said (faults_only b (Datagram call)) ≡ [] → ⊥)
        → (said (faults_only b (Datagram call)) ≡ []) ⊎ (said (faults_only b (Datagram call)) ≡ frame_error)
        → said (faults_only b (Datagram call)) ≡ frame_error
    by b call n (inl e) = absurd (n e)
    by b call n (inr e) = e

pub one_refuser : RefusesAll faults_only
unfolding frame_error
one_refuser b call e = by (only_fault b call)
  where
    by : (said (faults_only b (Datagram call)) ≡ []) ⊎ (said (faults_only b (Datagram call)) ≡ frame_error) → ⊥
    by (inl n) = false≢true (sym (ap says06 n) ∙ e)
    by (inr n) = false≢true (sym (ap says06 n) ∙ e)

-- the first byte of the image
first_byte : get_or image 0 0 ≡ 0x04
unfolding image
first_byte = refl

pub no_keeper : (m : Machine) → NeverStores m → Meets2 m → ⊥
unfolding witness_board sending
no_keeper m k meets =
    let d = delivered m meets image fit two_packets in
    let kept = k _ _ ∙ k _ _ ∙ k _ _ ∙ k _ _ ∙ k witness_board _ in
    let e = ap (λ (p : Banks). get_or p.bank1 0 0) (sym kept) ∙ ap (λ (l : List ℕ). get_or l 0 0) d.bank ∙ first_byte in
    absurd (omega (arith, e))
