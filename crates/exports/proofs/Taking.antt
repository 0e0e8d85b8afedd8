-- Slots looked at, and calls one after another with one buffer: what one slot more makes of it.
-- Assumes nothing.
use mathlib.Core.Path.{◌≡◌, refl, sym, ap, ap₂, ◌∙◌}
use mathlib.Core.Bool.{Bool, true, false}
use mathlib.Core.List.{List, [], ◌∷◌, ◌++◌, foldl, foldl-append}
use Prim.Native.Nat.{ℕ, zero, suc, ◌+◌, ◌-◌, ◌*◌, ◌<◌, ◌≤◌}
use native.Mathlib.Omega.{arith}
use native.Mathlib.Numerals.{add-one}
use lib.Dec.{leb}
use lib.ListN.{length, take, drop}
use borrow.Author.Tests.{le-leb, leb-true, leb-false, eqb-true}
use Rattle.buffer.specs.Place.{front_of}
use Rattle.buffer.proofs.Bools.{and_left, and_right, and_both, not_so}
use Rattle.layout.specs.declared.Bank.{Bank}
use Rattle.layout.specs.Layout.{other_of}
use Rattle.layout.specs.Pair.{Banks, banks, bank_in, with_bank}
use Rattle.exchange.specs.Answer.{Reply, reply_bytes}
use Rattle.client.specs.declared.record.Client.{Client}
use Rattle.client.specs.declared.step.Stepped.{Stepped}
use Rattle.client.specs.Step.{Carried, step_of, IsStep}
use Rattle.calls.specs.Call.{Call, Board, board, stepped, board_after, after_steps, came_of_steps}
use Rattle.calls.proofs.Again.{steps_more, cames_more, Likewise, step_lent}
use Rattle.calls.proofs.Beside.{step_said}
use Rattle.exports.specs.Slots.{slot_room, slot_size, slot_count, size_at, datagram_at, slots_good, address_size, address_at, all_good}
use Rattle.exports.specs.Slots.{calls_of, fresh, slots_taken, IsTakeSlots}
use Rattle.exports.specs.Slots.{given_of, Run, ran, last_given, said_next, run_of}

-- ---- slots looked at

pub none_looked_at : (slots : List ℕ) → slots_good slots 0 ≡ true
unfolding slots_good
none_looked_at slots = refl

pub one_more_good : (slots : List ℕ) (k : ℕ) → slots_good slots k ≡ true → size_at slots k ≤ slot_room → slots_good slots (k + 1) ≡ true
unfolding slots_good
one_more_good slots k g h = rw (add-one k) (and_both _ _ g (le-leb _ _ h))

pub each_good : (slots : List ℕ) (n k : ℕ) → slots_good slots n ≡ true → k < n → size_at slots k ≤ slot_room
unfolding slots_good
each_good slots zero k g h = absurd (omega arith)
each_good slots (suc n) k g h = by (leb (suc k) n) refl (each_good slots n k (and_left _ _ g))
  where
    by : (b : Bool) → leb (suc k) n ≡ b → (k < n → size_at slots k ≤ slot_room) → size_at slots k ≤ slot_room
    by true e before = before (leb-true _ _ e)
    by false e before =
        let last : k ≡ n = omega (arith, leb-false (suc k) n e) in
        rw last (leb-true (size_at slots n) slot_room (and_right (slots_good slots n) (leb (size_at slots n) slot_room) g))

pub one_bad : (slots : List ℕ) (n k : ℕ) → k < n → slot_room < size_at slots k → slots_good slots n ≡ false
one_bad slots n k h b = not_so (slots_good slots n) (λ g. let s = each_good slots n k g h in omega arith)

-- the slots, and then the addresses
module _ (slots addresses : List ℕ) (n : ℕ) where
  pub slots_all_good : all_good slots addresses n ≡ true → slots_good slots n ≡ true
  unfolding all_good
  slots_all_good g = and_left _ _ g

  pub an_address_each : all_good slots addresses n ≡ true → length addresses ≡ n * address_size
  unfolding all_good
  an_address_each g = eqb-true _ _ (and_right (slots_good slots n) _ g)

-- the part of the slots behind a slot's length is its datagram, and 16 bytes of the addresses are its address
pub slot_stepped : (slots addresses : List ℕ) (k size : ℕ) {c : Client} {bank0 bank1 marks buffer : List ℕ}
    {r : Stepped} {bank0' bank1' said : List ℕ} → size ≡ size_at slots k
    → IsStep c bank0 bank1 marks (take (k * address_size + address_size - k * address_size) (drop (k * address_size) addresses)) buffer
    (take (k * slot_size + 2 + size - (k * slot_size + 2)) (drop (k * slot_size + 2) slots)) r bank0' bank1' said
    → IsStep c bank0 bank1 marks (address_at addresses k) buffer (datagram_at slots k) r bank0' bank1' said
slot_stepped slots addresses k size e s =
    let same : k * slot_size + 2 + size - (k * slot_size + 2) ≡ size_at slots k = omega arith in
    let whole : k * address_size + address_size - k * address_size ≡ address_size = omega arith in
    rw (whole, same) at s

-- ---- one call more

-- what a step makes of a run
abbrev run_next : Run → Carried → Run
run_next run r = ran (given_of r.answer r.told) (board_after run.kept_at_last r) (said_next run.buffer r)

run_more : (buffer : List ℕ) (k : Board) (calls : List Call) (call : Call)
    → run_of buffer k (calls ++ (call ∷ [])) ≡ run_next (run_of buffer k calls) (stepped (run_of buffer k calls).kept_at_last call)
unfolding run_of
run_more buffer k calls call =
    let r : Carried = stepped (after_steps k calls) call in
    let l : List Carried = r ∷ [] in
    λ i. record {
      given = (ap (foldl last_given 0) (cames_more k calls call) ∙ foldl-append last_given 0 (came_of_steps k calls) l) i;
      kept_at_last = steps_more k calls call i;
      buffer = (ap (foldl said_next buffer) (cames_more k calls call) ∙ foldl-append said_next buffer (came_of_steps k calls) l) i;
    }

-- ---- one slot more

module _ (slots marks addresses buffer : List ℕ) (start : Board) where
  abbrev run_at : ℕ → Run
  run_at k = run_of buffer start (calls_of slots marks addresses buffer k)

  pub none_taken : ran 0 start buffer ≡ run_at 0
  unfolding run_of calls_of
  none_taken = refl

  module _ (k : ℕ) (c : Client) (told : ℕ) (bank0 bank1 lent : List ℕ)
      (e : ran told (board c (banks bank0 bank1)) lent ≡ run_at k) (l : length lent ≡ length buffer)
      (r : Stepped) (bank0' bank1' said : List ℕ)
      (s : IsStep c bank0 bank1 marks (address_at addresses k) lent (datagram_at slots k) r bank0' bank1' said) where
    abbrev pair : Banks
    pair = banks bank0 bank1

    abbrev x : Bank
    x = c.fixed.running

    abbrev address : List ℕ
    address = address_at addresses k

    abbrev call : Call
    call = record { datagram = datagram_at slots k; address = address; marks = marks; buffer = buffer }

    abbrev there : Carried
    there = step_of c pair marks address buffer (datagram_at slots k)

    same : Likewise (step_of c pair marks address lent (datagram_at slots k)) there
    same = step_lent c (length (bank_in x pair)) (bank_in (other_of x) pair) marks address lent buffer (datagram_at slots k) l

    -- the step with the buffer as it was lent is the call's
    step_is : ran (given_of r.answer r.length) (board r.client (banks bank0' bank1')) said
        ≡ run_next (ran told (board c pair) lent) there
    step_is =
        λ i. record {
          given = ap₂ given_of (s.answer ∙ same.answer) (s.told ∙ same.told) i;
          kept_at_last = record {
            client = (s.client ∙ same.client) i;
            pair = record {
              bank0 = (s.bank_zero ∙ ap (λ (t : List ℕ). (with_bank (other_of x) t pair).bank0) same.target) i;
              bank1 = (s.bank_one ∙ ap (λ (t : List ℕ). (with_bank (other_of x) t pair).bank1) same.target) i;
            };
          };
          buffer = (s.said ∙ step_said c (length (bank_in x pair)) (bank_in (other_of x) pair) marks address lent (datagram_at slots k)
              ∙ ap (λ (a : Reply). front_of lent (reply_bytes a)) same.answer) i;
        }

    pub one-taken : ran (given_of r.answer r.length) (board r.client (banks bank0' bank1')) said ≡ run_at (k + 1)
    unfolding calls_of
    one-taken =
        rw (add-one k)
        (step_is ∙ ap (λ (run : Run). run_next run (stepped run.kept_at_last call)) e
        ∙ sym (run_more buffer start (calls_of slots marks addresses buffer k) call))

-- ---- the contract

module _ (n : ℕ) (slots bank0 bank1 marks addresses buffer : List ℕ) where
  pub slots_refused : all_good slots addresses (slot_count slots) ≡ false → IsTakeSlots n slots bank0 bank1 marks addresses buffer 2 bank0 bank1 buffer
  unfolding slots_taken
  slots_refused e = record { given = rw e; bank_zero = rw e; bank_one = rw e; buffer_left = rw e }

  pub slots_taken_lem : (c : Client) (told : ℕ) (bank0' bank1' said : List ℕ) (made : Client) (k : ℕ)
      → all_good slots addresses (slot_count slots) ≡ true → made ≡ fresh n → k ≡ slot_count slots
      → ran told (board c (banks bank0' bank1')) said ≡ run_at slots marks addresses buffer (board made (banks bank0 bank1)) k
      → IsTakeSlots n slots bank0 bank1 marks addresses buffer told bank0' bank1' said
  unfolding slots_taken
  slots_taken_lem c told bank0' bank1' said made k g new all e =
      let whole = e ∙ ap₂ (λ (m : Client) (j : ℕ). run_at slots marks addresses buffer (board m (banks bank0 bank1)) j) new all in
      record {
        given = rw g (ap (λ (run : Run). run.given) whole);
        bank_zero = rw g (ap (λ (run : Run). run.kept_at_last.pair.bank0) whole);
        bank_one = rw g (ap (λ (run : Run). run.kept_at_last.pair.bank1) whole);
        buffer_left = rw g (ap (λ (run : Run). run.buffer) whole);
      }
