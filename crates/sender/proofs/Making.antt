-- Each way out of the making of a control frame and of a request.
-- Assumes nothing.
use mathlib.Core.Path.{◌≡◌, sym, ap, ap₂, subst, ◌∙◌}
use mathlib.Core.Bool.{true, false}
use mathlib.Core.List.{List, [], ◌++◌, append-nil}
use Prim.Native.Nat.{ℕ, ◌+◌, ◌≤◌, ◌<◌}
use native.Mathlib.Omega.{arith}
use lib.ListN.{length, drop}
use borrow.Author.Tests.{le-leb, lt-leb}
use Rattle.std.specs.Prelude.{Result, Ok, Err}
use Rattle.buffer.specs.Number.{bytes_of}
use Rattle.buffer.specs.Place.{place_of}
use Rattle.buffer.proofs.Numbers.{length_bytes}
use Rattle.buffer.proofs.Places.{place_front, front_fits, place_next}
use Rattle.commands.specs.Command.{request_code}
use Rattle.commands.specs.declared.Command.{Command}
use Rattle.frame.specs.Frame.{control_frame}
use Rattle.frame.specs.Write.{put_control}
use Rattle.frame.proofs.Writing.{length_control, control_fits}
use Rattle.layout.specs.Layout.{good_n, start_of, end_of}
use Rattle.layout.specs.declared.Bank.{Bank}
use Rattle.sender.specs.declared.made.Refusal.{Refusal}
use Rattle.sender.specs.declared.made.Refusal.TheVariants.{BadN, BadLength}
use Rattle.sender.specs.declared.request.Request.{Request}
use Rattle.sender.specs.declared.request.Request.TheVariants.{WriteStart}
use Rattle.sender.specs.Made.{room, made_said, room_for, buffer_after}
use Rattle.sender.specs.Request.{command_of, asks_for, given_good, request_frame, request_made, IsRequest, IsControl}
use Rattle.sender.proofs.Refusals.{request_says_lem}

module _ (size : ℕ) (bytes : List ℕ) where
  no_room : size < room → Err BadLength ≡ room_for size bytes
  unfolding room_for
  no_room h = rw (lt-leb room size h)

  has_room : (n : ℕ) → n ≡ length bytes → room ≤ size → Ok n ≡ room_for size bytes
  unfolding room_for
  has_room n e h = rw (le-leb room size h) (ap Ok e)

module _ (code : ℕ) (parameters before : List ℕ) where
  pub control_refused : length before < room → IsControl code parameters before (Err BadLength) before
  control_refused h =
      let frame : List ℕ = control_frame code parameters in
      let e : Err BadLength ≡ room_for (length before) frame = no_room (length before) frame h in
      record { answered = e; stands = ap (λ (m : Result ℕ Refusal). buffer_after m before frame) e }

  pub control_made :
      (after : List ℕ) → length parameters ≤ 254 → room ≤ length before → after ≡ put_control before code parameters
      → IsControl code parameters before (Ok (length parameters + 5)) after
  control_made after l h p =
      let frame : List ℕ = control_frame code parameters in
      let e : Ok (length parameters + 5) ≡ room_for (length before) frame =
      has_room (length before) frame (length parameters + 5) (sym (length_control code parameters)) h in
      record {
        answered = e;
        stands = p ∙ control_fits before code parameters l ∙ ap (λ (m : Result ℕ Refusal). buffer_after m before frame) e;
      }

-- a request whose N is good, where there is room
pub request_made_lem : (request : Request) (size : ℕ) → given_good request ≡ true → room ≤ size → request_made request size ≡ Ok (length (request_frame request))
unfolding request_made room_for
request_made_lem request size g h = rw (g, le-leb room size h)

-- what is answered and what stands is all: what it says follows
request_is : (request : Request) (before after : List ℕ) (r : Result ℕ Refusal) → r ≡ request_made request (length before)
    → after ≡ buffer_after (request_made request (length before)) before (request_frame request) → IsRequest request before r after
request_is request before after r e s = record { answered = e; says = ap made_said e ∙ request_says_lem request (length before); stands = s }

pub request_told : {request q : Request} {before after : List ℕ} {r : Result ℕ Refusal} → request ≡ q → IsRequest q before r after
    → IsRequest request before r after
request_told {before = before} {after = after} {r = r} t i = subst (λ (x : Request). IsRequest x before r after) (sym t) i

-- a request q is the control frame of its code and parameters, its N being good
pub request_control :
    {before after : List ℕ} {r : Result ℕ Refusal} {parameters : List ℕ} {code : ℕ} (q : Request) → given_good q ≡ true → code ≡ request_code (command_of q)
    → parameters ≡ asks_for q → IsControl code parameters before r after → IsRequest q before r after
unfolding request_made
request_control {before} {after} {r} {parameters} q g c p i =
    let d = subst (λ (l : List ℕ). IsControl (request_code (command_of q)) l before r after) p
    (subst (λ (x : ℕ). IsControl x parameters before r after) c i) in
    let e : room_for (length before) (request_frame q) ≡ request_made q (length before) = rw g in
    request_is q before after r (d.answered ∙ e) (d.stands ∙ ap (λ (m : Result ℕ Refusal). buffer_after m before (request_frame q)) e)

-- a request without parameters, by the code of its command
pub request_bare :
    {request : Request} {command : Command} {code : ℕ} {before after : List ℕ} {r : Result ℕ Refusal} (q : Request) → request ≡ q → command ≡ command_of request
    → code ≡ request_code command → given_good q ≡ true → [] ≡ asks_for q → IsControl code [] before r after → IsRequest request before r after
request_bare q t k c g p i = request_told t (request_control q g (c ∙ ap request_code (k ∙ ap command_of t)) p i)

module _ (bank : Bank) (n : ℕ) (before : List ℕ) where
  pub start_refused : good_n n ≡ false → IsRequest (WriteStart bank n) before (Err BadN) before
  unfolding request_made
  start_refused g =
      let e : Err BadN ≡ request_made (WriteStart bank n) (length before) = rw g in
      request_is (WriteStart bank n) before before (Err BadN) e (ap (λ (m : Result ℕ Refusal). buffer_after m before (request_frame (WriteStart bank n))) e)

-- two numbers of four bytes put one behind the other
two_numbers : (zeros : List ℕ) (a b : ℕ) → length zeros ≡ 8 → drop 4 (drop 4 zeros) ≡ [] → length (drop 4 zeros) ≡ 4
    → place_of (place_of zeros 0 (bytes_of 4 a)) 4 (bytes_of 4 b) ≡ bytes_of 4 a ++ bytes_of 4 b
two_numbers zeros a b n z r =
    let la : length (bytes_of 4 a) ≡ 4 = length_bytes 4 a in
    let lb : length (bytes_of 4 b) ≡ 4 = length_bytes 4 b in
    let first : place_of zeros 0 (bytes_of 4 a) ≡ bytes_of 4 a ++ drop 4 zeros =
    place_front zeros (bytes_of 4 a) ∙ front_fits zeros (bytes_of 4 a) (omega arith) ∙ ap (λ (k : ℕ). bytes_of 4 a ++ drop k zeros) la in
    ap₂ (λ (l : List ℕ) (k : ℕ). place_of l k (bytes_of 4 b)) first (sym la)
    ∙ place_next (bytes_of 4 a) (drop 4 zeros) (bytes_of 4 b) (omega arith)
    ∙ ap (λ (k : ℕ). bytes_of 4 a ++ bytes_of 4 b ++ drop k (drop 4 zeros)) lb
    ∙ ap (λ (l : List ℕ). bytes_of 4 a ++ bytes_of 4 b ++ l) z
    ∙ append-nil (bytes_of 4 a ++ bytes_of 4 b)

-- the parameters of a write start, put together
pub start_parameters : (bank : Bank) (n : ℕ) (zeros : List ℕ) {first second : List ℕ} {start end : ℕ} → length zeros ≡ 8 → drop 4 (drop 4 zeros) ≡ []
    → length (drop 4 zeros) ≡ 4 → first ≡ place_of zeros 0 (bytes_of 4 start) → second ≡ place_of first 4 (bytes_of 4 end) → start ≡ start_of bank
    → end ≡ end_of bank n → second ≡ asks_for (WriteStart bank n)
start_parameters bank n zeros {start = start} {end = end} l z r e f s t =
    f ∙ ap (λ (x : List ℕ). place_of x 4 (bytes_of 4 end)) e
    ∙ two_numbers zeros start end l z r
    ∙ ap₂ (λ (x y : ℕ). bytes_of 4 x ++ bytes_of 4 y) s t
