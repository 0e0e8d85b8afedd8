-- The sender's requests are as asked.
-- Assumes nothing.
use mathlib.Core.Path.{◌≡◌, ap, ◌∙◌}
use mathlib.Core.Bool.{true}
use mathlib.Core.List.{List}
use Prim.Native.Nat.{ℕ, ◌≤◌}
use native.Mathlib.Omega.{arith}
use lib.ListN.{length, take, drop, length-append}
use borrow.Author.Tests.{le-leb, lt-leb}
use Rattle.std.specs.Prelude.{Result, Ok}
use Rattle.buffer.specs.Number.{bytes_of}
use Rattle.buffer.specs.Place.{front_of}
use Rattle.buffer.proofs.Numbers.{length_bytes}
use Rattle.buffer.proofs.Places.{front_take, front_drop}
use Rattle.commands.specs.Command.{request_code}
use Rattle.frame.proofs.Writing.{length_control}
use Rattle.layout.specs.Layout.{start_of, end_of}
use Rattle.sender.specs.declared.made.Refusal.{Refusal}
use Rattle.sender.specs.declared.request.Request.{Request}
use Rattle.sender.specs.declared.request.Request.TheVariants.{ModeStart, BankInfo, VersionInfo, WriteStart, WriteEnd, ModeEnd}
use Rattle.sender.specs.Made.{room, made_said, room_for, buffer_after}
use Rattle.sender.specs.Request.{command_of, asks_for, request_frame, given_good, request_made}
use Rattle.demands.specs.Requests.{RequestRight, MeetsRequests, request_maker}

few : (request : Request) → length (asks_for request) ≤ 8
few ModeStart = omega arith
few BankInfo = omega arith
few VersionInfo = omega arith
few (WriteStart bank n) =
    omega
    (arith, length-append (bytes_of 4 (start_of bank)) (bytes_of 4 (end_of bank n)), length_bytes 4 (start_of bank), length_bytes 4 (end_of bank n))
few WriteEnd = omega arith
few ModeEnd = omega arith

pub short : (request : Request) → length (request_frame request) ≤ room
short request = omega (arith, length_control (request_code (command_of request)) (asks_for request), few request)

module _ (request : Request) (before : List ℕ) (g : given_good request ≡ true) (h : room ≤ length before) where
  made_is : request_made request (length before) ≡ Ok (length (request_frame request))
  unfolding request_made room_for
  made_is = rw (g, le-leb room (length before) h)

  buffer_is : (request_maker request before).buffer ≡ front_of before (request_frame request)
  buffer_is = ap (λ (m : Result ℕ Refusal). buffer_after m before (request_frame request)) made_is

  is_asked : RequestRight request before (request_maker request before)
  is_asked =
      let s = short request in
      let fits : length (request_frame request) ≤ length before = omega arith in
      record {
        made = ap made_said made_is;
        front = ap (take (length (request_frame request))) buffer_is ∙ front_take before (request_frame request) fits;
        rest = ap (drop (length (request_frame request))) buffer_is ∙ front_drop before (request_frame request) fits;
      }

pub requests_meet : MeetsRequests request_maker
unfolding request_made room_for
requests_meet =
    record {
      bad_n = λ bank n before g. record { says = rw g; stays = rw g };
      bad_length = λ request before g h.
          let l = lt-leb room (length before) h in record { says = rw (g, l); stays = rw (g, l) };
      request = λ request before g h. is_asked request before g h;
    }
