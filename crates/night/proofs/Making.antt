-- A request's frame is made: nothing is refused where nothing was on looking.
-- Assumes nothing.
use mathlib.Core.Path.{◌≡◌, sym, ap, ◌∙◌}
use mathlib.Core.Bool.{true}
use mathlib.Core.List.{List}
use Prim.Native.Nat.{ℕ, ◌*◌, ◌≤◌, ◌<◌}
use lib.ListN.{length}
use borrow.Author.Tests.{eqb-true}
use Rattle.std.specs.Prelude.{Result, Ok}
use Rattle.buffer.specs.Place.{front_of}
use Rattle.layout.specs.Layout.{sector_size, good_n}
use Rattle.layout.specs.declared.Bank.{Bank}
use Rattle.sender.specs.declared.made.Refusal.{Refusal as Unmade}
use Rattle.sender.specs.declared.request.Request.{Request}
use Rattle.sender.specs.Made.{room}
use Rattle.sender.specs.Made.{buffer_after as made_after}
use Rattle.sender.specs.Packet.{packet_count, packet_frame, image_good, IsPacket}
use Rattle.sender.specs.Request.{request_frame, given_good, IsRequest}
use Rattle.sender.proofs.Making.{request_made_lem}
use Rattle.sender.proofs.Packets.{packet-made}
use Rattle.night.specs.declared.name.Name.{Name}
use Rattle.night.specs.declared.name.Name.TheVariants.{Packet}
use Rattle.night.specs.declared.record.Next.{Next}
use Rattle.night.specs.declared.record.Refusal.{Refusal}
use Rattle.night.specs.Call.{sent_by, IsMake}
use Rattle.night.specs.Name.{frame_of}

module _ (name : Name) (bank : Bank) (n : ℕ) (image before after : List ℕ) (made : Result ℕ Unmade) (next : Result Next Refusal) where
  framed : (frame : List ℕ) → next ≡ sent_by name made → made ≡ Ok (length frame) → after ≡ front_of before frame → frame_of image bank n name ≡ frame
      → IsMake name bank n image before next after
  framed frame out m a f =
      record {
        answered = out ∙ ap (sent_by name) (m ∙ ap (λ (l : List ℕ). Ok (length l)) (sym f));
        stands = a ∙ ap (front_of before) (sym f);
      }

  pub request_sent : next ≡ sent_by name made → (k : Name) (request : Request) → name ≡ k → frame_of image bank n k ≡ request_frame request
      → given_good request ≡ true → room ≤ length before
      → IsRequest request before made after → IsMake name bank n image before next after
  request_sent out k request e f g h r =
      let m = request_made_lem request (length before) g h in
      framed (request_frame request) out (r.answered ∙ m) (r.stands ∙ ap (λ (x : Result ℕ Unmade). made_after x before (request_frame request)) m)
      (ap (frame_of image bank n) e ∙ f)

  pub packet_sent : (p : ℕ) → next ≡ sent_by (Packet p) made → name ≡ Packet p → good_n n ≡ true → image_good image n ≡ true → room ≤ length before
      → p < packet_count image n
      → IsPacket image n p before made after → IsMake name bank n image before next after
  packet_sent p out e g i h q r =
      let m = packet-made image n p (length before) g (eqb-true (length image) (sector_size * n) i) h q in
      framed (packet_frame image n p) (out ∙ ap (λ (x : Name). sent_by x made) (sym e)) (r.answered ∙ m) (r.stands ∙ ap (λ (x : Result ℕ Unmade). made_after x before (packet_frame image n p)) m)
      (ap (frame_of image bank n) e)
