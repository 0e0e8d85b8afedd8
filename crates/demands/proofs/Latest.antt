-- What a session shows, sector by sector: each as it was last accepted, and 0xFF where none was.
-- Assumes nothing.
use mathlib.Core.Path.{◌≡◌, refl, sym, ap, subst, ◌∙◌}
use mathlib.Core.Bool.{Bool, true, false, cond}
use mathlib.Core.List.{List, [], ◌∷◌}
use Prim.Native.Nat.{ℕ, ◌≤◌}
use native.Mathlib.Omega.{arith}
use lib.Dec.{eqb}
use lib.ListN.{length, length-replicate}
use borrow.Author.Tests.{eqb-true, eqb-false}
use Rattle.crc.specs.Crc.{crc_of}
use Rattle.frame.specs.Read.{data_in}
use Rattle.flash.specs.Bank.{with_sector, blank_sector}
use Rattle.flash.specs.Sector.{padded_of}
use Rattle.flash.proofs.Blanks.{sector_blanks}
use Rattle.flash.proofs.Sectors.{Lies, lies_still, length_with, with_here, with_other}
use Rattle.flash.proofs.Words.{length_padded}
use Rattle.layout.specs.Layout.{bank_size, sector_of}
use Rattle.commands.specs.declared.Command.TheVariants.{WriteEnd}
use Rattle.decision.specs.declared.plan.Fixed.{Fixed}
use Rattle.exchange.specs.Answer.{reply_bytes}
use Rattle.calls.proofs.Courses.{Course, still, begins, stores, ends}
use Rattle.calls.proofs.Leading.{fits_stored, packed_in}
use Rattle.calls.proofs.Beside.{step_course}
use Rattle.calls.specs.Call.{Board}
use Rattle.demands.specs.Board.{LentCall, Input, Initiate, Terminate, Datagram, said, outcomes, lent_target, called, step_machine}
use Rattle.demands.specs.Session.{all_blank, exchanged, shown, next_accepted, last_accepted}
use Rattle.demands.proofs.Bytes.{quiet_begin, quiet_stored, response_begin, ended_begin, response_stored, written_begin, written_stored}
use Rattle.demands.proofs.Sessions.{said_is}
use Rattle.demands.proofs.Steps.{machine_stays}

-- an image of n sectors, of which sector k is this
pub record At (n k : ℕ) (image sector : List ℕ) : Type 0 where
  pub size : length image ≡ bank_size n
  pub is : sector_of image k ≡ sector

module _ (n k : ℕ) (low : 1 ≤ k) (high : k ≤ n) where
  blank_at : At n k (all_blank n) blank_sector
  blank_at = record { size = length-replicate {A = ℕ} (bank_size n) 0xFF; is = sector_blanks n k low high }

  module _ (image sector : List ℕ) (at : At n k image sector) where
    -- one sector of the image becomes another
    put-at : (number : ℕ) (bytes : List ℕ) → Lies (length image) number → length bytes ≡ 512 → At n k (with_sector image number bytes) (cond (eqb number k) bytes sector)
    put-at number bytes h e =
        record { size = length_with image number bytes h e ∙ at.size; is = by (eqb number k) refl }
      where
        by : (t : Bool) → eqb number k ≡ t → sector_of (with_sector image number bytes) k ≡ cond t bytes sector
        by true t = ap (sector_of (with_sector image number bytes)) (sym (eqb-true number k t)) ∙ with_here image number bytes h e
        by false t =
            let size = at.size in
            with_other image number bytes h e k (record { first = low; last = omega arith }) (λ q. eqb-false number k t (sym q)) ∙ at.is

    module _ (b : Board) (call : LentCall) (sectors : b.client.fixed.n ≡ n) where
      step_at : Course b.client (lent_target b call) call.datagram (called b call)
          → At n k (exchanged n image call.datagram (reply_bytes (called b call).answer)) (next_accepted k sector call.datagram (reply_bytes (called b call).answer))
      step_at (still q t w) = rw (quiet_begin (called b call).answer q, quiet_stored (called b call).answer q) at
      step_at (begins a t m h) = rw (a, response_begin) blank_at
      step_at (stores number write h v a t c) =
          let bytes : List ℕ = data_in call.datagram in
          let f = fits_stored b.client (lent_target b call) call.datagram number h in
          let whole : length image ≡ length (lent_target b call) = at.size ∙ ap bank_size (sym sectors) ∙ sym h.whole in
          rw (a, written_begin number 0x06 write (crc_of (padded_of bytes)), written_stored number write (crc_of (padded_of bytes)) v, (packed_in call.datagram number h.m h.asks).reads)
          (put-at number (padded_of bytes) (lies_still whole f.inside) (length_padded bytes f.short))
      step_at (ends result u a t x h) = rw (a, ended_begin result, response_stored WriteEnd result) at

      call_at : At n k (exchanged n image call.datagram (said (step_machine b (Datagram call)))) (next_accepted k sector call.datagram (said (step_machine b (Datagram call))))
      call_at =
          subst (λ (s : List ℕ). At n k (exchanged n image call.datagram s) (next_accepted k sector call.datagram s)) (sym (said_is b call))
          (step_at (step_course b.client _ (lent_target b call) call.marks call.address call.buffer call.datagram))

  run_at : (is : List Input) (b : Board) (image sector : List ℕ) → b.client.fixed.n ≡ n → At n k image sector
      → At n k (shown n image is (outcomes step_machine b is)) (last_accepted k sector is (outcomes step_machine b is))
  run_at [] b image sector e at = at
  run_at (Initiate ∷ is) b image sector e at = run_at is (step_machine b Initiate).board image sector (ap (λ (f : Fixed). f.n) (machine_stays b Initiate) ∙ e) at
  run_at (Terminate ∷ is) b image sector e at = run_at is (step_machine b Terminate).board image sector (ap (λ (f : Fixed). f.n) (machine_stays b Terminate) ∙ e) at
  run_at (Datagram call ∷ is) b image sector e at =
      run_at is (step_machine b (Datagram call)).board _ _ (ap (λ (f : Fixed). f.n) (machine_stays b (Datagram call)) ∙ e) (call_at image sector at b call e)

-- the image of demand 3, sector by sector
pub shown_sectors : (b : Board) (is : List Input) (k : ℕ) → 1 ≤ k → k ≤ b.client.fixed.n
    → sector_of (shown b.client.fixed.n (all_blank b.client.fixed.n) is (outcomes step_machine b is)) k ≡ last_accepted k blank_sector is (outcomes step_machine b is)
shown_sectors b is k low high =
    (run_at b.client.fixed.n k low high is b (all_blank b.client.fixed.n) blank_sector refl (blank_at b.client.fixed.n k low high)).is
