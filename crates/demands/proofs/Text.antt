-- From the text to the bank.
-- Assumes nothing.
use mathlib.Core.Path.{◌≡◌, sym, ap, ◌∙◌}
use Prim.Native.Nat.{ℕ, ◌*◌}
use native.Mathlib.Omega.{arith}
use lib.ListN.{length}
use Rattle.layout.specs.declared.Bank.{Bank}
use Rattle.layout.specs.Layout.{sector_size, other_of}
use Rattle.hex_text.specs.Read.{answer_said, text_read}
use Rattle.hex_text.proofs.Meaning.{answer_said_lem, accepted_kept, read_length}
use Rattle.demands.specs.Board.{step_machine}
use Rattle.demands.specs.EndToEnd.{MeetsText}
use Rattle.demands.proofs.Demand2.{demand2}

pub text_to_bank : MeetsText step_machine
text_to_bank b text before ready answered fit start ps is end delivery =
    let bank : Bank = other_of b.client.fixed.running in
    let n : ℕ = b.client.fixed.n in
    let a = accepted_kept text bank n before (sym (answer_said_lem text bank n before) ∙ ap answer_said answered) in
    let size : length (text_read text bank n before).image ≡ n * sector_size = read_length text bank n before ∙ a.fits ∙ turned n in
    let e = (demand2 b (text_read text bank n before).image ready (record { size = size; sound = fit }) start ps is end delivery).bank in
    rw e a.leaves
  where
    turned : (n : ℕ) → sector_size * n ≡ n * sector_size
    turned n = omega arith
