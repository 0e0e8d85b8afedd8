-- `response::read::read_response` meets its contract: a frame hands back its parameters and its data.
-- Assumes nothing.
use Rattle.std.specs.Prelude.{Some}
use mathlib.Core.Path.{sym, ap, ◌∙◌}
use Rattle.frame.specs.declared.read.Footer.{Footer}
use Rattle.frame.specs.declared.read.Frame.TheVariants.{Write}
use Rattle.response.proofs.Responses.{none_read, from_control, from_write, from_continued}
use Rattle.response.proofs.read.read_response.Goals as goal

pub returns-in_err-code : goal.returns-in_err-code
returns-in_err-code c = none_read _ c.from_residual.ensures c.in_err-code.ensures

pub returns-in-Control : goal.returns-in-Control
returns-in-Control c =
    from_control _ _ _ (ap Some (sym c.in-Control.is) ∙ c.in_ok-code.ensures) c.parameters.ensures c.control.ensures

pub returns-in-Write-default-default-End : goal.returns-in-Write-default-default-End
returns-in-Write-default-default-End c =
    let at = c.in-Write-default-default-End in
    from_write _ _ _ (ap (λ (x : Footer). Some (Write at.sector at.length x)) (sym at.footer-is) ∙ ap Some (sym at.is) ∙ c.in_ok-code.ensures)
    c.«data».ensures c.written.ensures

pub returns-in-Write-default-default-Continued : goal.returns-in-Write-default-default-Continued
returns-in-Write-default-default-Continued c =
    let at = c.in-Write-default-default-Continued in
    from_continued _ _ _ (ap (λ (x : Footer). Some (Write at.sector at.length x)) (sym at.footer-is) ∙ ap Some (sym at.is) ∙ c.in_ok-code.ensures)
