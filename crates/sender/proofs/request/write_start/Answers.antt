-- `sender::request::write_start` meets its contract: the parameters are the two addresses.
-- Assumes nothing.
use mathlib.Core.Path.{refl, sym, ◌∙◌}
use Rattle.sender.specs.declared.request.Request.TheVariants.{WriteStart}
use Rattle.sender.proofs.Making.{request_control, start_refused, start_parameters}
use Rattle.sender.proofs.request.write_start.Goals as goal

pub returns-then-not-good_n : goal.returns-then-not-good_n
returns-then-not-good_n c = start_refused _ _ _ (sym c.good_n.ensures ∙ c.if-not-good_n.true)

pub returns : goal.returns
returns c =
    let args = c.args in
    let pre = c.requires in
    let put =
    start_parameters args.bank args.n _ refl refl refl c.put_number.ensures c.put_number-2.ensures c.start_address.ensures
    c.end_address.ensures in
    request_control (WriteStart _ _) (sym c.good_n.ensures ∙ c.if-not-good_n.false) (pre) put c.control.ensures
