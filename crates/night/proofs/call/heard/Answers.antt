-- `night::call::heard` meets its contract: the response is judged as it reads.
-- Assumes nothing.
use Rattle.night.proofs.Calling.{step_heard}
use Rattle.night.proofs.call.heard.Goals as goal

pub returns : goal.returns
returns c = step_heard _ _ _ _ _ _ _ c.read_response.ensures.answered c.step.ensures
