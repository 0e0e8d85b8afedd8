-- `response::read::accepted` meets its contract: each command is a case of the definition.
-- Assumes nothing.
use native.Mathlib.Omega.{arith}
use Rattle.commands.specs.declared.Command.TheVariants.{BankInfo, VersionInfo}
use Rattle.response.proofs.Responses.{adds_six}
use Rattle.response.proofs.read.accepted.Goals as goal

pub bounds-parameters-1 : goal.bounds-parameters-1
bounds-parameters-1 c = omega (arith, adds_six _ BankInfo c.in-BankInfo.is)

pub bounds-parameters-3 : goal.bounds-parameters-3
bounds-parameters-3 c = omega (arith, adds_six _ VersionInfo c.in-VersionInfo.is)

pub bounds-parameters-4 : goal.bounds-parameters-4
bounds-parameters-4 c = omega (arith, adds_six _ VersionInfo c.in-VersionInfo.is)
