-- `sender::request::make` meets its contract.
-- Assumes nothing.
use mathlib.Core.Path.{refl, ap, ◌∙◌}
use Rattle.commands.specs.Command.{request_code}
use Rattle.sender.specs.declared.request.Request.TheVariants.{ModeStart, BankInfo, VersionInfo, WriteEnd, ModeEnd}
use Rattle.sender.specs.Request.{command_of}
use Rattle.sender.proofs.Making.{request_told, request_bare}
use Rattle.sender.proofs.request.make.Goals as goal

pub write_start-requires : goal.write_start-requires
write_start-requires c = c.request_code-code.ensures ∙ ap request_code (c.command_of.ensures ∙ ap command_of c.in-WriteStart.is)

pub returns-in-ModeStart : goal.returns-in-ModeStart
returns-in-ModeStart c = request_bare ModeStart c.in-ModeStart.is c.command_of.ensures c.request_code-code.ensures refl refl c.bare.ensures

pub returns-in-BankInfo : goal.returns-in-BankInfo
returns-in-BankInfo c = request_bare BankInfo c.in-BankInfo.is c.command_of.ensures c.request_code-code.ensures refl refl c.bare-in-BankInfo.ensures

pub returns-in-VersionInfo : goal.returns-in-VersionInfo
returns-in-VersionInfo c = request_bare VersionInfo c.in-VersionInfo.is c.command_of.ensures c.request_code-code.ensures refl refl c.bare-in-VersionInfo.ensures

pub returns-in-WriteStart : goal.returns-in-WriteStart
returns-in-WriteStart c = request_told c.in-WriteStart.is c.write_start.ensures

pub returns-in-WriteEnd : goal.returns-in-WriteEnd
returns-in-WriteEnd c = request_bare WriteEnd c.in-WriteEnd.is c.command_of.ensures c.request_code-code.ensures refl refl c.bare-in-WriteEnd.ensures

pub returns-in-ModeEnd : goal.returns-in-ModeEnd
returns-in-ModeEnd c = request_bare ModeEnd c.in-ModeEnd.is c.command_of.ensures c.request_code-code.ensures refl refl c.bare-in-ModeEnd.ensures
