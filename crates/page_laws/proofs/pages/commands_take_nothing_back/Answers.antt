-- Each command leaves a successor.
use Rattle.page_laws.proofs.Commands.{does-next}
use Rattle.page_laws.proofs.pages.commands_take_nothing_back.Goals as goal

pub returns : goal.returns
returns c = does-next
