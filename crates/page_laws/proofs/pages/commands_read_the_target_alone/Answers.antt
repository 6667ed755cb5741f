-- Operands are looked up in the names, and `$target` is the target.
use Rattle.page_laws.proofs.Commands.{same-target}
use Rattle.page_laws.proofs.pages.commands_read_the_target_alone.Goals as goal

pub returns : goal.returns
returns c = same-target
