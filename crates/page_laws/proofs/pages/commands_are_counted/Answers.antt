-- The limit stands in the way of more.
use Rattle.page_laws.proofs.Readings.{begun-next}
use Rattle.page_laws.proofs.pages.commands_are_counted.Goals as goal

pub returns : goal.returns
returns c = begun-next
