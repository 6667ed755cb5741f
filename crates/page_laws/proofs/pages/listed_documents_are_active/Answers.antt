-- The list is filtered by state at each frame.
use Rattle.page_laws.proofs.Readings.{active-listed}
use Rattle.page_laws.proofs.pages.listed_documents_are_active.Goals as goal

pub returns : goal.returns
returns c = active-listed
