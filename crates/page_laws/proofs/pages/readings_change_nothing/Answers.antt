-- The world of a reading is the one read.
use Rattle.page_laws.proofs.Readings.{reading-same}
use Rattle.page_laws.proofs.pages.readings_change_nothing.Goals as goal

pub returns : goal.returns
returns c = reading-same
