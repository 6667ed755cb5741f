-- A size is that of the box, if any.
use Rattle.page_laws.proofs.Readings.{no-box-no-size}
use Rattle.page_laws.proofs.pages.no_box_has_no_size.Goals as goal

pub returns : goal.returns
returns c = no-box-no-size
