use Rattle.page_boxes.proofs.Nothing.{fits_of_nothing}
use Rattle.page_boxes.proofs.laws.nothing_kept_fits.Goals as goal

pub returns : goal.returns
returns c = fits_of_nothing
