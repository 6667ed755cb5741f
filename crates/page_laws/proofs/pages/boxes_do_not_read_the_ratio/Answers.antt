-- The ratio is no part of the size.
use Rattle.page_laws.proofs.Ratios.{ratio-views, ratio-inputs, ratio-viewport}
use Rattle.page_laws.proofs.pages.boxes_do_not_read_the_ratio.Goals as goal

pub returns-clause-views : goal.returns-clause-views
returns-clause-views c = ratio-views

pub returns-clause-inputs : goal.returns-clause-inputs
returns-clause-inputs c = ratio-inputs

pub returns-clause-viewports : goal.returns-clause-viewports
returns-clause-viewports c = ratio-viewport
