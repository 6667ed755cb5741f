-- Nothing in the trees that there were has changed.
use Rattle.page_laws.proofs.Unboxed.{unmade-unboxed, element-boxes, frame-boxes, in-range-made}
use Rattle.page_laws.proofs.pages.what_is_made_has_no_box.Goals as goal

pub returns-clause-unmade : goal.returns-clause-unmade
returns-clause-unmade c = unmade-unboxed

pub returns-clause-elements : goal.returns-clause-elements
returns-clause-elements c = element-boxes

pub returns-clause-frames : goal.returns-clause-frames
returns-clause-frames c = frame-boxes

pub returns-clause-range : goal.returns-clause-range
returns-clause-range c = in-range-made
