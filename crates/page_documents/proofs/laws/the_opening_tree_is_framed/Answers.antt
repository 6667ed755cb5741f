-- There are no elements, and `top` is in no frame.
use Rattle.page_documents.proofs.Making.{opening_framed}
use Rattle.page_documents.proofs.laws.the_opening_tree_is_framed.Goals as goal

pub returns : goal.returns
returns c = opening_framed
