-- From the tree that it ends with back to the one with the element at its new place.
use Rattle.document_laws.proofs.Between.{low_throughout}
use Rattle.document_laws.proofs.levels.insertions_stay_low.Goals as goal

pub returns : goal.returns
returns c = low_throughout
