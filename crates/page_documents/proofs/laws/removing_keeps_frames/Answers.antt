-- What is shown below the element ends with what is shown in turn, and all else stands where it stood.
use Rattle.page_documents.proofs.Removing.{removed_framed}
use Rattle.page_documents.proofs.laws.removing_keeps_frames.Goals as goal

pub returns : goal.returns
returns c = removed_framed
