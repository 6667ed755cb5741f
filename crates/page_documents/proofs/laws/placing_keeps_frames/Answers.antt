-- It is taken out of where it stood first; then what is below it is shown where it is put.
use Rattle.page_documents.proofs.Placing.{placing_framed}
use Rattle.page_documents.proofs.laws.placing_keeps_frames.Goals as goal

pub returns : goal.returns
returns c = placing_framed
