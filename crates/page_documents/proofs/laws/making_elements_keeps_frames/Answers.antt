-- What is made stands nowhere.
use Rattle.page_documents.proofs.Making.{element_framed}
use Rattle.page_documents.proofs.laws.making_elements_keeps_frames.Goals as goal

pub returns : goal.returns
returns c = element_framed
