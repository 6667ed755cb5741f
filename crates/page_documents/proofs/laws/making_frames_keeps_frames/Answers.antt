-- The document that is made is Fresh, and its frame stands nowhere.
use Rattle.page_documents.proofs.Making.{frame_framed}
use Rattle.page_documents.proofs.laws.making_frames_keeps_frames.Goals as goal

pub returns : goal.returns
returns c = frame_framed
