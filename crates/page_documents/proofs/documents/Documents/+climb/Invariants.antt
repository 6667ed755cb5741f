use Rattle.page_documents.proofs.documents.Documents.+climb.Given as goal

abbrev pub decreases-climb : goal.decreases-climb
decreases-climb g l = l.high
