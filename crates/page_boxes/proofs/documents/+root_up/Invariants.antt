use Rattle.page_boxes.proofs.documents.+root_up.Given as goal

abbrev pub decreases-root_up : goal.decreases-root_up
decreases-root_up l = l.high
