use Rattle.page_boxes.proofs.layout.+lay_out_up.Given as goal

abbrev pub decreases-lay_out_up : goal.decreases-lay_out_up
decreases-lay_out_up g l = l.high
