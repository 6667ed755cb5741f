use Rattle.std.proofs.Common.{unsigned_abs}
use Rattle.page_layout.proofs.Marking.{kept_written}
use Rattle.page_layout.proofs.Parents.{load_parent}
use Rattle.page_layout.proofs.laid.LaidTree.load.Goals as goal

pub invariant_of-self-2 : goal.invariant_of-self-2
invariant_of-self-2 c = record {
  kept =
      kept_written c.self.inside.page.tree c.load.new.self.tree (c.args.node.0) c.self.inside.boxes c.self.invariant.kept c.load.ensures.count c.in_ok-load.ensures.changes
      (load_parent (c.args.node.0) (c.self.inside.page.tree) (unsigned_abs c.args.size.width) (unsigned_abs c.args.size.height) c.load.new.self.tree
      c.in_ok-load.ensures.done (c.args.node.0))
      c.mark.new.boxes c.mark.ensures.mended;
  current = tt;
}
