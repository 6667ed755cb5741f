use Rattle.style_values.specs.Seen.{seen_axis}
use Rattle.page_layout.proofs.Marking.{kept_written}
use Rattle.page_layout.proofs.Parents.{grow_parent}
use Rattle.page_layout.proofs.laid.LaidTree.grow.Goals as goal

pub invariant_of-self-2 : goal.invariant_of-self-2
invariant_of-self-2 c = record {
  kept =
      kept_written c.self.inside.page.tree c.grow.new.self.tree (c.args.node.0) c.self.inside.boxes c.self.invariant.kept c.grow.ensures.count c.in_ok-grow.ensures.changes
      (grow_parent (c.args.node.0) (c.self.inside.page.tree) (seen_axis c.args.axis) (c.args.by.0) c.grow.new.self.tree c.in_ok-grow.ensures.done (c.args.node.0))
      c.mark.new.boxes c.mark.ensures.mended;
  current = tt;
}
