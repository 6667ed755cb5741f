use Rattle.style_values.specs.Seen.{seen_declaration}
use Rattle.page_layout.proofs.Marking.{kept_written}
use Rattle.page_layout.proofs.Parents.{set_parent}
use Rattle.page_layout.proofs.laid.LaidTree.set.Goals as goal

pub invariant_of-self : goal.invariant_of-self
invariant_of-self c = record {
  kept =
      kept_written c.self.inside.page.tree c.set.new.self.tree (c.args.node.0) c.self.inside.boxes c.self.invariant.kept c.set.ensures.count c.set.ensures.changes
      (set_parent (c.args.node.0) (c.self.inside.page.tree) (seen_declaration c.args.declaration) c.set.new.self.tree c.set.ensures.done (c.args.node.0))
      c.mark.new.boxes c.mark.ensures.mended;
  current = tt;
}
