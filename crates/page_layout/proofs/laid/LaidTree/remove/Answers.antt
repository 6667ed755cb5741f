use Rattle.std.proofs.Common.{option_map}
use Rattle.element_tree.specs.Links.{number}
use Rattle.page_layout.proofs.Marking.{kept_removed}
use Rattle.page_layout.proofs.laid.LaidTree.remove.Goals as goal

pub invariant_of-self : goal.invariant_of-self
invariant_of-self c = record {
  kept =
      kept_removed c.self.inside.page.tree c.remove.new.self.tree (c.args.node.0) c.self.inside.boxes c.self.invariant.kept c.remove.ensures.count
      c.remove.ensures.changes (option_map number c.parent_of-parent.result) c.parent_of-parent.ensures.value c.mark.new.boxes c.mark.ensures.mended;
  current = tt;
}
