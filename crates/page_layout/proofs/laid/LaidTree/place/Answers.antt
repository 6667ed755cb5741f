use Rattle.std.proofs.Common.{option_map}
use Rattle.element_tree.specs.Links.{number}
use Rattle.container_model.specs.Seen.{seen_container}
use Rattle.page_layout.proofs.Marking.{kept_placed}
use Rattle.page_layout.proofs.laid.LaidTree.place.Goals as goal

pub invariant_of-self-2 : goal.invariant_of-self-2
invariant_of-self-2 c = record {
  kept =
      kept_placed c.self.inside.page.tree c.place.new.self.tree (c.args.node.0) c.self.inside.boxes c.self.invariant.kept c.place.ensures.count
      (seen_container c.args.container) c.in_ok-place.ensures.changes
      (option_map number c.parent_of-from.result) (option_map number c.element_of-to.result) c.parent_of-from.ensures.value c.element_of-to.ensures
      c.mark.new.boxes c.mark-2.new.boxes c.mark.ensures.mended c.mark-2.ensures.mended;
  current = tt;
}
