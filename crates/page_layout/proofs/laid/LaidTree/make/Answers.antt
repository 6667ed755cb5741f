use Rattle.std.proofs.Common.{None, ap, ◌∙◌}
use Rattle.block_layout.specs.Seen.{seen_kind}
use Rattle.page_model.specs.Edits.{with_element}
use Rattle.page_layout.specs.Views.{LaidElements}
use Rattle.page_layout.proofs.Making.{alone_with, kept_made, room_is}
use Rattle.page_layout.proofs.laid.LaidTree.make.Goals as goal

pub invariant_of-self : goal.invariant_of-self
invariant_of-self c = record {
  kept =
      kept_made c.self.inside.page c.make.new.self c.self.inside.boxes c.self.invariant.kept
      (with_element (seen_kind c.args.kind) c.args.document.0 None (c.self.inside.page.tree)) _
      (room_is c.self.inside.page c.self.inside.boxes (ap (λ (laid : LaidElements). laid.elements.ready) c.self.view_is ∙ c.in_ok-_node.ensures.ready))
      (alone_with (seen_kind c.args.kind) c.args.document.0 None (c.self.inside.page.tree))
      c.make.result c.make.ensures.made c.make.ensures.count c.make.ensures.changes c.make.ensures.same;
  current = tt;
}
