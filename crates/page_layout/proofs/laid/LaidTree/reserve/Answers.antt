use Rattle.std.proofs.Common.{sym, subst}
use Rattle.page_boxes.specs.Kept.{AreKept}
use Rattle.page_tree.specs.Views.{PageElements}
use Rattle.page_layout.proofs.Making.{roomier, kept_roomier}
use Rattle.page_layout.proofs.laid.LaidTree.reserve.Goals as goal

pub invariant_of-self-2 : goal.invariant_of-self-2
invariant_of-self-2 c = record {
  kept =
      subst (λ (page : PageElements). AreKept page.tree c.add.new.self) (sym c.in_ok-node.ensures.same)
      (kept_roomier c.self.inside.page.tree c.self.inside.boxes c.add.new.self c.add.ensures.kept
      (roomier (c.in_ok-node.node.0) c.self.inside.boxes c.add.new.self c.in-Ok.ensures.added).0 c.self.invariant.kept);
  current = tt;
}
