use Rattle.std.proofs.Common.{sym, subst}
use Rattle.page_model.specs.Shown.{Shown, shown_with}
use Rattle.page_boxes.specs.Pages.{seen_screen}
use Rattle.page_geometry.specs.Found.{AreFound}
use Rattle.page_geometry.proofs.Looked.{none_found}
use Rattle.page_geometry.proofs.shown.Shown.new.Goals as goal

pub invariant_of-result : goal.invariant_of-result
invariant_of-result c =
    let shown : Shown = shown_with c.args.page.now.tree (seen_screen c.args.screen) c.args.scrolls.now in
    (c.requires.screen, c.requires.fresh, subst (AreFound shown) (sym c.new.ensures) (none_found shown 64), tt)
