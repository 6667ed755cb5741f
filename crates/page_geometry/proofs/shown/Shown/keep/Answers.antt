use Rattle.std.proofs.Common.{sym, subst}
use Rattle.page_model.specs.Shown.{Shown, shown_with}
use Rattle.page_boxes.specs.Pages.{seen_screen}
use Rattle.page_geometry.specs.Found.{IsFound, AreFound}
use Rattle.page_geometry.proofs.Looked.{one_found}
use Rattle.page_geometry.proofs.shown.Shown.keep.Goals as goal

pub invariant_of-self : goal.invariant_of-self
invariant_of-self c =
    let at = c.self.inside in
    let shown : Shown = shown_with at.page.now.tree (seen_screen at.screen) at.scrolls.now in
    let here : IsFound shown c.args.document.0 c.args.found = subst (λ (s : Shown). IsFound s c.args.document.0 c.args.found) (sym c.self.view_is) c.requires.found in
    (c.self.invariant.0, c.self.invariant.1, subst (AreFound shown) (sym c.put.ensures) (one_found shown at.found c.args.document.0 c.args.found here c.self.invariant.2), c.self.invariant.3)
