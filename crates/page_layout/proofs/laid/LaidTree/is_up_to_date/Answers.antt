use Rattle.std.proofs.Common.{subst, sym, ◌∙◌}
use Rattle.page_boxes.specs.Pages.{seen_screen}
use Rattle.page_layout.specs.Views.{IsUpToDate, LaidElements}
use Rattle.page_layout.proofs.Current.{up_to_date}
use Rattle.page_layout.proofs.laid.LaidTree.is_up_to_date.Goals as goal

pub returns : goal.returns
returns c same =
    subst (λ (laid : LaidElements). IsUpToDate laid.elements.tree (seen_screen c.args.screen) laid.kept) c.self.view_is
    (up_to_date c.self.inside.page.tree c.self.inside.current c.self.inside.boxes c.args.screen c.self.invariant.current (sym c.eq.ensures ∙ same))
