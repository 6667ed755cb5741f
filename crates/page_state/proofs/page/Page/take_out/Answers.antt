-- The element is taken out.
use Rattle.std.proofs.Common.{ap, ◌∙◌, Some, subst}
use Rattle.page_model.specs.Documents.{removed}
use Rattle.page_state.specs.Views.{PageView}
use Rattle.page_state.specs.Worlds.{world_of, view_of}
use Rattle.page_layout.specs.Marks.{is_over, MarksOnly}
use Rattle.page_state.specs.Boxes.{parent}
use Rattle.page_state.proofs.page.Page.take_out.Goals as goal

pub returns-clause-removed : goal.returns-clause-removed
returns-clause-removed c =
    (λ i. record (view_of c.self.inside) { world = record (world_of c.self.inside) { tree = c.remove.ensures.done i }; kept = c.remove.new.self.kept })
    ∙ ap (λ (v : PageView). record v { world = record (v.world) { tree = removed (v.world.tree) c.args.node.0 }; kept = c.remove.new.self.kept }) c.self.view_is

pub returns-clause-marks : goal.returns-clause-marks
returns-clause-marks c =
    subst (λ (v : PageView). MarksOnly (is_over c.remove.new.self.elements.tree (parent v.world.tree (Some c.args.node.0))) v.kept c.remove.new.self.kept) c.self.view_is c.remove.ensures.marks
