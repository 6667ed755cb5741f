-- The boxes of the element's document are computed.
use Rattle.page_model.specs.World.{InElement}
use Rattle.page_boxes.specs.Around.{rests_on}
use Rattle.page_state.proofs.Laid.{computed_in}
use Rattle.page_state.proofs.page.Page.border_size.Goals as goal

pub returns-clause-boxes : goal.returns-clause-boxes
returns-clause-boxes g c =
    computed_in c.self.inside c.refresh_for.new.self c.refresh_for.ensures.same c.args.self.now c.self.view_is c.refresh_for.ensures.fills c.refresh_for.ensures.unboxed _ _ c.refresh_for.ensures.ticks
    (λ tree. rests_on tree (InElement c.args.node.0)) c.refresh_for.ensures.left
