-- The same boxes are due by another ratio.
use Rattle.std.proofs.Common.{ap, subst, unsigned_abs}
use Rattle.kept_layout.specs.Slots.{slot_in}
use Rattle.kept_layout.specs.Due.{is_due_at}
use Rattle.page_state.specs.Boxes.{StaysDue}
use Rattle.page_state.specs.Views.{PageView}
use Rattle.page_state.specs.Worlds.{world_of}
use Rattle.page_state.proofs.page.Page.set_ratio.Goals as goal

pub returns-clause-due : goal.returns-clause-due
returns-clause-due c =
    let world = world_of c.self.inside in
    subst (λ (v : PageView). StaysDue (unsigned_abs c.args.ratio.0) v.world v.kept c.self.inside.laid.kept) c.self.view_is
    (λ n. ap (λ inputs. is_due_at inputs (slot_in c.self.inside.laid.kept n))
    (c.boxes_do_not_read_the_ratio.ensures.inputs world.tree world.viewports.screen (unsigned_abs c.args.ratio.0) n))
