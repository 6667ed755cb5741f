-- Each element of a page has its slot, and each that is named was made.
use Rattle.std.proofs.Common.{None, refl}
use Rattle.block_layout.specs.Seen.{seen_kind}
use Rattle.page_state.proofs.Made.{leaves_due, made_in, same_boxes, slots_in}
use Rattle.page_state.proofs.page.Page.making_leaves_boxes.Goals as goal

pub returns-clause-elements : goal.returns-clause-elements
returns-clause-elements c kind document =
    c.what_is_made_has_no_box.ensures.elements c.args.self.now.world.tree
    (made_in c.self.inside c.args.self.now c.self.view_is _ c.page.ensures.tree c.document_count.ensures.framed) (seen_kind kind) document None

pub returns-clause-frames : goal.returns-clause-frames
returns-clause-frames c document =
    c.what_is_made_has_no_box.ensures.frames c.args.self.now.world.tree
    (made_in c.self.inside c.args.self.now c.self.view_is _ c.page.ensures.tree c.document_count.ensures.framed) document

pub returns-clause-leaves : goal.returns-clause-leaves
returns-clause-leaves c after kept keeps marks =
    leaves_due c.args.self.now.world after c.args.self.now.kept kept keeps (slots_in c.self.inside c.args.self.now c.self.view_is c.boxes.ensures.kept)
    (c.what_is_made_has_no_box.ensures.unmade c.args.self.now.world.tree
    (made_in c.self.inside c.args.self.now c.self.view_is _ c.page.ensures.tree c.document_count.ensures.framed))
    marks

pub returns-clause-same : goal.returns-clause-same
returns-clause-same c =
    leaves_due c.args.self.now.world c.args.self.now.world.tree c.args.self.now.kept c.args.self.now.kept (same_boxes c.args.self.now.world.tree)
    (slots_in c.self.inside c.args.self.now c.self.view_is c.boxes.ensures.kept)
    (c.what_is_made_has_no_box.ensures.unmade c.args.self.now.world.tree
    (made_in c.self.inside c.args.self.now c.self.view_is _ c.page.ensures.tree c.document_count.ensures.framed))
    (λ n. refl)
