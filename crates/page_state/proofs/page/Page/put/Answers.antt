-- An element is put somewhere, or isn't.
use Rattle.std.proofs.Common.{ap, option_map, Ok, Some, subst, ◌∙◌}
use Rattle.element_tree.specs.Links.{number}
use Rattle.page_model.specs.Commands.{placing}
use Rattle.container_model.specs.Seen.{seen_container}
use Rattle.page_layout.specs.Views.{LaidElements}
use Rattle.page_tree.specs.Views.{PageElements}
use Rattle.page_state.proofs.Inside.{edited}
use Rattle.page_state.proofs.Doing.{edit_refused, edit_done}
use Rattle.page_state.specs.Views.{PageView}
use Rattle.page_layout.specs.Marks.{element_of}
use Rattle.page_state.specs.Boxes.{Marks, is_moved}
use Rattle.page_state.specs.declared.answers.Effect.TheVariants.{Nothing}
use Rattle.page_state.proofs.page.Page.put.Goals as goal

pub invariant_of-self : goal.invariant_of-self
invariant_of-self c = edited c.self.inside c.place.new.self c.clear.new.self c.clear.ensures c.self.invariant (ap (λ (it : LaidElements). it.elements.version) c.in-Err.ensures.same) (ap (λ (it : LaidElements). it.elements.names) c.in-Err.ensures.same) c.place.ensures.count c.place.ensures.documents

pub invariant_of-self-2 : goal.invariant_of-self-2
invariant_of-self-2 c = edited c.self.inside c.place.new.self c.clear.new.self c.clear.ensures c.self.invariant (ap (λ (it : PageElements). it.version) c.in_default.ensures.rest) (ap (λ (it : PageElements). it.names) c.in_default.ensures.rest) c.place.ensures.count c.place.ensures.documents

pub returns-in-Err-clause-done : goal.returns-in-Err-clause-done
returns-in-Err-clause-done c =
    edit_refused c.self.inside c.args.self.now c.self.view_is c.place.new.self (placing (seen_container c.args.container) c.args.node.0 (option_map number c.args.sibling))
    c.refused.result c.in-Err.fault c.refused.ensures c.in-Err.ensures.refused c.in-Err.ensures.same

pub returns-clause-done : goal.returns-clause-done
returns-clause-done c =
    edit_done c.self.inside c.args.self.now c.self.view_is c.place.new.self (placing (seen_container c.args.container) c.args.node.0 (option_map number c.args.sibling))
    c.in_default.ensures.done

pub returns-in-Err-clause-boxes : goal.returns-in-Err-clause-boxes
returns-in-Err-clause-boxes c = record { done = tt; refused = ap (λ (it : LaidElements). it.kept) c.in-Err.ensures.same ∙ ap (λ (v : PageView). v.kept) c.self.view_is }

pub returns-clause-boxes : goal.returns-clause-boxes
returns-clause-boxes c =
    subst
    (λ (v : PageView). Marks (is_moved v.world.tree c.place.new.self.elements.tree (Some c.args.node.0) (element_of (seen_container c.args.container))) (Ok Nothing) v.kept c.place.new.self.kept)
    c.self.view_is (record { done = c.in_default.ensures.marks; refused = tt })
