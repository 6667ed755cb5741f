-- Something is scrolled by a distance.
use Rattle.std.proofs.Common.{◌≡◌, ◌+ℤ◌, pos, Some, option_map, sym, ap, subst, ◌∙◌, List}
use Rattle.px_units.specs.declared.Point.{Point}
use Rattle.page_model.specs.World.{Extent}
use Rattle.page_model.specs.PageBoxes.{scroll_offset}
use Rattle.page_model.specs.Scrolling.{scrolled_thing, scrolled_to}
use Rattle.page_model.specs.Steps.{becomes}
use Rattle.container_model.specs.Seen.{seen_container}
use Rattle.script_syntax.specs.Seen.{operand_of}
use Rattle.page_state.specs.Answers.{Keeps}
use Rattle.page_names.specs.Things.{present_of}
use Rattle.page_state.specs.Views.{PageView}
use Rattle.kept_layout.specs.declared.slots.Slot.{Slot}
use Rattle.page_state.specs.Boxes.{ComputesIn, document_meant}
use Rattle.page_state.proofs.Laid.{computes_scrolled}
use Rattle.page_state.proofs.Doing.{keeps_by, keeps_since, scrolls_by}
use Rattle.page_state.proofs.page.Page.scroll_by.Goals as goal

pub returns-clause-done : goal.returns-clause-done
returns-clause-done g c =
    let world = c.args.self.now.world in
    let target = Some (seen_container c.in-Some.target) in
    let from : Extent = scroll_offset world.tree world.viewports.screen world.scrolls (seen_container c.in-Some.target) in
    let left : pos (from.across) +ℤ c.args.by.left ≡ c.moved.result.left = ap (λ (p : Point). p.left +ℤ c.args.by.left) (sym c.reach-reach.ensures.offset) ∙ sym c.moved.ensures.left in
    let top : pos (from.down) +ℤ c.args.by.top ≡ c.moved.result.top = ap (λ (p : Point). p.top +ℤ c.args.by.top) (sym c.reach-reach.ensures.offset) ∙ sym c.moved.ensures.top in
    let thing : scrolled_thing world.tree world.viewports.screen (seen_container c.in_ok-container.container) ≡ target = sym c.scrolled_thing.ensures ∙ ap (option_map seen_container) c.in-Some.is in
    keeps_by
    (keeps_since (subst (λ (v : PageView). Keeps v c.move_to.new.self c.move_to.result (λ handlers. becomes (scrolled_to c.moved.result.left c.moved.result.top target v.world))) c.reach-reach.ensures.same c.move_to.ensures.done))
    (λ handlers.
    scrolls_by handlers world (present_of c.args.subject) (operand_of c.args.of) (seen_container c.in_ok-container.container) c.in_ok-container.ensures.answer target thing c.args.by.left c.args.by.top
    ∙ (λ i. becomes (scrolled_to (left i) (top i) target world)))

pub returns-clause-boxes : goal.returns-clause-boxes
returns-clause-boxes g c =
    let world = c.args.self.now.world in
    let present = present_of c.args.subject in
    let operand = operand_of c.args.of in
    subst (λ (slots : List Slot). ComputesIn world (document_meant world present operand) c.args.self.now.kept slots c.args.steps.now c.reach-reach.new.steps) (sym c.move_to.ensures.boxes)
    (computes_scrolled world _ _ _ _ present operand (seen_container c.in_ok-container.container) c.in_ok-container.ensures.answer (seen_container c.in-Some.target)
    (sym c.scrolled_thing.ensures ∙ ap (option_map seen_container) c.in-Some.is) c.reach-reach.ensures.boxes)
