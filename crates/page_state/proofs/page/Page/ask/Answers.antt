-- Sizes that are asked for.
use Rattle.std.proofs.Common.{◌≡◌, ap, sym, subst, ◌∙◌}
use Rattle.std.specs.Prelude.{Bool, unsigned_abs}
use Rattle.page_model.specs.Commands.{asked}
use Rattle.page_model.specs.Operands.{element_meant}
use Rattle.page_boxes.specs.Around.{rests_on}
use Rattle.page_model.specs.Steps.{Did}
use Rattle.page_model.specs.World.{Extent, InElement}
use Rattle.script_syntax.specs.declared.operands.Test.{Test}
use Rattle.script_syntax.specs.Seen.{test_of, operand_of}
use Rattle.page_state.specs.Things.{present_with}
use Rattle.page_state.specs.Boxes.{ComputesIn, answer_rests_on}
use Rattle.page_state.proofs.Asking.{meant_same, wider_is, taller_is}
use Rattle.page_state.proofs.Laid.{computes_found}
use Rattle.page_state.proofs.page.Page.ask.Goals as goal

pub returns-in_ok-node-in-Wider-clause-answer : goal.returns-in_ok-node-in-Wider-clause-answer
returns-in_ok-node-in-Wider-clause-answer g c =
    subst (λ (it : Test). asked c.args.self.now.world (present_with c.args.subject c.args.seen) (test_of it) ≡ Did c.is_wider.result) (sym c.in-Wider.is)
    (wider_is c.args.self.now.world c.args.subject c.args.seen (operand_of c.in-Wider.node) c.in_ok-node-in-Wider.node.0 (unsigned_abs c.in-Wider.px.0) (unsigned_abs c.border_size-size.result.width) c.in_ok-node-in-Wider.ensures.answer
    (ap (λ (it : Extent). it.across) c.border_size-size.ensures.value)
    ∙ ap (λ (answer : Bool). Did answer) (sym c.is_wider.ensures))

pub returns-in_ok-node-in-Taller-clause-answer : goal.returns-in_ok-node-in-Taller-clause-answer
returns-in_ok-node-in-Taller-clause-answer g c =
    subst (λ (it : Test). asked c.args.self.now.world (present_with c.args.subject c.args.seen) (test_of it) ≡ Did c.is_taller.result) (sym c.in-Taller.is)
    (taller_is c.args.self.now.world c.args.subject c.args.seen (operand_of c.in-Taller.node) c.in_ok-node-in-Taller.node.0 (unsigned_abs c.in-Taller.px.0) (unsigned_abs c.border_size-size-in-Taller.result.height) c.in_ok-node-in-Taller.ensures.answer
    (ap (λ (it : Extent). it.down) c.border_size-size-in-Taller.ensures.value)
    ∙ ap (λ (answer : Bool). Did answer) (sym c.is_taller.ensures))

pub returns-in_ok-node-in-Wider-clause-boxes : goal.returns-in_ok-node-in-Wider-clause-boxes
returns-in_ok-node-in-Wider-clause-boxes g c =
    let world = c.args.self.now.world in
    let present = present_with c.args.subject c.args.seen in
    subst (λ (it : Test). ComputesIn world (answer_rests_on world present (test_of it)) c.args.self.now.kept c.border_size-size.new.self.kept c.args.steps.now c.border_size-size.new.steps) (sym c.in-Wider.is)
    (computes_found world _ _ _ _ (element_meant world.names present (operand_of c.in-Wider.node)) c.in_ok-node-in-Wider.node.0 (λ n. rests_on (world.tree) (InElement n))
    (meant_same world.names c.args.subject c.args.seen (operand_of c.in-Wider.node) ∙ c.in_ok-node-in-Wider.ensures.answer) c.border_size-size.ensures.boxes)

pub returns-in_ok-node-in-Taller-clause-boxes : goal.returns-in_ok-node-in-Taller-clause-boxes
returns-in_ok-node-in-Taller-clause-boxes g c =
    let world = c.args.self.now.world in
    let present = present_with c.args.subject c.args.seen in
    subst (λ (it : Test). ComputesIn world (answer_rests_on world present (test_of it)) c.args.self.now.kept c.border_size-size-in-Taller.new.self.kept c.args.steps.now c.border_size-size-in-Taller.new.steps) (sym c.in-Taller.is)
    (computes_found world _ _ _ _ (element_meant world.names present (operand_of c.in-Taller.node)) c.in_ok-node-in-Taller.node.0 (λ n. rests_on (world.tree) (InElement n))
    (meant_same world.names c.args.subject c.args.seen (operand_of c.in-Taller.node) ∙ c.in_ok-node-in-Taller.ensures.answer) c.border_size-size-in-Taller.ensures.boxes)
