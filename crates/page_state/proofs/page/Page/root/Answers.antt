-- The root that is named, or the exception.
use Rattle.std.proofs.Common.{ap, ◌∙◌, option_map}
use Rattle.page_model.specs.World.{Container, InElement, InDocument}
use Rattle.page_model.specs.Operands.{container_meant, root_at, root_meant}
use Rattle.page_model.specs.Steps.{Did}
use Rattle.element_tree.specs.declared.container.Container.{Container as Place}
use Rattle.container_model.specs.Seen.{seen_container}
use Rattle.script_syntax.specs.Seen.{operand_of}
use Rattle.page_names.specs.Things.{present_of}
use Rattle.page_names.proofs.Steps.{then_did, then_threw}
use Rattle.page_state.proofs.page.Page.root.Goals as goal

pub returns-in-Ok-Element : goal.returns-in-Ok-Element
returns-in-Ok-Element c =
    (λ i. root_meant c.args.self.now.world.names (present_of c.args.subject) (option_map operand_of (c.in-Some.is i)))
    ∙ then_did (λ (container : Container). Did (root_at container)) (container_meant c.args.self.now.world.names (present_of c.args.subject) (operand_of c.in-Some.operand))
    (InElement c.in-Ok-Element.node.0) (c.in-Ok-Element.ensures.answer ∙ ap (λ (it : Place). Did (seen_container it)) c.in-Ok-Element.field-0-is)

pub returns-in-Ok-Document : goal.returns-in-Ok-Document
returns-in-Ok-Document c =
    (λ i. root_meant c.args.self.now.world.names (present_of c.args.subject) (option_map operand_of (c.in-Some.is i)))
    ∙ then_did (λ (container : Container). Did (root_at container)) (container_meant c.args.self.now.world.names (present_of c.args.subject) (operand_of c.in-Some.operand))
    (InDocument c.in-Ok-Document.document.0) (c.in-Ok-Document.ensures.answer ∙ ap (λ (it : Place). Did (seen_container it)) c.in-Ok-Document.field-0-is)

pub returns-in-Err : goal.returns-in-Err
returns-in-Err c =
    (λ i. root_meant c.args.self.now.world.names (present_of c.args.subject) (option_map operand_of (c.in-Some.is i)))
    ∙ then_threw (λ (container : Container). Did (root_at container)) (container_meant c.args.self.now.world.names (present_of c.args.subject) (operand_of c.in-Some.operand))
    c.in-Err.kind c.in-Err.ensures.answer
