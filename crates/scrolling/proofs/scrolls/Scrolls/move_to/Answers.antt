use Rattle.std.proofs.Common.{◌∙◌, ap, sym, arith}
use Rattle.std.proofs.lemmas.List.{length-map}
use Rattle.page_model.specs.World.{InElement, InDocument}
use Rattle.scrolling.specs.Positions.{seen_position}
use Rattle.scrolling.specs.Held.{is_pending}
use Rattle.container_model.specs.Seen.{seen_container}
use Rattle.scrolling.proofs.Keeping.{element-moved, document-moved, pending-stored}
use Rattle.scrolling.proofs.scrolls.Scrolls.move_to.Goals as goal

pub invariant_of-self : goal.invariant_of-self
invariant_of-self c =
    element-moved _ c.args.document.0 (c.in-Element.node.0) (seen_position c.args.position) _ _ c.move_in.result
    c.move_in.ensures.held c.move_in.ensures.same_held c.move_in.ensures.pending c.move_in.ensures.same_pending c.self.invariant

pub invariant_of-self-in-Document : goal.invariant_of-self-in-Document
invariant_of-self-in-Document c =
    document-moved _ c.args.document.0 c.in-Document.scrolled.0 (seen_position c.args.position) _ _ c.move_in-in-Document.result
    c.move_in-in-Document.ensures.held c.move_in-in-Document.ensures.same_held c.move_in-in-Document.ensures.pending c.move_in-in-Document.ensures.same_pending c.self.invariant

pub returns-in-Element-clause-pending : goal.returns-in-Element-clause-pending
returns-in-Element-clause-pending c any =
    let found = ap (is_pending c.args.document.0 (InElement c.in-Element.node.0)) c.self.view_is ∙ ap (λ target. is_pending c.args.document.0 (seen_container target) c.args.self.now) (sym c.in-Element.is) ∙ any in
    let stored = pending-stored _ c.args.document.0 (InElement c.in-Element.node.0) c.self.invariant found in
    let count = length-map c.self.inside.elements.items seen_position in
    c.move_in.ensures.there (omega (arith, stored, count)) found

pub returns-in-Document-clause-pending : goal.returns-in-Document-clause-pending
returns-in-Document-clause-pending c any =
    let found = ap (is_pending c.args.document.0 (InDocument c.in-Document.scrolled.0)) c.self.view_is ∙ ap (λ target. is_pending c.args.document.0 (seen_container target) c.args.self.now) (sym c.in-Document.is) ∙ any in
    let stored = pending-stored _ c.args.document.0 (InDocument c.in-Document.scrolled.0) c.self.invariant found in
    let count = length-map c.self.inside.documents.items seen_position in
    c.move_in-in-Document.ensures.there (omega (arith, stored, count)) found
