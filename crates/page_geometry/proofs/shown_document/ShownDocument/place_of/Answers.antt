use Rattle.std.proofs.Common.{ap, sym, subst, ◌∙◌}
use Rattle.std.specs.Prelude.{is_some}
use Rattle.layout_model.specs.Views.{inputs_in_view}
use Rattle.layout_model.specs.Reach.{view_in_force}
use Rattle.layout_model.specs.Places.{place_in}
use Rattle.page_model.specs.World.{InDocument}
use Rattle.page_model.specs.Lookups.{element_at}
use Rattle.page_model.specs.Scrolls.{position_of}
use Rattle.page_model.specs.PageBoxes.{pair_of, stored_in, view_of, point_of, scroll_offset}
use Rattle.block_layout.specs.Seen.{as_point}
use Rattle.page_boxes.specs.Fresh.{HoldsAll}
use Rattle.page_boxes.proofs.InForce.{document_offset}
use Rattle.page_boxes.proofs.Pages.{boxed_is}
use Rattle.page_boxes.proofs.Shown.{place_none, place_there}
use Rattle.page_geometry.proofs.Boxes.{sized_at, fresh_at}
use Rattle.page_geometry.proofs.Scrollers.{in_force, in_range}
use Rattle.page_geometry.proofs.shown_document.ShownDocument.place_of.Goals as goal

pub returns-then-not-has_box-clause-value : goal.returns-then-not-has_box-clause-value
returns-then-not-has_box-clause-value c =
    let it = c.args.self.now.shown in place_none it.tree it.screen it.scrolls (c.args.node.0) (sym c.has_box.ensures ∙ c.if-not-has_box.true)

pub place_in-requires-clause-found : goal.place_in-requires-clause-found
place_in-requires-clause-found c = in_range c.args.self.now.shown c.args.self.now.document c.offsets.result c.offsets.ensures

pub returns-clause-value : goal.returns-clause-value
returns-clause-value c =
    let it = c.args.self.now.shown in
    let n = c.args.node.0 in
    let own = (element_at it.tree n).document in
    let view = view_of it.tree it.screen own in
    let stored = pair_of (position_of (InDocument own) it.scrolls) in
    let nodes = c.elements.ensures.nodes in
    let there = sym c.has_box.ensures ∙ c.if-not-has_box.false in
    let boxed = sym (ap (λ at. is_some (inputs_in_view at view n)) nodes) ∙ sym (boxed_is it.tree it.screen n) ∙ there in
    let holds = subst (λ at. HoldsAll at view c.boxes.result.now) nodes (fresh_at it c.args.self.now.document n c.requires c.boxes.result.now c.boxes.ensures.fresh) in
    let forced =
    c.view_offset-view.ensures.value
    ∙ ap (λ document. as_point (pair_of (scroll_offset it.tree it.screen it.scrolls (InDocument document)))) (sym c.requires)
    ∙ ap as_point (sym (document_offset it.tree it.screen it.scrolls own))
    ∙ ap (λ at. as_point (view_in_force at (record view { scrolled = stored }))) nodes in
    let known = in_force it c.args.self.now.document c.offsets.result own _ c.scrolls.result.now c.requires nodes c.scrolls.ensures c.offsets.ensures in
    c.place_in.ensures.value view stored (sized_at it c.args.self.now.document n c.requires c.boxes.ensures.sized) holds known boxed forced
    ∙ (λ i. point_of (place_in (sym nodes i) (stored_in (c.scrolls.ensures i)) (record view { scrolled = stored }) n))
    ∙ place_there it.tree it.screen it.scrolls n there
