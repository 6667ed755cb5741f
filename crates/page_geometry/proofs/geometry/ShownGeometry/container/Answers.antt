use Rattle.std.proofs.Common.{◌<◌, option_map, ap, sym, subst, ◌∙◌, Some}
use Rattle.element_tree.specs.Links.{number}
use Rattle.element_tree.specs.declared.container.Container.TheVariants.{Element, Document}
use Rattle.clip_chain.specs.Worlds.{element_spot, spot_of, scene_of}
use Rattle.page_geometry.specs.Ranks.{rank_of}
use Rattle.page_geometry.proofs.Containers.{spot_seen, container_is, view_container, ends}
use Rattle.page_geometry.proofs.geometry.ShownGeometry.container.Goals as goal

pub returns-else-not-has_box-clause-container : goal.returns-else-not-has_box-clause-container
returns-else-not-has_box-clause-container c =
    let it = c.args.self.now in
    container_is it.tree it.screen it.scrolls (c.in-Element.node.0) (Some c.holding.result) (sym c.has_box.ensures ∙ c.if-not-has_box.false)
    (ap Some (sym (spot_seen c.holding.result)) ∙ ap (option_map spot_of) c.holding.ensures)
    ∙ ap (λ spot. (scene_of it).container spot) (sym c.in-Element.is)

pub returns-else-not-has_box-clause-end : goal.returns-else-not-has_box-clause-end
returns-else-not-has_box-clause-end c =
    let it = c.args.self.now in
    let told = c.document_count.ensures.page in
    subst (λ spot. rank_of it.tree it.screen c.holding.result < rank_of it.tree it.screen spot) (sym c.in-Element.is)
    (ends it.tree it.screen it.scrolls told.framed told.few told.deep (Element c.in-Element.node) (Some c.holding.result)
    (container_is it.tree it.screen it.scrolls (c.in-Element.node.0) (Some c.holding.result) (sym c.has_box.ensures ∙ c.if-not-has_box.false)
    (ap Some (sym (spot_seen c.holding.result)) ∙ ap (option_map spot_of) c.holding.ensures)))

pub returns-in-Some-clause-end : goal.returns-in-Some-clause-end
returns-in-Some-clause-end c =
    let it = c.args.self.now in
    let told = c.document_count.ensures.page in
    let frame = element_spot (c.in-Some.frame.0) in
    subst (λ spot. rank_of it.tree it.screen frame < rank_of it.tree it.screen spot) (sym c.in-Document.is)
    (ends it.tree it.screen it.scrolls told.framed told.few told.deep (Document c.in-Document.document) (Some frame)
    (view_container it.tree it.screen it.scrolls (c.in-Document.document.0) (Some frame)
    (ap (option_map element_spot) (sym (ap (option_map number) c.in-Some.is) ∙ c.frame_of.ensures))))
