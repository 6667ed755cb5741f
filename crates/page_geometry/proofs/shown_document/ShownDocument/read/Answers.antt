use Rattle.std.proofs.Common.{◌≡◌, sym, ap, ◌∙◌, refl}
use Rattle.script_model.specs.TraceLines.{ReadLine}
use Rattle.page_model.specs.Lookups.{no_extent}
use Rattle.page_model.specs.Documents.{document_of_container}
use Rattle.page_model.specs.PageBoxes.{pair_of, viewport_of}
use Rattle.page_model.specs.Readings.{point_at, reading_of}
use Rattle.block_layout.specs.Seen.{as_size}
use Rattle.container_model.specs.Seen.{seen_container}
use Rattle.page_model.specs.Names.{container_text}
use Rattle.page_geometry.proofs.Boxes.{element_reading, document_reading, rect_same, edges_reach, span_reach}
use Rattle.page_geometry.proofs.shown_document.ShownDocument.read.Goals as goal

pub returns-in-Element-clause-value : goal.returns-in-Element-clause-value
returns-in-Element-clause-value c names =
    let it = c.args.self.now.shown in
    ap (λ k. reading_of names it.tree it.screen it.scrolls (seen_container k)) c.in-Element.is
    ∙ element_reading names it.tree it.screen it.scrolls (c.in-Element.node.0) c.border_rect.result c.offset_of.result c.border_rect.ensures.value c.offset_of.ensures.value
    ∙ sym (ap (λ k. ReadLine (container_text names (seen_container k)) c.border_rect.result c.offset_of.result) c.in-Element.is)

pub returns-in-Document-clause-value : goal.returns-in-Document-clause-value
returns-in-Document-clause-value c names =
    let it = c.args.self.now.shown in
    let document = c.in-Document.document.0 in
    let own : document ≡ c.args.self.now.document = sym (ap (λ k. document_of_container it.tree (seen_container k)) c.in-Document.is) ∙ c.requires in
    ap (λ k. reading_of names it.tree it.screen it.scrolls (seen_container k)) c.in-Document.is
    ∙ document_reading names it.tree it.screen it.scrolls document c.rect_at.result c.offset_of-in-Document.result
    (rect_same c.rect_at.result (point_at no_extent) (point_at no_extent) c.viewport.result (viewport_of it.tree it.screen document) refl
    (c.viewport.ensures.value ∙ ap (λ d. as_size (pair_of (viewport_of it.tree it.screen d))) (sym own)) c.rect_at.ensures.value)
    c.offset_of-in-Document.ensures.value
    ∙ sym (ap (λ k. ReadLine (container_text names (seen_container k)) c.rect_at.result c.offset_of-in-Document.result) c.in-Document.is)

pub returns-in-Element-clause-edges : goal.returns-in-Element-clause-edges
returns-in-Element-clause-edges c = edges_reach c.border_rect.result c.border_rect.ensures.edges

pub returns-in-Element-clause-width : goal.returns-in-Element-clause-width
returns-in-Element-clause-width c = span_reach _ c.border_rect.ensures.width

pub returns-in-Element-clause-height : goal.returns-in-Element-clause-height
returns-in-Element-clause-height c = span_reach _ c.border_rect.ensures.height

pub returns-in-Document-clause-edges : goal.returns-in-Document-clause-edges
returns-in-Document-clause-edges c = edges_reach c.rect_at.result c.rect_at.ensures.edges

pub returns-in-Document-clause-width : goal.returns-in-Document-clause-width
returns-in-Document-clause-width c = span_reach _ c.rect_at.ensures.width

pub returns-in-Document-clause-height : goal.returns-in-Document-clause-height
returns-in-Document-clause-height c = span_reach _ c.rect_at.ensures.height
