use Rattle.std.proofs.Common.{◌≡◌, ◌∙◌, ap, sym, subst}
use Rattle.std.specs.Prelude.{IfOk}
use Rattle.page_model.specs.Documents.{nodes_of}
use Rattle.page_model.specs.PageBoxes.{stored_in, view_of}
use Rattle.page_model.specs.Shown.{Shown, shown_with}
use Rattle.block_layout.specs.Trees.{layout_tree}
use Rattle.page_tree.specs.Items.{style_in, kind_in}
use Rattle.page_boxes.specs.Fresh.{HoldsAll}
use Rattle.page_boxes.specs.Offsets.{AreInForce}
use Rattle.page_boxes.specs.Pages.{seen_screen}
use Rattle.page_boxes.proofs.Sized.{sized_view}
use Rattle.page_geometry.proofs.Scrollers.{all_found}
use Rattle.page_geometry.proofs.shown.Shown.with_scrollers.Goals as goal

pub invariant_of-shown : goal.invariant_of-shown
invariant_of-shown c =
    let at = c.shown.inside in
    let it : Shown = shown_with at.page.now.tree (seen_screen at.screen) at.scrolls.now in
    let nodes : nodes_of it.tree ≡ layout_tree style_in kind_in c.elements.result.now.nodes = ap (λ (s : Shown). nodes_of s.tree) c.shown.view_is ∙ c.elements.ensures.nodes in
    let found = c.boxed_offsets-offsets.result in (
      c.shown.invariant.0,
      c.shown.invariant.1,
      c.shown.invariant.2,
      all_found it found c.ok.result c.ok.ensures.value
          (λ each.
          let view = view_of it.tree it.screen each in
          subst (λ nodes. IfOk found (λ map. AreInForce nodes (stored_in it.scrolls) view map)) (sym nodes)
          (c.boxed_offsets-offsets.ensures.value view (sized_view it.tree at.screen c.shown.invariant.0 each)
          (subst (λ nodes. HoldsAll nodes view at.boxes.now) nodes (c.shown.invariant.1.documents each))))
          c.boxed_offsets-offsets.ensures.range,
    )
