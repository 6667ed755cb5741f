-- Which nodes are scroll containers, by what the tree's calls tell of them.
use Rattle.std.proofs.Common.{◌≡◌, ℕ, Bool, true, false, List, Option, Some, option_map, refl, ap, sym, ◌∙◌}
use Rattle.std.specs.Prelude.{slice_get, ◌&&◌, not, is_some}
use Rattle.layout_model.specs.Styles.{Style}
use Rattle.layout_model.specs.Items.{Item, Kind, BlockKind}
use Rattle.layout_model.specs.Clips.{is_block, is_visible, is_clip, is_scroll_container}
use Rattle.style_values.specs.declared.Style.{Style as StyleCode}
use Rattle.style_values.specs.Seen.{seen_style}
use Rattle.element_tree.specs.declared.node.NodeId.{NodeId}
use Rattle.element_tree.specs.Links.{node_ids}
use Rattle.element_tree.specs.Forest.{Knot, parent_of}
use Rattle.block_layout.specs.Trees.{layout_tree}
use Rattle.block_layout.proofs.Nodes.{item_is, parent_is, some_ids}

scrolls_as : (seen cut nested : Bool) → (not seen && not cut) ≡ true → (not seen && nested && not cut) ≡ nested
scrolls_as true cut nested e = cc
scrolls_as false true nested e = cc
scrolls_as false false true e = refl
scrolls_as false false false e = refl

shut_as : (seen cut nested : Bool) → (not seen && not cut) ≡ false → (not seen && nested && not cut) ≡ false
shut_as true cut nested e = refl
shut_as false true true e = refl
shut_as false true false e = refl
shut_as false false nested e = cc

module _ {P : Type 0} (style : P → Style) (kind : P → Kind) (nodes : List (Knot P)) (n : ℕ) (carried : P) (is : option_map (λ k. k.payload) (slice_get nodes n) ≡ Some carried) where
  abbrev nested : Bool
  nested = is_some (parent_of nodes n)

  scroller_is : is_scroll_container (layout_tree style kind nodes n)
      ≡ (is_block (kind carried) && not (is_visible ((style carried).overflow)) && nested && not (is_clip ((style carried).overflow)))
  scroller_is =
      ap (λ (item : Item). is_block (item.kind) && not (is_visible (item.style.overflow)) && is_some ((layout_tree style kind nodes n).parent) && not (is_clip (item.style.overflow))) (item_is style kind nodes n carried is)
      ∙ ap (λ parent. is_block (kind carried) && not (is_visible ((style carried).overflow)) && is_some parent && not (is_clip ((style carried).overflow))) (parent_is style kind nodes n)

  pub scroller_leaf : is_block (kind carried) ≡ false → false ≡ is_scroll_container (layout_tree style kind nodes n)
  scroller_leaf leaf = sym (scroller_is ∙ ap (λ b. b && not (is_visible ((style carried).overflow)) && nested && not (is_clip ((style carried).overflow))) leaf)

  module _ (block : kind carried ≡ BlockKind) (own : StyleCode) (same : seen_style own ≡ style carried) where
    block_is : is_scroll_container (layout_tree style kind nodes n) ≡ (not (is_visible ((seen_style own).overflow)) && nested && not (is_clip ((seen_style own).overflow)))
    block_is =
        scroller_is ∙ ap (λ k. is_block k && not (is_visible ((style carried).overflow)) && nested && not (is_clip ((style carried).overflow))) block
        ∙ ap (λ (s : Style). not (is_visible (s.overflow)) && nested && not (is_clip (s.overflow))) (sym same)

    pub scroller_block : (not (is_visible ((seen_style own).overflow)) && not (is_clip ((seen_style own).overflow))) ≡ true
        → (parent : Option NodeId) → parent ≡ node_ids (parent_of nodes n) → (test : Bool) → test ≡ is_some parent → test ≡ is_scroll_container (layout_tree style kind nodes n)
    scroller_block scrolls parent up test says =
        says ∙ ap is_some up ∙ some_ids (parent_of nodes n)
        ∙ sym (scrolls_as (is_visible ((seen_style own).overflow)) (is_clip ((seen_style own).overflow)) nested scrolls) ∙ sym block_is

    pub scroller_shut : (not (is_visible ((seen_style own).overflow)) && not (is_clip ((seen_style own).overflow))) ≡ false → false ≡ is_scroll_container (layout_tree style kind nodes n)
    scroller_shut shut = sym (block_is ∙ shut_as (is_visible ((seen_style own).overflow)) (is_clip ((seen_style own).overflow)) nested shut)
