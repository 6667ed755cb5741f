-- What layout sees of a node, by what the tree's calls tell of it.
use Rattle.std.proofs.Common.{◌≡◌, ℕ, Bool, true, false, cond, List, [], Option, Some, None, option_map, ap, refl, sym, ◌∙◌, ◌⊎◌, inl, inr}
use Rattle.std.specs.Prelude.{slice_get, ◌&&◌, ◌||◌, not, is_some}
use Rattle.layout_model.specs.Styles.{Style, Position, StaticPosition}
use Rattle.layout_model.specs.Items.{Item, Kind, BlockKind, ImageKind, FrameKind}
use Rattle.layout_model.specs.Nodes.{is_flow}
use Rattle.layout_model.specs.Boxes.{Inputs, inner_children, kids_of, child_inputs, is_passed}
use Rattle.layout_model.specs.Clips.{clips, is_block, is_visible}
use Rattle.element_tree.specs.declared.node.NodeId.{NodeId}
use Rattle.element_tree.specs.Links.{node_ids}
use Rattle.element_tree.specs.Forest.{Knot, parent_of, children_of, parent_in, children_in}
use Rattle.px_units.specs.declared.Size.{Size}
use Rattle.block_layout.specs.Filling.{inputs_if_block}
use Rattle.block_layout.specs.Trees.{layout_tree, node_in}
use Rattle.block_layout.specs.Seen.{seen_kind}
use Rattle.block_layout.specs.declared.ItemKind.{ItemKind}
use Rattle.block_layout.specs.declared.ItemKind.TheVariants.{Image, Frame}

inner_leaf : (kind : Kind) (children : List ℕ) → is_block kind ≡ false → inner_children kind children ≡ []
inner_leaf BlockKind children leaf = cc
inner_leaf (ImageKind width height) children leaf = refl
inner_leaf FrameKind children leaf = refl

none_in : (kind : Kind) (item : Item) (found : Option Inputs) → is_block kind ≡ false → inputs_if_block kind item found ≡ None
none_in BlockKind item found leaf = cc
none_in (ImageKind width height) item found leaf = refl
none_in FrameKind item found leaf = refl

-- an image or a frame is no block
pub no_block : (kind : ItemKind) → ((natural : Size) × (kind ≡ Image natural)) ⊎ (kind ≡ Frame) → is_block (seen_kind kind) ≡ false
no_block kind (inl image) = ap (λ k. is_block (seen_kind k)) image.1
no_block kind (inr frame) = ap (λ k. is_block (seen_kind k)) frame

pub some_ids : (o : Option ℕ) → is_some (node_ids o) ≡ is_some o
some_ids None = refl
some_ids (Some n) = refl

flow_in : (nested : Bool) (position : Position) → is_flow position ≡ true → is_flow (cond nested position StaticPosition) ≡ true
flow_in true position flow = flow
flow_in false position flow = refl

flow_out : (nested : Bool) (position : Position) → is_flow position ≡ false → not (is_flow (cond nested position StaticPosition)) ≡ nested
flow_out true position flow = ap not flow
flow_out false position flow = refl

module _ {P : Type 0} (style : P → Style) (kind : P → Kind) where
  item_in : (found : Option (Knot P)) (carried : P) → option_map (λ k. k.payload) found ≡ Some carried → (node_in style kind found).item ≡ record { style = style carried; kind = kind carried }
  item_in None carried is = cc
  item_in (Some knot) carried is =
      let same : knot.payload ≡ carried = cc in
      ap (λ (p : P). let item : Item = record { style = style p; kind = kind p } in item) same

  parent_inside : (found : Option (Knot P)) → (node_in style kind found).parent ≡ parent_in found
  parent_inside None = refl
  parent_inside (Some knot) = refl

  children_inside : (found : Option (Knot P)) → (node_in style kind found).children ≡ children_in found
  children_inside None = refl
  children_inside (Some knot) = refl

  module _ (nodes : List (Knot P)) where
    pub parent_is : (n : ℕ) → (layout_tree style kind nodes n).parent ≡ parent_of nodes n
    unfolding layout_tree
    parent_is n = parent_inside (slice_get nodes n)

    pub children_is : (n : ℕ) → (layout_tree style kind nodes n).children ≡ children_of nodes n
    unfolding layout_tree
    children_is n = children_inside (slice_get nodes n)

    module _ (n : ℕ) (carried : P) (is : option_map (λ k. k.payload) (slice_get nodes n) ≡ Some carried) where
      pub item_is : (layout_tree style kind nodes n).item ≡ record { style = style carried; kind = kind carried }
      unfolding layout_tree
      item_is = item_in (slice_get nodes n) carried is

      pub hidden_is : (layout_tree style kind nodes n).item.style.hidden ≡ (style carried).hidden
      hidden_is = ap (λ item. item.style.hidden) item_is

      -- whether a child is passed over where its parent's children are stacked
      passed_as : (hidden : Bool) → (style carried).hidden ≡ hidden
          → is_passed (layout_tree style kind nodes n) ≡ (hidden || not (is_flow (cond (is_some (parent_of nodes n)) ((style carried).position) StaticPosition)))
      passed_as hidden shown =
          ap (λ item. item.style.hidden || not (is_flow (cond (is_some ((layout_tree style kind nodes n).parent)) (item.style.position) StaticPosition))) item_is
          ∙ ap (λ parent. (style carried).hidden || not (is_flow (cond (is_some parent) ((style carried).position) StaticPosition))) (parent_is n)
          ∙ ap (λ b. b || not (is_flow (cond (is_some (parent_of nodes n)) ((style carried).position) StaticPosition))) shown

      pub passed_hidden : (style carried).hidden ≡ true → is_passed (layout_tree style kind nodes n) ≡ true
      passed_hidden hidden = passed_as true hidden

      pub passed_in_flow : (style carried).hidden ≡ false → is_flow ((style carried).position) ≡ true → is_passed (layout_tree style kind nodes n) ≡ false
      passed_in_flow shown flow = passed_as false shown ∙ ap not (flow_in (is_some (parent_of nodes n)) ((style carried).position) flow)

      pub passed_out_of_flow : (style carried).hidden ≡ false → is_flow ((style carried).position) ≡ false → is_passed (layout_tree style kind nodes n) ≡ is_some (parent_of nodes n)
      passed_out_of_flow shown flow = passed_as false shown ∙ flow_out (is_some (parent_of nodes n)) ((style carried).position) flow

      pub kids_is : kids_of (layout_tree style kind nodes n) ≡ inner_children (kind carried) (children_of nodes n)
      kids_is =
          ap (λ k. inner_children k ((layout_tree style kind nodes n).children)) (ap (λ item. item.kind) item_is)
          ∙ ap (inner_children (kind carried)) (children_is n)

      pub kids_leaf : is_block (kind carried) ≡ false → kids_of (layout_tree style kind nodes n) ≡ []
      kids_leaf leaf = kids_is ∙ inner_leaf (kind carried) (children_of nodes n) leaf

      clips_is : clips (layout_tree style kind nodes n) ≡ (is_block (kind carried) && not (is_visible ((style carried).overflow)) && is_some (parent_of nodes n))
      clips_is =
          ap (λ item. is_block (item.kind) && not (is_visible (item.style.overflow)) && is_some ((layout_tree style kind nodes n).parent)) item_is
          ∙ ap (λ parent. is_block (kind carried) && not (is_visible ((style carried).overflow)) && is_some parent) (parent_is n)

      pub clips_block : kind carried ≡ BlockKind → (cut nested : Bool) → cut ≡ not (is_visible ((style carried).overflow)) → (parent : Option NodeId) → parent ≡ node_ids (parent_of nodes n) → nested ≡ is_some parent → (cut && nested) ≡ clips (layout_tree style kind nodes n)
      clips_block block cut nested cuts parent up nests =
          sym
          (clips_is ∙ ap (λ k. is_block k && not (is_visible ((style carried).overflow)) && is_some (parent_of nodes n)) block
          ∙ ap (λ b. b && is_some (parent_of nodes n)) (sym cuts)
          ∙ ap (λ b. cut && b) (sym (nests ∙ ap is_some up ∙ some_ids (parent_of nodes n))))

      pub clips_leaf : is_block (kind carried) ≡ false → false ≡ clips (layout_tree style kind nodes n)
      clips_leaf leaf = sym (clips_is ∙ ap (λ b. b && not (is_visible ((style carried).overflow)) && is_some (parent_of nodes n)) leaf)

      pub handed_block : kind carried ≡ BlockKind → (inputs : Inputs) (found : Option Inputs) → found ≡ Some inputs
          → Some (child_inputs (record { style = style carried; kind = kind carried }) inputs) ≡ inputs_if_block ((layout_tree style kind nodes n).item.kind) ((layout_tree style kind nodes n).item) found
      handed_block block inputs found is =
          sym
          (ap (inputs_if_block ((layout_tree style kind nodes n).item.kind) ((layout_tree style kind nodes n).item)) is
          ∙ ap (λ k. inputs_if_block k ((layout_tree style kind nodes n).item) (Some inputs)) (ap (λ item. item.kind) item_is ∙ block)
          ∙ ap (λ item. Some (child_inputs item inputs)) item_is)

      pub handed_leaf : is_block (kind carried) ≡ false → (found : Option Inputs)
          → None ≡ inputs_if_block ((layout_tree style kind nodes n).item.kind) ((layout_tree style kind nodes n).item) found
      handed_leaf leaf found = sym (none_in ((layout_tree style kind nodes n).item.kind) ((layout_tree style kind nodes n).item) found (ap (λ item. is_block (item.kind)) item_is ∙ leaf))
