-- What a walk over the children of a node has come to: how far those that it met reach, and what is in them.
use Rattle.std.proofs.Common.{◌≡◌, ◌≤◌, ℕ, ◌+◌, List, ◌∷◌, Option, Some, None, Bool, true, false, cond, refl, ap, sym, ◌∙◌, arith}
use Rattle.std.specs.Prelude.{◌||◌, not, unwrap_or}
use Rattle.px_units.specs.Lengths.{cap}
use Rattle.layout_model.specs.Styles.{Style}
use Rattle.layout_model.specs.Items.{Item, Kind, BlockKind, ImageKind, FrameKind}
use Rattle.layout_model.specs.Nodes.{Node, levels, is_positioned, is_in_flow, IsLinked, IsShallow}
use Rattle.layout_model.specs.Boxes.{Inputs, Box, kids_of, inner_children, is_passed, counted, shown_height, margin_height, inner_corner, total, computed, child_inputs, box_at, box_in}
use Rattle.layout_model.specs.Points.{plus, capped, larger}
use Rattle.layout_model.specs.Views.{View, inputs_in_view}
use Rattle.layout_model.specs.FlatPlaces.{margin_corner}
use Rattle.layout_model.proofs.Trees.{box_of_children}
use Rattle.layout_model.proofs.Unpositioned.{in_flow_unpositioned}
use Rattle.element_tree.specs.Forest.{Knot, IsForest, has, children_of}
use Rattle.element_tree.proofs.Levels.{kid_parent}
use Rattle.block_layout.specs.Far.{offset_at, far_kids, far_if_shown, far_down}
use Rattle.block_layout.specs.Filling.{IsUnpositioned, if_shown, inputs_if_block}
use Rattle.block_layout.specs.Held.{HoldsBoxes}
use Rattle.block_layout.specs.Trees.{layout_tree}
use Rattle.block_layout.proofs.Ancestors.{in_self, under_child}
use Rattle.block_layout.proofs.Far.{pair_same, larger_turn, nothing_larger, kids_capped, far_cons, far_kid, far_kid_capped}
use Rattle.block_layout.proofs.Forests.{linked, shallow}
use Rattle.block_layout.proofs.Handed.{view_down}
use Rattle.block_layout.proofs.Nodes.{parent_is}
use Rattle.block_layout.proofs.Unpositioned.{passed_is}

handed_in : (kind : Kind) (item : Item) (inputs : Inputs) (children : List ℕ) (c : ℕ) → has (inner_children kind children) c ≡ true → inputs_if_block kind item (Some inputs) ≡ Some (child_inputs item inputs)
handed_in BlockKind item inputs children c kid = refl
handed_in (ImageKind width height) item inputs children c kid = cc
handed_in FrameKind item inputs children c kid = cc

-- no height inside moves the offset of a child
offset_is : (parent item : Item) (inputs : Inputs) (above inside deep : ℕ)
    → capped (plus (plus (inner_corner (computed parent inputs inside)) (0, above)) ((computed item (child_inputs parent inputs) deep).margin.left, (computed item (child_inputs parent inputs) deep).margin.top)) ≡ offset_at parent inputs above item
unfolding computed offset_at
offset_is parent item inputs above inside deep = refl

module _ {P : Type 0} (style : P → Style) (kind : P → Kind) {most : ℕ} {nodes : List (Knot P)} (forest : IsForest most nodes) (p : ℕ) (still : IsUnpositioned (layout_tree style kind nodes) p) (document : View) (inputs : Inputs)
    (found : inputs_in_view (layout_tree style kind nodes) document p ≡ Some inputs) (held : ℕ → Option Box) (holds : HoldsBoxes (layout_tree style kind nodes) document p held)
    (c : ℕ) (kid : has (kids_of (layout_tree style kind nodes p)) c ≡ true) (child : has (children_of nodes p) c ≡ true) where
  abbrev at : ℕ → Node
  at = layout_tree style kind nodes

  abbrev within : Inputs
  within = child_inputs ((layout_tree style kind nodes p).item) inputs

  pub kid_below : IsUnpositioned (layout_tree style kind nodes) c
  kid_below n inside = still n (under_child style kind forest p c n child inside)

  pub kid_still : is_positioned (layout_tree style kind nodes c) ≡ false
  kid_still = kid_below c (in_self at c)

  pub kid_inputs : (layout_tree style kind nodes c).item.style.hidden ≡ false → inputs_in_view (layout_tree style kind nodes) document c ≡ Some (child_inputs ((layout_tree style kind nodes p).item) inputs)
  kid_inputs shown =
      view_down at (shallow style kind forest) document c p (parent_is style kind nodes c ∙ kid_parent forest p c child) (in_flow_unpositioned at c kid_still)
      ∙ ap (λ hidden. if_shown hidden (inputs_if_block ((at p).item.kind) ((at p).item) (inputs_in_view at document p))) shown
      ∙ ap (inputs_if_block ((at p).item.kind) ((at p).item)) found
      ∙ handed_in ((at p).item.kind) ((at p).item) inputs ((at p).children) c kid

  pub kid_holds : HoldsBoxes (layout_tree style kind nodes) document c held
  kid_holds d below inside there = holds d below (under_child style kind forest p c d child inside) there

  pub kid_box : (layout_tree style kind nodes c).item.style.hidden ≡ false → held c ≡ Some (box_in (layout_tree style kind nodes) (child_inputs ((layout_tree style kind nodes p).item) inputs) c)
  kid_box shown = kid_holds c within (in_self at c) (kid_inputs shown)

  pub kid_offset : (own inner : Box) (above : ℕ) → own ≡ box_in (layout_tree style kind nodes) inputs p → inner ≡ box_in (layout_tree style kind nodes) (child_inputs ((layout_tree style kind nodes p).item) inputs) c
      → capped (plus (plus (inner_corner own) (0, above)) (inner.margin.left, inner.margin.top)) ≡ offset_at ((layout_tree style kind nodes p).item) inputs above ((layout_tree style kind nodes c).item)
  unfolding box_at
  kid_offset own inner above is ins =
      let whole = is ∙ box_of_children at (linked style kind forest) (shallow style kind forest) inputs p in
      let part = ins ∙ box_of_children at (linked style kind forest) (shallow style kind forest) within c in
      ap (λ (b : Box). capped (plus (plus (inner_corner b) (0, above)) (inner.margin.left, inner.margin.top))) whole
      ∙ ap (λ (b : Box). capped (plus (plus (inner_corner (computed ((at p).item) inputs (total at (box_in at within) (kids_of (at p))))) (0, above)) (b.margin.left, b.margin.top))) part
      ∙ offset_is ((at p).item) ((at c).item) inputs above (total at (box_in at within) (kids_of (at p))) (total at (box_in at (child_inputs ((at c).item) within)) (kids_of (at c)))

-- what a walk has met, and what is to come, make the whole
counted_as : (at : ℕ → Node) (within : Inputs) (c : ℕ) (passed : Bool) → is_passed (at c) ≡ passed → counted at (box_in at within) c ≡ shown_height (box_in at within) c passed
unfolding counted
counted_as at within c passed is = ap (shown_height (box_in at within) c) is

-- how far these children reach, under so much height, and what is in them
abbrev pub far_among : (ℕ → Node) → Item → Inputs → Inputs → ℕ × ℕ → ℕ → List ℕ → ℕ × ℕ
far_among at parent inputs within corner above kids = far_kids (counted at (box_in at within)) (far_kid at (far_down levels at) parent inputs corner within) above kids

module _ (at : ℕ → Node) (parent : Item) (inputs within : Inputs) (corner : ℕ × ℕ) where
  abbrev height : ℕ → ℕ
  height = counted at (box_in at within)

  abbrev reach : ℕ → ℕ → ℕ × ℕ
  reach = far_kid at (far_down levels at) parent inputs corner within

  module _ (left more : List ℕ) (c above : ℕ) (step : left ≡ c ∷ more) (far whole : ℕ × ℕ) (so_far : larger far (far_kids height reach above left) ≡ whole) where
    pub far_hidden : (at c).item.style.hidden ≡ true → larger far (far_kids height reach above more) ≡ whole
    far_hidden hidden =
        let none : height c ≡ 0 = counted_as at within c true (ap (λ h. h || not (is_in_flow (at c))) hidden) in
        let nothing : reach above c ≡ (0, 0) = ap (far_if_shown (far_down levels at) within (λ u. plus corner (offset_at parent inputs above ((at c).item))) c) hidden in
        ap (larger far)
        (sym
        (far_cons height reach above c left more step
        ∙ ap (λ f. larger f (far_kids height reach (above + height c) more)) nothing
        ∙ nothing_larger (far_kids height reach (above + height c) more)
        ∙ ap (λ a. far_kids height reach a more) (omega (arith, none))))
        ∙ so_far

    pub far_shown : is_positioned (at c) ≡ false → (at c).item.style.hidden ≡ false → (place edge : ℕ × ℕ) → place ≡ plus corner (offset_at parent inputs above ((at c).item)) → edge ≡ far_down levels at within place c
        → (sum : ℕ) → sum ≡ cap (above + margin_height (box_in at within c)) → larger (larger far edge) (far_kids height reach sum more) ≡ whole
    far_shown still shown place edge there is sum summed =
        let high : height c ≡ margin_height (box_in at within c) = counted_as at within c false (passed_is at c still ∙ shown) in
        let met : edge ≡ reach above c
        = is ∙ ap (λ p. far_down levels at within p c) there
        ∙ sym (ap (far_if_shown (far_down levels at) within (λ u. plus corner (offset_at parent inputs above ((at c).item))) c) shown) in
        larger_turn far edge (far_kids height reach sum more)
        ∙ ap (larger far)
        (ap (larger edge) (kids_capped height reach (far_kid_capped at (far_down levels at) parent inputs corner within) more sum (above + height c) (omega (arith, high, summed)))
        ∙ ap (λ e. larger e (far_kids height reach (above + height c) more)) met
        ∙ sym (far_cons height reach above c left more step))
        ∙ so_far

pub some_same : (a b : Box) → ◌≡◌ {A = Option Box} (Some a) (Some b) → a ≡ b
some_same a b same = ap (λ o. unwrap_or o a) same

pub shown_some : (hidden : Bool) (held : Option Box) (box : Box) → cond hidden None held ≡ Some box → (hidden ≡ false) × (held ≡ Some box)
shown_some true held box is = absurd (cc)
shown_some false held box is = (refl, is)

pub hidden_none : (hidden : Bool) (held : Option Box) (box : Box) → cond hidden None held ≡ None → (hidden ≡ false → held ≡ Some box) → hidden ≡ true
hidden_none true held box is there = refl
hidden_none false held box is there = let both : None ≡ Some box = sym is ∙ there refl in absurd (cc)

margin_in : (item : Item) (inputs : Inputs) (inside : ℕ) → capped ((computed item inputs inside).margin.left, (computed item inputs inside).margin.top) ≡ margin_corner inputs item
unfolding computed margin_corner
margin_in item inputs inside = refl

pub margin_is : (at : ℕ → Node) → IsLinked at → IsShallow at → (inputs : Inputs) (n : ℕ) (own : Box) → own ≡ box_in at inputs n → own.margin.left ≤ 2147483647 → own.margin.top ≤ 2147483647
    → ◌≡◌ {A = ℕ × ℕ} (own.margin.left, own.margin.top) (margin_corner inputs ((at n).item))
unfolding box_at
margin_is at linked shallow inputs n own is left top =
    sym (pair_same _ _ _ _ (omega arith) (omega arith))
    ∙ ap (λ (b : Box). capped (b.margin.left, b.margin.top)) (is ∙ box_of_children at linked shallow inputs n)
    ∙ margin_in ((at n).item) inputs (total at (box_in at (child_inputs ((at n).item) inputs)) (kids_of (at n)))

pub some_none : (box : Box) → ◌≡◌ {A = Option Box} None (Some box) → ⊥
some_none box both = cc
