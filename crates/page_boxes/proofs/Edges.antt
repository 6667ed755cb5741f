-- What one box reaches by itself is no more than what all boxes reach.
use Rattle.std.proofs.Common.{◌≡◌, ◌≤◌, ◌+◌, ◌-◌, ℕ, ℤ, Bool, true, false, cond, List, [], ◌∷◌, Some, None, nat_eq, refl, ap, sym, subst, ◌∙◌, arith}
use Rattle.std.proofs.lemmas.Bool.Decides.{nat_tests}
use Rattle.std.proofs.lemmas.Int.{ints}
use Rattle.std.specs.Prelude.{◌&&◌, not, is_some, pos, negsuc, ◌+ℤ◌, ◌-ℤ◌, unsigned_abs, Contains}
use Rattle.std.proofs.lemmas.Bool.{and_parts}
use Rattle.px_units.specs.Lengths.{cap, at_least_zero}
use Rattle.px_units.specs.declared.Size.{Size}
use Rattle.px_units.specs.declared.Point.{Point}
use Rattle.layout_model.specs.Styles.{Position, StaticPosition, RelativePosition, AbsolutePosition, FixedPosition}
use Rattle.layout_model.specs.Nodes.{Node, position_of, is_static, is_flow, holder, element_of, is_screen, IsListed, IsShallow}
use Rattle.layout_model.specs.Boxes.{Inputs, Box, box_in, border_size, padding_size, padding_corner}
use Rattle.layout_model.specs.Clips.{is_block, is_visible, is_clip, clips, is_scroll_container}
use Rattle.layout_model.specs.Points.{plus, minus, capped, moved, IsWithin}
use Rattle.layout_model.specs.Views.{View, view_size, inputs_in_view}
use Rattle.layout_model.specs.FlatPlaces.{offset_of, border_corner, flat_place}
use Rattle.layout_model.specs.Reach.{clipped_by, reached_by, reached_by_view, edges_with, edges_from, reach_of, reach_of_view, range_of, range_of_view}
use Rattle.layout_model.proofs.Holders.{holder_of_child, holder_of_top, on_screen_unheld}
use Rattle.layout_model.proofs.Clipped.{clipped_unheld, clipped_held}
use Rattle.layout_model.proofs.FlatPlaces.{flat_of_top, flat_of_static}
use Rattle.layout_model.proofs.Farthest.{edges_within}
use Rattle.layout_model.proofs.Reaches.{reach_is, view_is, capped_order, reached, reached_in_view}
use Rattle.page_model.specs.Documents.{is_number}
use Rattle.page_model.specs.PageBoxes.{view_with}
use Rattle.block_layout.specs.Seen.{as_size, as_point}
use Rattle.kept_layout.specs.declared.slots.Slot.{Slot}
use Rattle.kept_layout.specs.Slots.{held_in}
use Rattle.kept_layout.proofs.Exact.{held_fresh}
use Rattle.kept_layout.proofs.Climbed.{pair_is}
use Rattle.page_boxes.specs.Fresh.{HoldsAll}
use Rattle.page_boxes.specs.Pages.{seen_pair}
use Rattle.page_boxes.proofs.Boxed.{boxed_below, boxed_top}
use Rattle.page_boxes.proofs.Unscrolled.{edges_at}
use Rattle.page_boxes.proofs.Parents.{some_found, same_box}
use Rattle.page_boxes.proofs.Reaching.{range_found}

pub nothing_within : (far : ℕ × ℕ) → IsWithin (0, 0) far
nothing_within far = (omega arith, omega arith)

-- the edges of a border box
pub edges_are : (across down : ℕ) (border : Size) (from : Point) (box : ℕ × ℕ) (found : Size) → border ≡ as_size box
    → found.width ≡ pos (cap (across + unsigned_abs border.width - unsigned_abs from.left)) → found.height ≡ pos (cap (down + unsigned_abs border.height - unsigned_abs from.top))
    → found ≡ as_size (capped (minus (plus (across, down) box) (unsigned_abs from.left, unsigned_abs from.top)))
edges_are across down border from box found is wide tall =
    ap (λ w. let s : Size = record { width = w; height = found.height } in s) wide
    ∙ ap (λ h. let s : Size = record { width = pos (cap (across + unsigned_abs border.width - unsigned_abs from.left)); height = h } in s) tall
    ∙ ap (λ (b : Size). as_size (capped (minus (plus (across, down) (unsigned_abs b.width, unsigned_abs b.height)) (unsigned_abs from.left, unsigned_abs from.top)))) is

-- what is left of the edges is no more than what is left of all that is reached
left_within : (edge reach shown : ℕ) → cap edge ≤ reach → cap (cap edge - shown) ≤ reach - shown
left_within edge reach shown near = omega arith

within_range : (edge shown far : ℕ × ℕ) (reach inside found : Size) → reach ≡ as_size (capped edge) → seen_pair inside ≡ shown → found ≡ as_size (capped (minus (seen_pair reach) (seen_pair inside)))
    → IsWithin (capped edge) far → IsWithin (seen_pair found) (minus far shown)
within_range edge shown far reach inside found reached shows is near =
    let left : found ≡ as_size (capped (minus (capped edge) shown))
    = is
    ∙ ap (λ r. as_size (capped (minus (seen_pair r) (seen_pair inside)))) reached
    ∙ ap (λ s. as_size (capped (minus (capped edge) s))) shows in
    subst (λ (f : Size). IsWithin (seen_pair f) (minus far shown)) (sym left) (left_within (edge.0) (far.0) (shown.0) near.0, left_within (edge.1) (far.1) (shown.1) near.1)

-- only in a block are there children with boxes
block_of : (block visible inner clip : Bool) → ((block && not visible && inner) && not clip) ≡ true → block ≡ true
block_of true visible inner clip is = refl
block_of false visible inner clip is = cc

scroller_block : (node : Node) → is_scroll_container node ≡ true → is_block node.item.kind ≡ true
scroller_block node is = block_of (is_block node.item.kind) (is_visible node.item.style.overflow) (is_some node.parent) (is_clip node.item.style.overflow) is

static_is : (position : Position) → is_static position ≡ true → position ≡ StaticPosition
static_is StaticPosition is = refl
static_is RelativePosition is = cc
static_is AbsolutePosition is = cc
static_is FixedPosition is = cc

-- an edge that isn't beyond the corner counts as at it
less_is : (z : ℤ) (x y : ℕ) → z ≡ pos x -ℤ pos y → at_least_zero z ≡ x - y
less_is (pos n) x y is = omega (arith, ints, is)
less_is (negsuc n) x y is = omega (arith, ints, is)

edge_along : (z : ℤ) (offset size border : ℕ) → at_least_zero (z +ℤ pos offset +ℤ pos size -ℤ (z +ℤ pos border)) ≡ offset + size - border
edge_along z offset size border = less_is (z +ℤ pos offset +ℤ pos size -ℤ (z +ℤ pos border)) (offset + size) border (omega (arith, ints))

edge_on_top : (offset size : ℕ) → at_least_zero (pos 0 +ℤ pos offset +ℤ pos size -ℤ pos 0) ≡ offset + size - 0
edge_on_top offset size = less_is (pos 0 +ℤ pos offset +ℤ pos size -ℤ pos 0) (offset + size) 0 (omega (arith, ints))

module _ (at : ℕ → Node) (view : View) (kept : List Slot) (holds : HoldsAll at view kept) where
  own_box : (n : ℕ) (inputs : Inputs) (own : Box) → inputs_in_view at view n ≡ Some inputs → Some own ≡ held_in kept n → own ≡ box_in at inputs n
  own_box n inputs own found its = same_box (held_in kept n) own (box_in at inputs n) its (held_fresh at kept n inputs (holds.boxes n inputs found))

  -- the viewport of a root element
  module _ (listed : IsListed at) (shallow : IsShallow at) (root : ℕ) (top : (at root).parent ≡ None) (hidden : (at root).item.style.hidden ≡ false) (pair : ℕ × ℕ)
      (is : view ≡ view_with (Some root) (Some pair)) where
    pub root_boxed : is_some (inputs_in_view at view root) ≡ true
    root_boxed =
        let itself : nat_eq root root ≡ true = grind (arith, nat_tests) in
        boxed_top at view root top ∙ ap (λ h. not h && is_number view.root root) hidden ∙ ap (λ (v : View). is_number v.root root) is ∙ itself

    root_unheld : element_of (holder at root) ≡ None
    root_unheld = ap element_of (holder_of_top at root top)

    view_range : range_of_view at view ≡ minus (reach_of_view at view) (view_size view)
    unfolding range_of_view
    view_range = refl

    module _ (inputs : Inputs) (found : inputs_in_view at view root ≡ Some inputs) where
      root_reached : Contains (reached_by_view at view) root
      root_reached =
          reached_in_view at listed shallow view inputs root found (clipped_unheld at root root_unheld)
          (on_screen_unheld at root root_unheld ∙ ap is_screen (holder_of_top at root top))

      root_edges : edges_from at view (pos 0, pos 0) root ≡ minus (plus (offset_of at view root) (border_size (box_in at inputs root))) (0, 0)
      root_edges =
          ap (edges_with at view (pos 0, pos 0) root) found
          ∙ ap (λ place. edges_at (pos 0, pos 0) place (border_size (box_in at inputs root))) (flat_of_top at view root top)
          ∙ pair_is _ _ (minus (plus (offset_of at view root) (border_size (box_in at inputs root))) (0, 0)) (edge_on_top _ _) (edge_on_top _ _)

      root_passes : IsWithin (capped (minus (plus (offset_of at view root) (border_size (box_in at inputs root))) (0, 0))) (reach_of_view at view)
      root_passes =
          subst (λ e. IsWithin (capped e) (reach_of_view at view)) root_edges
          (capped_order (edges_from at view (pos 0, pos 0) root) _ (reach_of_view at view)
          (edges_within at view (pos 0, pos 0) (view_size view) (reached_by_view at view) root root_reached) (view_is at view))

    pub root_within : (own : Box) → Some own ≡ held_in kept root → (corner : ℕ × ℕ) → corner ≡ offset_of at view root → (reach inside found : Size)
        → reach ≡ as_size (capped (minus (plus corner (border_size own)) (0, 0))) → seen_pair inside ≡ pair
        → found ≡ as_size (capped (minus (seen_pair reach) (seen_pair inside))) → IsWithin (seen_pair found) (range_of_view at view)
    root_within own its corner placed reach inside found reached shows left =
        let there = some_found (inputs_in_view at view root) root_boxed in
        let edge : minus (plus (offset_of at view root) (border_size (box_in at there.0 root))) (0, 0) ≡ minus (plus corner (border_size own)) (0, 0)
        = ap (λ c. minus (plus c (border_size (box_in at there.0 root))) (0, 0)) (sym placed)
        ∙ ap (λ (b : Box). minus (plus corner (border_size b)) (0, 0)) (sym (own_box root there.0 own there.1 its)) in
        subst (IsWithin (seen_pair found)) (sym view_range)
        (within_range (minus (plus corner (border_size own)) (0, 0)) (view_size view) (reach_of_view at view) reach inside found reached (shows ∙ sym (ap view_size is)) left
        (subst (λ e. IsWithin (capped e) (reach_of_view at view)) edge (root_passes there.0 there.1)))

  -- a scroll container and one of its children, which is static
  module _ (listed : IsListed at) (shallow : IsShallow at) (n c : ℕ) (up : (at c).parent ≡ Some n) (scroller : is_scroll_container (at n) ≡ true)
      (hidden : (at c).item.style.hidden ≡ false) (still : is_static ((at c).item.style.position) ≡ true) (inputs : Inputs) (found : inputs_in_view at view n ≡ Some inputs) where
    pub kid_boxed : is_some (inputs_in_view at view c) ≡ true
    kid_boxed =
        boxed_below at view c n up (shallow n)
        ∙ ap (λ h. not h && is_block (at n).item.kind && is_some (inputs_in_view at view n)) hidden
        ∙ ap (λ b. b && is_some (inputs_in_view at view n)) (scroller_block (at n) scroller) ∙ ap is_some found

    kid_static : position_of (at c) ≡ StaticPosition
    kid_static = ap (λ o. cond (is_some o) ((at c).item.style.position) StaticPosition) up ∙ static_is ((at c).item.style.position) still

    kid_clipped : clipped_by at c ≡ Some n
    kid_clipped =
        clipped_held at shallow c n (holder_of_child at c n up (ap is_flow kid_static))
        ∙ ap (λ b. cond b (Some n) (clipped_by at n)) ((and_parts (clips (at n)) (not (is_clip (at n).item.style.overflow)) scroller).0)

    corner_same : padding_corner (box_in at inputs n) ≡ border_corner (at n).item
    unfolding box_in
    corner_same = refl

    abbrev corner_in : ℤ × ℤ
    corner_in = moved (flat_place at view n) (border_corner (at n).item)

    module _ (below : Inputs) (its : inputs_in_view at view c ≡ Some below) where
      abbrev kid_edge : ℕ × ℕ
      kid_edge = minus (plus (offset_of at view c) (border_size (box_in at below c))) (border_corner (at n).item)

      kid_edges : edges_from at view corner_in c ≡ kid_edge
      kid_edges =
          ap (edges_with at view corner_in c) its
          ∙ ap (λ place. edges_at corner_in place (border_size (box_in at below c))) (flat_of_static at shallow view c n up kid_static)
          ∙ pair_is _ _ kid_edge (edge_along (flat_place at view n).0 _ _ _) (edge_along (flat_place at view n).1 _ _ _)

      kid_passes : IsWithin (capped kid_edge) (reach_of at view n)
      kid_passes =
          subst (λ e. IsWithin (capped e) (reach_of at view n)) kid_edges
          (capped_order (edges_from at view corner_in c) _ (reach_of at view n)
          (edges_within at view corner_in (padding_size (box_in at inputs n)) (reached_by at view n) c (reached at listed shallow view below n c its kid_clipped))
          (reach_is at view inputs n found))

    pub child_within : (outer own : Box) → Some outer ≡ held_in kept n → Some own ≡ held_in kept c → (corner : ℕ × ℕ) → corner ≡ offset_of at view c
        → (from : Point) → from ≡ as_point (padding_corner outer) → (reach inside size : Size)
        → reach ≡ as_size (capped (minus (plus corner (border_size own)) (unsigned_abs from.left, unsigned_abs from.top))) → inside ≡ as_size (padding_size outer)
        → size ≡ as_size (capped (minus (seen_pair reach) (seen_pair inside))) → IsWithin (seen_pair size) (range_of at view n)
    child_within outer own its kid_its corner placed from begins reach inside size reached shows left =
        let there = some_found (inputs_in_view at view c) kid_boxed in
        let outer_is = own_box n inputs outer found its in
        let own_is = own_box c there.0 own there.1 kid_its in
        let edge : ℕ × ℕ = minus (plus corner (border_size own)) (padding_corner outer) in
        let same : kid_edge there.0 there.1 ≡ edge
        = ap (λ o. minus (plus o (border_size (box_in at there.0 c))) (border_corner (at n).item)) (sym placed)
        ∙ ap (λ (b : Box). minus (plus corner (border_size b)) (border_corner (at n).item)) (sym own_is)
        ∙ ap (minus (plus corner (border_size own))) (sym (ap padding_corner outer_is ∙ corner_same)) in
        let far : IsWithin (capped edge) (reach_of at view n) = subst (λ e. IsWithin (capped e) (reach_of at view n)) same (kid_passes there.0 there.1) in
        let less : reach ≡ as_size (capped edge)
        = reached ∙ ap (λ (p : Point). as_size (capped (minus (plus corner (border_size own)) (unsigned_abs p.left, unsigned_abs p.top)))) begins in
        let range : minus (reach_of at view n) (padding_size outer) ≡ range_of at view n
        = ap (λ (b : Box). minus (reach_of at view n) (padding_size b)) outer_is ∙ sym (range_found at view n inputs found) in
        subst (IsWithin (seen_pair size)) range
        (within_range edge (padding_size outer) (reach_of at view n) reach inside size less (ap seen_pair shows) left far)
