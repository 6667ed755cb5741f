-- How far scroll containers and viewports can be scrolled.
use Rattle.std.proofs.Common.{◌≡◌, ◌≤◌, ℕ, Bool, true, false, cond, List, Option, Some, None, refl, ap, sym, ◌∙◌, arith}
use Rattle.std.specs.Prelude.{◌&&◌, is_some}
use Rattle.px_units.specs.declared.Size.{Size}
use Rattle.px_units.specs.Lengths.{cap}
use Rattle.layout_model.specs.Nodes.{Node}
use Rattle.layout_model.specs.Boxes.{Inputs, Box, box_in, padding_size}
use Rattle.layout_model.specs.Clips.{is_scroll_container}
use Rattle.layout_model.specs.Points.{minus, capped, IsWithin}
use Rattle.layout_model.specs.Views.{View, view_size, inputs_in_view}
use Rattle.layout_model.specs.Reach.{reach_at, reach_of, reach_of_view, range_at, range_of, range_of_view}
use Rattle.layout_model.proofs.Attained.{view_alone}
use Rattle.page_model.specs.World.{Screen, InElement, InDocument, Tree}
use Rattle.page_model.specs.Documents.{nodes_of}
use Rattle.page_model.specs.PageBoxes.{pair_of, view_of, view_at, has_box, is_scroller, range_if, scroll_range}
use Rattle.block_layout.specs.Seen.{as_size}
use Rattle.kept_layout.specs.declared.slots.Slot.{Slot}
use Rattle.kept_layout.specs.Slots.{held_in}
use Rattle.kept_layout.proofs.Climbed.{pair_is}
use Rattle.kept_layout.proofs.Exact.{held_fresh}
use Rattle.page_boxes.specs.Fresh.{HoldsAll}
use Rattle.page_boxes.specs.Pages.{seen_pair}
use Rattle.page_boxes.proofs.Parents.{some_found, same_box, none_held}

-- what something reaches is capped, so that what is left of it is too
low : (x : ℕ) → cap x ≤ 2147483647
low x = omega arith

capped_less : (reach shown : ℕ × ℕ) → reach.0 ≤ 2147483647 → reach.1 ≤ 2147483647 → capped (minus reach shown) ≡ minus reach shown
capped_less reach shown wide tall = pair_is _ _ (minus reach shown) (omega arith) (omega arith)

left_of : (reach shown found : Size) (far inside : ℕ × ℕ) → reach ≡ as_size far → far.0 ≤ 2147483647 → far.1 ≤ 2147483647 → seen_pair shown ≡ inside
    → found ≡ as_size (capped (minus (seen_pair reach) (seen_pair shown))) → found ≡ as_size (minus far inside)
left_of reach shown found far inside reached wide tall shows is =
    is
    ∙ ap (λ r. as_size (capped (minus (seen_pair r) (seen_pair shown)))) reached
    ∙ ap (λ p. as_size (capped (minus far p))) shows
    ∙ ap as_size (capped_less far inside wide tall)

module _ (at : ℕ → Node) (view : View) (n : ℕ) where
  low_at : (found : Option Inputs) → ((reach_at at view n found).0 ≤ 2147483647) × ((reach_at at view n found).1 ≤ 2147483647)
  low_at None = (omega arith, omega arith)
  low_at (Some inputs) = (low _, low _)

  low_reach : ((reach_of at view n).0 ≤ 2147483647) × ((reach_of at view n).1 ≤ 2147483647)
  unfolding reach_of
  low_reach = low_at (inputs_in_view at view n)

  pub range_found : (inputs : Inputs) → inputs_in_view at view n ≡ Some inputs → range_of at view n ≡ minus (reach_of at view n) (padding_size (box_in at inputs n))
  unfolding range_of
  range_found inputs is = ap (range_at at view n) is

  low_found : (found : Option Inputs) → IsWithin (range_at at view n found) (2147483647, 2147483647)
  low_found None = (omega arith, omega arith)
  low_found (Some inputs) = (omega (arith, low_reach.0), omega (arith, low_reach.1))

  low_range : IsWithin (range_of at view n) (2147483647, 2147483647)
  unfolding range_of
  low_range = low_found (inputs_in_view at view n)

  pub low_boxed : (scrolls : Bool) → IsWithin (cond scrolls (range_of at view n) (0, 0)) (2147483647, 2147483647)
  low_boxed true = low_range
  low_boxed false = (omega arith, omega arith)

  -- a node that is no scroll container, and one that is
  pub range_none : is_scroll_container (at n) ≡ false → as_size (0, 0) ≡ as_size (cond (is_scroll_container (at n)) (range_of at view n) (0, 0))
  range_none none = sym (ap (λ b. as_size (cond b (range_of at view n) (0, 0))) none)

  module _ (kept : List Slot) (holds : HoldsAll at view kept) (boxed : is_some (inputs_in_view at view n) ≡ true) where
    pub box_missing : None ≡ held_in kept n → ⊥
    box_missing none =
        let found = some_found (inputs_in_view at view n) boxed in
        none_held (held_in kept n) (box_in at found.0 n) none (held_fresh at kept n found.0 (holds.boxes n found.0 found.1))

    pub range_boxed : is_scroll_container (at n) ≡ true → (own : Box) → Some own ≡ held_in kept n → (reach shown found : Size)
        → ((inputs : Inputs) → inputs_in_view at view n ≡ Some inputs → reach ≡ as_size (reach_of at view n))
        → shown ≡ as_size (padding_size own) → found ≡ as_size (capped (minus (seen_pair reach) (seen_pair shown)))
        → found ≡ as_size (cond (is_scroll_container (at n)) (range_of at view n) (0, 0))
    range_boxed scrolls own its reach shown found reached shows is =
        let there = some_found (inputs_in_view at view n) boxed in
        let same : own ≡ box_in at there.0 n = same_box (held_in kept n) own (box_in at there.0 n) its (held_fresh at kept n there.0 (holds.boxes n there.0 there.1)) in
        left_of reach shown found (reach_of at view n) (padding_size (box_in at there.0 n)) (reached there.0 there.1) low_reach.0 low_reach.1
        (ap seen_pair shows ∙ ap padding_size same) is
        ∙ ap as_size (sym (range_found there.0 there.1))
        ∙ sym (ap (λ b. as_size (cond b (range_of at view n) (0, 0))) scrolls)

-- viewports
rootless_range : (at : ℕ → Node) (view : View) → view.root ≡ None → (0, 0) ≡ range_of_view at view
unfolding range_of_view
rootless_range at view none =
    pair_is 0 0 (minus (capped (view_size view)) (view_size view)) (omega arith) (omega arith) ∙ sym (ap (λ reach. minus reach (view_size view)) (view_alone at view none))

low_view : (at : ℕ → Node) (view : View) → ((reach_of_view at view).0 ≤ 2147483647) × ((reach_of_view at view).1 ≤ 2147483647)
unfolding reach_of_view
low_view at view = (low _, low _)

pub low_viewed : (at : ℕ → Node) (view : View) → IsWithin (range_of_view at view) (2147483647, 2147483647)
unfolding range_of_view
low_viewed at view = (omega (arith, (low_view at view).0), omega (arith, (low_view at view).1))

pub range_viewed : (at : ℕ → Node) (view : View) (reach shown found : Size) → reach ≡ as_size (reach_of_view at view) → seen_pair shown ≡ view_size view
    → found ≡ as_size (capped (minus (seen_pair reach) (seen_pair shown))) → found ≡ as_size (range_of_view at view)
unfolding range_of_view
range_viewed at view reach shown found reached shows is =
    left_of reach shown found (reach_of_view at view) (view_size view) reached (low_view at view).0 (low_view at view).1 shows is

module _ (tree : Tree) (screen : Screen) where
  -- ranges of elements
  pub scroller_is : (n : ℕ) → has_box tree screen n ≡ true → is_scroller tree screen n ≡ is_scroll_container (nodes_of tree n)
  unfolding is_scroller
  scroller_is n boxed = ap (λ b. b && is_scroll_container (nodes_of tree n)) boxed

  pub no_scroller : (n : ℕ) → has_box tree screen n ≡ false → is_scroller tree screen n ≡ false
  unfolding is_scroller
  no_scroller n none = ap (λ b. b && is_scroll_container (nodes_of tree n)) none

  range_by_test : (n : ℕ) (scrolls : Bool) → cond scrolls (range_of (nodes_of tree) (view_at tree screen n) n) (0, 0) ≡ range_if tree screen n scrolls
  range_by_test n true = refl
  range_by_test n false = refl

  pub element_range : (n : ℕ) → has_box tree screen n ≡ true
      → cond (is_scroll_container (nodes_of tree n)) (range_of (nodes_of tree) (view_at tree screen n) n) (0, 0) ≡ pair_of (scroll_range tree screen (InElement n))
  unfolding scroll_range
  element_range n boxed = range_by_test n (is_scroll_container (nodes_of tree n)) ∙ ap (range_if tree screen n) (sym (scroller_is n boxed))

  pub element_rangeless : (n : ℕ) → has_box tree screen n ≡ false → (0, 0) ≡ pair_of (scroll_range tree screen (InElement n))
  unfolding scroll_range
  element_rangeless n none = ap (range_if tree screen n) (sym (no_scroller n none))

  -- ranges of documents' viewports
  pub view_range : (document : ℕ) → range_of_view (nodes_of tree) (view_of tree screen document) ≡ pair_of (scroll_range tree screen (InDocument document))
  unfolding scroll_range
  view_range document = refl

  pub view_rangeless : (document : ℕ) → (view_of tree screen document).root ≡ None → as_size (0, 0) ≡ as_size (pair_of (scroll_range tree screen (InDocument document)))
  view_rangeless document none = ap as_size (rootless_range (nodes_of tree) (view_of tree screen document) none ∙ view_range document)
