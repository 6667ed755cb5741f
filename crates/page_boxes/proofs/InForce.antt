-- Scroll offsets in force: stored positions within what can be scrolled.
use Rattle.std.proofs.Common.{◌≡◌, ℕ, Bool, true, false, cond, None, refl, ap, sym, ◌∙◌, arith, min}
use Rattle.std.specs.Prelude.{pos}
use Rattle.px_units.specs.declared.Size.{Size}
use Rattle.px_units.specs.declared.Point.{Point}
use Rattle.layout_model.specs.Nodes.{Node}
use Rattle.layout_model.specs.Clips.{is_scroll_container}
use Rattle.layout_model.specs.Views.{View}
use Rattle.layout_model.specs.Reach.{range_of, offset_in_force, view_in_force}
use Rattle.page_model.specs.World.{Extent, Screen, InElement, InDocument, Scrolls, Tree}
use Rattle.page_model.specs.Lookups.{no_extent}
use Rattle.page_model.specs.Documents.{nodes_of}
use Rattle.page_model.specs.Readings.{point_at, shown_scroll}
use Rattle.page_model.specs.Scrolls.{position_of, lesser_extent}
use Rattle.page_model.specs.PageBoxes.{pair_of, extent_of, stored_in, scrolled_view, view_of, view_at, has_box, is_scroller, range_if, scroll_range, scroll_offset}
use Rattle.block_layout.specs.Seen.{as_size, as_point}
use Rattle.scrolling.specs.Seen.{seen_size, point_of}
use Rattle.kept_layout.proofs.Climbed.{pair_is}
use Rattle.page_boxes.proofs.Shown.{offset_still, offset_force, offset_none, view_force}
use Rattle.page_boxes.proofs.Reaching.{element_range, no_scroller, view_rangeless}

-- the start is all that lies at the start within the largest range
extent_none : (across down : ℕ) → across ≡ 0 → down ≡ 0 → ◌≡◌ {A = Extent} (record { across = across; down = down }) no_extent
extent_none across down wide tall =
    ap (λ a. let e : Extent = record { across = a; down = down } in e) wide
    ∙ ap (λ d. let e : Extent = record { across = 0; down = d } in e) tall

pub at_start : (position : Extent) (found : Point) → found ≡ point_of (lesser_extent position (record { across = 2147483647; down = 2147483647 }))
    → found.left ≡ pos 0 → found.top ≡ pos 0 → position ≡ no_extent
at_start position found is left top =
    let wide : pos (min position.across 2147483647) ≡ pos 0 = sym (ap (λ (p : Point). p.left) is) ∙ left in
    let tall : pos (min position.down 2147483647) ≡ pos 0 = sym (ap (λ (p : Point). p.top) is) ∙ top in
    let across : min position.across 2147483647 ≡ 0 = cc in
    let down : min position.down 2147483647 ≡ 0 = cc in
    extent_none position.across position.down (omega arith) (omega arith)

no_range : (position : Extent) → (0, 0) ≡ pair_of (lesser_extent position (extent_of (0, 0)))
no_range position = pair_is 0 0 (pair_of (lesser_extent position (extent_of (0, 0)))) (omega arith) (omega arith)

no_position : (range : Extent) → (0, 0) ≡ pair_of (lesser_extent no_extent range)
no_position range = pair_is 0 0 (pair_of (lesser_extent no_extent range)) (omega arith) (omega arith)

-- the offset of a node with a box
module _ (at : ℕ → Node) (scrolls : Scrolls) (view : View) (n : ℕ) where
  pub boxed_start : position_of (InElement n) scrolls ≡ no_extent → as_point (0, 0) ≡ as_point (offset_in_force at (stored_in scrolls) view n)
  boxed_start start = ap as_point (sym (offset_still at (stored_in scrolls) view n (ap pair_of start)))

  within : (scroller : Bool) → is_scroll_container (at n) ≡ scroller
      → pair_of (lesser_extent (position_of (InElement n) scrolls) (extent_of (cond scroller (range_of at view n) (0, 0)))) ≡ offset_in_force at (stored_in scrolls) view n
  within true is = sym (offset_force at (stored_in scrolls) view n is)
  within false is = sym (no_range (position_of (InElement n) scrolls)) ∙ sym (offset_none at (stored_in scrolls) view n is)

  pub boxed_within : (range : Size) (found : Point) → range ≡ as_size (cond (is_scroll_container (at n)) (range_of at view n) (0, 0))
      → found ≡ point_of (lesser_extent (position_of (InElement n) scrolls) (seen_size range)) → found ≡ as_point (offset_in_force at (stored_in scrolls) view n)
  boxed_within range found ranged is =
      is
      ∙ ap (λ r. point_of (lesser_extent (position_of (InElement n) scrolls) (seen_size r))) ranged
      ∙ ap as_point (within (is_scroll_container (at n)) refl)

module _ (tree : Tree) (screen : Screen) (scrolls : Scrolls) where
  -- offsets of elements
  pub element_offset : (n : ℕ) → has_box tree screen n ≡ true
      → offset_in_force (nodes_of tree) (stored_in scrolls) (view_at tree screen n) n ≡ pair_of (scroll_offset tree screen scrolls (InElement n))
  unfolding scroll_offset
  element_offset n boxed =
      sym (within (nodes_of tree) scrolls (view_at tree screen n) n (is_scroll_container (nodes_of tree n)) refl)
      ∙ ap (λ range. pair_of (lesser_extent (position_of (InElement n) scrolls) (extent_of range))) (element_range tree screen n boxed)

  unscrolled : (n : ℕ) → is_scroller tree screen n ≡ false → (0, 0) ≡ pair_of (scroll_offset tree screen scrolls (InElement n))
  unfolding scroll_offset scroll_range
  unscrolled n none =
      no_range (position_of (InElement n) scrolls)
      ∙ ap (λ b. pair_of (lesser_extent (position_of (InElement n) scrolls) (extent_of (range_if tree screen n b)))) (sym none)

  pub element_offsetless : (n : ℕ) → has_box tree screen n ≡ false → as_point (0, 0) ≡ as_point (pair_of (scroll_offset tree screen scrolls (InElement n)))
  element_offsetless n none = ap as_point (unscrolled n (no_scroller tree screen n none))

  shown_by : (n : ℕ) (scroller : Bool) → is_scroller tree screen n ≡ scroller
      → point_at (shown_scroll tree screen scrolls n scroller) ≡ point_at (scroll_offset tree screen scrolls (InElement n))
  shown_by n true is = refl
  shown_by n false is = ap as_point (unscrolled n is)

  pub shown_offset : (n : ℕ) → point_at (shown_scroll tree screen scrolls n (is_scroller tree screen n)) ≡ point_at (scroll_offset tree screen scrolls (InElement n))
  shown_offset n = shown_by n (is_scroller tree screen n) refl

  -- offsets of documents' viewports
  pub view_start : (document : ℕ) → position_of (InDocument document) scrolls ≡ no_extent
      → as_point (0, 0) ≡ as_point (pair_of (scroll_offset tree screen scrolls (InDocument document)))
  unfolding scroll_offset
  view_start document start =
      ap as_point
      (no_position (scroll_range tree screen (InDocument document))
      ∙ ap (λ position. pair_of (lesser_extent position (scroll_range tree screen (InDocument document)))) (sym start))

  pub view_within : (document : ℕ) (range : Size) (found : Point) → range ≡ as_size (pair_of (scroll_range tree screen (InDocument document)))
      → found ≡ point_of (lesser_extent (position_of (InDocument document) scrolls) (seen_size range))
      → found ≡ as_point (pair_of (scroll_offset tree screen scrolls (InDocument document)))
  unfolding scroll_offset
  view_within document range found ranged is =
      is ∙ ap (λ r. point_of (lesser_extent (position_of (InDocument document) scrolls) (seen_size r))) ranged

  pub view_rootless : (document : ℕ) → (view_of tree screen document).root ≡ None → as_point (0, 0) ≡ as_point (pair_of (scroll_offset tree screen scrolls (InDocument document)))
  view_rootless document none =
      view_within document (as_size (0, 0)) (as_point (0, 0)) (view_rangeless tree screen document none) (ap as_point (no_range (position_of (InDocument document) scrolls)))

  pub document_offset : (document : ℕ) → view_in_force (nodes_of tree) (scrolled_view tree screen scrolls document)
      ≡ pair_of (scroll_offset tree screen scrolls (InDocument document))
  unfolding scroll_offset scroll_range
  document_offset document =
      view_force (nodes_of tree) (stored_in scrolls) (view_of tree screen document) (pair_of (position_of (InDocument document) scrolls))
