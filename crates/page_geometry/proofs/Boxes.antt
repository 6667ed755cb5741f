-- Rectangles and points of a page, and what is read of it.
use Rattle.std.proofs.Common.{◌≡◌, ℕ, List, Option, Some, ap, sym, subst, ◌∙◌, arith}
use Rattle.std.proofs.lemmas.Int.{ints}
use Rattle.std.specs.Prelude.{ℤ, pos, ◌+◌, ◌+ℤ◌}
use Rattle.px_units.specs.declared.BoxKind.TheVariants.{Border}
use Rattle.px_units.specs.declared.Size.{Size}
use Rattle.px_units.specs.declared.Point.{Point}
use Rattle.px_units.specs.declared.Rect.{Rect}
use Rattle.px_units.specs.Rects.{InReach, RectInReach}
use Rattle.layout_model.specs.Boxes.{Box, padding_size, padding_corner, inner_corner}
use Rattle.script_model.specs.TraceLines.{ReadLine}
use Rattle.page_model.specs.World.{Extent, Screen, InElement, InDocument, Scrolls, Name, Tree}
use Rattle.page_model.specs.Lookups.{no_extent, element_at}
use Rattle.page_model.specs.Names.{element_text, document_text}
use Rattle.page_model.specs.Chains.{beside, padding_box_at, content_corner_at}
use Rattle.page_model.specs.Readings.{rect_of, point_at, reading_of}
use Rattle.page_model.specs.PageBoxes.{pair_of, extent_of, view_of, view_at, viewport_of, size_of, place_of, scroll_offset}
use Rattle.page_model.specs.Shown.{Shown}
use Rattle.block_layout.specs.Seen.{as_size, as_point}
use Rattle.block_layout.specs.Ranges.{IsBox}
use Rattle.kept_layout.specs.declared.slots.Slot.{Slot}
use Rattle.kept_layout.specs.Measures.{IsSized}
use Rattle.page_boxes.specs.Fresh.{IsFreshIn}
use Rattle.page_boxes.specs.Ranges.{IsSpan, IsPlace, IsEdge, AreEdges}
use Rattle.page_boxes.proofs.InForce.{shown_offset}

pub rect_same : (rect : Rect) (corner place : Point) (size : Size) (extent : Extent) → corner ≡ place → size ≡ as_size (pair_of extent)
    → rect ≡ record { left = corner.left; top = corner.top; right = corner.left +ℤ size.width; bottom = corner.top +ℤ size.height } → rect ≡ rect_of place extent
rect_same rect corner place size extent placed sized is =
    is
    ∙ ap (λ (p : Point). let r : Rect = record { left = p.left; top = p.top; right = p.left +ℤ size.width; bottom = p.top +ℤ size.height } in r) placed
    ∙ ap (λ (s : Size). let r : Rect = record { left = place.left; top = place.top; right = place.left +ℤ s.width; bottom = place.top +ℤ s.height } in r) sized

pub rect_is : (left left' top top' right right' bottom bottom' : ℤ) → left ≡ left' → top ≡ top' → right ≡ right' → bottom ≡ bottom'
    → ◌≡◌ {A = Rect} (record { left = left; top = top; right = right; bottom = bottom }) (record { left = left'; top = top'; right = right'; bottom = bottom' })
rect_is left left' top top' right right' bottom bottom' one two three four =
    ap (λ l. let r : Rect = record { left = l; top = top; right = right; bottom = bottom } in r) one
    ∙ ap (λ t. let r : Rect = record { left = left'; top = t; right = right; bottom = bottom } in r) two
    ∙ ap (λ e. let r : Rect = record { left = left'; top = top'; right = e; bottom = bottom } in r) three
    ∙ ap (λ b. let r : Rect = record { left = left'; top = top'; right = right'; bottom = b } in r) four

-- a point beside a place
pub beside_is : (place at : Point) (by : ℕ × ℕ) (corner point : Point) → place ≡ at → corner ≡ as_point by → point.left ≡ place.left +ℤ corner.left → point.top ≡ place.top +ℤ corner.top
    → point ≡ beside at by
beside_is place at by corner point placed is wide tall =
    ap (λ l. let p : Point = record { left = l; top = point.top } in p) wide
    ∙ ap (λ t. let p : Point = record { left = place.left +ℤ corner.left; top = t } in p) tall
    ∙ ap (λ (q : Point). let p : Point = record { left = q.left +ℤ corner.left; top = q.top +ℤ corner.top } in p) placed
    ∙ ap (λ (q : Point). let p : Point = record { left = at.left +ℤ q.left; top = at.top +ℤ q.top } in p) is

-- a padding box at a place
module _ (own : Box) (box : IsBox own) (place corner point : Point) (size : Size) (is : corner ≡ as_point (padding_corner own)) (sized : size ≡ as_size (padding_size own)) where
  border_left : corner.left ≡ pos own.border.left
  border_left = ap (λ (p : Point). p.left) is

  border_top : corner.top ≡ pos own.border.top
  border_top = ap (λ (p : Point). p.top) is

  inner_width : size.width ≡ pos (own.padding.left + own.width + own.padding.right)
  inner_width = ap (λ (s : Size). s.width) sized

  inner_height : size.height ≡ pos (own.padding.top + own.height + own.padding.bottom)
  inner_height = ap (λ (s : Size). s.height) sized

  pub padding_right : IsPlace place.left → point.left ≡ place.left +ℤ corner.left → IsEdge (point.left +ℤ size.width)
  padding_right near wide = (
    omega (arith, ints, near.0, wide, border_left, inner_width),
    omega (arith, ints, near.1, wide, border_left, inner_width, box.border.left, box.padding.left, box.width, box.padding.right),
  )

  pub padding_bottom : IsPlace place.top → point.top ≡ place.top +ℤ corner.top → IsEdge (point.top +ℤ size.height)
  padding_bottom near tall = (
    omega (arith, ints, near.0, tall, border_top, inner_height),
    omega (arith, ints, near.1, tall, border_top, inner_height, box.border.top, box.padding.top, box.height, box.padding.bottom),
  )

module _ (at : Point) (found : Option Box) where
  -- the padding box, and the corner of the content
  pub padding_found : (own : Box) → Some own ≡ found → (corner : Point) → corner ≡ beside at (padding_corner own) → (size : Size) → size ≡ as_size (padding_size own) → (rect : Rect)
      → rect ≡ record { left = corner.left; top = corner.top; right = corner.left +ℤ size.width; bottom = corner.top +ℤ size.height } → rect ≡ padding_box_at at found
  padding_found own its corner placed size sized rect is =
      rect_same rect corner (beside at (padding_corner own)) size (extent_of (padding_size own)) placed sized is ∙ ap (padding_box_at at) its

  pub content_found : (own : Box) → Some own ≡ found → (corner : Point) → corner ≡ beside at (inner_corner own) → corner ≡ content_corner_at at found
  content_found own its corner placed = placed ∙ ap (content_corner_at at) its

-- edges and spans lie within the reach of rectangles
pub edges_reach : (rect : Rect) → AreEdges rect → RectInReach rect
edges_reach rect edges = record {
  left = record { low = omega (arith, ints, edges.left.0); high = omega (arith, ints, edges.left.1) };
  top = record { low = omega (arith, ints, edges.top.0); high = omega (arith, ints, edges.top.1) };
  right = record { low = omega (arith, ints, edges.right.0); high = omega (arith, ints, edges.right.1) };
  bottom = record { low = omega (arith, ints, edges.bottom.0); high = omega (arith, ints, edges.bottom.1) };
}

pub span_reach : (units : ℤ) → IsSpan units → InReach units
span_reach units span = record { low = omega (arith, ints, span.0); high = omega (arith, ints, span.1) }

-- what the command `read` shows
pub element_reading : (names : List Name) (tree : Tree) (screen : Screen) (scrolls : Scrolls) (n : ℕ) (rect : Rect) (scroll : Point)
    → rect ≡ rect_of (place_of tree screen scrolls n) (size_of tree screen n Border) → scroll ≡ point_at (scroll_offset tree screen scrolls (InElement n))
    → reading_of names tree screen scrolls (InElement n) ≡ ReadLine (element_text names n) rect scroll
element_reading names tree screen scrolls n rect scroll is shown =
    ap (λ s. ReadLine (element_text names n) (rect_of (place_of tree screen scrolls n) (size_of tree screen n Border)) s)
    (shown_offset tree screen scrolls n ∙ sym shown)
    ∙ ap (λ r. ReadLine (element_text names n) r scroll) (sym is)

pub document_reading : (names : List Name) (tree : Tree) (screen : Screen) (scrolls : Scrolls) (document : ℕ) (rect : Rect) (scroll : Point) → rect ≡ rect_of (point_at no_extent) (viewport_of tree screen document)
    → scroll ≡ point_at (scroll_offset tree screen scrolls (InDocument document)) → reading_of names tree screen scrolls (InDocument document) ≡ ReadLine (document_text names document) rect scroll
document_reading names tree screen scrolls document rect scroll is shown =
    ap (λ s. ReadLine (document_text names document) (rect_of (point_at no_extent) (viewport_of tree screen document)) s) (sym shown)
    ∙ ap (λ r. ReadLine (document_text names document) r scroll) (sym is)

-- the boxes of the document that is an element's
module _ (it : Shown) (document n : ℕ) (own : (element_at it.tree n).document ≡ document) where
  pub sized_at : IsSized (view_of it.tree it.screen document) → IsSized (view_at it.tree it.screen n)
  sized_at sized = subst (λ d. IsSized (view_of it.tree it.screen d)) (sym own) sized

  pub fresh_at : (kept : List Slot) → IsFreshIn it.tree it.screen kept document → IsFreshIn it.tree it.screen kept (element_at it.tree n).document
  fresh_at kept fresh = subst (λ d. IsFreshIn it.tree it.screen kept d) (sym own) fresh
