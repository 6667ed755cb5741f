-- Rectangles that are moved from the coordinates of the top document's viewport to those of another one.
use Rattle.std.proofs.Common.{◌≡◌, ℕ, ℤ, pos, ◌+ℤ◌, ◌-ℤ◌, neg_ℤ, refl, arith}
use Rattle.std.specs.Int.{w64, cast_signed, cast_unsigned}
use Rattle.std.proofs.lemmas.Int.{ints}
use Rattle.px_units.specs.declared.Rect.{Rect}
use Rattle.px_units.specs.declared.Point.{Point}
use Rattle.px_units.specs.Rects.{InReach, shifted}
use Rattle.page_model.specs.Shown.{Shown}
use Rattle.page_model.specs.Chains.{moved_back, origin, viewport_rect}
use Rattle.clip_chain.specs.Ranges.{IsBounds, IsEdge, IsSide}
use Rattle.trace_text.specs.Ranges.{RectReaches}

-- an edge taken away, as 64 bits
pub negated : (m : ℤ) → IsEdge m → cast_signed w64 (cast_unsigned w64 (pos 0 -ℤ cast_signed w64 (cast_unsigned w64 m))) ≡ neg_ℤ m
negated m at = let low = at.low in let high = at.high in omega (arith, ints)

-- the viewport of a document begins where its coordinates do
pub moved_from : (shown : Shown) (document : ℕ) (part : Rect) → shifted part (neg_ℤ (viewport_rect shown document).left) (neg_ℤ (viewport_rect shown document).top)
    ≡ moved_back (origin shown document) part
unfolding viewport_rect
moved_from shown document part = refl

edge_moved : (e by : ℤ) → IsEdge e → IsEdge by → InReach (e +ℤ neg_ℤ by)
edge_moved e by at far =
    let low = at.low in
    let high = at.high in
    let least = far.low in
    let most = far.high in
    record { low = omega (arith, ints); high = omega (arith, ints) }

side_moved : (low high by : ℤ) → IsSide (high -ℤ low) → InReach ((high +ℤ neg_ℤ by) -ℤ (low +ℤ neg_ℤ by))
side_moved low high by side =
    let least = side.low in
    let most = side.high in
    record { low = omega (arith, ints); high = omega (arith, ints) }

pub moved_reaches : (r : Rect) (by : Point) → IsBounds r → IsEdge by.left → IsEdge by.top → RectReaches (moved_back by r)
moved_reaches r by bounds left top = record {
  edges = record {
    left = edge_moved r.left by.left bounds.edges.left left;
    top = edge_moved r.top by.top bounds.edges.top top;
    right = edge_moved r.right by.left bounds.edges.right left;
    bottom = edge_moved r.bottom by.top bounds.edges.bottom top;
  };
  width = side_moved r.left r.right by.left bounds.width;
  height = side_moved r.top r.bottom by.top bounds.height;
}
