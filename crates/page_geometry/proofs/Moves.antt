-- Where moved rectangles lie.
use Rattle.std.proofs.Common.{◌≡◌, ◌≤◌, ◌*◌, ℕ, ap, sym, subst, ◌∙◌, arith}
use Rattle.std.specs.Prelude.{ℤ, pos, neg_ℤ, ◌≤ℤ◌, ◌+ℤ◌, ◌-ℤ◌}
use Rattle.std.specs.Int.{w64, cast_signed, cast_unsigned}
use Rattle.std.proofs.lemmas.Int.{ints}
use Rattle.px_units.specs.declared.Point.{Point}
use Rattle.px_units.specs.declared.Rect.{Rect}
use Rattle.px_units.specs.Rects.{shifted, InReach}
use Rattle.page_model.specs.Chains.{moved_by, moved_back}
use Rattle.clip_chain.specs.Ranges.{IsEdge as IsFar, IsSide, IsBounds}
use Rattle.thresholds.specs.Roots.{IsMargin, IsNear}
use Rattle.page_boxes.specs.Ranges.{IsSpan, IsEdge, AreEdges}
use Rattle.page_geometry.specs.Ranges.{IsCorner, IsOrigin, IsMovedEdge, IsMoved, IsRectReached}

pub shifted_as : (r moved : Rect) (left top left' top' : ℤ) → moved ≡ shifted r left top → left ≡ left' → top ≡ top' → moved ≡ shifted r left' top'
shifted_as r moved left top left' top' is one two = is ∙ ap (λ l. shifted r l top) one ∙ ap (λ t. shifted r left' t) two

-- how far a viewport begins, as 64 bits
pub fits : (m : ℤ) → neg_ℤ (pos 211106232532992) ≤ℤ m → m ≤ℤ pos 211106232532992 → cast_signed w64 (cast_unsigned w64 m) ≡ m
fits m low high = omega (arith, ints)

pub negated : (m : ℤ) → neg_ℤ (pos 211106232532992) ≤ℤ m → m ≤ℤ pos 211106232532992
    → cast_signed w64 (cast_unsigned w64 (pos 0 -ℤ cast_signed w64 (cast_unsigned w64 m))) ≡ neg_ℤ m
negated m low high = omega (arith, ints)

-- moving keeps widths and heights
width_kept : (a b m : ℤ) → (b +ℤ m) -ℤ (a +ℤ m) ≡ b -ℤ a
width_kept a b m = omega (arith, ints)

edge_moved : (a m : ℤ) → IsEdge a → neg_ℤ (pos 211106232532992) ≤ℤ m → m ≤ℤ pos 211106232532992 → IsFar (a +ℤ m)
edge_moved a m edge low high = let one = edge.0 in let two = edge.1 in record { low = omega (arith, ints); high = omega (arith, ints) }

side_of : (w : ℤ) → IsSpan w → IsSide w
side_of w span = record { low = span.0; high = span.1 }

pub bounds_moved : (by : Point) (r : Rect) → IsOrigin 64 by → AreEdges r → IsSpan (r.right -ℤ r.left) → IsSpan (r.bottom -ℤ r.top) → IsBounds (moved_by by r)
bounds_moved by r at edges width height = record {
  edges = record {
    left = edge_moved r.left by.left edges.left at.left_low at.left_high;
    top = edge_moved r.top by.top edges.top at.top_low at.top_high;
    right = edge_moved r.right by.left edges.right at.left_low at.left_high;
    bottom = edge_moved r.bottom by.top edges.bottom at.top_low at.top_high;
  };
  width = subst IsSide (sym (width_kept r.left r.right by.left)) (side_of (r.right -ℤ r.left) width);
  height = subst IsSide (sym (width_kept r.top r.bottom by.top)) (side_of (r.bottom -ℤ r.top) height);
}

edge_back : (a m : ℤ) → IsMovedEdge a → neg_ℤ (pos 211106232532992) ≤ℤ m → m ≤ℤ pos 211106232532992 → InReach (a +ℤ neg_ℤ m)
edge_back a m edge low high = let one = edge.low in let two = edge.high in record { low = omega (arith, ints); high = omega (arith, ints) }

pub reach_back : (from : Point) (r : Rect) → IsOrigin 64 from → IsMoved r → IsRectReached (moved_back from r)
reach_back from r at moved = record {
  edges = record {
    left = edge_back r.left from.left moved.left at.left_low at.left_high;
    top = edge_back r.top from.top moved.top at.top_low at.top_high;
    right = edge_back r.right from.left moved.right at.left_low at.left_high;
    bottom = edge_back r.bottom from.top moved.bottom at.top_low at.top_high;
  };
  width = subst InReach (sym (width_kept r.left r.right (neg_ℤ from.left))) moved.width;
  height = subst InReach (sym (width_kept r.top r.bottom (neg_ℤ from.top))) moved.height;
}

far_wide : (a : ℤ) → IsFar a → IsMovedEdge a
far_wide a far = let one = far.low in let two = far.high in record { low = omega (arith, ints); high = omega (arith, ints) }

side_wide : (w : ℤ) → IsSide w → InReach w
side_wide w side = let one = side.low in let two = side.high in record { low = omega (arith, ints); high = omega (arith, ints) }

-- a box is no farther than a root rectangle that margins moved
pub bounds_wide : (r : Rect) → IsBounds r → IsMoved r
bounds_wide r bounds = record {
  left = far_wide r.left bounds.edges.left;
  top = far_wide r.top bounds.edges.top;
  right = far_wide r.right bounds.edges.right;
  bottom = far_wide r.bottom bounds.edges.bottom;
  width = side_wide (r.right -ℤ r.left) bounds.width;
  height = side_wide (r.bottom -ℤ r.top) bounds.height;
}

edge_near : (a b : ℤ) → IsFar a → IsMargin (b -ℤ a) → IsMovedEdge b
edge_near a b far near = let one = far.low in let two = far.high in let three = near.low in let four = near.high in record { low = omega (arith, ints); high = omega (arith, ints) }

side_near : (a b c d : ℤ) → IsSide (b -ℤ a) → IsMargin (c -ℤ a) → IsMargin (d -ℤ b) → InReach (d -ℤ c)
side_near a b c d side one two =
    let low = side.low in
    let high = side.high in
    let one_low = one.low in
    let one_high = one.high in
    let two_low = two.low in
    let two_high = two.high in
    record { low = omega (arith, ints); high = omega (arith, ints) }

pub moved_near : (r moved : Rect) → IsBounds r → IsNear r moved → IsMoved moved
moved_near r moved bounds near = record {
  left = edge_near r.left moved.left bounds.edges.left near.left;
  top = edge_near r.top moved.top bounds.edges.top near.top;
  right = edge_near r.right moved.right bounds.edges.right near.right;
  bottom = edge_near r.bottom moved.bottom bounds.edges.bottom near.bottom;
  width = side_near r.left r.right moved.left moved.right bounds.width near.left near.right;
  height = side_near r.top r.bottom moved.top moved.bottom bounds.height near.top near.bottom;
}

-- where documents begin, by how many frames
wider_low : (frames most : ℕ) (a : ℤ) → frames ≤ most → neg_ℤ (pos (frames * 3298534883328)) ≤ℤ a → neg_ℤ (pos (most * 3298534883328)) ≤ℤ a
wider_low frames most a more low = omega (arith, ints)

wider_high : (frames most : ℕ) (a : ℤ) → frames ≤ most → a ≤ℤ pos (frames * 3298534883328) → a ≤ℤ pos (most * 3298534883328)
wider_high frames most a more high = omega (arith, ints)

pub origin_wider : (frames most : ℕ) (at : Point) → frames ≤ most → IsOrigin frames at → IsOrigin most at
origin_wider frames most at more it = record {
  left_low = wider_low frames most at.left more it.left_low;
  left_high = wider_high frames most at.left more it.left_high;
  top_low = wider_low frames most at.top more it.top_low;
  top_high = wider_high frames most at.top more it.top_high;
}

pub sum_fits : (a b : ℤ) → IsCorner a → neg_ℤ (pos 211106232532992) ≤ℤ b → b ≤ℤ pos 211106232532992
    → cast_signed w64 (cast_unsigned w64 (cast_signed w64 (cast_unsigned w64 a) +ℤ cast_signed w64 (cast_unsigned w64 b))) ≡ a +ℤ b
sum_fits a b edge low high = let one = edge.0 in let two = edge.1 in omega (arith, ints)

pub point_same : (a b a' b' : ℤ) → a ≡ a' → b ≡ b' → ◌≡◌ {A = Point} (record { left = a; top = b }) (record { left = a'; top = b' })
point_same a b a' b' one two = λ i. record { left = one i; top = two i }
