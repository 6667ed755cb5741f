-- Boxes as they are measured, and where they are along an axis.
use Rattle.std.proofs.Common.{◌≡◌, ◌+◌, ℕ, ℤ, true, false, Option, Some, None, refl, ap, sym, ◌∙◌, arith, to_z, of_z}
use mir.Syntax.{w64}
use Rattle.std.proofs.lemmas.Int.{ints}
use Rattle.std.specs.Prelude.{option_map, unwrap_or, is_some, pos, ◌+ℤ◌, ◌≤ℤ◌, unsigned_abs}
use Rattle.std.proofs.lemmas.Bool.{false≢true}
use Rattle.px_units.specs.Lengths.{cap, inset_against, seen_length, seen_inset}
use Rattle.px_units.specs.declared.Point.{Point}
use Rattle.layout_model.specs.Styles.{Sides, Position, StaticPosition, RelativePosition, AbsolutePosition, FixedPosition}
use Rattle.layout_model.specs.Nodes.{Node, is_in_path, position_of, is_flow, is_in_flow, holder, IsShallow}
use Rattle.layout_model.specs.Boxes.{Inputs, Box, has_box_in, on_sides, used_side, used_insets, computed, child_inputs, box_at, box_down, box_in, inner_corner}
use Rattle.layout_model.specs.Points.{moved}
use Rattle.layout_model.specs.Views.{View, view_inputs, inputs_under, inputs_in_view}
use Rattle.layout_model.specs.FlatPlaces.{Along, margin_corner, height_above, offset_of, border_corner, corner_of, above_of, flat_by, flat_place}
use Rattle.layout_model.proofs.FlatPlaces.{flow_over, flat_once}
use Rattle.layout_model.proofs.Inputs.{under_view, view_root, in_view, inputs_boxed, inputs_of_boxed, box_above}
use Rattle.layout_model.proofs.Offsets.{offset_of_child, offset_of_top}
use Rattle.style_values.specs.declared.Style.{Style}
use Rattle.style_values.specs.Seen.{seen_style}
use Rattle.positioned_layout.specs.declared.Measure.{Measure}
use Rattle.positioned_layout.specs.declared.insets.Axis.{Axis}
use Rattle.positioned_layout.specs.declared.insets.Axis.TheVariants.{Across, Down}
use Rattle.positioned_layout.specs.declared.insets.Moved.{Moved}
use Rattle.positioned_layout.specs.Along.{part, along, placed_from, moved_from}
use Rattle.positioned_layout.specs.Measured.{Measured, above_in, measured_with, IsMeasureOf, IsMeasuredAt}
use Rattle.positioned_layout.specs.Seen.{seen_measure, IsMeasure, IsSpan, IsReach}
use Rattle.positioned_layout.proofs.Numbers.{sum_abs, reach_again}

box_once : (at : ℕ → Node) (inputs : Inputs) (n : ℕ) → box_in at inputs n ≡ box_at at (box_down 65535 at) inputs (at n)
unfolding box_in box_down
box_once at inputs n = refl

pub margins_are : (at : ℕ → Node) (inputs : Inputs) (n : ℕ) → (box_in at inputs n).margin ≡ on_sides (used_side (inputs.width)) ((at n).item.style.margin)
unfolding box_at computed
margins_are at inputs n = ap (λ (b : Box). b.margin) (box_once at inputs n)

pub borders_are : (at : ℕ → Node) (inputs : Inputs) (n : ℕ) → (box_in at inputs n).border ≡ on_sides cap ((at n).item.style.border)
unfolding box_at computed
borders_are at inputs n = ap (λ (b : Box). b.border) (box_once at inputs n)

inner_is : (at : ℕ → Node) (inputs : Inputs) (n : ℕ) → inner_corner (computed ((at n).item) inputs 0) ≡ inner_corner (box_in at inputs n)
unfolding box_at computed
inner_is at inputs n = sym (ap inner_corner (box_once at inputs n))

abbrev pub made : ℕ → Option ℤ → Option ℤ → ℕ → ℕ → ℕ → Along
made containing near far near_margin far_margin border = record {
  containing = containing;
  near = near;
  far = far;
  near_margin = near_margin;
  far_margin = far_margin;
  border = border;
}

along_same : (a b : Along) → a.containing ≡ b.containing → a.near ≡ b.near → a.far ≡ b.far → a.near_margin ≡ b.near_margin → a.far_margin ≡ b.far_margin → a.border ≡ b.border → a ≡ b
along_same a b containing near far near_margin far_margin border =
    ap (λ x. made x (a.near) (a.far) (a.near_margin) (a.far_margin) (a.border)) containing
    ∙ ap (λ x. made (b.containing) x (a.far) (a.near_margin) (a.far_margin) (a.border)) near
    ∙ ap (λ x. made (b.containing) (b.near) x (a.near_margin) (a.far_margin) (a.border)) far
    ∙ ap (λ x. made (b.containing) (b.near) (b.far) x (a.far_margin) (a.border)) near_margin
    ∙ ap (λ x. made (b.containing) (b.near) (b.far) (b.near_margin) x (a.border)) far_margin
    ∙ ap (λ x. made (b.containing) (b.near) (b.far) (b.near_margin) (b.far_margin) x) border

module _ (at : ℕ → Node) (view : View) (n : ℕ) (style : Style) (measure : Measure) (styled : (at n).item.style ≡ seen_style style) (is : IsMeasuredAt at view n (seen_measure measure)) where
  width_is : unsigned_abs (measure.width) ≡ (inputs_under at view n).width
  width_is = ap (λ (m : Measured). m.width) is

  height_is : option_map unsigned_abs (measure.height) ≡ (inputs_under at view n).height
  height_is = ap (λ (m : Measured). m.height) is

  pub side_across : (containing : ℕ) (near far : Option ℤ) (near_margin far_margin border : ℕ) → containing ≡ unsigned_abs (measure.width)
      → near ≡ inset_against (seen_inset (style.left)) (Some (unsigned_abs (measure.width))) → far ≡ inset_against (seen_inset (style.right)) (Some (unsigned_abs (measure.width)))
      → near_margin ≡ unsigned_abs (measure.margin.left) → far_margin ≡ used_side (unsigned_abs (measure.width)) (seen_length (style.margin_right))
      → border ≡ unsigned_abs (measure.border.width)
      → made containing near far near_margin far_margin border ≡ along Across (inputs_under at view n) (used_insets ((at n).item.style.inset) (inputs_under at view n)) (box_in at (inputs_under at view n) n)
  side_across containing near far near_margin far_margin border containing_is near_is far_is near_margin_is far_margin_is border_is =
      along_same _ _
      (containing_is ∙ width_is)
      (near_is ∙ ap (λ w. inset_against (seen_inset (style.left)) (Some w)) width_is ∙ sym (ap (λ s. inset_against (s.inset.left) (Some ((inputs_under at view n).width))) styled))
      (far_is ∙ ap (λ w. inset_against (seen_inset (style.right)) (Some w)) width_is ∙ sym (ap (λ s. inset_against (s.inset.right) (Some ((inputs_under at view n).width))) styled))
      (near_margin_is ∙ ap (λ (m : Measured). m.margin.0) is)
      (far_margin_is ∙ ap (λ w. used_side w (seen_length (style.margin_right))) width_is ∙ sym (ap (λ s. used_side ((inputs_under at view n).width) (s.margin.right)) styled)
      ∙ sym (ap (λ (s : Sides ℕ). s.right) (margins_are at (inputs_under at view n) n)))
      (border_is ∙ ap (λ (m : Measured). m.border.0) is)

  pub side_down : (containing : ℕ) (near far : Option ℤ) (near_margin far_margin border : ℕ) → containing ≡ unwrap_or (option_map unsigned_abs (measure.height)) 0
      → near ≡ inset_against (seen_inset (style.top)) (option_map unsigned_abs (measure.height)) → far ≡ inset_against (seen_inset (style.bottom)) (option_map unsigned_abs (measure.height))
      → near_margin ≡ unsigned_abs (measure.margin.top) → far_margin ≡ used_side (unsigned_abs (measure.width)) (seen_length (style.margin_bottom))
      → border ≡ unsigned_abs (measure.border.height)
      → made containing near far near_margin far_margin border ≡ along Down (inputs_under at view n) (used_insets ((at n).item.style.inset) (inputs_under at view n)) (box_in at (inputs_under at view n) n)
  side_down containing near far near_margin far_margin border containing_is near_is far_is near_margin_is far_margin_is border_is =
      along_same _ _
      (containing_is ∙ ap (λ h. unwrap_or h 0) height_is)
      (near_is ∙ ap (λ h. inset_against (seen_inset (style.top)) h) height_is ∙ sym (ap (λ s. inset_against (s.inset.top) ((inputs_under at view n).height)) styled))
      (far_is ∙ ap (λ h. inset_against (seen_inset (style.bottom)) h) height_is ∙ sym (ap (λ s. inset_against (s.inset.bottom) ((inputs_under at view n).height)) styled))
      (near_margin_is ∙ ap (λ (m : Measured). m.margin.1) is)
      (far_margin_is ∙ ap (λ w. used_side w (seen_length (style.margin_bottom))) width_is ∙ sym (ap (λ s. used_side ((inputs_under at view n).width) (s.margin.bottom)) styled)
      ∙ sym (ap (λ (s : Sides ℕ). s.bottom) (margins_are at (inputs_under at view n) n)))
      (border_is ∙ ap (λ (m : Measured). m.border.1) is)

cap_across : (whole inner margin : ℤ) (a b : ℕ) → whole ≡ inner +ℤ pos 0 +ℤ margin → pos 0 ≤ℤ inner → pos 0 ≤ℤ margin → unsigned_abs inner ≡ a → unsigned_abs margin ≡ b → cap (unsigned_abs whole) ≡ cap (a + 0 + b)
cap_across whole inner margin a b is one other first second =
    ap cap
    (ap unsigned_abs (is ∙ ap (λ x. x +ℤ margin) (let same : inner +ℤ pos 0 ≡ inner = omega (arith, ints) in same)) ∙ sum_abs inner margin one other ∙ omega (arith, first, second))

cap_down : (whole inner above margin : ℤ) (a h b : ℕ) → whole ≡ inner +ℤ above +ℤ margin → pos 0 ≤ℤ inner → pos 0 ≤ℤ above → pos 0 ≤ℤ margin → unsigned_abs inner ≡ a → unsigned_abs above ≡ cap h → unsigned_abs margin ≡ b → cap (unsigned_abs whole) ≡ cap (a + h + b)
cap_down whole inner above margin a h b is one more other first height second =
    let sum : unsigned_abs (inner +ℤ above) ≡ unsigned_abs inner + unsigned_abs above = sum_abs inner above one more in
    let both : unsigned_abs whole ≡ unsigned_abs (inner +ℤ above) + unsigned_abs margin = ap unsigned_abs is ∙ sum_abs (inner +ℤ above) margin (omega (arith, ints, one, more)) other in
    omega (arith, sum, both, first, height, second)

module _ (at : ℕ → Node) (view : View) (c p : ℕ) (up : (at c).parent ≡ Some p) (outer own : Measure) (outer_is : IsMeasuredAt at view p (seen_measure outer)) (own_is : IsMeasuredAt at view c (seen_measure own)) (outer_range : IsMeasure outer) (own_range : IsMeasure own) where
  inner_measured : inner_corner (computed ((at p).item) (inputs_under at view p) 0) ≡ (unsigned_abs (outer.inner.left), unsigned_abs (outer.inner.top))
  inner_measured = inner_is at (inputs_under at view p) p ∙ sym (ap (λ (m : Measured). m.inner) outer_is)

  margin_measured : ◌≡◌ {A = ℕ × ℕ} (unsigned_abs (own.margin.left), unsigned_abs (own.margin.top)) (used_side ((inputs_under at view c).width) ((at c).item.style.margin.left), used_side ((inputs_under at view c).width) ((at c).item.style.margin.top))
  margin_measured = ap (λ (m : Measured). m.margin) own_is ∙ ap {B = ℕ × ℕ} (λ (s : Sides ℕ). (s.left, s.top)) (margins_are at (inputs_under at view c) c)

  above_measured : unsigned_abs (own.above) ≡ cap (height_above at (child_inputs ((at p).item) (inputs_under at view p)) (at p) c)
  above_measured = ap (λ (m : Measured). m.above) own_is ∙ ap (above_in at view c) up

  pub offset_is : (axis : Axis) (whole : ℤ) → whole ≡ part axis (outer.inner.left, outer.inner.top) +ℤ part axis (pos 0, own.above) +ℤ part axis (own.margin.left, own.margin.top) → cap (unsigned_abs whole) ≡ part axis (offset_of at view c)
  offset_is Across whole is =
      cap_across whole (outer.inner.left) (own.margin.left) _ _ is (outer_range.inner.0.0) (own_range.margin.0.0) (sym (ap (λ (x : ℕ × ℕ). x.0) inner_measured)) (ap (λ (x : ℕ × ℕ). x.0) margin_measured)
      ∙ sym (ap (λ (x : ℕ × ℕ). x.0) (offset_of_child at view c p up))
  offset_is Down whole is =
      cap_down whole (outer.inner.top) (own.above) (own.margin.top) _ _ _ is (outer_range.inner.1.0) (own_range.above.0) (own_range.margin.1.0) (sym (ap (λ (x : ℕ × ℕ). x.1) inner_measured)) above_measured (ap (λ (x : ℕ × ℕ). x.1) margin_measured)
      ∙ sym (ap (λ (x : ℕ × ℕ). x.1) (offset_of_child at view c p up))

module _ (at : ℕ → Node) (view : View) (n : ℕ) (own : Measure) (own_is : IsMeasuredAt at view n (seen_measure own)) where
  pub top_is : (at n).parent ≡ None → (axis : Axis) → cap (unsigned_abs (part axis (own.margin.left, own.margin.top))) ≡ part axis (offset_of at view n)
  unfolding margin_corner
  top_is top Across =
      ap (λ (x : ℕ × ℕ). cap (x.0)) (ap (λ (m : Measured). m.margin) own_is ∙ ap {B = ℕ × ℕ} (λ (s : Sides ℕ). (s.left, s.top)) (margins_are at (inputs_under at view n) n))
      ∙ sym (ap (λ (x : ℕ × ℕ). x.0) (offset_of_top at view n top))
  top_is top Down =
      ap (λ (x : ℕ × ℕ). cap (x.1)) (ap (λ (m : Measured). m.margin) own_is ∙ ap {B = ℕ × ℕ} (λ (s : Sides ℕ). (s.left, s.top)) (margins_are at (inputs_under at view n) n))
      ∙ sym (ap (λ (x : ℕ × ℕ). x.1) (offset_of_top at view n top))

  pub corner_is : (axis : Axis) → unsigned_abs (part axis (own.corner.left, own.corner.top)) ≡ part axis (border_corner ((at n).item))
  corner_is Across = ap (λ (m : Measured). m.corner.0) own_is ∙ ap (λ (s : Sides ℕ). s.left) (borders_are at (inputs_under at view n) n)
  corner_is Down = ap (λ (m : Measured). m.corner.1) own_is ∙ ap (λ (s : Sides ℕ). s.top) (borders_are at (inputs_under at view n) n)

-- what is measured of a node with a box
module _ (at : ℕ → Node) (view : View) (n : ℕ) (measured : Option Measured) (of : IsMeasureOf at view n measured) (boxed : is_some (inputs_in_view at view n) ≡ true) where
  all_is : measured ≡ Some (measured_with at view n (inputs_under at view n) (box_in at (inputs_under at view n) n))
  all_is = by_inputs (inputs_in_view at view n) refl boxed
    where
      by_inputs : (found : Option Inputs) → inputs_in_view at view n ≡ found → is_some found ≡ true → measured ≡ Some (measured_with at view n (inputs_under at view n) (box_in at (inputs_under at view n) n))
      by_inputs None is some = absurd (false≢true some)
      by_inputs (Some inputs) is some =
          of ∙ ap (option_map (λ i. measured_with at view n i (box_in at i n))) is
          ∙ ap (λ i. Some (measured_with at view n i (box_in at i n))) (under_view at view inputs n is)

  pub measured_at : (found : Option Measure) (measure : Measure) → option_map seen_measure found ≡ measured → found ≡ Some measure → IsMeasuredAt at view n (seen_measure measure)
  measured_at found measure seen is = let both : Some (seen_measure measure) ≡ Some (measured_with at view n (inputs_under at view n) (box_in at (inputs_under at view n) n)) = sym (ap (λ (o : Option Measure). option_map seen_measure o) is) ∙ seen ∙ all_is in cc

  pub measured_none : (found : Option Measure) → option_map seen_measure found ≡ measured → found ≡ None → ⊥
  measured_none found seen is = let both : None ≡ Some (measured_with at view n (inputs_under at view n) (box_in at (inputs_under at view n) n)) = sym (ap (λ (o : Option Measure). option_map seen_measure o) is) ∙ seen ∙ all_is in cc

-- what is measured of a node tells that it has a box
pub measured_boxed : (at : ℕ → Node) (view : View) (n : ℕ) (measured : Option Measured) → IsMeasureOf at view n measured → (found : Option Measure) (measure : Measure) → option_map seen_measure found ≡ measured → found ≡ Some measure → is_some (inputs_in_view at view n) ≡ true
measured_boxed at view n measured of found measure seen is =
    is_some_map (λ i. measured_with at view n i (box_in at i n)) (inputs_in_view at view n)
    ∙ ap is_some (sym of ∙ sym seen ∙ ap (λ (o : Option Measure). option_map seen_measure o) is)
  where
    is_some_map : (f : Inputs → Measured) (o : Option Inputs) → is_some o ≡ is_some (option_map f o)
    is_some_map f None = refl
    is_some_map f (Some i) = refl

pub part_moved : (axis : Axis) (place : ℤ × ℤ) (by : ℕ × ℕ) → part axis (moved place by) ≡ part axis place +ℤ pos (part axis by)
part_moved Across place by = refl
part_moved Down place by = refl

part_by : (axis : Axis) (at : ℕ → Node) (flat : ℕ → ℤ × ℤ) (n : ℕ) (given : Inputs) (insets : Sides (Option ℤ)) (in_flow : ℤ × ℤ) (position : Position) → part axis (flat_by at flat n given insets in_flow position) ≡ placed_from position (along axis given insets (box_in at given n)) (part axis (corner_of at flat (holder at n))) (part axis in_flow)
part_by Across at flat n given insets in_flow StaticPosition = refl
part_by Across at flat n given insets in_flow RelativePosition = refl
part_by Across at flat n given insets in_flow AbsolutePosition = refl
part_by Across at flat n given insets in_flow FixedPosition = refl
part_by Down at flat n given insets in_flow StaticPosition = refl
part_by Down at flat n given insets in_flow RelativePosition = refl
part_by Down at flat n given insets in_flow AbsolutePosition = refl
part_by Down at flat n given insets in_flow FixedPosition = refl

-- a flat place along an axis
pub flat_part : (at : ℕ → Node) → IsShallow at → (view : View) (axis : Axis) (n : ℕ) → part axis (flat_place at view n) ≡ placed_from (position_of (at n)) (along axis (inputs_under at view n) (used_insets ((at n).item.style.inset) (inputs_under at view n)) (box_in at (inputs_under at view n) n)) (part axis (corner_of at (flat_place at view) (holder at n))) (part axis (moved (above_of (flat_place at view) ((at n).parent)) (offset_of at view n)))
flat_part at shallow view axis n =
    ap (part axis) (flat_once at shallow view n) ∙ part_by axis at (flat_place at view) n (inputs_under at view n) (used_insets ((at n).item.style.inset) (inputs_under at view n)) (flow_over at view (flat_place at view) n) (position_of (at n))

-- in flow it doesn't matter where the padding box of what holds the box is
pub corner_free : (position : Position) (it : Along) (corner other in_flow : ℤ) → (is_flow position ≡ false → other ≡ corner) → placed_from position it corner in_flow ≡ placed_from position it other in_flow
corner_free StaticPosition it corner other in_flow same = refl
corner_free RelativePosition it corner other in_flow same = refl
corner_free AbsolutePosition it corner other in_flow same = ap (λ x. placed_from AbsolutePosition it x in_flow) (sym (same refl))
corner_free FixedPosition it corner other in_flow same = ap (λ x. placed_from FixedPosition it x in_flow) (sym (same refl))

pub part_span : (axis : Axis) (one other : ℤ) → IsSpan one → IsSpan other → IsSpan (part axis (one, other))
part_span Across one other first second = first
part_span Down one other first second = second

-- a box in a node's box means that the node has one
pub boxed_above : (at : ℕ → Node) → IsShallow at → (view : View) (a n : ℕ) → is_in_path at a n ≡ true → is_some (inputs_in_view at view n) ≡ true → is_some (inputs_in_view at view a) ≡ true
boxed_above at shallow view a n inside boxed = by_inputs (inputs_in_view at view n) refl boxed
  where
    by_inputs : (found : Option Inputs) → inputs_in_view at view n ≡ found → is_some found ≡ true → is_some (inputs_in_view at view a) ≡ true
    by_inputs None is some = absurd (false≢true some)
    by_inputs (Some inputs) is some =
        let root = view_root at view inputs n is in
        let over : has_box_in at root.0 a ≡ true = box_above at shallow root.0 a n inside (inputs_boxed at root.0 (view_inputs view) inputs n root.2) in
        ap is_some (in_view at view root.0 a root.1 ∙ inputs_of_boxed at root.0 (view_inputs view) a over)

-- the same, by how far the box is moved and from where. In flow it doesn't matter what is said to hold it
pub flat_moved : (at : ℕ → Node) → IsShallow at → (view : View) (axis : Axis) (n : ℕ) (position : Position) → position ≡ position_of (at n)
    → (side : Along) → side ≡ along axis (inputs_under at view n) (used_insets ((at n).item.style.inset) (inputs_under at view n)) (box_in at (inputs_under at view n) n)
    → (by : Moved) → ((corner in_flow : ℤ) → placed_from position side corner in_flow ≡ moved_from by corner in_flow)
    → (held : ℤ) → (is_in_flow (at n) ≡ false → held ≡ part axis (corner_of at (flat_place at view) (holder at n)))
    → part axis (flat_place at view n) ≡ moved_from by held (part axis (moved (above_of (flat_place at view) ((at n).parent)) (offset_of at view n)))
flat_moved at shallow view axis n position is side side_is by by_is held held_is =
    let flow : ℤ = part axis (moved (above_of (flat_place at view) ((at n).parent)) (offset_of at view n)) in
    flat_part at shallow view axis n
    ∙ corner_free (position_of (at n)) _ _ held flow held_is
    ∙ ap (λ p. placed_from p (along axis (inputs_under at view n) (used_insets ((at n).item.style.inset) (inputs_under at view n)) (box_in at (inputs_under at view n) n)) held flow) (sym is)
    ∙ ap (λ s. placed_from position s held flow) (sym side_is)
    ∙ by_is held flow

pub flow_part : (at : ℕ → Node) (view : View) (axis : Axis) (n : ℕ) (found : Option ℕ) → (at n).parent ≡ found → part axis (moved (above_of (flat_place at view) ((at n).parent)) (offset_of at view n)) ≡ part axis (above_of (flat_place at view) found) +ℤ pos (part axis (offset_of at view n))
flow_part at view axis n found is =
    part_moved axis (above_of (flat_place at view) ((at n).parent)) (offset_of at view n)
    ∙ ap (λ o. part axis (above_of (flat_place at view) o) +ℤ pos (part axis (offset_of at view n))) is

pub point_same : (left top other below : ℤ) → left ≡ other → top ≡ below → ◌≡◌ {A = Point} (record { left = left; top = top }) (record { left = other; top = below })
point_same left top other below first second =
    ap {B = Point} (λ x. record { left = x; top = top }) first ∙ ap {B = Point} (λ x. record { left = other; top = x }) second

-- what holds on both axes
pub each_axis : (fact : Axis → Type 0) → fact Across → fact Down → (axis : Axis) → fact axis
each_axis fact one other Across = one
each_axis fact one other Down = other

pub pair_again : (left top : ℤ) → IsReach left → IsReach top → ◌≡◌ {A = ℤ × ℤ} (to_z w64 (of_z w64 left), to_z w64 (of_z w64 top)) (left, top)
pair_again left top one other = ap {B = ℤ × ℤ} (λ x. (x, to_z w64 (of_z w64 top))) (reach_again left one) ∙ ap {B = ℤ × ℤ} (λ x. (left, x)) (reach_again top other)
