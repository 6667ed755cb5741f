-- Where no element in a node's tree is positioned, one walk down finds how far the boxes in it reach: each stands in its parent.
use Rattle.std.proofs.Common.{◌≡◌, ◌+◌, ℕ, ℤ, zero, suc, Bool, true, false, Option, Some, List, refl, ap, sym, subst, ◌∙◌, arith}
use Rattle.std.proofs.lemmas.Int.{ints, clamps}
use Rattle.std.specs.Int.{int_max}
use Rattle.std.specs.Prelude.{pos, ◌+ℤ◌, ◌-ℤ◌, Contains}
use Rattle.px_units.specs.Lengths.{at_least_zero}
use Rattle.layout_model.specs.Items.{Item, Kind, BlockKind, ImageKind, FrameKind}
use Rattle.layout_model.specs.Clips.{clips, is_block}
use Rattle.layout_model.specs.Nodes.{Node, levels, is_in_path, IsLinked, IsShallow}
use Rattle.layout_model.specs.Boxes.{Inputs, inner_children, kids_of, child_inputs, counted, box_in, border_size, inputs_at}
use Rattle.layout_model.specs.Points.{plus, larger, moved, IsWithin}
use Rattle.layout_model.specs.Views.{View, view_inputs, inputs_in_view}
use Rattle.layout_model.specs.FlatPlaces.{height_above, offset_of, flat_place}
use Rattle.layout_model.proofs.Ancestors.{in_self, above_in, down_path}
use Rattle.layout_model.proofs.FlatPlaces.{flat_of_static}
use Rattle.layout_model.proofs.Inputs.{view_root, boxed_child, inputs_boxed, inputs_of_boxed, in_view}
use Rattle.layout_model.proofs.Offsets.{offset_found}
use Rattle.layout_model.proofs.Trees.{kid_is_child}
use Rattle.layout_model.proofs.Unpositioned.{static_unpositioned, in_flow_unpositioned}
use Rattle.element_tree.specs.Forest.{IsOnce}
use Rattle.block_layout.specs.Far.{offset_at, far_kids, far_if_shown, far_inside, far_down, far_in, open_kids}
use Rattle.block_layout.specs.Filling.{IsUnpositioned, if_shown, inputs_if_block}
use Rattle.block_layout.proofs.Far.{pair_same, far_of, far_kid}
use Rattle.block_layout.proofs.Handed.{view_down}
use Rattle.block_layout.proofs.Signed.{at_least_is}
use Rattle.block_layout.proofs.Stacked.{kid_reached, kids_bounded}

-- how far a number is above another
left_of : (z b : ℤ) (q : ℕ) → z ≡ b +ℤ pos q → at_least_zero (z -ℤ b) ≡ q
left_of z b q is =
    let most : int_max (z -ℤ b) (pos 0) ≡ pos (at_least_zero (z -ℤ b)) = at_least_is (z -ℤ b) in
    omega (arith, ints, clamps)

moved_on : (base place : ℤ × ℤ) (q by : ℕ × ℕ) → place ≡ moved base q → ◌≡◌ {A = ℤ × ℤ} (moved place by) (moved base (plus q by))
moved_on base place q by is = ap (λ p. moved p by) is ∙ ap {B = ℤ × ℤ} (λ x. (x, base.1 +ℤ pos (q.1) +ℤ pos (by.1))) (omega (arith, ints)) ∙ ap {B = ℤ × ℤ} (λ y. (base.0 +ℤ pos (q.0 + by.0), y)) (omega (arith, ints))

block_of_kid : (kind : Kind) (children : List ℕ) (c : ℕ) → Contains (inner_children kind children) c → is_block kind ≡ true
block_of_kid BlockKind children c kid = refl
block_of_kid (ImageKind width height) children c kid = absurd (omega (arith, kid.1))
block_of_kid FrameKind children c kid = absurd (omega (arith, kid.1))

pub kids_of_block : (kind : Kind) (children : List ℕ) (c : ℕ) → is_block kind ≡ true → Contains children c → Contains (inner_children kind children) c
kids_of_block BlockKind children c block among = among
kids_of_block (ImageKind width height) children c block among = absurd cc
kids_of_block FrameKind children c block among = absurd cc

handed_block : (kind : Kind) (item : Item) (inputs : Inputs) → is_block kind ≡ true → inputs_if_block kind item (Some inputs) ≡ Some (child_inputs item inputs)
handed_block BlockKind item inputs block = refl
handed_block (ImageKind width height) item inputs block = absurd cc
handed_block FrameKind item inputs block = absurd cc

pub once_kids : (kind : Kind) (children : List ℕ) → IsOnce children → IsOnce (inner_children kind children)
once_kids BlockKind children once = once
once_kids (ImageKind width height) children once = tt
once_kids FrameKind children once = tt

pub then_under : (a b c : ℕ × ℕ) → IsWithin a b → IsWithin b c → IsWithin a c
then_under a b c low high = (omega (arith, low.0, high.0), omega (arith, low.1, high.1))

-- from a corner that the node's own is so far from, and all places in it
module _ (at : ℕ → Node) (linked : IsLinked at) (shallow : IsShallow at) (view : View) (n : ℕ) (still : IsUnpositioned at n) (base : ℤ × ℤ) (start : ℕ × ℕ) (begins : flat_place at view n ≡ moved base start) where
  abbrev pub corner : ℕ → ℕ × ℕ
  corner e = (at_least_zero ((flat_place at view e).0 -ℤ base.0), at_least_zero ((flat_place at view e).1 -ℤ base.1))

  corner_of : (e : ℕ) (q : ℕ × ℕ) → flat_place at view e ≡ moved base q → corner e ≡ q
  corner_of e q is = pair_same _ _ _ _ (left_of _ _ (q.0) (ap (λ p. p.0) is)) (left_of _ _ (q.1) (ap (λ p. p.1) is))

  pub corner_start : corner n ≡ start
  corner_start = corner_of n start begins

  abbrev Placed : ℕ → Type 0
  Placed e = (is_in_path at n e ≡ true) × ((q : ℕ × ℕ) × (flat_place at view e ≡ moved base q))

  placed : (e : ℕ) → is_in_path at n e ≡ true → Placed e
  placed e inside = down_path at shallow Placed on n e inside (in_self at n, (start, begins))
    where
      on : (c p : ℕ) → (at c).parent ≡ Some p → Placed p → Placed c
      on c p up above =
          let under : is_in_path at n c ≡ true = above_in at shallow n c p up above.0 in
          (under, (plus (above.1.0) (offset_of at view c), flat_of_static at shallow view c p up (static_unpositioned at c (still c under)) ∙ moved_on base (flat_place at view p) (above.1.0) (offset_of at view c) (above.1.1)))

  pub place_is : (e : ℕ) → is_in_path at n e ≡ true → flat_place at view e ≡ moved base (corner e)
  place_is e inside = let there = placed e inside in there.1.1 ∙ ap (moved base) (sym (corner_of e (there.1.0) (there.1.1)))

  corner_on : (c p : ℕ) → (at c).parent ≡ Some p → is_in_path at n p ≡ true → corner c ≡ plus (corner p) (offset_of at view c)
  corner_on c p up inside =
      let under : is_in_path at n c ≡ true = above_in at shallow n c p up inside in
      corner_of c (plus (corner p) (offset_of at view c))
      (flat_of_static at shallow view c p up (static_unpositioned at c (still c under)) ∙ moved_on base (flat_place at view p) (corner p) (offset_of at view c) (place_is p inside))

  module _ (d : ℕ) (inside : is_in_path at n d ≡ true) (inputs : Inputs) (found : inputs_in_view at view d ≡ Some inputs) where
    abbrev within : Inputs
    within = child_inputs ((at d).item) inputs

    module _ (c : ℕ) (kid : Contains (kids_of (at d)) c) where
      pub kid_up : (at c).parent ≡ Some d
      kid_up = linked d c (kid_is_child ((at d).item.kind) ((at d).children) c kid)

      pub kid_inside : is_in_path at n c ≡ true
      kid_inside = above_in at shallow n c d kid_up inside

      module _ (shown : (at c).item.style.hidden ≡ false) where
        pub kid_found : inputs_in_view at view c ≡ Some (child_inputs ((at d).item) inputs)
        kid_found =
            view_down at shallow view c d kid_up (in_flow_unpositioned at c (still c kid_inside))
            ∙ ap (λ hidden. if_shown hidden (inputs_if_block ((at d).item.kind) ((at d).item) (inputs_in_view at view d))) shown
            ∙ ap (inputs_if_block ((at d).item.kind) ((at d).item)) found
            ∙ handed_block ((at d).item.kind) ((at d).item) inputs (block_of_kid ((at d).item.kind) ((at d).children) c kid)

        kid_corner : corner c ≡ plus (corner d) (offset_at ((at d).item) inputs (height_above at within (at d) c) ((at c).item))
        unfolding offset_at
        kid_corner = corner_on c d kid_up inside ∙ ap (plus (corner d)) (offset_found at view inputs within c d kid_up found kid_found)

        -- what is around reaches as far as a child does
        pub kid_under : IsWithin (far_down levels at (child_inputs ((at d).item) inputs) (corner c) c) (far_in at d inputs (corner d) (kids_of (at d)))
        unfolding height_above
        kid_under =
            subst
            (λ place. IsWithin (far_down levels at within place c) (far_in at d inputs (corner d) (kids_of (at d))))
            (sym kid_corner)
            (subst
            (λ hidden. IsWithin (far_if_shown (far_down levels at) within (λ u. plus (corner d) (offset_at ((at d).item) inputs (height_above at within (at d) c) ((at c).item))) c hidden) (far_in at d inputs (corner d) (kids_of (at d))))
            shown
            (kid_reached (counted at (box_in at within)) (far_kid at (far_down levels at) ((at d).item) inputs (corner d) within) c (kids_of (at d)) 0 (height_above at within (at d) c) kid (omega arith)))

    -- no farther than what bounds each of the children
    pub kids_under : (deep : ℕ) (most : ℕ × ℕ) → IsOnce ((at d).children)
        → ((c : ℕ) → Contains (kids_of (at d)) c → (at c).item.style.hidden ≡ false → IsWithin (far_down deep at (child_inputs ((at d).item) inputs) (corner c) c) most)
        → IsWithin (far_inside at (far_down deep at) ((at d).item) inputs (corner d) (child_inputs ((at d).item) inputs) (kids_of (at d))) most
    unfolding height_above
    kids_under deep most once each =
        kids_bounded (counted at (box_in at within)) (far_kid at (far_down deep at) ((at d).item) inputs (corner d) within) most (kids_of (at d)) 0
        (once_kids ((at d).item.kind) ((at d).children) once) (λ c kid. by_shown c kid ((at c).item.style.hidden) refl)
      where
        by_shown : (c : ℕ) → Contains (kids_of (at d)) c → (hidden : Bool) → (at c).item.style.hidden ≡ hidden
            → IsWithin (far_if_shown (far_down deep at) within (λ u. plus (corner d) (offset_at ((at d).item) inputs (0 + height_above at within (at d) c) ((at c).item))) c hidden) most
        by_shown c kid true shown = (omega arith, omega arith)
        by_shown c kid false shown =
            subst
            (λ place. IsWithin (far_down deep at within place c) most)
            (kid_corner c kid shown ∙ ap (λ h. plus (corner d) (offset_at ((at d).item) inputs h ((at c).item))) (omega arith))
            (each c kid shown)

    pub own_under : IsWithin (plus (corner d) (border_size (box_in at inputs d))) (far_down levels at inputs (corner d) d)
    own_under = subst (λ far. IsWithin (plus (corner d) (border_size (box_in at inputs d))) far) (far_of at linked shallow inputs (corner d) d) (omega arith, omega arith)

    -- a box that clips nothing reaches as far as what is in it
    pub inside_under : clips (at d) ≡ false → IsWithin (far_in at d inputs (corner d) (kids_of (at d))) (far_down levels at inputs (corner d) d)
    inside_under opens =
        subst (λ far. IsWithin (far_in at d inputs (corner d) (kids_of (at d))) far)
        (ap (λ closed. larger (plus (corner d) (border_size (box_in at inputs d))) (far_in at d inputs (corner d) (open_kids closed (kids_of (at d))))) (sym opens) ∙ far_of at linked shallow inputs (corner d) d)
        (omega arith, omega arith)

-- the parent of what has a box has one, and is a block
pub parent_boxed : (at : ℕ → Node) → IsShallow at → (view : View) (c p : ℕ) (below : Inputs) → (at c).parent ≡ Some p → inputs_in_view at view c ≡ Some below
    → (above : Inputs) × (inputs_in_view at view p ≡ Some above) × ((at c).item.style.hidden ≡ false) × (is_block ((at p).item.kind) ≡ true)
parent_boxed at shallow view c p below up found =
    let shown = view_root at view below c found in
    let boxed = boxed_child at shown.0 c p up (shallow p) (inputs_boxed at shown.0 (view_inputs view) below c shown.2) in
    (inputs_at at (view_inputs view) p, in_view at view shown.0 p shown.1 ∙ inputs_of_boxed at shown.0 (view_inputs view) p boxed.2, boxed.0, boxed.1)

pub same_inputs : (a b : Inputs) → ◌≡◌ {A = Option Inputs} (Some a) (Some b) → a ≡ b
same_inputs a b is = cc

module _ (at : ℕ → Node) (linked : IsLinked at) (shallow : IsShallow at) (once : (p : ℕ) → IsOnce ((at p).children)) (view : View) (n : ℕ) (still : IsUnpositioned at n) (base : ℤ × ℤ) (start : ℕ × ℕ) (begins : flat_place at view n ≡ moved base start)
    (most : ℕ × ℕ) (Reached : ℕ → Type 0) (on : (c p : ℕ) → (at c).parent ≡ Some p → is_in_path at n p ≡ true → Reached p → clips (at p) ≡ false → Reached c)
    (bound : (d : ℕ) (inputs : Inputs) → is_in_path at n d ≡ true → Reached d → inputs_in_view at view d ≡ Some inputs → IsWithin (plus (corner at linked shallow view n still base start begins d) (border_size (box_in at inputs d))) most) where
  abbrev place : ℕ → ℕ × ℕ
  place e = corner at linked shallow view n still base start begins e

  -- what bounds each border box bounds the walk
  pub down : (deep d : ℕ) (inputs : Inputs) → is_in_path at n d ≡ true → Reached d → inputs_in_view at view d ≡ Some inputs → IsWithin (far_down deep at inputs (corner at linked shallow view n still base start begins d) d) most
  unfolding far_down far_kids
  down zero d inputs inside reached found = (omega arith, omega arith)
  down (suc deep) d inputs inside reached found = both (bound d inputs inside reached found) (by_clip (down deep) (clips (at d)) refl)
    where
      both : {a b : ℕ × ℕ} → IsWithin a most → IsWithin b most → IsWithin (larger a b) most
      both low high = (omega (arith, low.0, high.0), omega (arith, low.1, high.1))

      by_clip : ((c : ℕ) (below : Inputs) → is_in_path at n c ≡ true → Reached c → inputs_in_view at view c ≡ Some below → IsWithin (far_down deep at below (place c) c) most) → (closed : Bool) → clips (at d) ≡ closed
          → IsWithin (far_inside at (far_down deep at) ((at d).item) inputs (place d) (child_inputs ((at d).item) inputs) (open_kids closed (kids_of (at d)))) most
      by_clip rest true is = (omega arith, omega arith)
      by_clip rest false is =
          kids_under at linked shallow view n still base start begins d inside inputs found deep most (once d)
          (λ c kid shown. rest c (child_inputs ((at d).item) inputs)
          (kid_inside at linked shallow view n still base start begins d inside inputs found c kid)
          (on c d (kid_up at linked shallow view n still base start begins d inside inputs found c kid) inside reached is)
          (kid_found at linked shallow view n still base start begins d inside inputs found c kid shown))
