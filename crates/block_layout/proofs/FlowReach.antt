-- Where no element in a node's tree is positioned, the walk down gives the reach.
use Rattle.std.proofs.Common.{◌≡◌, ◌≤◌, ◌+◌, ◌-◌, ℕ, ℤ, zero, suc, Bool, true, false, cond, Option, Some, None, List, [], ◌∷◌, refl, ap, sym, subst, ◌∙◌, inl, inr, arith}
use Rattle.std.proofs.lemmas.Bool.{false≢true}
use Rattle.std.proofs.lemmas.Int.{ints, clamps}
use Rattle.std.specs.Prelude.{pos, ◌+ℤ◌, ◌-ℤ◌, not, Contains}
use Rattle.px_units.specs.Lengths.{at_least_zero}
use Rattle.layout_model.specs.Clips.{clips}
use Rattle.layout_model.specs.Nodes.{Node, levels, depth_of, is_in_path, HeldByElement, holder, element_of, is_screen, is_on_screen, IsLinked, IsListed, IsShallow}
use Rattle.layout_model.specs.Boxes.{Inputs, kids_of, child_inputs, computed, box_at, box_in, border_size, padding_size, padding_corner, has_box_in}
use Rattle.layout_model.specs.Points.{plus, minus, capped, larger, moved, IsWithin}
use Rattle.layout_model.specs.Views.{View, view_inputs, view_size, inputs_in_view}
use Rattle.layout_model.specs.FlatPlaces.{margin_corner, border_corner, flat_place}
use Rattle.layout_model.specs.Reach.{clipped_by, reached_by, reached_by_view, edges_with, edges_from, farthest, reach_of, reach_of_view}
use Rattle.layout_model.proofs.Ancestors.{option_cases, in_self, above_in}
use Rattle.layout_model.proofs.Attained.{clipped, unclipped}
use Rattle.layout_model.proofs.Clipped.{clipped_unheld, clipped_held, clipped_above, clipped_clips}
use Rattle.layout_model.proofs.Farthest.{size_within, edges_within}
use Rattle.layout_model.proofs.FlatPlaces.{flat_of_top}
use Rattle.layout_model.proofs.Holders.{holder_of_child, holder_of_top, on_screen_held, on_screen_unheld}
use Rattle.layout_model.proofs.Inputs.{view_root, under_view, inputs_boxed, boxed_top, boxed_in_root, box_above}
use Rattle.layout_model.proofs.Offsets.{offset_of_top}
use Rattle.layout_model.proofs.Paths.{depth_child, depth_least}
use Rattle.layout_model.proofs.Reaches.{reach_is, view_is, reached, reached_in_view}
use Rattle.layout_model.proofs.Trees.{box_of_children}
use Rattle.layout_model.proofs.Unpositioned.{in_flow_unpositioned}
use Rattle.element_tree.specs.Forest.{IsOnce}
use Rattle.block_layout.specs.Far.{far_kids, far_down, far_in, open_kids}
use Rattle.block_layout.specs.Filling.{IsUnpositioned}
use Rattle.block_layout.proofs.Far.{pair_same}
use Rattle.block_layout.proofs.Handed.{view_top}
use Rattle.block_layout.proofs.Reached.{corner, corner_start, place_is, kid_up, kid_inside, kid_found, kid_under, kids_under, own_under, inside_under, then_under, kids_of_block, parent_boxed, same_inputs, down}
use Rattle.block_layout.proofs.Signed.{at_least_is}

same_within : (a b : ℕ × ℕ) → IsWithin a b → IsWithin b a → a ≡ b
same_within a b low high = pair_same _ _ _ _ (omega (arith, low.0, high.0)) (omega (arith, low.1, high.1))

far_bounded : (at : ℕ → Node) (view : View) (from : ℤ × ℤ) (size most : ℕ × ℕ) (ns : List ℕ) → IsWithin size most → ((d : ℕ) → Contains ns d → IsWithin (edges_from at view from d) most) → IsWithin (farthest at view from size ns) most
unfolding farthest
far_bounded at view from size most [] low each = low
far_bounded at view from size most (n ∷ ns) low each =
    let first = each n (0, omega arith, refl) in
    let rest = far_bounded at view from size most ns low (λ d among. each d (suc (among.0), omega (arith, among.1), among.2)) in
    (omega (arith, first.0, rest.0), omega (arith, first.1, rest.1))

edge_left : (flat base from : ℤ) (q w k : ℕ) → flat ≡ base +ℤ pos q → from ≡ base +ℤ pos k → at_least_zero (flat +ℤ pos w -ℤ from) ≡ q + w - k
edge_left flat base from q w k is begins = let most = at_least_is (flat +ℤ pos w -ℤ from) in omega (arith, ints, clamps)

edges_left : (at : ℕ → Node) (view : View) (from base : ℤ × ℤ) (cut q : ℕ × ℕ) → from ≡ moved base cut → (d : ℕ) (below : Inputs) → flat_place at view d ≡ moved base q
    → edges_with at view from d (Some below) ≡ minus (plus q (border_size (box_in at below d))) cut
edges_left at view from base cut q begins d below is =
    pair_same _ _ _ _
    (edge_left _ (base.0) (from.0) (q.0) _ (cut.0) (ap (λ p. p.0) is) (ap (λ p. p.0) begins))
    (edge_left _ (base.1) (from.1) (q.1) _ (cut.1) (ap (λ p. p.1) is) (ap (λ p. p.1) begins))

edges_known : (at : ℕ → Node) (view : View) (from base : ℤ × ℤ) (cut q : ℕ × ℕ) → from ≡ moved base cut → (d : ℕ) (below : Inputs) → flat_place at view d ≡ moved base q → inputs_in_view at view d ≡ Some below
    → edges_from at view from d ≡ minus (plus q (border_size (box_in at below d))) cut
edges_known at view from base cut q begins d below there is = ap (edges_with at view from d) is ∙ edges_left at view from base cut q begins d below there

edges_if : (at : ℕ → Node) (view : View) (from : ℤ × ℤ) (most : ℕ × ℕ) (d : ℕ) → ((below : Inputs) → inputs_in_view at view d ≡ Some below → IsWithin (edges_with at view from d (Some below)) most) → IsWithin (edges_from at view from d) most
edges_if at view from most d each = by_box (inputs_in_view at view d) refl
  where
    by_box : (found : Option Inputs) → inputs_in_view at view d ≡ found → IsWithin (edges_with at view from d found) most
    by_box None is = (omega arith, omega arith)
    by_box (Some below) is = each below is

edges_under : (at : ℕ → Node) (view : View) (from base : ℤ × ℤ) (cut q most : ℕ × ℕ) → from ≡ moved base cut → (d : ℕ) → flat_place at view d ≡ moved base q
    → ((below : Inputs) → inputs_in_view at view d ≡ Some below → IsWithin (minus (plus q (border_size (box_in at below d))) cut) most) → IsWithin (edges_from at view from d) most
edges_under at view from base cut q most begins d there each =
    edges_if at view from most d (λ below is. subst (λ e. IsWithin e most) (sym (edges_left at view from base cut q begins d below there)) (each below is))

larger_right : (size far edge : ℕ × ℕ) → IsWithin edge far → IsWithin edge (larger size far)
larger_right size far edge low = (omega (arith, low.0), omega (arith, low.1))

both_under : (a b most : ℕ × ℕ) → IsWithin a most → IsWithin b most → IsWithin (larger a b) most
both_under a b most low high = (omega (arith, low.0, high.0), omega (arith, low.1, high.1))

cut_back : (far most cut : ℕ × ℕ) → IsWithin far (plus most cut) → IsWithin (minus far cut) most
cut_back far most cut low = (omega (arith, low.0), omega (arith, low.1))

larger_cut : (size cut : ℕ × ℕ) → larger size (minus (0, 0) cut) ≡ size
larger_cut size cut = pair_same _ _ _ _ (omega arith) (omega arith)

uncut : (edge far : ℕ × ℕ) → IsWithin edge far → IsWithin (minus edge (0, 0)) far
uncut edge far low = (omega (arith, low.0), omega (arith, low.1))

uncut_zero : (edge most : ℕ × ℕ) → IsWithin (minus edge (0, 0)) most → IsWithin edge most
uncut_zero edge most low = (omega (arith, low.0), omega (arith, low.1))

-- bounds on edges from a corner, and on those that are so much farther
cut_under : (edge far cut : ℕ × ℕ) → IsWithin edge far → IsWithin (minus edge cut) (minus far cut)
cut_under edge far cut low = (omega (arith, low.0), omega (arith, low.1))

uncut_under : (edge most cut : ℕ × ℕ) → IsWithin (minus edge cut) most → IsWithin edge (plus most cut)
uncut_under edge most cut low = (omega (arith, low.0), omega (arith, low.1))

corner_of_box : (at : ℕ → Node) → IsLinked at → IsShallow at → (inputs : Inputs) (n : ℕ) → padding_corner (box_in at inputs n) ≡ border_corner ((at n).item)
unfolding box_at computed
corner_of_box at linked shallow inputs n = ap padding_corner (box_of_children at linked shallow inputs n)

module _ (at : ℕ → Node) (linked : IsLinked at) (listed : IsListed at) (shallow : IsShallow at) (once : (p : ℕ) → IsOnce ((at p).children)) (view : View) (n : ℕ) (still : IsUnpositioned at n) where
  held_by_parent : (c p : ℕ) → is_in_path at n c ≡ true → (at c).parent ≡ Some p → holder at c ≡ HeldByElement p
  held_by_parent c p inside up = holder_of_child at c p up (in_flow_unpositioned at c (still c inside))

  -- a scroll container
  module _ (inputs : Inputs) (found : inputs_in_view at view n ≡ Some inputs) where
    begins : flat_place at view n ≡ moved (flat_place at view n) (0, 0)
    begins = ap {B = ℤ × ℤ} (λ x. (x, (flat_place at view n).1)) (omega (arith, ints)) ∙ ap {B = ℤ × ℤ} (λ y. ((flat_place at view n).0 +ℤ pos 0, y)) (omega (arith, ints))

    abbrev place : ℕ → ℕ × ℕ
    place e = corner at linked shallow view n still (flat_place at view n) (0, 0) begins e

    abbrev far : ℕ × ℕ
    far = far_in at n inputs (place n) (kids_of (at n))

    top_step : (d : ℕ) (below : Inputs) → inputs_in_view at view d ≡ Some below → (at d).item.style.hidden ≡ false → Contains (kids_of (at n)) d → IsWithin (far_down levels at below (place d) d) far
    top_step d below is shown kid =
        subst
        (λ i. IsWithin (far_down levels at i (place d) d) far)
        (same_inputs _ _ (sym (kid_found at linked shallow view n still (flat_place at view n) (0, 0) begins n (in_self at n) inputs found d kid shown) ∙ is))
        (kid_under at linked shallow view n still (flat_place at view n) (0, 0) begins n (in_self at n) inputs found d kid shown)

    step : (d : ℕ) (below : Inputs) (p : ℕ) → (at d).parent ≡ Some p → clipped_by at d ≡ Some n → inputs_in_view at view d ≡ Some below
        → (over : Inputs) → inputs_in_view at view p ≡ Some over → (at d).item.style.hidden ≡ false → Contains (kids_of (at p)) d
        → (clipped_by at p ≡ Some n → IsWithin (far_down levels at over (place p) p) far) → IsWithin (far_down levels at below (place d) d) far
    step d below p up clips_it is over there shown kid further = by_clip (clips (at p)) refl
      where
        by : clipped_by at d ≡ cond (clips (at p)) (Some p) (clipped_by at p)
        by = clipped_held at shallow d p (held_by_parent d p (clipped_above at shallow n d clips_it) up)

        by_clip : (closed : Bool) → clips (at p) ≡ closed → IsWithin (far_down levels at below (place d) d) far
        by_clip true closed =
            let both : Some p ≡ Some n = sym (by ∙ ap (λ b. cond b (Some p) (clipped_by at p)) closed) ∙ clips_it in
            let same : p ≡ n = cc in
            top_step d below is shown (subst (λ m. Contains (kids_of (at m)) d) same kid)
        by_clip false opens =
            let above : clipped_by at p ≡ Some n = sym (by ∙ ap (λ b. cond b (Some p) (clipped_by at p)) opens) ∙ clips_it in
            let inside : is_in_path at n p ≡ true = clipped_above at shallow n p above in
            let whole = then_under _ _ _
            (kid_under at linked shallow view n still (flat_place at view n) (0, 0) begins p inside over there d kid shown)
            (then_under _ _ _ (inside_under at linked shallow view n still (flat_place at view n) (0, 0) begins p inside over there opens) (further above)) in
            subst
            (λ i. IsWithin (far_down levels at i (place d) d) far)
            (same_inputs _ _ (sym (kid_found at linked shallow view n still (flat_place at view n) (0, 0) begins p inside over there d kid shown) ∙ is))
            whole

    climb : (high d : ℕ) (below : Inputs) → depth_of at d ≤ high → clipped_by at d ≡ Some n → inputs_in_view at view d ≡ Some below → IsWithin (far_down levels at below (place d) d) far
    climb zero d below low clips_it is = absurd (omega (arith, depth_least at d))
    climb (suc high) d below low clips_it is =
        elim (option_cases ((at d).parent)) [
          | inl top ↦ let none : None ≡ Some n = sym (clipped_unheld at d (ap element_of (holder_of_top at d top))) ∙ clips_it in absurd (cc)
          | inr p ↦
              let up = parent_boxed at shallow view d p.0 below p.1 is in
              step d below p.0 p.1 clips_it is (up.0) (up.1) (up.2) (kids_of_block ((at p.0).item.kind) ((at p.0).children) d (up.3) (listed d p.0 p.1))
              (λ above. climb high p.0 (up.0) (omega (arith, depth_child at d p.0 p.1 (shallow p.0))) above (up.1))
        ]

    abbrev from : ℤ × ℤ
    from = moved (flat_place at view n) (border_corner ((at n).item))

    abbrev cut : ℕ × ℕ
    cut = padding_corner (box_in at inputs n)

    abbrev farthest_in : ℕ × ℕ
    farthest_in = farthest at view from (padding_size (box_in at inputs n)) (reached_by at view n)

    cut_is : from ≡ moved (flat_place at view n) cut
    cut_is = ap (moved (flat_place at view n)) (sym (corner_of_box at linked shallow inputs n))

    reached_under : clips (at n) ≡ true → IsWithin farthest_in (larger (padding_size (box_in at inputs n)) (minus far cut))
    reached_under closed =
        far_bounded at view from (padding_size (box_in at inputs n)) (larger (padding_size (box_in at inputs n)) (minus far cut)) (reached_by at view n) (omega arith, omega arith)
        (λ d among.
        let clips_it = clipped at view n d among in
        let inside : is_in_path at n d ≡ true = clipped_above at shallow n d clips_it in
        edges_under at view from (flat_place at view n) cut (place d) (larger (padding_size (box_in at inputs n)) (minus far cut)) cut_is d (place_is at linked shallow view n still (flat_place at view n) (0, 0) begins d inside)
        (λ below is. larger_right _ (minus far cut) _
        (cut_under _ _ cut
        (then_under _ _ _ (own_under at linked shallow view n still (flat_place at view n) (0, 0) begins d inside below is) (climb (depth_of at d) d below (omega arith) clips_it is)))))

    far_under : clips (at n) ≡ true → IsWithin far (plus farthest_in cut)
    far_under closed =
        kids_under at linked shallow view n still (flat_place at view n) (0, 0) begins n (in_self at n) inputs found levels (plus farthest_in cut) (once n)
        (λ c kid shown. down at linked shallow once view n still (flat_place at view n) (0, 0) begins (plus farthest_in cut) (λ e. clipped_by at e ≡ Some n) on bound levels c
        (child_inputs ((at n).item) inputs)
        (kid_inside at linked shallow view n still (flat_place at view n) (0, 0) begins n (in_self at n) inputs found c kid)
        (clipped_held at shallow c n
        (held_by_parent c n (kid_inside at linked shallow view n still (flat_place at view n) (0, 0) begins n (in_self at n) inputs found c kid) (kid_up at linked shallow view n still (flat_place at view n) (0, 0) begins n (in_self at n) inputs found c kid))
        ∙ ap (λ b. cond b (Some n) (clipped_by at n)) closed)
        (kid_found at linked shallow view n still (flat_place at view n) (0, 0) begins n (in_self at n) inputs found c kid shown))
      where
        on : (c p : ℕ) → (at c).parent ≡ Some p → is_in_path at n p ≡ true → clipped_by at p ≡ Some n → clips (at p) ≡ false → clipped_by at c ≡ Some n
        on c p up inside above opens = clipped_held at shallow c p (held_by_parent c p (above_in at shallow n c p up inside) up) ∙ ap (λ b. cond b (Some p) (clipped_by at p)) opens ∙ above

        bound : (d : ℕ) (below : Inputs) → is_in_path at n d ≡ true → clipped_by at d ≡ Some n → inputs_in_view at view d ≡ Some below → IsWithin (plus (place d) (border_size (box_in at below d))) (plus farthest_in cut)
        bound d below inside clips_it is =
            uncut_under _ farthest_in cut
            (subst (λ e. IsWithin e farthest_in)
            (edges_known at view from (flat_place at view n) cut (place d) cut_is d below (place_is at linked shallow view n still (flat_place at view n) (0, 0) begins d inside) is)
            (edges_within at view from (padding_size (box_in at inputs n)) (reached_by at view n) d (reached at listed shallow view below n d is clips_it)))

    open_reach : clips (at n) ≡ true → farthest_in ≡ larger (padding_size (box_in at inputs n)) (minus far cut)
    open_reach closed =
        same_within farthest_in (larger (padding_size (box_in at inputs n)) (minus far cut)) (reached_under closed)
        (both_under _ _ farthest_in (size_within at view from (padding_size (box_in at inputs n)) (reached_by at view n)) (cut_back far farthest_in cut (far_under closed)))

    -- a box that clips nothing reaches over nothing in it
    closed_reach : clips (at n) ≡ false → farthest_in ≡ padding_size (box_in at inputs n)
    closed_reach opens =
        same_within farthest_in (padding_size (box_in at inputs n))
        (far_bounded at view from (padding_size (box_in at inputs n)) (padding_size (box_in at inputs n)) (reached_by at view n) (omega arith, omega arith)
        (λ d among. absurd (false≢true (sym opens ∙ clipped_clips at shallow n d (clipped at view n d among)))))
        (size_within at view from (padding_size (box_in at inputs n)) (reached_by at view n))

    by_clip : (closed : Bool) → clips (at n) ≡ closed → farthest_in ≡ larger (padding_size (box_in at inputs n)) (minus (far_in at n inputs (0, 0) (open_kids (not closed) (kids_of (at n)))) cut)
    unfolding far_kids
    by_clip true closed =
        open_reach closed
        ∙ ap (λ start. larger (padding_size (box_in at inputs n)) (minus (far_in at n inputs start (kids_of (at n))) cut)) (corner_start at linked shallow view n still (flat_place at view n) (0, 0) begins)
    by_clip false opens = closed_reach opens ∙ sym (larger_cut (padding_size (box_in at inputs n)) cut)

    pub container_reach : reach_of at view n ≡ capped (larger (padding_size (box_in at inputs n)) (minus (far_in at n inputs (0, 0) (open_kids (not (clips (at n))) (kids_of (at n)))) (padding_corner (box_in at inputs n))))
    container_reach = reach_is at view inputs n found ∙ ap capped (by_clip (clips (at n)) refl)

-- a viewport
module _ (at : ℕ → Node) (linked : IsLinked at) (listed : IsListed at) (shallow : IsShallow at) (once : (p : ℕ) → IsOnce ((at p).children)) (view : View) (root : ℕ) (is_root : view.root ≡ Some root) (top : (at root).parent ≡ None) where
  root_of : (d : ℕ) (below : Inputs) → inputs_in_view at view d ≡ Some below → (is_in_path at root d ≡ true) × (has_box_in at root d ≡ true)
  root_of d below is =
      let shown = view_root at view below d is in
      let both : Some (shown.0) ≡ Some root = sym shown.1 ∙ is_root in
      let same : shown.0 ≡ root = cc in
      let boxed : has_box_in at root d ≡ true = subst (λ r. has_box_in at r d ≡ true) same (inputs_boxed at shown.0 (view_inputs view) below d shown.2) in
      ((boxed_in_root at shallow root d boxed).0, boxed)

  pub hidden_reach : (at root).item.style.hidden ≡ true → reach_of_view at view ≡ capped (view_size view)
  hidden_reach hidden =
      view_is at view
      ∙ ap capped
      (same_within (farthest at view (pos 0, pos 0) (view_size view) (reached_by_view at view)) (view_size view)
      (far_bounded at view (pos 0, pos 0) (view_size view) (view_size view) (reached_by_view at view) (omega arith, omega arith) (λ d among. by_box d (inputs_in_view at view d) refl))
      (size_within at view (pos 0, pos 0) (view_size view) (reached_by_view at view)))
    where
      by_box : (d : ℕ) (found : Option Inputs) → inputs_in_view at view d ≡ found → IsWithin (edges_with at view (pos 0, pos 0) d found) (view_size view)
      by_box d None is = (omega arith, omega arith)
      by_box d (Some below) is =
          let boxed = root_of d below is in
          absurd (false≢true (sym ((boxed_top at root root top (box_above at shallow root root d boxed.0 boxed.1)).0) ∙ hidden))

  module _ (still : IsUnpositioned at root) (shown : (at root).item.style.hidden ≡ false) where
    own_inputs : inputs_in_view at view root ≡ Some (view_inputs view)
    own_inputs = view_top at view root is_root top shown

    abbrev start : ℕ × ℕ
    start = margin_corner (view_inputs view) ((at root).item)

    root_begins : flat_place at view root ≡ moved (pos 0, pos 0) start
    root_begins =
        flat_of_top at view root top
        ∙ ap (moved (pos 0, pos 0)) (offset_of_top at view root top ∙ ap (λ i. margin_corner i ((at root).item)) (sym (under_view at view (view_inputs view) root own_inputs)))

    abbrev spot : ℕ → ℕ × ℕ
    spot e = corner at linked shallow view root still (pos 0, pos 0) start root_begins e

    abbrev whole : ℕ × ℕ
    whole = far_down levels at (view_inputs view) (spot root) root

    rise : (d : ℕ) (below : Inputs) (p : ℕ) → (at d).parent ≡ Some p → clipped_by at d ≡ None → inputs_in_view at view d ≡ Some below
        → (over : Inputs) → inputs_in_view at view p ≡ Some over → (at d).item.style.hidden ≡ false → Contains (kids_of (at p)) d
        → (clipped_by at p ≡ None → IsWithin (far_down levels at over (spot p) p) whole) → IsWithin (far_down levels at below (spot d) d) whole
    rise d below p up free is over there shown kid further = by_clip (clips (at p)) refl
      where
        by : clipped_by at d ≡ cond (clips (at p)) (Some p) (clipped_by at p)
        by = clipped_held at shallow d p (held_by_parent at linked listed shallow once view root still d p ((root_of d below is).0) up)

        by_clip : (closed : Bool) → clips (at p) ≡ closed → IsWithin (far_down levels at below (spot d) d) whole
        by_clip true closed = let both : Some p ≡ None = sym (by ∙ ap (λ b. cond b (Some p) (clipped_by at p)) closed) ∙ free in absurd (cc)
        by_clip false opens =
            let above : clipped_by at p ≡ None = sym (by ∙ ap (λ b. cond b (Some p) (clipped_by at p)) opens) ∙ free in
            let inside : is_in_path at root p ≡ true = (root_of p over there).0 in
            subst
            (λ i. IsWithin (far_down levels at i (spot d) d) whole)
            (same_inputs _ _ (sym (kid_found at linked shallow view root still (pos 0, pos 0) start root_begins p inside over there d kid shown) ∙ is))
            (then_under _ _ _
            (kid_under at linked shallow view root still (pos 0, pos 0) start root_begins p inside over there d kid shown)
            (then_under _ _ _ (inside_under at linked shallow view root still (pos 0, pos 0) start root_begins p inside over there opens) (further above)))

    ascend : (high d : ℕ) (below : Inputs) → depth_of at d ≤ high → clipped_by at d ≡ None → inputs_in_view at view d ≡ Some below → IsWithin (far_down levels at below (spot d) d) whole
    ascend zero d below low free is = absurd (omega (arith, depth_least at d))
    ascend (suc high) d below low free is =
        elim (option_cases ((at d).parent)) [
          | inl none ↦
              let same : d ≡ root = (boxed_top at root d none ((root_of d below is).1)).1 in
              at_root d below same is
          | inr p ↦
              let up = parent_boxed at shallow view d p.0 below p.1 is in
              rise d below p.0 p.1 free is (up.0) (up.1) (up.2) (kids_of_block ((at p.0).item.kind) ((at p.0).children) d (up.3) (listed d p.0 p.1))
              (λ above. ascend high p.0 (up.0) (omega (arith, depth_child at d p.0 p.1 (shallow p.0))) above (up.1))
        ]
      where
        at_root : (d : ℕ) (below : Inputs) → d ≡ root → inputs_in_view at view d ≡ Some below → IsWithin (far_down levels at below (spot d) d) whole
        at_root d below same is =
            let own : below ≡ view_inputs view = same_inputs _ _ (sym is ∙ ap (inputs_in_view at view) same ∙ own_inputs) in
            subst (λ i. IsWithin (far_down levels at i (spot d) d) whole) (sym own) (subst (λ m. IsWithin (far_down levels at (view_inputs view) (spot m) m) whole) (sym same) (omega arith, omega arith))

    abbrev farthest_of_view : ℕ × ℕ
    farthest_of_view = farthest at view (pos 0, pos 0) (view_size view) (reached_by_view at view)

    view_under : IsWithin farthest_of_view (larger (view_size view) whole)
    view_under =
        far_bounded at view (pos 0, pos 0) (view_size view) (larger (view_size view) whole) (reached_by_view at view) (omega arith, omega arith)
        (λ d among.
        let free = (unclipped at view d among).0 in
        edges_if at view (pos 0, pos 0) (larger (view_size view) whole) d
        (λ below is.
        let inside : is_in_path at root d ≡ true = (root_of d below is).0 in
        subst (λ e. IsWithin e (larger (view_size view) whole))
        (sym (edges_left at view (pos 0, pos 0) (pos 0, pos 0) (0, 0) (spot d) refl d below (place_is at linked shallow view root still (pos 0, pos 0) start root_begins d inside)))
        (larger_right _ whole _
        (uncut _ whole
        (then_under _ _ _ (own_under at linked shallow view root still (pos 0, pos 0) start root_begins d inside below is) (ascend (depth_of at d) d below (omega arith) free is))))))

    abbrev Free : ℕ → Type 0
    Free e = (clipped_by at e ≡ None) × (is_on_screen at e ≡ false)

    whole_under : IsWithin whole farthest_of_view
    whole_under = down at linked shallow once view root still (pos 0, pos 0) start root_begins farthest_of_view Free on bound levels root (view_inputs view) (in_self at root) free own_inputs
      where
        free : Free root
        free = let page = holder_of_top at root top in (clipped_unheld at root (ap element_of page), on_screen_unheld at root (ap element_of page) ∙ ap is_screen page)

        on : (c p : ℕ) → (at c).parent ≡ Some p → is_in_path at root p ≡ true → Free p → clips (at p) ≡ false → Free c
        on c p up inside above opens =
            let held = held_by_parent at linked listed shallow once view root still c p (above_in at shallow root c p up inside) up in
            (clipped_held at shallow c p held ∙ ap (λ b. cond b (Some p) (clipped_by at p)) opens ∙ above.0, on_screen_held at shallow c p held ∙ above.1)

        bound : (d : ℕ) (below : Inputs) → is_in_path at root d ≡ true → Free d → inputs_in_view at view d ≡ Some below → IsWithin (plus (spot d) (border_size (box_in at below d))) farthest_of_view
        bound d below inside unheld is =
            uncut_zero _ farthest_of_view
            (subst (λ e. IsWithin e farthest_of_view)
            (edges_known at view (pos 0, pos 0) (pos 0, pos 0) (0, 0) (spot d) refl d below (place_is at linked shallow view root still (pos 0, pos 0) start root_begins d inside) is)
            (edges_within at view (pos 0, pos 0) (view_size view) (reached_by_view at view) d (reached_in_view at listed shallow view below d is unheld.0 unheld.1)))

    pub shown_reach : reach_of_view at view ≡ capped (larger (view_size view) (far_down levels at (view_inputs view) (margin_corner (view_inputs view) ((at root).item)) root))
    shown_reach =
        view_is at view
        ∙ ap capped
        (same_within farthest_of_view (larger (view_size view) whole) view_under
        (both_under _ _ farthest_of_view (size_within at view (pos 0, pos 0) (view_size view) (reached_by_view at view)) whole_under))
        ∙ ap (λ place. capped (larger (view_size view) (far_down levels at (view_inputs view) place root))) (corner_start at linked shallow view root still (pos 0, pos 0) start root_begins)
