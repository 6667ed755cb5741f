-- What a container or a viewport reaches over, by what holds boxes.
use Rattle.std.proofs.Common.{◌≡◌, ◌≤◌, ◌<◌, ◌⊎◌, inl, inr, ℕ, zero, suc, Bool, true, false, cond, Option, Some, None, List, [], ◌∷◌, refl, ap, sym, subst, ◌∙◌, arith, eqb-true, eq-eqb}
use Rattle.std.proofs.lemmas.Bool.{false≢true, and_parts}
use Rattle.std.specs.Prelude.{◌==◌, ◌&&◌, not, find, is_some, pos, Contains}
use Rattle.layout_model.specs.Styles.{Style}
use Rattle.layout_model.specs.Clips.{clips, is_block}
use Rattle.layout_model.specs.Nodes.{Node, path_of, ancestors_of, depth_of, is_in_path, Holder, HeldByElement, HeldByPage, HeldByScreen, held_by, holder, element_of, is_screen, holders_of, is_on_screen, is_static, is_positioned, IsListed, IsShallow}
use Rattle.layout_model.specs.Boxes.{Inputs, has_box_along, has_box_in, box_in, padding_size}
use Rattle.layout_model.specs.Points.{moved, capped}
use Rattle.layout_model.specs.Views.{View, view_inputs, view_size, inputs_in_view}
use Rattle.layout_model.specs.FlatPlaces.{flat_place, border_corner}
use Rattle.layout_model.specs.Reach.{clipped_by, is_it, tree_in, reached_by, reached_by_view, reach_of, reach_of_view}
use Rattle.layout_model.proofs.Ancestors.{option_cases, found_among, in_self, above_in, in_path_trans, in_path_depth, proper_depth}
use Rattle.layout_model.proofs.Farthest.{kept, passed, it_is}
use Rattle.layout_model.proofs.Holders.{top_static, holder_of_top, holders_of_held, holders_of_unheld, on_screen_held, on_screen_unheld, holders_above, holders_less}
use Rattle.layout_model.proofs.Inputs.{box_child, box_top, in_view, is_some_inputs, under_view, view_root, boxed_top, inputs_boxed}
use Rattle.layout_model.proofs.Paths.{depth_child, depth_least, ancestors_top}
use Rattle.layout_model.proofs.Reaches.{reach_is, view_is, shown_in_tree}
use Rattle.element_tree.specs.Forest.{Knot, IsForest, children_of}
use Rattle.element_tree.proofs.Facts.{listed_child}
use Rattle.positioned_layout.specs.declared.Measure.{Measure}
use Rattle.positioned_layout.specs.declared.insets.Axis.{Axis}
use Rattle.positioned_layout.specs.declared.insets.Axis.TheVariants.{Across, Down}
use Rattle.positioned_layout.specs.declared.reaches.Farthest.{Farthest}
use Rattle.positioned_layout.specs.Along.{part}
use Rattle.positioned_layout.specs.Measured.{Measured, IsMeasuredAt, IsComeTo, is_come_to}
use Rattle.positioned_layout.specs.Seen.{as_place, pair_of_size, seen_measure}
use Rattle.positioned_layout.specs.Trees.{AreNodesOf}
use Rattle.positioned_layout.specs.Walked.{absolute_in, opens_in, opens_view, IsFar, IsReached, IsReachedIn, IsOpenIn}
use Rattle.positioned_layout.proofs.Nodes.{shallow, listed}
use Rattle.positioned_layout.proofs.Numbers.{pair_is}
use Rattle.positioned_layout.proofs.Placing.{boxed_above}
use Rattle.positioned_layout.proofs.Walking.{absolute_outer, far_join, far_none, far_list, in_a_child}

module _ (at : ℕ → Node) (shallow : IsShallow at) where
  clipped_held : (d h : ℕ) → holder at d ≡ HeldByElement h → clipped_by at d ≡ cond (clips (at h)) (Some h) (clipped_by at h)
  unfolding clipped_by
  clipped_held d h is = ap (find (λ m. clips (at m))) (holders_of_held at shallow d h is)

  clipped_none : (d : ℕ) → holders_of at d ≡ [] → clipped_by at d ≡ None
  unfolding clipped_by
  clipped_none d is = ap (find (λ m. clips (at m))) is

  -- no box is clipped by itself, nor by what is as deep
  clipped_less : (d m : ℕ) → clipped_by at d ≡ Some m → depth_of at m < depth_of at d
  unfolding clipped_by
  clipped_less d m is = holders_less at shallow m d (found_among (λ h. clips (at h)) (holders_of at d) m is)

  pub clipped_above : (d m : ℕ) → clipped_by at d ≡ Some m → is_in_path at m d ≡ true
  unfolding clipped_by
  clipped_above d m is = holders_above at shallow m d (found_among (λ h. clips (at h)) (holders_of at d) m is)

  not_above : (n a : ℕ) → depth_of at a ≤ depth_of at n → is_it n (clipped_by at a) ≡ false
  not_above n a low = by_found (clipped_by at a) refl
    where
      by_test : (m : ℕ) (test : Bool) → (m == n) ≡ test → depth_of at m < depth_of at a → (m == n) ≡ false
      by_test m false is less = is
      by_test m true is less = let same : depth_of at m ≡ depth_of at n = ap (depth_of at) (eqb-true m n is) in absurd (omega (arith, same, less, low))

      by_found : (found : Option ℕ) → clipped_by at a ≡ found → is_it n (clipped_by at a) ≡ false
      by_found None is = ap (is_it n) is
      by_found (Some m) is = ap (is_it n) is ∙ by_test m (m == n) refl (clipped_less a m is)

  it_cond : (n h : ℕ) (cut : Bool) (found : Option ℕ) → is_it n (cond cut (Some h) found) ≡ cond cut (h == n) (is_it n found)
  it_cond n h true found = refl
  it_cond n h false found = refl

  -- a container reaches over what it is the nearest clipping one to hold
  pub opens_reached : (n d : ℕ) → opens_in at n (holder at d) ≡ is_it n (clipped_by at d)
  opens_reached n d = by_holder (holder at d) refl
    where
      by_holder : (by : Holder) → holder at d ≡ by → opens_in at n (holder at d) ≡ is_it n (clipped_by at d)
      by_holder (HeldByElement h) is = ap (opens_in at n) is ∙ sym (ap (is_it n) (clipped_held d h is) ∙ it_cond n h (clips (at h)) (clipped_by at h))
      by_holder HeldByPage is = ap (opens_in at n) is ∙ sym (ap (is_it n) (clipped_none d (holders_of_unheld at d (ap element_of is))))
      by_holder HeldByScreen is = ap (opens_in at n) is ∙ sym (ap (is_it n) (clipped_none d (holders_of_unheld at d (ap element_of is))))

  pub opens_inside : (n : ℕ) → IsOpenIn at n (opens_in at n)
  opens_inside n c p inside up =
      let deep : depth_of at n ≤ depth_of at p = in_path_depth at shallow n p inside in
      let one = depth_child at c p up (shallow p) in
      let other : (c == n) ≡ false = differs (c == n) refl (omega (arith, deep, one)) in
      ap (λ b. cond (clips (at c)) b (is_it n (clipped_by at c))) other
      ∙ open_not (clips (at c)) (is_it n (clipped_by at c))
      ∙ ap (λ b. b && not (clips (at c))) (sym (opens_reached n c))
    where
      differs : (test : Bool) → (c == n) ≡ test → depth_of at n < depth_of at c → (c == n) ≡ false
      differs false is less = is
      differs true is less = let same : depth_of at c ≡ depth_of at n = ap (depth_of at) (eqb-true c n is) in absurd (omega (arith, same, less))

      open_not : (cut reached : Bool) → cond cut false reached ≡ (reached && not cut)
      open_not true true = refl
      open_not true false = refl
      open_not false true = refl
      open_not false false = refl

  pub opens_self : (n : ℕ) → opens_in at n (HeldByElement n) ≡ clips (at n)
  opens_self n =
      let same : (n == n) ≡ true = eq-eqb n n refl in
      ap (λ b. cond (clips (at n)) b (is_it n (clipped_by at n))) same ∙ ap (cond (clips (at n)) true) (not_above n n (omega arith)) ∙ itself (clips (at n))
    where
      itself : (b : Bool) → cond b true false ≡ b
      itself true = refl
      itself false = refl

  pub outer_closed : (n : ℕ) → opens_in at n (held_by (find (λ a. is_positioned (at a)) (ancestors_of at n))) ≡ false
  outer_closed n = by_found (find (λ a. is_positioned (at a)) (ancestors_of at n)) refl
    where
      by_test : (a : ℕ) (test : Bool) → (a == n) ≡ test → depth_of at a < depth_of at n → (a == n) ≡ false
      by_test a false is less = is
      by_test a true is less = let same : depth_of at a ≡ depth_of at n = ap (depth_of at) (eqb-true a n is) in absurd (omega (arith, same, less))

      either : (cut : Bool) → cond cut false false ≡ false
      either true = refl
      either false = refl

      by_found : (found : Option ℕ) → find (λ a. is_positioned (at a)) (ancestors_of at n) ≡ found → opens_in at n (held_by (find (λ a. is_positioned (at a)) (ancestors_of at n))) ≡ false
      by_found None is = ap (λ o. opens_in at n (held_by o)) is
      by_found (Some a) is =
          let less : depth_of at a < depth_of at n = proper_depth at shallow a n (found_among (λ m. is_positioned (at m)) (ancestors_of at n) a is) in
          ap (λ o. opens_in at n (held_by o)) is
          ∙ ap (λ b. cond (clips (at a)) b (is_it n (clipped_by at a))) (by_test a (a == n) refl less)
          ∙ ap (cond (clips (at a)) false) (not_above n a (omega (arith, less)))
          ∙ either (clips (at a))

  -- a viewport reaches over what no box clips, and the page holds
  pub view_reached : (d : ℕ) → opens_view at (holder at d) ≡ (not (is_some (clipped_by at d)) && not (is_on_screen at d))
  view_reached d = by_holder (holder at d) refl
    where
      some_cond : (h : ℕ) (cut screen : Bool) (found : Option ℕ) → (not (is_some (cond cut (Some h) found)) && not screen) ≡ (not cut && (not (is_some found) && not screen))
      some_cond h true screen found = refl
      some_cond h false screen found = refl

      by_holder : (by : Holder) → holder at d ≡ by → opens_view at (holder at d) ≡ (not (is_some (clipped_by at d)) && not (is_on_screen at d))
      by_holder (HeldByElement h) is =
          ap (opens_view at) is
          ∙ sym
          (ap (λ o. not (is_some o) && not (is_on_screen at d)) (clipped_held d h is)
          ∙ ap (λ b. not (is_some (cond (clips (at h)) (Some h) (clipped_by at h))) && not b) (on_screen_held at shallow d h is)
          ∙ some_cond h (clips (at h)) (is_on_screen at h) (clipped_by at h))
      by_holder HeldByPage is =
          ap (opens_view at) is
          ∙ sym
          (ap (λ o. not (is_some o) && not (is_on_screen at d)) (clipped_none d (holders_of_unheld at d (ap element_of is)))
          ∙ ap not (on_screen_unheld at d (ap element_of is) ∙ ap is_screen is))
      by_holder HeldByScreen is =
          ap (opens_view at) is
          ∙ sym
          (ap (λ o. not (is_some o) && not (is_on_screen at d)) (clipped_none d (holders_of_unheld at d (ap element_of is)))
          ∙ ap not (on_screen_unheld at d (ap element_of is) ∙ ap is_screen is))

  pub view_inside : (n : ℕ) → IsOpenIn at n (opens_view at)
  view_inside n c p inside up = turn (clips (at c)) _ ∙ ap (λ b. b && not (clips (at c))) (sym (view_reached c))
    where
      turn : (cut reached : Bool) → (not cut && reached) ≡ (reached && not cut)
      turn true true = refl
      turn true false = refl
      turn false true = refl
      turn false false = refl

  pub view_root_opens : (root : ℕ) → (at root).parent ≡ None → opens_view at (HeldByElement root) ≡ true
  view_root_opens root top =
      ap (λ b. not b && (not (is_some (clipped_by at root)) && not (is_on_screen at root))) (unclipping _ ((at root).parent) top)
      ∙ sym (view_reached root) ∙ ap (opens_view at) (holder_of_top at root top)
    where
      unclipping : (cuts : Bool) (found : Option ℕ) → found ≡ None → (cuts && is_some found) ≡ false
      unclipping true found is = ap is_some is
      unclipping false found is = refl

  pub not_clipped_by_itself : (n : ℕ) → clipped_by at n ≡ Some n → ⊥
  not_clipped_by_itself n is = let less = clipped_less n n is in absurd (omega (arith, less))

  above_within : (high root d : ℕ) → depth_of at d ≤ high → has_box_in at root d ≡ true → is_in_path at root d ≡ true
  above_within zero root d low boxed = absurd (omega (arith, depth_least at d))
  above_within (suc high) root d low boxed =
      elim (option_cases ((at d).parent)) [
        | inl top ↦
            let same : (d == root) ≡ true = both_true (not ((at d).item.style.hidden)) (d == root) (sym (box_top at root d top) ∙ boxed) in
            subst (λ m. is_in_path at m d ≡ true) (eqb-true d root same) (in_self at d)
        | inr p ↦
            let outer : has_box_in at root p.0 ≡ true
            = both_true (is_block ((at p.0).item.kind)) (has_box_in at root p.0) (both_true (not ((at d).item.style.hidden)) _ (sym (box_child at root d p.0 p.1 (shallow p.0)) ∙ boxed)) in
            above_in at shallow root d p.0 p.1 (above_within high root p.0 (omega (arith, depth_child at d p.0 p.1 (shallow p.0))) outer)
      ]
    where
      both_true : (a b : Bool) → (a && b) ≡ true → b ≡ true
      both_true true b is = is
      both_true false b is = absurd (false≢true is)

  -- who has a box in a view lies in its root element
  pub root_above : (view : View) (root d : ℕ) → view.root ≡ Some root → is_some (inputs_in_view at view d) ≡ true → is_in_path at root d ≡ true
  root_above view root d is boxed =
      above_within (depth_of at d) root d (omega arith) (sym (ap is_some (in_view at view root d is) ∙ is_some_inputs at root (view_inputs view) d) ∙ boxed)

-- what is measured of all boxes in a view is so of a node with a box and its ancestors
pub comes_to : (at : ℕ → Node) → IsShallow at → (view : View) (n m : ℕ) → is_in_path at m n ≡ true → is_some (inputs_in_view at view n) ≡ true → IsComeTo at view m
comes_to at shallow view n m inside boxed = by_parent ((at m).parent) refl
  where
    by_parent : (parent : Option ℕ) → (at m).parent ≡ parent → is_come_to at view m parent
    by_parent None top = elim (option_cases (inputs_in_view at view m)) [
      | inl none ↦ absurd (false≢true (sym (ap is_some none) ∙ boxed_above at shallow view m n inside boxed))
      | inr own ↦
          let found = view_root at view own.0 m own.1 in
          found.1 ∙ ap Some (sym ((boxed_top at found.0 m top (inputs_boxed at found.0 (view_inputs view) own.0 m found.2)).1))
    ]
    by_parent (Some p) up = boxed_above at shallow view p n (in_path_trans at shallow p m n (above_in at shallow p m p up (in_self at p)) inside) boxed

-- what would hold an absolute box in a root element
pub absolute_top : (at : ℕ → Node) → IsShallow at → (root : ℕ) → (at root).parent ≡ None → absolute_in at root ≡ HeldByPage
absolute_top at shallow root top =
    absolute_outer at shallow root (ap (λ q. not (is_static q)) (top_static at root top))
    ∙ ap (λ above. held_by (find (λ a. is_positioned (at a)) above)) (ancestors_top at root top)

with_box : (at : ℕ → Node) → IsListed at → IsShallow at → (view : View) (d : ℕ) → is_some (inputs_in_view at view d) ≡ true → Contains (tree_in at (view.root)) d
with_box at listed shallow view d boxed = by_inputs (inputs_in_view at view d) refl boxed
  where
    by_inputs : (found : Option Inputs) → inputs_in_view at view d ≡ found → is_some found ≡ true → Contains (tree_in at (view.root)) d
    by_inputs None is some = absurd (false≢true some)
    by_inputs (Some inputs) is some = shown_in_tree at listed shallow view inputs d is

-- both axes
pair_parts : (a b : ℕ × ℕ) → ((axis : Axis) → part axis a ≡ part axis b) → a ≡ b
pair_parts a b same = pair_is (a.0) (a.1) (b.0) (b.1) (same Across) (same Down)

module _ {P : Type 0} (placed : P → Style) (nodes : List (Knot P)) (at : ℕ → Node) (are : AreNodesOf placed nodes at) {most : ℕ} (forest : IsForest most nodes) (view : View) where
  -- what a container reaches over lies in its children
  pub container_far : (n : ℕ) (inputs : Inputs) (own : Measure) (first last : Farthest) → inputs_in_view at view n ≡ Some inputs → IsMeasuredAt at view n (seen_measure own)
      → first.corner ≡ as_place (moved (flat_place at view n) (border_corner ((at n).item))) → first.size ≡ own.padding
      → IsFar at view (IsReachedIn at view (opens_in at n) (children_of nodes n)) first last → capped (pair_of_size (last.size)) ≡ reach_of at view n
  container_far n inputs own first last found own_is corner_is size_is far =
      ap capped
      (pair_parts _ _
      (far_list at view (IsReachedIn at view (opens_in at n) (children_of nodes n)) first last (moved (flat_place at view n) (border_corner ((at n).item))) (padding_size (box_in at inputs n)) (reached_by at view n)
      corner_is
      (ap pair_of_size size_is ∙ ap (λ (m : Measured). m.padding) own_is ∙ ap (λ i. padding_size (box_in at i n)) (sym (under_view at view inputs n found)))
      far inside outside))
      ∙ sym (reach_is at view inputs n found)
    where
      low : IsShallow at
      low = shallow placed nodes at are forest

      inside : (d : ℕ) → IsReachedIn at view (opens_in at n) (children_of nodes n) d → Contains (reached_by at view n) d
      inside d here =
          kept (λ e. is_it n (clipped_by at e)) (tree_in at (view.root)) d (with_box at (listed placed nodes at are forest) low view d (here.1.boxed)) (sym (opens_reached at low n d) ∙ here.1.held)

      outside : (d : ℕ) → Contains (reached_by at view n) d → is_some (inputs_in_view at view d) ≡ true → IsReachedIn at view (opens_in at n) (children_of nodes n) d
      outside d among boxed =
          let passes : is_it n (clipped_by at d) ≡ true = passed (λ e. is_it n (clipped_by at e)) (tree_in at (view.root)) d among in
          let is = it_is n (clipped_by at d) passes in
          elim (in_a_child at low n d (clipped_above at low d n is)) [
            | inl same ↦ absurd (not_clipped_by_itself at low d (is ∙ ap Some same))
            | inr by ↦ ((by.0, listed_child forest by.0 n (sym (are.parent by.0) ∙ by.1), by.2), record { boxed = boxed; held = opens_reached at low n d ∙ passes })
          ]

  -- what a viewport reaches over is its root element, or lies in it
  module _ (root : ℕ) (is : view.root ≡ Some root) where
    abbrev All : ℕ → Type 0
    All d = ((d ≡ root) × IsReached at view (opens_view at) d) ⊎ IsReachedIn at view (opens_view at) (children_of nodes root) d

    view_in : (d : ℕ) → IsReached at view (opens_view at) d → Contains (reached_by_view at view) d
    view_in d reached =
        let low = shallow placed nodes at are forest in
        kept (λ e. not (is_some (clipped_by at e)) && not (is_on_screen at e)) (tree_in at (view.root)) d (with_box at (listed placed nodes at are forest) low view d (reached.boxed)) (sym (view_reached at low d) ∙ reached.held)

    view_out : (d : ℕ) → Contains (reached_by_view at view) d → is_some (inputs_in_view at view d) ≡ true → ((d ≡ root) × IsReached at view (opens_view at) d) ⊎ IsReachedIn at view (opens_view at) (children_of nodes root) d
    view_out d among boxed =
        let low = shallow placed nodes at are forest in
        let passes : (not (is_some (clipped_by at d)) && not (is_on_screen at d)) ≡ true = passed (λ e. not (is_some (clipped_by at e)) && not (is_on_screen at e)) (tree_in at (view.root)) d among in
        let reached : IsReached at view (opens_view at) d = record { boxed = boxed; held = view_reached at low d ∙ passes } in
        elim (in_a_child at low root d (root_above at low view root d is boxed)) [
          | inl same ↦ inl (sym same, reached)
          | inr by ↦ inr ((by.0, listed_child forest by.0 root (sym (are.parent by.0) ∙ by.1), by.2), reached)
        ]

    pub view_far : (first mid last : Farthest) → first.corner ≡ as_place (pos 0, pos 0) → pair_of_size (first.size) ≡ view_size view → mid.corner ≡ first.corner
        → IsFar at view (λ d. (d ≡ root) × IsReached at view (opens_view at) d) first mid → IsFar at view (IsReachedIn at view (opens_view at) (children_of nodes root)) mid last
        → capped (pair_of_size (last.size)) ≡ reach_of_view at view
    view_far first mid last corner_is size_is same own kids =
        ap capped
        (pair_parts _ _
        (far_list at view All first last (pos 0, pos 0) (view_size view) (reached_by_view at view) corner_is size_is
        (far_join at view (λ d. (d ≡ root) × IsReached at view (opens_view at) d) (IsReachedIn at view (opens_view at) (children_of nodes root)) All first mid last same own kids
        (λ d here. here) (λ d here. inl here) (λ d here. inr here))
        (λ d here. elim here [ inl it ↦ view_in d it.1 | inr deeper ↦ view_in d deeper.1 ])
        view_out))
        ∙ sym (view_is at view)

-- without a box of the root element there is none
module _ (at : ℕ → Node) (view : View) (root : ℕ) (is : view.root ≡ Some root) where
  shown_root : (path : List ℕ) → has_box_along at root path ≡ true → not ((at root).item.style.hidden) ≡ true
  unfolding has_box_along
  shown_root [] boxed = absurd (false≢true boxed)
  shown_root (n ∷ []) boxed =
      let same : n ≡ root = eqb-true n root (and_parts (not ((at n).item.style.hidden)) (n == root) boxed).1 in
      subst (λ m. not ((at m).item.style.hidden) ≡ true) same (and_parts (not ((at n).item.style.hidden)) (n == root) boxed).0
  shown_root (n ∷ m ∷ more) boxed = over (shown_root (m ∷ more)) ((and_parts (is_block ((at m).item.kind)) (has_box_along at root (m ∷ more)) (and_parts (not ((at n).item.style.hidden)) _ boxed).1).1)
    where
      over : (has_box_along at root (m ∷ more) ≡ true → not ((at root).item.style.hidden) ≡ true) → has_box_along at root (m ∷ more) ≡ true → not ((at root).item.style.hidden) ≡ true
      over rest here = rest here

  root_boxed : (at root).parent ≡ None → (d : ℕ) → is_some (inputs_in_view at view d) ≡ true → is_some (inputs_in_view at view root) ≡ true
  unfolding has_box_in
  root_boxed top d boxed =
      let within : has_box_in at root d ≡ true = sym (ap is_some (in_view at view root d is) ∙ is_some_inputs at root (view_inputs view) d) ∙ boxed in
      let shown = shown_root (path_of at d) within in
      let same : (root == root) ≡ true = eq-eqb root root refl in
      ap is_some (in_view at view root root is) ∙ is_some_inputs at root (view_inputs view) root ∙ box_top at root root top ∙ ap (λ b. b && root == root) shown ∙ same

  pub view_bare : (at root).parent ≡ None → (first : Farthest) → first.corner ≡ as_place (pos 0, pos 0) → pair_of_size (first.size) ≡ view_size view → (is_some (inputs_in_view at view root) ≡ true → ⊥) → capped (pair_of_size (first.size)) ≡ reach_of_view at view
  view_bare top first corner_is size_is unboxed =
      ap capped
      (pair_parts _ _
      (far_list at view (λ d. ⊥) first first (pos 0, pos 0) (view_size view) (reached_by_view at view) corner_is size_is (far_none at view (λ d. ⊥) first (λ d none. none))
      (λ d none. absurd none)
      (λ d among boxed. unboxed (root_boxed top d boxed))))
      ∙ sym (view_is at view)
