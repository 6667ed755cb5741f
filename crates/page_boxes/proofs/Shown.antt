-- Sizes, corners and places that are read of a world.
use Rattle.std.proofs.Common.{◌≡◌, ℕ, zero, suc, ℤ, Bool, true, false, cond, Some, None, option_map, unwrap_or, refl, ap, sym, ◌∙◌, arith, min}
use Rattle.std.specs.Prelude.{pos, negsuc, ⊤}
use Rattle.px_units.specs.declared.BoxKind.{BoxKind}
use Rattle.layout_model.specs.Nodes.{Node, holders_of, is_on_screen}
use Rattle.layout_model.specs.Boxes.{Box, content_corner}
use Rattle.layout_model.specs.Clips.{is_scroll_container}
use Rattle.layout_model.specs.Points.{plus, moved_back, sum_points}
use Rattle.layout_model.specs.Views.{View}
use Rattle.layout_model.specs.FlatPlaces.{flat_place}
use Rattle.layout_model.specs.Reach.{in_force, force_if, range_of, range_of_view, offset_in_force, view_in_force}
use Rattle.layout_model.specs.Places.{view_scroll, place_in}
use Rattle.page_model.specs.World.{Screen, Scrolls, Tree}
use Rattle.page_model.specs.Lookups.{element_at}
use Rattle.page_model.specs.Documents.{nodes_of}
use Rattle.page_model.specs.PageBoxes.{pair_of, stored_in, scrolled_view, has_box, box_of, size_by, size_of, corner_of, point_of, place_if, place_of}
use Rattle.page_model.specs.Readings.{point_at}
use Rattle.block_layout.specs.Seen.{as_size, as_point}
use Rattle.kept_layout.proofs.Climbed.{pair_is}
use Rattle.page_boxes.proofs.Unscrolled.{flat_same, force_same, view_range_same}

module _ (tree : Tree) (screen : Screen) (n : ℕ) where
  pub size_found : (kind : BoxKind) (own : Box) → Some own ≡ box_of tree screen n → as_size (size_by (screen.ratio) kind own) ≡ as_size (pair_of (size_of tree screen n kind))
  unfolding size_of
  size_found kind own found = ap (λ o. as_size (unwrap_or (option_map (size_by (screen.ratio) kind) o) (0, 0))) found

  pub size_none : (kind : BoxKind) → None ≡ box_of tree screen n → as_size (0, 0) ≡ as_size (pair_of (size_of tree screen n kind))
  unfolding size_of
  size_none kind found = ap (λ o. as_size (unwrap_or (option_map (size_by (screen.ratio) kind) o) (0, 0))) found

  pub corner_found : (own : Box) → Some own ≡ box_of tree screen n → as_point (content_corner own) ≡ point_at (corner_of tree screen n)
  unfolding corner_of
  corner_found own found = ap (λ o. as_point (unwrap_or (option_map content_corner o) (0, 0))) found

  pub corner_none : None ≡ box_of tree screen n → as_point (0, 0) ≡ point_at (corner_of tree screen n)
  unfolding corner_of
  corner_none found = ap (λ o. as_point (unwrap_or (option_map content_corner o) (0, 0))) found

-- nothing is stored
force_none : (range : ⊤ → ℕ × ℕ) (x y : ℕ) → x ≡ 0 → y ≡ 0 → in_force x y range ≡ (0, 0)
force_none range zero zero none nothing = refl
force_none range zero (suc y) none nothing = absurd (omega arith)
force_none range (suc x) y none nothing = absurd (omega arith)

if_none : (scrolls : Bool) (stored : ℕ × ℕ) (range : ⊤ → ℕ × ℕ) → stored ≡ (0, 0) → force_if scrolls stored range ≡ (0, 0)
if_none true stored range none = force_none range (stored.0) (stored.1) (ap (λ p. p.0) none) (ap (λ p. p.1) none)
if_none false stored range none = refl

pub offset_still : (at : ℕ → Node) (stored : ℕ → ℕ × ℕ) (view : View) (n : ℕ) → stored n ≡ (0, 0) → offset_in_force at stored view n ≡ (0, 0)
unfolding offset_in_force
offset_still at stored view n still = if_none (is_scroll_container (at n)) (stored n) (λ u. range_of at view n) still

-- the lesser of a stored position and a range, on each axis
force_is : (x y : ℕ) (range : ⊤ → ℕ × ℕ) → in_force x y range ≡ (min x (range tt).0, min y (range tt).1)
force_is zero zero range = pair_is 0 0 (min 0 (range tt).0, min 0 (range tt).1) (omega arith) (omega arith)
force_is zero (suc y) range = refl
force_is (suc x) y range = refl

module _ (at : ℕ → Node) (stored : ℕ → ℕ × ℕ) (view : View) (scrolled : ℕ × ℕ) where
  pub view_force : view_in_force at (record view { scrolled = scrolled }) ≡ (min (scrolled.0) (range_of_view at view).0, min (scrolled.1) (range_of_view at view).1)
  unfolding view_in_force
  view_force =
      force_is (scrolled.0) (scrolled.1) (λ u. range_of_view at (record view { scrolled = scrolled }))
      ∙ ap {B = ℕ × ℕ} (λ range. (min (scrolled.0) range.0, min (scrolled.1) range.1)) (view_range_same at view scrolled)

  view_shift : (screen : Bool) (left top : ℕ) → ◌≡◌ {A = ℕ × ℕ} (left, top) (view_in_force at (record view { scrolled = scrolled }))
      → ◌≡◌ {A = ℕ × ℕ} (cond screen (0, 0) (left, top)) (view_scroll at (record view { scrolled = scrolled }) screen)
  view_shift true left top is = refl
  view_shift false left top is = is

  -- a place is the flat one, less what is scrolled
  pub place_found : (n : ℕ) (flat : ℤ × ℤ) (on_screen : Bool) (shift around : ℕ × ℕ) (left top : ℕ) → flat ≡ flat_place at view n → on_screen ≡ is_on_screen at n
      → shift ≡ sum_points (offset_in_force at stored view) (holders_of at n)
      → ◌≡◌ {A = ℕ × ℕ} (left, top) (view_in_force at (record view { scrolled = scrolled })) → around ≡ cond on_screen (0, 0) (left, top)
      → moved_back flat (plus shift around) ≡ place_in at stored (record view { scrolled = scrolled }) n
  unfolding place_in
  place_found n flat on_screen shift around left top placed ends sums forced moves =
      ap (λ p. moved_back p (plus shift around)) (placed ∙ sym (flat_same at view scrolled n))
      ∙ ap (λ s. moved_back (flat_place at (record view { scrolled = scrolled }) n) (plus s around))
      (sums ∙ ap (λ f. sum_points f (holders_of at n)) (sym (force_same at view scrolled stored)))
      ∙ ap (λ v. moved_back (flat_place at (record view { scrolled = scrolled }) n) (plus (sum_points (offset_in_force at stored (record view { scrolled = scrolled })) (holders_of at n)) v))
      (moves ∙ view_shift on_screen left top forced ∙ ap (view_scroll at (record view { scrolled = scrolled })) ends)

pub offset_force : (at : ℕ → Node) (stored : ℕ → ℕ × ℕ) (view : View) (n : ℕ) → is_scroll_container (at n) ≡ true
    → offset_in_force at stored view n ≡ (min (stored n).0 (range_of at view n).0, min (stored n).1 (range_of at view n).1)
unfolding offset_in_force
offset_force at stored view n scrolls =
    ap (λ b. force_if b (stored n) (λ u. range_of at view n)) scrolls ∙ force_is (stored n).0 (stored n).1 (λ u. range_of at view n)

pub offset_none : (at : ℕ → Node) (stored : ℕ → ℕ × ℕ) (view : View) (n : ℕ) → is_scroll_container (at n) ≡ false → offset_in_force at stored view n ≡ (0, 0)
unfolding offset_in_force
offset_none at stored view n none = ap (λ b. force_if b (stored n) (λ u. range_of at view n)) none

module _ (tree : Tree) (screen : Screen) (scrolls : Scrolls) (n : ℕ) where
  pub place_none : has_box tree screen n ≡ false → point_of (pos 0, pos 0) ≡ place_of tree screen scrolls n
  unfolding place_of
  place_none none = sym (ap (place_if tree screen scrolls n) none)

  pub place_there : has_box tree screen n ≡ true → point_of (place_in (nodes_of tree) (stored_in scrolls) (scrolled_view tree screen scrolls ((element_at tree n).document)) n) ≡ place_of tree screen scrolls n
  unfolding place_of
  place_there there = sym (ap (place_if tree screen scrolls n) there)
