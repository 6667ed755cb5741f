-- What a page tells of boxes and viewports.
use Rattle.std.proofs.Common.{◌≡◌, ◌<◌, ◌≤◌, ℕ, zero, suc, ℤ, Bool, true, false, cond, List, [], ◌∷◌, length, Option, Some, None, option_map, unwrap_or, slice_get, refl, ap, sym, ◌∙◌, arith, nat_lt}
use Rattle.std.proofs.lemmas.Bool.Decides.{nat_tests}
use Rattle.std.proofs.lemmas.List.{length-map}
use Rattle.std.specs.Prelude.{is_some, not, ◌&&◌, pos, unsigned_abs}
use Rattle.px_units.specs.declared.Size.{Size}
use Rattle.px_units.specs.declared.Point.{Point}
use Rattle.layout_model.specs.Boxes.{Inputs, box_in, content_size}
use Rattle.layout_model.specs.Views.{View, inputs_in_view}
use Rattle.page_model.specs.World.{Screen, Element, Tree}
use Rattle.page_model.specs.Lookups.{element_at, no_element, document_at, no_extent}
use Rattle.page_model.specs.Documents.{nodes_of, is_number}
use Rattle.page_model.specs.PageBoxes.{pair_of, framed_size, view_of, viewport_of, view_at, inputs_of, has_box, box_of, point_of}
use Rattle.block_layout.specs.Seen.{as_size, as_point}
use Rattle.element_tree.specs.Forest.{Forest}
use Rattle.page_documents.specs.Seen.{element_of}
use Rattle.page_tree.specs.Items.{Described, IsNatural, carried_in}
use Rattle.page_tree.specs.Views.{PageElements, seen_with}
use Rattle.kept_layout.specs.declared.slots.Slot.{Slot}
use Rattle.kept_layout.specs.Slots.{held_in}
use Rattle.kept_layout.proofs.Climbed.{pair_is}
use Rattle.kept_layout.proofs.Exact.{held_fresh}
use Rattle.page_boxes.specs.Fresh.{IsFreshIn}
use Rattle.page_boxes.specs.Pages.{seen_pair}
use Rattle.page_boxes.proofs.Boxed.{boxed_top}
use Rattle.page_boxes.proofs.Parents.{some_found}
use Rattle.positioned_layout.proofs.Numbers.{pos_abs}

past_end : (elements : List Element) (n : ℕ) → length elements ≤ n → slice_get elements n ≡ None
past_end [] n past = refl
past_end (x ∷ elements) zero past = absurd (omega arith)
past_end (x ∷ elements) (suc n) past = past_end elements n (omega arith)

pub missing_element : (tree : Tree) (n : ℕ) → nat_lt n (length tree.elements) ≡ false → element_at tree n ≡ no_element
missing_element tree n past =
    let beyond : length tree.elements ≤ n = grind (arith, nat_tests) in
    ap (λ it. unwrap_or it no_element) (past_end tree.elements n beyond)

-- an element that wasn't made has no box in any view
pub absent_unboxed : (tree : Tree) (view : View) (n : ℕ) → nat_lt n (length tree.elements) ≡ false → is_some (inputs_in_view (nodes_of tree) view n) ≡ false
absent_unboxed tree view n past =
    let missing = missing_element tree n past in
    boxed_top (nodes_of tree) view n (ap (λ (it : Element). it.parent) missing)
    ∙ ap (λ (it : Element). not it.item.style.hidden && is_number view.root n) missing

none_mapped : {A B : Type 0} (f : A → B) (found : Option A) → is_some found ≡ false → option_map f found ≡ None
none_mapped f None none = refl
none_mapped f (Some x) none = cc

module _ (tree : Tree) (screen : Screen) (n : ℕ) where
  pub boxed_is : has_box tree screen n ≡ is_some (inputs_in_view (nodes_of tree) (view_at tree screen n) n)
  unfolding has_box inputs_of
  boxed_is = refl

  pub no_box : has_box tree screen n ≡ false → box_of tree screen n ≡ None
  unfolding has_box box_of
  no_box none = none_mapped (λ inputs. box_in (nodes_of tree) inputs n) (inputs_of tree screen n) none

  pub absent_no_box : nat_lt n (length tree.elements) ≡ false → has_box tree screen n ≡ false
  absent_no_box past = boxed_is ∙ absent_unboxed tree (view_at tree screen n) n past

  box_here : (inputs : Inputs) → inputs_in_view (nodes_of tree) (view_at tree screen n) n ≡ Some inputs → box_of tree screen n ≡ Some (box_in (nodes_of tree) inputs n)
  unfolding box_of inputs_of
  box_here inputs is = ap (option_map (λ i. box_in (nodes_of tree) i n)) is

  pub own_held : (kept : List Slot) → IsFreshIn tree screen kept (element_at tree n).document → has_box tree screen n ≡ true → held_in kept n ≡ box_of tree screen n
  own_held kept fresh boxed =
      let found = some_found (inputs_in_view (nodes_of tree) (view_at tree screen n) n) (sym boxed_is ∙ boxed) in
      held_fresh (nodes_of tree) kept n found.0 (fresh.boxes n found.0 found.1) ∙ sym (box_here found.0 found.1)

pub no_screen : Screen
no_screen = record { size = no_extent; ratio = 0 }

pub made_if_boxed : (tree : Tree) (screen : Screen) (n : ℕ) → has_box tree screen n ≡ true → n < length tree.elements
made_if_boxed tree screen n boxed = by_test (nat_lt n (length tree.elements)) refl
  where
    by_test : (b : Bool) → nat_lt n (length tree.elements) ≡ b → n < length tree.elements
    by_test true is = grind (arith, nat_tests)
    by_test false is = let clash : true ≡ false = sym boxed ∙ absent_no_box tree screen n is in cc

-- viewports
both_mapped : {A B C : Type 0} (f : A → B) (g : B → C) (found : Option A) → option_map (λ x. g (f x)) found ≡ option_map g (option_map f found)
both_mapped f g None = refl
both_mapped f g (Some x) = refl

module _ (tree : Tree) (screen : Screen) where
  pub framed_by_box : (frame : ℕ) → framed_size tree screen (view_of tree screen) (Some frame) ≡ option_map content_size (box_of tree screen frame)
  unfolding box_of inputs_of
  framed_by_box frame =
      both_mapped (λ inputs. box_in (nodes_of tree) inputs frame) content_size (inputs_in_view (nodes_of tree) (view_at tree screen frame) frame)

  pub viewport_found : (document : ℕ) (found : Option (ℕ × ℕ)) → found ≡ framed_size tree screen (view_of tree screen) (document_at tree document).frame
      → unwrap_or found (0, 0) ≡ pair_of (viewport_of tree screen document)
  unfolding viewport_of
  viewport_found document found is = ap (λ (o : Option (ℕ × ℕ)). unwrap_or o (0, 0)) is

pub size_natural : (size : Size) → IsNatural size → size ≡ as_size (seen_pair size)
size_natural size natural =
    ap (λ width. let it : Size = record { width = width; height = size.height } in it) (sym (pos_abs size.width natural.0.0))
    ∙ ap (λ height. let it : Size = record { width = pos (unsigned_abs size.width); height = height } in it) (sym (pos_abs size.height natural.1.0))

-- a point that isn't negative, by its two lengths
pub as_pair : (point : Point) (pair : ℕ × ℕ) → point ≡ as_point pair → (across down : ℕ) → across ≡ unsigned_abs point.left → down ≡ unsigned_abs point.top
    → ◌≡◌ {A = ℕ × ℕ} (across, down) pair
as_pair point pair is across down one two =
    pair_is across down pair (one ∙ ap (λ (p : Point). unsigned_abs p.left) is) (two ∙ ap (λ (p : Point). unsigned_abs p.top) is)

pub place_pair : (point : Point) (pair : ℤ × ℤ) → point ≡ point_of pair → ◌≡◌ {A = ℤ × ℤ} (point.left, point.top) pair
place_pair point pair is = ap {B = ℤ × ℤ} (λ (p : Point). (p.left, p.top)) is

-- no length at all, or these
pub shift_pair : (none : Bool) (left top across down : ℕ) → across ≡ cond none 0 left → down ≡ cond none 0 top → ◌≡◌ {A = ℕ × ℕ} (across, down) (cond none (0, 0) (left, top))
shift_pair true left top across down one two = pair_is across down (0, 0) one two
shift_pair false left top across down one two = pair_is across down (left, top) one two

-- a page whose tree holds these nodes
pub count_here : (page : PageElements) (forest : Forest Described) → seen_with page.version forest page.tree.documents ≡ page → length forest.nodes ≡ length page.tree.elements
count_here page forest same = sym (length-map forest.nodes (element_of carried_in)) ∙ ap (λ (p : PageElements). length p.tree.elements) same
