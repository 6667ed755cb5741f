-- Viewports of a page have no length above the largest one.
use Rattle.std.proofs.Common.{◌≡◌, ◌≤◌, ℕ, ℤ, Bool, true, false, Option, Some, None, option_map, refl, sym, subst, arith}
use Rattle.std.proofs.lemmas.Int.{ints}
use Rattle.std.specs.Prelude.{pos, negsuc, unsigned_abs}
use Rattle.px_units.specs.Lengths.{cap}
use Rattle.px_units.specs.declared.Size.{Size}
use Rattle.layout_model.specs.Nodes.{Node}
use Rattle.layout_model.specs.Boxes.{Inputs, content_size, box_in}
use Rattle.layout_model.specs.Points.{IsWithin}
use Rattle.layout_model.specs.Views.{View, inputs_in_view}
use Rattle.page_model.specs.World.{Screen, Tree}
use Rattle.page_model.specs.Lookups.{element_at, document_at}
use Rattle.page_model.specs.Documents.{nodes_of, is_active}
use Rattle.page_model.specs.PageBoxes.{pair_of, framed_size, view_with, view_up, view_of}
use Rattle.positioned_layout.specs.Seen.{IsSpanOfSize}
use Rattle.kept_layout.specs.Measures.{IsSized}
use Rattle.page_tree.specs.Items.{IsLength, IsNatural}
use Rattle.page_boxes.specs.declared.screens.Screen.{Screen as ShownScreen}
use Rattle.page_boxes.specs.Pages.{seen_pair, seen_screen, IsScreen}
use Rattle.page_boxes.proofs.Views.{view_idle, view_lively, view_whole}

abbrev Longest : ℕ × ℕ
Longest = (2147483647, 2147483647)

length_low : (z : ℤ) → IsLength z → unsigned_abs z ≤ 2147483647
length_low (pos n) length = omega (arith, ints, length.1)
length_low (negsuc n) length = absurd (omega (arith, ints, length.0))

natural_low : (size : Size) → IsNatural size → IsWithin (seen_pair size) Longest
natural_low size natural = (length_low size.width natural.0, length_low size.height natural.1)

pub natural_span : (size : Size) → IsNatural size → IsSpanOfSize size
natural_span size natural =
    ((natural.0.0, omega (arith, ints, natural.0.1)), (natural.1.0, omega (arith, ints, natural.1.1)))

low : (x : ℕ) → cap x ≤ 2147483647
low x = omega arith

box_low : (at : ℕ → Node) (inputs : Inputs) (n : ℕ) → IsWithin (content_size (box_in at inputs n)) Longest
unfolding box_in
box_low at inputs n = (low _, low _)

sized_with : (root : Option ℕ) (found : Option (ℕ × ℕ)) → ((size : ℕ × ℕ) → found ≡ Some size → IsWithin size Longest) → IsSized (view_with root found)
sized_with root None each = record { width = omega arith; height = omega arith }
sized_with root (Some size) each = let low = each size refl in record { width = low.0; height = low.1 }

-- a viewport of this size, and that of a document of a page
pub sized_shown : (root : ℕ) (size : Size) → IsNatural size → (view : View) → view ≡ view_with (Some root) (Some (seen_pair size)) → IsSized view
sized_shown root size natural view is =
    subst IsSized (sym is) (sized_with (Some root) (Some (seen_pair size)) (λ found same. let it : seen_pair size ≡ found = cc in subst (λ s. IsWithin s Longest) it (natural_low size natural)))

module _ (tree : Tree) (screen : Screen) (fits : IsWithin (pair_of screen.size) Longest) where
  by_box : (frame : ℕ) (found : Option Inputs) (size : ℕ × ℕ) → option_map (λ inputs. content_size (box_in (nodes_of tree) inputs frame)) found ≡ Some size → IsWithin size Longest
  by_box frame None size is = cc
  by_box frame (Some inputs) size is = let it : content_size (box_in (nodes_of tree) inputs frame) ≡ size = cc in subst (λ s. IsWithin s Longest) it (box_low (nodes_of tree) inputs frame)

  framed_low : (views : ℕ → View) (frame : Option ℕ) (size : ℕ × ℕ) → framed_size tree screen views frame ≡ Some size → IsWithin size Longest
  framed_low views None size is = let it : pair_of screen.size ≡ size = cc in subst (λ s. IsWithin s Longest) it fits
  framed_low views (Some frame) size is = by_box frame (inputs_in_view (nodes_of tree) (views (element_at tree frame).document) frame) size is

  view_sized : (document : ℕ) → IsSized (view_of tree screen document)
  view_sized document = subst IsSized (view_whole tree screen document) (by_state (is_active tree document) refl)
    where
      by_state : (active : Bool) → is_active tree document ≡ active → IsSized (view_up 65536 tree screen document)
      by_state false none = subst IsSized (sym (view_idle tree screen 65536 document none)) (record { width = omega arith; height = omega arith })
      by_state true active =
          subst IsSized (sym (view_lively tree screen 65536 65535 document refl active))
          (sized_with (document_at tree document).root (framed_size tree screen (view_up 65535 tree screen) (document_at tree document).frame)
          (λ size is. framed_low (view_up 65535 tree screen) (document_at tree document).frame size is))

pub sized_view : (tree : Tree) (screen : ShownScreen) → IsScreen screen → (document : ℕ) → IsSized (view_of tree (seen_screen screen) document)
sized_view tree screen is document = view_sized tree (seen_screen screen) (natural_low screen.size is.size) document
