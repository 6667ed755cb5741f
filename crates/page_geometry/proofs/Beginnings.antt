-- Where documents begin, by as many frames as there can be.
use Rattle.std.proofs.Common.{◌≡◌, ◌≤◌, ℕ, zero, suc, Bool, true, false, cond, length, Option, Some, None, refl, ap, sym, ◌∙◌, arith}
use Rattle.px_units.specs.declared.Point.{Point}
use Rattle.page_model.specs.Shown.{Shown, has_box, box_of, place_of}
use Rattle.page_model.specs.Lookups.{element_at, document_at}
use Rattle.page_model.specs.Chains.{zero_point, added, content_corner_at, origin_with_box, origin_by_frame, origin_up, origin}
use Rattle.page_documents.specs.Frames.{AreFramed}
use Rattle.page_geometry.proofs.Standing.{active}
use Rattle.page_geometry.proofs.Levels.{steady, count_is}

module _ (shown : Shown) where
  abbrev around : ℕ → ℕ
  around frame = (element_at (shown.tree) frame).document

  abbrev boxed : ℕ → Bool
  boxed frame = has_box shown frame

  abbrev corner : ℕ → Point
  corner frame = content_corner_at (place_of shown frame) (box_of shown frame)

  abbrev next : ℕ → Point → Point
  next frame point = cond (boxed frame) (added (corner frame) point) zero_point

  pub up_none : (high document : ℕ) → high ≡ 0 → zero_point ≡ origin_up high shown document
  unfolding origin_up
  up_none high document is = ap (λ h. origin_up h shown document) (sym is)

  unframed : (high document : ℕ) → (document_at (shown.tree) document).frame ≡ None → origin_up high shown document ≡ zero_point
  unfolding origin_up
  unframed zero document is = refl
  unframed (suc high) document is = ap (origin_by_frame (origin_up high shown) shown) is

  by_box : (above : ℕ → Point) (frame : ℕ) (b : Bool) → origin_with_box above shown b frame ≡ cond b (added (corner frame) (above (around frame))) zero_point
  by_box above frame true = refl
  by_box above frame false = refl

  framed_by : (high document frame : ℕ) → (document_at (shown.tree) document).frame ≡ Some frame
      → origin_up (suc high) shown document ≡ next frame (origin_up high shown (around frame))
  unfolding origin_up
  framed_by high document frame is = ap (origin_by_frame (origin_up high shown) shown) is ∙ by_box (origin_up high shown) frame (boxed frame)

  pub up_unframed : (high document : ℕ) → (document_at (shown.tree) document).frame ≡ None → zero_point ≡ origin_up high shown document
  up_unframed high document is = sym (unframed high document is)

  boxless : (frame : ℕ) (point : Point) → boxed frame ≡ false → next frame point ≡ zero_point
  boxless frame point none = ap (λ b. cond b (added (corner frame) point) zero_point) none

  pub up_boxless : (high document frame : ℕ) → (document_at (shown.tree) document).frame ≡ Some frame → boxed frame ≡ false → zero_point ≡ origin_up high shown document
  up_boxless zero document frame is none = up_none 0 document refl
  up_boxless (suc high) document frame is none = sym (framed_by high document frame is ∙ boxless frame (origin_up high shown (around frame)) none)

  pub up_framed : (high less document frame : ℕ) → high ≡ suc less → (document_at (shown.tree) document).frame ≡ Some frame → boxed frame ≡ true
      → added (corner frame) (origin_up less shown (around frame)) ≡ origin_up high shown document
  up_framed high less document frame more is there =
      sym (ap (λ b. cond b (added (corner frame) (origin_up less shown (around frame))) zero_point) there)
      ∙ sym (framed_by less document frame is)
      ∙ ap (λ h. origin_up h shown document) (sym more)

  module _ (framed : AreFramed (shown.tree)) where
    -- for a document in no frame, in one without a box, and in one with a box, whose document is Active
    same_framed : (count document frame : ℕ) → length shown.tree.documents ≡ count → (document_at (shown.tree) document).frame ≡ Some frame → (there : Bool) → boxed frame ≡ there
        → origin_up count shown document ≡ origin_up 65536 shown document
    same_framed count document frame counted is false none = sym (up_boxless count document frame is none) ∙ up_boxless 65536 document frame is none
    same_framed count document frame counted is true there =
        let found = count_is (shown.tree) framed (around frame) (active (shown.tree) (shown.screen) frame there) count counted in
        let few : found.0 ≤ 65535 = omega (arith, framed.few, counted, found.1) in
        ap (λ h. origin_up h shown document) found.1
        ∙ framed_by found.0 document frame is
        ∙ ap (next frame)
        (sym (steady (shown.tree) framed (λ h d. origin_up h shown d) zero_point next unframed framed_by found.0 (around frame) found.2 65535 few))
        ∙ sym (framed_by 65535 document frame is)

    same_by : (count document : ℕ) → length shown.tree.documents ≡ count → (frame : Option ℕ) → (document_at (shown.tree) document).frame ≡ frame
        → origin_up count shown document ≡ origin_up 65536 shown document
    same_by count document counted None is = unframed count document is ∙ up_unframed 65536 document is
    same_by count document counted (Some frame) is = same_framed count document frame counted is (boxed frame) refl

    pub origin_is : (count document : ℕ) → count ≡ length shown.tree.documents → origin_up count shown document ≡ origin shown document
    unfolding origin
    origin_is count document counted = same_by count document (sym counted) (document_at (shown.tree) document).frame refl
