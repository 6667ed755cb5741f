-- Rectangles of a world, by where their documents begin.
use Rattle.std.proofs.Common.{◌≡◌, ℕ, ap, ◌∙◌, arith}
use Rattle.std.specs.Prelude.{ℤ, pos}
use Rattle.std.specs.Int.{w64, cast_signed, cast_unsigned}
use Rattle.std.proofs.lemmas.Int.{ints}
use Rattle.px_units.specs.declared.BoxKind.TheVariants.{Border}
use Rattle.px_units.specs.declared.Point.{Point}
use Rattle.px_units.specs.declared.Rect.{Rect}
use Rattle.px_units.specs.declared.Size.{Size}
use Rattle.page_model.specs.Lookups.{element_at}
use Rattle.page_model.specs.PageBoxes.{pair_of}
use Rattle.page_model.specs.Shown.{Shown, viewport_of, box_of, size_of, place_of}
use Rattle.page_model.specs.Readings.{rect_of}
use Rattle.page_model.specs.Chains.{moved_by, padding_box_at, origin, viewport_rect, border_rect, padding_rect}
use Rattle.block_layout.specs.Seen.{as_size}
use Rattle.page_tree.specs.Items.{IsLength}

abbrev pub sized : ℤ → ℤ → Rect
sized width height = record { left = pos 0; top = pos 0; right = width; bottom = height }

edges_same : (a b : Rect) → a.left ≡ b.left → a.top ≡ b.top → a.right ≡ b.right → a.bottom ≡ b.bottom → a ≡ b
edges_same a b one two three four = λ i. record { left = one i; top = two i; right = three i; bottom = four i }

at_start : (o : Point) (across down : ℕ) → moved_by o (record { left = pos 0; top = pos 0; right = pos across; bottom = pos down }) ≡ rect_of o (record { across = across; down = down })
at_start o across down =
    edges_same (moved_by o (record { left = pos 0; top = pos 0; right = pos across; bottom = pos down })) (rect_of o (record { across = across; down = down }))
    (omega (arith, ints)) (omega (arith, ints)) (omega (arith, ints)) (omega (arith, ints))

module _ (shown : Shown) where
  pub viewport_found : (document : ℕ) (o : Point) (size : Size) (width height : ℤ) (result : Rect) → result ≡ moved_by o (sized width height) → o ≡ origin shown document
      → width ≡ size.width → height ≡ size.height → size ≡ as_size (pair_of (viewport_of shown document)) → result ≡ viewport_rect shown document
  unfolding viewport_rect
  viewport_found document o size width height result is begins across down sizes =
      is
      ∙ (λ i. moved_by (begins i) (sized (across i) (down i)))
      ∙ ap (λ (s : Size). moved_by (origin shown document) (sized s.width s.height)) sizes
      ∙ at_start (origin shown document) (viewport_of shown document).across (viewport_of shown document).down

  pub border_found : (n document : ℕ) (o : Point) (own result : Rect) → result ≡ moved_by o own → o ≡ origin shown document → document ≡ (element_at (shown.tree) n).document
      → own ≡ rect_of (place_of shown n) (size_of shown n Border)
      → result ≡ border_rect shown n
  unfolding border_rect
  border_found n document o own result is begins owner at =
      is
      ∙ ap (λ p. moved_by p own) (begins ∙ ap (origin shown) owner)
      ∙ ap (moved_by (origin shown (element_at (shown.tree) n).document)) at

  pub padding_found : (n document : ℕ) (o : Point) (own result : Rect) → result ≡ moved_by o own → o ≡ origin shown document → document ≡ (element_at (shown.tree) n).document
      → own ≡ padding_box_at (place_of shown n) (box_of shown n)
      → result ≡ padding_rect shown n
  unfolding padding_rect
  padding_found n document o own result is begins owner at =
      is
      ∙ ap (λ p. moved_by p own) (begins ∙ ap (origin shown) owner)
      ∙ ap (moved_by (origin shown (element_at (shown.tree) n).document)) at

-- a length of a viewport, as 64 bits
pub length_fits : (length : ℤ) → IsLength length → cast_signed w64 (cast_unsigned w64 length) ≡ length
length_fits length within = let one = within.0 in let two = within.1 in omega (arith, ints)
