-- Lengths of a box, and lengths that are cut, as spans.
use Rattle.std.proofs.Common.{◌≡◌, ◌≤◌, ◌+◌, ℕ, ℤ, pos, negsuc, sym, ap, subst, arith}
use Rattle.std.proofs.lemmas.Int.{ints, to_z_pos}
use mir.Val.{of_z, to_z}
use mir.Syntax.{w64}
use Rattle.px_units.specs.declared.Point.{Point}
use Rattle.px_units.specs.declared.Size.{Size}
use Rattle.layout_model.specs.Boxes.{Box, inner_corner, padding_corner, margin_height, padding_size, border_size}
use Rattle.block_layout.specs.Ranges.{IsBox, IsLength}
use Rattle.block_layout.specs.Seen.{as_point, as_size}
use Rattle.positioned_layout.specs.Seen.{IsSpan, IsSpanOfSize}

length_of : (units : ℕ) → units ≤ 2147483647 → IsLength (pos units)
length_of units low = (omega (arith, ints), omega (arith, ints))

span_of : (units : ℕ) → units ≤ 1099511627776 → IsSpan (pos units)
span_of units low = (omega (arith, ints), omega (arith, ints))

-- a span that loses its sign and is given it again
pub span_kept : (z : ℤ) → IsSpan z → IsSpan (to_z w64 (of_z w64 z))
span_kept (pos units) span = subst IsSpan (sym (to_z_pos w64 units (omega (arith, ints, span.1)))) span
span_kept (negsuc units) span = absurd (omega (arith, ints, span.0))

pub span_signed : (units : ℕ) → units ≤ 2147483647 → IsSpan (to_z w64 units)
span_signed units low = subst IsSpan (sym (to_z_pos w64 units (omega arith))) (span_of units (omega arith))

module _ (box : Box) (is : IsBox box) where
  pub inner_spans : (point : Point) → point ≡ as_point (inner_corner box) → IsSpan point.left × IsSpan point.top
  inner_spans point same =
      let left = is.border.left in let right = is.padding.left in let top = is.border.top in let bottom = is.padding.top in (
        subst IsSpan (sym (ap (λ (p : Point). p.left) same)) (span_of (box.border.left + box.padding.left) (omega arith)),
        subst IsSpan (sym (ap (λ (p : Point). p.top) same)) (span_of (box.border.top + box.padding.top) (omega arith)),
      )

  pub corner_spans : (point : Point) → point ≡ as_point (padding_corner box) → IsLength point.left × IsLength point.top
  corner_spans point same =
      let left = is.border.left in let top = is.border.top in (
        subst IsLength (sym (ap (λ (p : Point). p.left) same)) (length_of box.border.left (omega arith)),
        subst IsLength (sym (ap (λ (p : Point). p.top) same)) (length_of box.border.top (omega arith)),
      )

  pub margin_spans : (point : Point) → point ≡ as_point (box.margin.left, box.margin.top) → IsSpan point.left × IsSpan point.top
  margin_spans point same =
      let left = is.margin.left in let top = is.margin.top in (
        subst IsSpan (sym (ap (λ (p : Point). p.left) same)) (span_of box.margin.left (omega arith)),
        subst IsSpan (sym (ap (λ (p : Point). p.top) same)) (span_of box.margin.top (omega arith)),
      )

  pub height_span : (units : ℤ) → units ≡ pos (margin_height box) → IsSpan units
  height_span units same =
      let margin = is.margin in let border = is.border in let padding = is.padding in let height = is.height in
      subst IsSpan (sym same) (span_of (margin_height box) (omega arith))

  pub padding_spans : (size : Size) → size ≡ as_size (padding_size box) → IsSpanOfSize size
  padding_spans size same =
      let padding = is.padding in let width = is.width in let height = is.height in (
        subst IsSpan (sym (ap (λ (s : Size). s.width) same)) (span_of (padding_size box).0 (omega arith)),
        subst IsSpan (sym (ap (λ (s : Size). s.height) same)) (span_of (padding_size box).1 (omega arith)),
      )

  pub border_spans : (size : Size) → size ≡ as_size (border_size box) → IsSpanOfSize size
  border_spans size same =
      let border = is.border in let padding = is.padding in let width = is.width in let height = is.height in (
        subst IsSpan (sym (ap (λ (s : Size). s.width) same)) (span_of (border_size box).0 (omega arith)),
        subst IsSpan (sym (ap (λ (s : Size). s.height) same)) (span_of (border_size box).1 (omega arith)),
      )
