use Rattle.std.proofs.Common.{refl}
use Rattle.kept_layout.proofs.Spans.{span_kept, span_signed, inner_spans, corner_spans, margin_spans, height_span, padding_spans, border_spans}
use Rattle.kept_layout.proofs.measures.measure_of.Goals as goal

pub returns-clause-range : goal.returns-clause-range
returns-clause-range c =
    record {
      width = span_kept _ c.span.ensures.range;
      height = c.span_if.ensures.range;
      inner = inner_spans _ c.inner.ensures.range _ c.inner.ensures.value;
      corner = corner_spans _ c.padding_corner.ensures.range _ c.padding_corner.ensures.value;
      margin = margin_spans _ c.margin_corner.ensures.range _ c.margin_corner.ensures.value;
      margin_height = span_kept _ (height_span _ c.margin_height.ensures.range _ c.margin_height.ensures.value);
      above = span_signed c.args.above c.requires;
      padding = padding_spans _ c.padding_size.ensures.range _ c.padding_size.ensures.value;
      border = border_spans _ c.size.ensures.range _ (c.size.ensures.border refl);
    }
