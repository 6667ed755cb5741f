use Rattle.std.proofs.Common.{◌≡◌, neg_ℤ, ap, sym, subst, ◌∙◌}
use Rattle.px_units.specs.declared.Rect.{Rect}
use Rattle.px_units.specs.Rects.{shifted}
use Rattle.page_model.specs.Chains.{moved_back, origin}
use Rattle.trace_text.specs.Ranges.{RectReaches}
use Rattle.page_geometry.proofs.Moves.{shifted_as}
use Rattle.box_inspector.proofs.Reaches.{negated, moved_reaches, moved_from}
use Rattle.box_inspector.proofs.seen.in_document.Goals as goal

moved : (c : goal.After-shift) → c.shift.result ≡ shifted c.args.part (neg_ℤ c.bounds-own.result.left) (neg_ℤ c.bounds-own.result.top)
moved c =
    shifted_as _ _ _ _ _ _ c.shift.ensures
    (negated c.bounds-own.result.left c.bounds-own.ensures.range.edges.left)
    (negated c.bounds-own.result.top c.bounds-own.ensures.range.edges.top)

pub returns-clause-value : goal.returns-clause-value
returns-clause-value c =
    moved c
    ∙ ap (λ (own : Rect). shifted c.args.part (neg_ℤ own.left) (neg_ℤ own.top)) c.bounds-own.ensures.bounds
    ∙ moved_from c.args.shown.now c.document_of.result.0 c.args.part
    ∙ ap (λ document. moved_back (origin c.args.shown.now document) c.args.part) c.document_of.ensures

pub returns-clause-reach : goal.returns-clause-reach
returns-clause-reach c =
    subst RectReaches (sym (moved c))
    (moved_reaches c.args.part (record { left = c.bounds-own.result.left; top = c.bounds-own.result.top }) c.requires
    c.bounds-own.ensures.range.edges.left c.bounds-own.ensures.range.edges.top)
