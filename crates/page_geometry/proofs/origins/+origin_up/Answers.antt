use Rattle.std.proofs.Common.{◌-◌, option_map, ap, sym, subst, ◌∙◌, arith}
use Rattle.element_tree.specs.Links.{number}
use Rattle.page_model.specs.Chains.{added, origin_up}
use Rattle.page_geometry.specs.Ranges.{IsOrigin}
use Rattle.page_geometry.proofs.Beginnings.{up_none, up_unframed, up_boxless, up_framed}
use Rattle.page_geometry.proofs.origins.+origin_up.Goals as goal

pub returns-then-high-eq0-clause-value : goal.returns-then-high-eq0-clause-value
returns-then-high-eq0-clause-value t c = up_none c.args.shown.now c.args.high c.args.document.0 c.if-high-eq0.true

pub returns-in_default-clause-value : goal.returns-in_default-clause-value
returns-in_default-clause-value t c =
    up_unframed c.args.shown.now c.args.high c.args.document.0 (sym c.frame_of.ensures ∙ ap (option_map number) c.in_default.is)

pub returns-then-not-has_box-clause-value : goal.returns-then-not-has_box-clause-value
returns-then-not-has_box-clause-value t c =
    up_boxless c.args.shown.now c.args.high c.args.document.0 (c.in-Some.frame.0) (sym c.frame_of.ensures ∙ ap (option_map number) c.in-Some.is)
    (sym c.has_box.ensures ∙ c.if-not-has_box.true)

pub returns-clause-value : goal.returns-clause-value
returns-clause-value t c =
    let it = c.args.shown.now in
    let begins = c.origin_up-around.ensures.value ∙ ap (origin_up (c.args.high - 1) it) c.document_of.ensures in
    c.added.ensures.value
    ∙ (λ i. added (c.content_origin-corner.ensures.value i) (begins i))
    ∙ up_framed it c.args.high (c.args.high - 1) c.args.document.0 (c.in-Some.frame.0) (omega (arith, c.if-high-eq0.false))
    (sym c.frame_of.ensures ∙ ap (option_map number) c.in-Some.is)
    (sym c.has_box.ensures ∙ c.if-not-has_box.false)

pub returns-clause-range : goal.returns-clause-range
returns-clause-range t c = subst (λ frames. IsOrigin frames c.added.result) (omega (arith, c.if-high-eq0.false)) c.added.ensures.range
