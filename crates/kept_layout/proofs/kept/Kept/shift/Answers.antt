use Rattle.std.proofs.Common.{◌+◌, ap, sym, ◌∙◌}
use Rattle.px_units.specs.Lengths.{cap}
use Rattle.element_tree.proofs.Depths.{some_of_ids, none_of_ids}
use Rattle.kept_layout.specs.declared.slots.Slot.{Slot}
use Rattle.kept_layout.specs.declared.slots.Found.{Found}
use Rattle.kept_layout.specs.Slots.{slot_in}
use Rattle.kept_layout.proofs.Shifted.{own_missing, outer_missing, child_shift, root_shift}
use Rattle.kept_layout.proofs.kept.Kept.shift.Goals as goal

pub returns-in_default-clause-value : goal.returns-in_default-clause-value
returns-in_default-clause-value g c view fresh =
    absurd
    (own_missing g.P.Styled.style g.P.Styled.kind c.parent-up.ensures.forest view (slot_in c.args.self.now) (c.args.node.0) fresh
    (ap (λ (s : Slot). s.found) (sym c.slot_of-above.ensures) ∙ c.in_default.is))

pub returns-in_default-up-clause-value : goal.returns-in_default-up-clause-value
returns-in_default-up-clause-value g c view fresh =
    root_shift g.P.Styled.style g.P.Styled.kind c.parent-up.ensures.forest view (slot_in c.args.self.now) (c.args.node.0) fresh
    (none_of_ids _ (sym c.parent-up.ensures.value ∙ c.in_default-up.is)) c.in-Some.found
    (ap (λ (s : Slot). s.found) (sym c.slot_of-above.ensures) ∙ c.in-Some.is)
    (c.on_top.result.across) (c.on_top.result.down) c.on_top.ensures.across c.on_top.ensures.down

pub returns-in-Some-found-clause-value : goal.returns-in-Some-found-clause-value
returns-in-Some-found-clause-value g c view fresh =
    child_shift g.P.Styled.style g.P.Styled.kind c.parent-up.ensures.forest view (slot_in c.args.self.now) (c.args.node.0) fresh
    (c.in-Some-up.parent.0) (some_of_ids _ c.in-Some-up.parent (sym c.parent-up.ensures.value ∙ c.in-Some-up.is)) c.in-Some.found c.in-Some-found.outer
    (ap (λ (s : Slot). s.found) (sym c.slot_of-above.ensures) ∙ c.in-Some.is)
    (ap (λ (s : Slot). s.found) (sym c.slot_of.ensures) ∙ c.in-Some-found.is)
    (c.below.result.across) (c.below.result.down)
    (c.below.ensures.across ∙ ap (λ (f : Found). cap (f.own.border.left + f.own.padding.left + c.in-Some.found.own.margin.left)) c.in-Some-found.outer-is)
    (c.below.ensures.down ∙ ap (λ (f : Found). cap (f.own.border.top + f.own.padding.top + cap c.slot_of-above.result.above + c.in-Some.found.own.margin.top)) c.in-Some-found.outer-is
    ∙ ap (λ (s : Slot). cap (c.in-Some-found.outer.own.border.top + c.in-Some-found.outer.own.padding.top + cap s.above + c.in-Some.found.own.margin.top)) c.slot_of-above.ensures)

pub returns-in-None-clause-value : goal.returns-in-None-clause-value
returns-in-None-clause-value g c view fresh =
    absurd
    (outer_missing g.P.Styled.style g.P.Styled.kind c.parent-up.ensures.forest view (slot_in c.args.self.now) (c.args.node.0) fresh
    (c.in-Some-up.parent.0) (some_of_ids _ c.in-Some-up.parent (sym c.parent-up.ensures.value ∙ c.in-Some-up.is))
    (ap (λ (s : Slot). s.found) (sym c.slot_of.ensures) ∙ c.in-None.is))
