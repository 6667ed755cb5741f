use Rattle.std.proofs.Common.{◌≡◌, ◌<◌, inl, inr, true, length, subst, ap, sym, ◌∙◌}
use Rattle.layout_model.specs.Nodes.{is_flow, held_by}
use Rattle.layout_model.proofs.Holders.{holder_in_flow, holder_of_absolute, holder_of_fixed}
use Rattle.element_tree.specs.Forest.{depth}
use Rattle.style_values.specs.Seen.{seen_position}
use Rattle.positioned_layout.specs.declared.Holder.{Holder}
use Rattle.positioned_layout.specs.Seen.{seen_holder, IfElement}
use Rattle.positioned_layout.proofs.Holding.{numbers_are, seen_held, if_held, if_parent}
use Rattle.positioned_layout.proofs.holders.holder_of.Goals as goal

pub returns-in-Static-clause-value : goal.returns-in-Static-clause-value
returns-in-Static-clause-value g c at are =
    let flow : is_flow (seen_position c.position.result) ≡ true = elim c.in-Static.is [ inl e ↦ ap (λ p. is_flow (seen_position p)) e | inr e ↦ ap (λ p. is_flow (seen_position p)) e ] in
    ap seen_holder c.held_by.ensures
    ∙ seen_held c.parent.result
    ∙ ap held_by (numbers_are _ c.parent.result c.parent.ensures.value ∙ sym (are.parent (c.args.node.0)))
    ∙ sym (holder_in_flow at (c.args.node.0) (ap is_flow (sym (c.position.ensures.value at are)) ∙ flow))

pub returns-in-Static-clause-above : goal.returns-in-Static-clause-above
returns-in-Static-clause-above g c =
    subst
    (λ (by : Holder). IfElement by (λ element. (element < length c.args.tree.now.nodes) × (depth c.args.tree.now.nodes element < depth c.args.tree.now.nodes (c.args.node.0))))
    (sym c.held_by.ensures)
    (if_held _ _ (depth c.args.tree.now.nodes) c.parent.result (if_parent c.parent.ensures.forest (c.args.node.0) c.parent.result c.parent.ensures.value))

pub returns-in-Absolute-clause-value : goal.returns-in-Absolute-clause-value
returns-in-Absolute-clause-value g c at are =
    ap seen_holder c.held_by-in-Absolute.ensures
    ∙ seen_held c.positioned_ancestor.result
    ∙ ap held_by (c.positioned_ancestor.ensures.value at are)
    ∙ sym (holder_of_absolute at (c.args.node.0) (sym (c.position.ensures.value at are) ∙ ap seen_position c.in-Absolute.is))

pub returns-in-Fixed-clause-value : goal.returns-in-Fixed-clause-value
returns-in-Fixed-clause-value g c at are =
    sym (holder_of_fixed at (c.args.node.0) (sym (c.position.ensures.value at are) ∙ ap seen_position c.in-Fixed.is))
