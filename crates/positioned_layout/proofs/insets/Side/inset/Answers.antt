use Rattle.std.proofs.Common.{None, subst, ap, sym, ◌∙◌, arith}
use Rattle.std.proofs.lemmas.Int.{ints}
use Rattle.std.specs.Prelude.{◌+ℤ◌, IfSome}
use Rattle.px_units.specs.Lengths.{clamped}
use Rattle.layout_model.specs.FlatPlaces.{inset_by}
use Rattle.positioned_layout.specs.Seen.{seen_side, IsReach}
use Rattle.positioned_layout.proofs.Numbers.{reach_again, near_again, far_again}
use Rattle.positioned_layout.proofs.insets.Side.inset.Goals as goal

pub overflow_sub-self-in-None-Some : goal.overflow_sub-self-in-None-Some
overflow_sub-self-in-None-Some c =
    let far : IsReach c.in-None-Some.far = subst (λ o. IfSome o IsReach) c.in-None-Some.is-1 c.requires.far in
    omega (arith, ints, far, c.requires.containing, c.requires.far_margin)

pub overflow_sub-self-in-None-Some-2 : goal.overflow_sub-self-in-None-Some-2
overflow_sub-self-in-None-Some-2 c =
    let far : IsReach c.in-None-Some.far = subst (λ o. IfSome o IsReach) c.in-None-Some.is-1 c.requires.far in
    omega (arith, ints, far, c.requires.containing, c.requires.far_margin, c.requires.border)

pub returns-in-Some-default-clause-value : goal.returns-in-Some-default-clause-value
returns-in-Some-default-clause-value c corner in_flow =
    let near : IsReach c.in-Some-default.near = subst (λ o. IfSome o IsReach) c.in-Some-default.is-0 c.requires.near in
    ap (λ o. inset_by o c.args.self.far (seen_side c.args.self) corner in_flow) c.in-Some-default.is-0
    ∙ ap (λ x. corner +ℤ clamped x) (sym (near_again c.in-Some-default.near c.args.self.near_margin near c.requires.near_margin))
    ∙ ap (λ x. corner +ℤ x) (sym c.clamped.ensures.value ∙ sym (reach_again c.clamped.result c.clamped.ensures.range))

pub returns-in-None-Some-clause-value : goal.returns-in-None-Some-clause-value
returns-in-None-Some-clause-value c corner in_flow =
    let far : IsReach c.in-None-Some.far = subst (λ o. IfSome o IsReach) c.in-None-Some.is-1 c.requires.far in
    ap (λ o. inset_by o c.args.self.far (seen_side c.args.self) corner in_flow) c.in-None-Some.is-0
    ∙ ap (λ o. inset_by None o (seen_side c.args.self) corner in_flow) c.in-None-Some.is-1
    ∙ ap (λ x. corner +ℤ clamped x) (sym (far_again c.args.self.containing c.in-None-Some.far c.args.self.far_margin c.args.self.border c.requires.containing far c.requires.far_margin c.requires.border))
    ∙ ap (λ x. corner +ℤ x) (sym c.clamped-in-None-Some.ensures.value ∙ sym (reach_again c.clamped-in-None-Some.result c.clamped-in-None-Some.ensures.range))
