use Rattle.std.proofs.Common.{◌+◌, subst, ap, sym, ◌∙◌}
use Rattle.std.proofs.lemmas.Int.{to_z-of_z}
use mir.Syntax.{w64}
use Rattle.px_units.specs.declared.Point.{Point}
use Rattle.positioned_layout.specs.Seen.{IsNear, IsCorner}
use Rattle.positioned_layout.proofs.Numbers.{near_whole, corner_whole}
use Rattle.positioned_layout.proofs.Placing.{point_same}
use Rattle.positioned_layout.proofs.places.placed.Goals as goal

pub returns-clause-value : goal.returns-clause-value
returns-clause-value g c at view p are up own_is outer_is flow_is held_is =
    point_same _ _ _ _
    (to_z-of_z w64 c.placed_along.result (record { sfits = c.placed_along.type_inv })
    ∙ c.placed_along.ensures.value at view p are up own_is outer_is
    (near_whole c.args.flow.left c.requires.flow.0 ∙ ap (λ (q : Point). q.left) flow_is)
    (λ out. corner_whole c.args.held.left c.requires.held.0 ∙ ap (λ (q : Point). q.left) (held_is out)))
    (to_z-of_z w64 c.placed_along-2.result (record { sfits = c.placed_along-2.type_inv })
    ∙ c.placed_along-2.ensures.value at view p are up own_is outer_is
    (near_whole c.args.flow.top c.requires.flow.1 ∙ ap (λ (q : Point). q.top) flow_is)
    (λ out. corner_whole c.args.held.top c.requires.held.1 ∙ ap (λ (q : Point). q.top) (held_is out)))

pub returns-clause-range : goal.returns-clause-range
returns-clause-range g c boxes near corner = (
  subst (λ x. IsNear (boxes + 1) x) (sym (to_z-of_z w64 c.placed_along.result (record { sfits = c.placed_along.type_inv })))
      (c.placed_along.ensures.range boxes
      (subst (λ x. IsNear boxes x) (sym (near_whole c.args.flow.left c.requires.flow.0)) near.0)
      (subst (λ x. IsCorner boxes x) (sym (corner_whole c.args.held.left c.requires.held.0)) corner.0)),
  subst (λ x. IsNear (boxes + 1) x) (sym (to_z-of_z w64 c.placed_along-2.result (record { sfits = c.placed_along-2.type_inv })))
      (c.placed_along-2.ensures.range boxes
      (subst (λ x. IsNear boxes x) (sym (near_whole c.args.flow.top c.requires.flow.1)) near.1)
      (subst (λ x. IsCorner boxes x) (sym (corner_whole c.args.held.top c.requires.held.1)) corner.1)),
)
