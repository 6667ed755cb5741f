use Rattle.std.proofs.Common.{◌≡◌, ◌<◌, ◌≤◌, ℕ, ℤ, Option, Some, None, true, length, option_map, subst, refl, ap, ◌∙◌, arith, to_z, of_z}
use Rattle.std.proofs.lemmas.Int.{ints}
use Rattle.std.specs.Prelude.{is_some, IfSome, ◌+ℤ◌}
use mir.Syntax.{w64}
use Rattle.layout_model.specs.Views.{inputs_in_view}
use Rattle.layout_model.specs.FlatPlaces.{flat_place}
use Rattle.element_tree.specs.declared.node.NodeId.{NodeId}
use Rattle.element_tree.specs.Forest.{above, depth}
use Rattle.element_tree.specs.Links.{number}
use Rattle.positioned_layout.specs.declared.insets.Axis.{Axis}
use Rattle.positioned_layout.specs.declared.insets.Axis.TheVariants.{Across, Down}
use Rattle.positioned_layout.specs.Along.{part, place_of}
use Rattle.positioned_layout.specs.Measured.{AreMeasuresUp}
use Rattle.positioned_layout.specs.Seen.{IsNear, IsWalked}
use Rattle.positioned_layout.proofs.Numbers.{near_whole}
use Rattle.positioned_layout.proofs.Placing.{point_same}
use Rattle.positioned_layout.proofs.places.flat_place.Goals as goal

-- what came as far as the viewport is a place
at_top : (flat : ℕ → ℤ × ℤ) (from : Option NodeId) → from ≡ None → (axis : Axis) (place by : ℤ) → place ≡ part axis (place_of flat (option_map number from)) +ℤ by → by ≡ place
at_top flat None is Across place by e = omega (arith, ints, e)
at_top flat None is Down place by e = omega (arith, ints, e)
at_top flat (Some from) is axis place by e = absurd (let both : Some from ≡ None = is in cc)

sum_whole : (x y : ℤ) → IsNear 65536 x → IsNear 65536 y → to_z w64 (of_z w64 (to_z w64 (of_z w64 x) +ℤ to_z w64 (of_z w64 y))) ≡ x +ℤ y
sum_whole x y one other = omega (arith, ints, one, other)

sum_near : (high low : ℕ) (x y : ℤ) → IsNear 65536 x → IsNear 65536 y → IsWalked high low x → IsWalked low 0 y → IsNear high (to_z w64 (of_z w64 (to_z w64 (of_z w64 x) +ℤ to_z w64 (of_z w64 y))))
sum_near high low x y one other first second = (omega (arith, ints, one, other, first, second), omega (arith, ints, one, other, first, second))

near_more : (high : ℕ) (x : ℤ) → high ≤ 65536 → IsNear high x → IsNear 65536 x
near_more high x low near = (omega (arith, ints, low, near), omega (arith, ints, low, near))

walked_all : (deep : ℕ → ℕ) (high : ℕ) (x : ℤ) (from : Option NodeId) → from ≡ None → IsWalked high (above deep (option_map number from)) x → IsWalked high 0 x
walked_all deep high x from is walked = subst (λ (o : Option NodeId). IsWalked high (above deep (option_map number o)) x) is walked

pub returns-in_default-clause-value : goal.returns-in_default-clause-value
returns-in_default-clause-value g c at view are up boxed =
    let both = c.walk-both.ensures in
    point_same _ _ _ _
    (near_whole c.walk-both.result.left both.short.0 ∙ at_top (flat_place at view) c.walk-both.result.from c.in_default.is Across _ c.walk-both.result.left (both.value at view are up boxed Across tt))
    (near_whole c.walk-both.result.top both.short.1 ∙ at_top (flat_place at view) c.walk-both.result.from c.in_default.is Down _ c.walk-both.result.top (both.value at view are up boxed Down tt))

pub returns-clause-value : goal.returns-clause-value
returns-clause-value g c at view are up boxed =
    let both = c.walk-both.ensures in
    let from = c.in-Some.from.0 in
    let further : AreMeasuresUp at view from (g.M.Measures.measured c.args.measures.now) × (is_some (inputs_in_view at view from) ≡ true)
    = subst (λ (o : Option NodeId). IfSome o (λ f. AreMeasuresUp at view (f.0) (g.M.Measures.measured c.args.measures.now) × (is_some (inputs_in_view at view (f.0)) ≡ true))) c.in-Some.is (both.inside at view are up boxed) in
    let across = at_top (flat_place at view) c.walk-across.result.from (c.walk-across.ensures.one refl) Across _ c.walk-across.result.left (c.walk-across.ensures.value at view are further.0 further.1 Across refl) in
    let down = at_top (flat_place at view) c.walk-down.result.from (c.walk-down.ensures.one refl) Down _ c.walk-down.result.top (c.walk-down.ensures.value at view are further.0 further.1 Down refl) in
    let left = both.value at view are up boxed Across tt ∙ ap (λ (o : Option NodeId). part Across (place_of (flat_place at view) (option_map number o)) +ℤ c.walk-both.result.left) c.in-Some.is in
    let top = both.value at view are up boxed Down tt ∙ ap (λ (o : Option NodeId). part Down (place_of (flat_place at view) (option_map number o)) +ℤ c.walk-both.result.top) c.in-Some.is in
    point_same _ _ _ _
    (sum_whole _ _ both.short.0 c.walk-across.ensures.short.0 ∙ omega (arith, ints, across, left))
    (sum_whole _ _ both.short.1 c.walk-down.ensures.short.1 ∙ omega (arith, ints, down, top))

pub returns-clause-range : goal.returns-clause-range
returns-clause-range g c =
    let deep = depth c.args.tree.now.nodes in
    let high = depth c.args.tree.now.nodes (c.args.node.0) in
    let both = c.walk-both.ensures in
    let left : IsWalked high (deep (c.in-Some.from.0)) c.walk-both.result.left = subst (λ (o : Option NodeId). IsWalked high (above deep (option_map number o)) c.walk-both.result.left) c.in-Some.is both.range.0 in
    let top : IsWalked high (deep (c.in-Some.from.0)) c.walk-both.result.top = subst (λ (o : Option NodeId). IsWalked high (above deep (option_map number o)) c.walk-both.result.top) c.in-Some.is both.range.1 in (
      sum_near high _ _ _ both.short.0 c.walk-across.ensures.short.0 left (walked_all deep _ _ c.walk-across.result.from (c.walk-across.ensures.one refl) c.walk-across.ensures.range.0),
      sum_near high _ _ _ both.short.1 c.walk-down.ensures.short.1 top (walked_all deep _ _ c.walk-down.result.from (c.walk-down.ensures.one refl) c.walk-down.ensures.range.1),
    )

pub returns-clause-short : goal.returns-clause-short
returns-clause-short g c =
    let deep = depth c.args.tree.now.nodes in
    let high = depth c.args.tree.now.nodes (c.args.node.0) in
    let both = c.walk-both.ensures in
    let within = subst (λ (o : Option NodeId). IfSome o (λ f. (f.0 < length c.args.tree.now.nodes) × (depth c.args.tree.now.nodes (c.args.node.0) ≤ 65536))) c.in-Some.is both.within in
    let left : IsWalked high (deep (c.in-Some.from.0)) c.walk-both.result.left = subst (λ (o : Option NodeId). IsWalked high (above deep (option_map number o)) c.walk-both.result.left) c.in-Some.is both.range.0 in
    let top : IsWalked high (deep (c.in-Some.from.0)) c.walk-both.result.top = subst (λ (o : Option NodeId). IsWalked high (above deep (option_map number o)) c.walk-both.result.top) c.in-Some.is both.range.1 in (
      near_more high _ within.1 (sum_near high _ _ _ both.short.0 c.walk-across.ensures.short.0 left (walked_all deep _ _ c.walk-across.result.from (c.walk-across.ensures.one refl) c.walk-across.ensures.range.0)),
      near_more high _ within.1 (sum_near high _ _ _ both.short.1 c.walk-down.ensures.short.1 top (walked_all deep _ _ c.walk-down.result.from (c.walk-down.ensures.one refl) c.walk-down.ensures.range.1)),
    )
