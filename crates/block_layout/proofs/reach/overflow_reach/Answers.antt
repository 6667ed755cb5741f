use Rattle.std.proofs.Common.{◌≡◌, arith, rules, ap, sym, subst, ◌∙◌}
use Rattle.std.proofs.lemmas.Int.{ints}
use Rattle.std.specs.Prelude.{None, Some, IfSome, unsigned_abs}
use mir.Syntax.{w64}
use mir.Val.{of_z, to_z, SFits}
use Rattle.layout_model.specs.Views.{View}
use Rattle.layout_model.specs.Reach.{reach_of_view}
use Rattle.block_layout.specs.Filling.{IsUnpositioned}
use Rattle.block_layout.specs.Held.{HoldsBoxes}
use Rattle.block_layout.specs.Seen.{as_size}
use Rattle.block_layout.specs.Trees.{layout_tree}
use Rattle.block_layout.proofs.reach.overflow_reach.Goals as goal

pub returns-in-Some-clause-viewport : goal.returns-in-Some-clause-viewport
returns-in-Some-clause-viewport g c =
    let at = layout_tree g.P.Styled.style g.P.Styled.kind c.args.tree.now.nodes in
    let fits : SFits w64 c.in-Some.size.width = search rules in
    let fits_too : SFits w64 c.in-Some.size.height = search rules in
    let width : to_z w64 (of_z w64 c.in-Some.size.width) ≡ c.in-Some.size.width = omega (arith, ints) in
    let height : to_z w64 (of_z w64 c.in-Some.size.height) ≡ c.in-Some.size.height = omega (arith, ints) in
    subst
    (λ view. IfSome view (λ size. IsUnpositioned at (c.args.node.0) → (at (c.args.node.0)).parent ≡ None → (document : View) → document.root ≡ Some (c.args.node.0)
    → document.width ≡ unsigned_abs size.width → document.height ≡ unsigned_abs size.height
    → HoldsBoxes at document (c.args.node.0) (g.B.Boxes.held c.args.boxes.now) → c.view_reach.result ≡ as_size (reach_of_view at document)))
    (sym c.in-Some.is)
    (λ still top document is wide tall holds. c.view_reach.ensures.value still top document is
    (wide ∙ sym (c.unsigned_abs.ensures.value ∙ ap unsigned_abs width))
    (tall ∙ sym (c.unsigned_abs-in-Some.ensures.value ∙ ap unsigned_abs height))
    holds)
