use Rattle.std.proofs.Common.{ap, sym, ◌∙◌, option_map, arith}
use Rattle.std.specs.Prelude.{find, Option}
use Rattle.layout_model.specs.Nodes.{path_above, path_of, is_positioned}
use Rattle.element_tree.specs.declared.node.NodeId.{NodeId}
use Rattle.element_tree.specs.Links.{number}
use Rattle.element_tree.proofs.Walks.{climb_falls}
use Rattle.positioned_layout.proofs.Holding.{numbers_are, ancestors_by, found_from, parent_above}
use Rattle.positioned_layout.proofs.Nodes.{shallow}
use Rattle.positioned_layout.proofs.holders.positioned_ancestor.Goals as goal

pub loop-up-init : goal.loop-up-init
loop-up-init g c =
    let same = numbers_are _ c.parent-up.result c.parent-up.ensures.value in
    record {
      inside = λ a met. parent_above c.parent-up.ensures.forest (c.args.node.0) a (sym same ∙ met);
      found = λ at are. ap (find (λ a. is_positioned (at a))) (ancestors_by at (c.args.node.0) _ (are.parent (c.args.node.0) ∙ sym same));
    }

pub is_positioned-requires : goal.is_positioned-requires
is_positioned-requires g c = (c.loop-up.invariant.inside (c.in-Some.ancestor.0) (ap (λ (o : Option NodeId). option_map number o) c.in-Some.is)).0

pub returns-then-is_positioned-clause-value : goal.returns-then-is_positioned-clause-value
returns-then-is_positioned-clause-value g c at are =
    sym
    (c.loop-up.invariant.found at are
    ∙ ap (λ (o : Option NodeId). find (λ a. is_positioned (at a)) (path_above (path_of at) (option_map number o))) c.in-Some.is
    ∙ found_from at (shallow g.P.Placed.placed c.args.tree.now.nodes at are c.parent-up.ensures.forest) (λ a. is_positioned (at a)) (c.in-Some.ancestor.0) _ (sym (c.is_positioned.ensures.value at are) ∙ c.if-is_positioned.true))

pub returns-then-is_positioned-clause-above : goal.returns-then-is_positioned-clause-above
returns-then-is_positioned-clause-above g c = c.loop-up.invariant.inside (c.in-Some.ancestor.0) (ap (λ (o : Option NodeId). option_map number o) c.in-Some.is)

pub loop-up-smaller : goal.loop-up-smaller
loop-up-smaller g c =
    climb_falls c.args.tree.now.nodes 0 c.loop-up.up c.in-Some.ancestor c.in-Some.is c.parent-up.ensures.forest c.parent-up-in-Some.result c.parent-up-in-Some.ensures.value

pub loop-up-preserved : goal.loop-up-preserved
loop-up-preserved g c =
    let a = c.in-Some.ancestor.0 in
    let same = numbers_are _ c.parent-up-in-Some.result c.parent-up-in-Some.ensures.value in
    let here = c.loop-up.invariant.inside a (ap (λ (o : Option NodeId). option_map number o) c.in-Some.is) in
    record {
      inside = λ b met. let up = parent_above c.parent-up.ensures.forest a b (sym same ∙ met) in (up.0, omega (arith, up.1, here.1));
      found = λ at are.
          c.loop-up.invariant.found at are
          ∙ ap (λ (o : Option NodeId). find (λ m. is_positioned (at m)) (path_above (path_of at) (option_map number o))) c.in-Some.is
          ∙ found_from at (shallow g.P.Placed.placed c.args.tree.now.nodes at are c.parent-up.ensures.forest) (λ m. is_positioned (at m)) a _ (sym (c.is_positioned.ensures.value at are) ∙ c.if-is_positioned.false)
          ∙ ap (find (λ m. is_positioned (at m))) (ancestors_by at a _ (are.parent a ∙ sym same));
    }
