use Rattle.std.proofs.Common.{◌≡◌, ℕ, true, false, nat_eq, eqb-true, ap, sym, subst, ◌∙◌, arith}
use Rattle.std.proofs.lemmas.Bool.Decides.{nat_tests}
use Rattle.layout_model.specs.Nodes.{held, is_in_path, IsShallow}
use Rattle.element_tree.specs.Forest.{depth}
use Rattle.block_layout.specs.Trees.{layout_tree}
use Rattle.positioned_layout.specs.declared.Holder.{Holder}
use Rattle.positioned_layout.specs.Seen.{seen_holder}
use Rattle.kept_layout.proofs.Held.{tree_nodes, levels_from, if_first, levels_fall}
use Rattle.page_model.specs.World.{Element}
use Rattle.page_tree.specs.Items.{style_in, kind_in}
use Rattle.page_boxes.proofs.Pages.{missing_element}
use Rattle.page_geometry.proofs.Ancestors.{is_from, from_holder, from_itself, on_chain, not_itself, none_above}
use Rattle.page_geometry.proofs.relations.is_on_chain.Goals as goal

pub returns-then-eq : goal.returns-then-eq
returns-then-eq c = not_itself c.args.page.now.tree (c.args.element.0) (c.args.target.0) (sym c.eq.ensures ∙ c.if-eq.true)

pub loop-held-init : goal.loop-held-init
loop-held-init c =
    let nodes = c.tree-tree.result.now.nodes in
    let at = layout_tree style_in kind_in nodes in
    let short = subst IsShallow c.tree-tree.ensures.nodes c.tree-tree.ensures.framed.trees.shallow in
    record {
      within = if_first _ _ c.holder_of-held.result c.holder_of-held.ensures.above;
      on =
          from_holder at short (c.args.element.0) (c.args.target.0) (sym c.eq.ensures ∙ c.if-eq.false) (seen_holder c.holder_of-held.result)
          (c.holder_of-held.ensures.value at (tree_nodes style_in kind_in nodes));
    }

pub returns-then-eq-2 : goal.returns-then-eq-2
returns-then-eq-2 c =
    let a = c.args.element.0 in
    let n = c.args.target.0 in
    let at = layout_tree style_in kind_in c.tree-tree.result.now.nodes in
    on_chain c.args.page.now.tree a n true (sym c.eq.ensures ∙ c.if-eq.false)
    (from_itself at a (c.in-Node.holder.0) (seen_holder c.loop-held.held) (ap seen_holder c.in-Node.is)
    (eqb-true (c.in-Node.holder.0) a (sym c.eq-in-Node.ensures ∙ c.if-eq-2.true))
    ∙ c.loop-held.invariant.on
    ∙ ap (λ at. is_in_path (held at) a n) (sym c.tree-tree.ensures.nodes))

pub loop-held-smaller : goal.loop-held-smaller
loop-held-smaller c =
    let nodes = c.tree-tree.result.now.nodes in
    let low = levels_fall nodes (c.in-Node.holder.0) c.holder_of-held-in-Node.result c.holder_of-held-in-Node.ensures.above in
    let here : levels_from nodes c.loop-held.held ≡ depth nodes (c.in-Node.holder.0) = ap (levels_from nodes) c.in-Node.is in
    omega (arith, low, here)

differs : (a n : ℕ) → nat_eq n a ≡ false → nat_eq a n ≡ false
differs a n is = grind (arith, nat_tests)

pub loop-held-preserved : goal.loop-held-preserved
loop-held-preserved c =
    let nodes = c.tree-tree.result.now.nodes in
    let at = layout_tree style_in kind_in nodes in
    let a = c.args.element.0 in
    let short = subst IsShallow c.tree-tree.ensures.nodes c.tree-tree.ensures.framed.trees.shallow in
    record {
      within = if_first _ _ c.holder_of-held-in-Node.result c.holder_of-held-in-Node.ensures.above;
      on =
          from_holder at short a (c.in-Node.holder.0) (differs a (c.in-Node.holder.0) (sym c.eq-in-Node.ensures ∙ c.if-eq-2.false))
          (seen_holder c.holder_of-held-in-Node.result) (c.holder_of-held-in-Node.ensures.value at (tree_nodes style_in kind_in nodes))
          ∙ sym (ap (λ (h : Holder). is_from at a (seen_holder h)) c.in-Node.is)
          ∙ c.loop-held.invariant.on;
    }

pub returns-then-not-holds : goal.returns-then-not-holds
returns-then-not-holds c =
    let tree = c.args.page.now.tree in
    let n = c.args.target.0 in
    none_above tree (c.args.element.0) n c.holds.ensures.trees.shallow
    (ap (λ (it : Element). it.parent) (missing_element tree n (sym c.holds.ensures.value ∙ c.if-not-holds.true)))
