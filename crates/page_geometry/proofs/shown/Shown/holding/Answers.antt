use Rattle.std.proofs.Common.{◌≡◌, ℕ, Some, inl, inr, ap, sym, ◌∙◌, arith}
use Rattle.layout_model.specs.Nodes.{Node, HeldByPage, holder}
use Rattle.page_model.specs.World.{Tree, InDocument}
use Rattle.page_model.specs.Documents.{nodes_of, tree_document}
use Rattle.page_model.specs.Chains.{container_held, holding}
use Rattle.block_layout.specs.Trees.{layout_tree}
use Rattle.positioned_layout.specs.declared.Holder.{Holder}
use Rattle.positioned_layout.specs.declared.Holder.TheVariants as code
use Rattle.positioned_layout.specs.Seen.{seen_holder}
use Rattle.kept_layout.proofs.Held.{tree_nodes}
use Rattle.page_tree.specs.Items.{style_in, kind_in}
use Rattle.page_boxes.proofs.Pages.{made_if_boxed}
use Rattle.page_geometry.proofs.Standing.{boxed_document}
use Rattle.page_geometry.proofs.shown.Shown.holding.Goals as goal

pub holder_of-requires : goal.holder_of-requires
holder_of-requires c =
    let it = c.args.self.now in
    let made = made_if_boxed it.tree it.screen (c.args.node.0) c.requires in omega (arith, made, c.elements.ensures.count)

-- what is told to hold a box
held_by : (tree : Tree) (n : ℕ) (at : ℕ → Node) → nodes_of tree ≡ at → (told by : Holder) → seen_holder told ≡ holder at n → told ≡ by
    → container_held (seen_holder by) (tree_document tree n) ≡ holding tree n
held_by tree n at nodes told by is same =
    ap (λ h. container_held (seen_holder h) (tree_document tree n)) (sym same)
    ∙ ap (λ h. container_held h (tree_document tree n)) (is ∙ ap (λ at. holder at n) (sym nodes))

pub returns-in-Node : goal.returns-in-Node
returns-in-Node c =
    let at = layout_tree style_in kind_in c.elements.result.now.nodes in
    held_by c.args.self.now.tree (c.args.node.0) at c.elements.ensures.nodes c.holder_of.result (code.Node c.in-Node.element)
    (c.holder_of.ensures.value at (tree_nodes style_in kind_in c.elements.result.now.nodes)) c.in-Node.is

pub returns-in-Page : goal.returns-in-Page
returns-in-Page c =
    let it = c.args.self.now in
    let n = c.args.node.0 in
    let at = layout_tree style_in kind_in c.elements.result.now.nodes in
    let is = c.holder_of.ensures.value at (tree_nodes style_in kind_in c.elements.result.now.nodes) in
    let held : container_held HeldByPage (tree_document it.tree n) ≡ holding it.tree n = elim c.in-Page.is [
      | inl page ↦ held_by it.tree n at c.elements.ensures.nodes c.holder_of.result code.Page is page
      | inr screen ↦ held_by it.tree n at c.elements.ensures.nodes c.holder_of.result code.Screen is screen
    ] in
    ap (λ d. Some (InDocument d)) c.document_of.ensures
    ∙ ap (container_held HeldByPage) (sym (boxed_document it.tree it.screen c.document_count.ensures.page.framed n c.requires))
    ∙ held
