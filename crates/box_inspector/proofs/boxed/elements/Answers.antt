use Rattle.std.proofs.Common.{◌++◌, map, Option, vec_items, option_map, ap, sym, ◌∙◌}
use Rattle.element_tree.specs.declared.node.NodeId.{NodeId}
use Rattle.element_tree.specs.Links.{number}
use Rattle.page_model.specs.World.{Tree}
use Rattle.page_model.specs.Lookups.{document_at}
use Rattle.box_inspector.proofs.Listed.{below, of_root, rootless, all_boxed}
use Rattle.box_inspector.proofs.boxed.elements.Goals.{in-Some+in_ok-list_down, in_default}
use Rattle.box_inspector.proofs.boxed.elements.Goals as goal

pub returns-clause-list : goal.returns-clause-list
returns-clause-list c =
    let it = c.args.shown.now in
    let root = c.root.ensures.value ∙ ap (λ (tree : Tree). (document_at tree c.args.document.0).root) c.page-page.ensures in
    elim c.match-root.branch [
      | in-Some+in_ok-list_down w ↦
          of_root it c.args.document.0 (w.in-Some.root.0) _
          (ap (λ (o : Option NodeId). option_map number o) (sym w.in-Some.is) ∙ root)
          (ap (λ v. map number (vec_items v)) w.listed-is
          ∙ w.in_ok-list_down.ensures
          ∙ ap (λ xs. map number xs ++ below it 65536 (w.in-Some.root.0)) c.new-listed.ensures.items)
      | in_default w ↦
          ap (λ v. map number (vec_items v)) w.listed-is
          ∙ ap (map number) c.new-listed.ensures.items
          ∙ rootless it c.args.document.0 (ap (λ (o : Option NodeId). option_map number o) (sym w.in_default.is) ∙ root)
    ]

pub returns-clause-boxed : goal.returns-clause-boxed
returns-clause-boxed c = all_boxed c.args.shown.now c.args.document.0 c.match-root.listed.items (returns-clause-list c)
