use Rattle.std.proofs.Common.{◌++◌, map, Option, vec_items, option_map, option_to_list, ap, sym, ◌∙◌}
use Rattle.element_tree.specs.declared.node.NodeId.{NodeId}
use Rattle.element_tree.specs.Links.{number}
use Rattle.hit_test.specs.Painting.{painted_down}
use Rattle.hit_test.proofs.Painted.{whole_page, bare_page}
use Rattle.hit_test.proofs.painting.paint_order.Goals.{in-Some+in_ok-paint_down, in_default}
use Rattle.hit_test.proofs.painting.paint_order.Goals as goal

pub returns : goal.returns
returns c =
    let tree = c.args.page.now.tree in
    elim c.match-painted_root.branch [
      | in-Some+in_ok-paint_down w ↦
          whole_page tree (w.in-Some.root.0) _
          (ap (λ (o : Option NodeId). option_to_list (option_map number o)) (sym w.in-Some.is) ∙ c.painted_root.ensures.value)
          (ap (λ v. map number (vec_items v)) w.painted-is
          ∙ w.in_ok-paint_down.ensures
          ∙ ap (λ xs. map number xs ++ painted_down 65536 tree (w.in-Some.root.0)) c.new-painted.ensures.items)
      | in_default w ↦
          ap (λ v. map number (vec_items v)) w.painted-is
          ∙ ap (map number) c.new-painted.ensures.items
          ∙ bare_page tree (ap (λ (o : Option NodeId). option_to_list (option_map number o)) (sym w.in_default.is) ∙ c.painted_root.ensures.value)
    ]
