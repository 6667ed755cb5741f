use Rattle.std.proofs.Common.{◌≡◌, nat_lt, length, true, ap, sym, ◌∙◌, arith}
use Rattle.std.proofs.lemmas.Bool.Decides.{nat_tests}
use Rattle.layout_model.specs.Clips.{is_scroll_container}
use Rattle.page_boxes.proofs.Pages.{count_here}
use Rattle.page_geometry.proofs.Containers.{missing_scrolls}
use Rattle.page_geometry.proofs.geometry.is_scroll_container.Goals as goal

pub is_scroll_container-requires : goal.is_scroll_container-requires
is_scroll_container-requires c =
    let count = count_here c.args.page.now c.tree.result.now c.tree.ensures.value in
    let made : nat_lt (c.args.node.0) (length c.args.page.now.tree.elements) ≡ true = sym c.holds.ensures.value ∙ c.if-holds.true in
    grind (arith, nat_tests)

pub returns-then-holds : goal.returns-then-holds
returns-then-holds c = c.is_scroll_container.ensures.value ∙ ap (λ at. is_scroll_container (at (c.args.node.0))) (sym c.tree.ensures.nodes)

pub returns-else-holds : goal.returns-else-holds
returns-else-holds c = c.if-holds.false ∙ sym (missing_scrolls c.args.page.now.tree (c.args.node.0) (sym c.holds.ensures.value ∙ c.if-holds.false))
