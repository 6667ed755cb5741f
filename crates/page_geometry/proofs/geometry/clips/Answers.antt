use Rattle.std.proofs.Common.{◌≡◌, nat_lt, length, true, ap, sym, ◌∙◌, arith}
use Rattle.std.proofs.lemmas.Bool.Decides.{nat_tests}
use Rattle.layout_model.specs.Clips.{clips}
use Rattle.page_boxes.proofs.Pages.{count_here}
use Rattle.page_geometry.proofs.Containers.{missing_clips}
use Rattle.page_geometry.proofs.geometry.clips.Goals as goal

pub is_clipping-requires : goal.is_clipping-requires
is_clipping-requires c =
    let count = count_here c.args.page.now c.tree.result.now c.tree.ensures.value in
    let made : nat_lt (c.args.node.0) (length c.args.page.now.tree.elements) ≡ true = sym c.holds.ensures.value ∙ c.if-holds.true in
    grind (arith, nat_tests)

pub returns-then-holds : goal.returns-then-holds
returns-then-holds c = c.is_clipping.ensures.value ∙ ap (λ at. clips (at (c.args.node.0))) (sym c.tree.ensures.nodes)

pub returns-else-holds : goal.returns-else-holds
returns-else-holds c = c.if-holds.false ∙ sym (missing_clips c.args.page.now.tree (c.args.node.0) (sym c.holds.ensures.value ∙ c.if-holds.false))
