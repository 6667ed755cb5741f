use Rattle.std.proofs.Common.{◌≤◌, ap, sym, length, arith}
use Rattle.std.proofs.lemmas.List.{length-map}
use Rattle.page_tree.specs.Items.{carried_in}
use Rattle.page_tree.specs.Views.{PageElements}
use Rattle.page_documents.specs.Seen.{element_of}
use Rattle.intersection_update.proofs.Nowhere.{nowhere, not_less}
use Rattle.intersection_update.proofs.rooted.stands_in.Goals as goal

pub returns-then-not-holds : goal.returns-then-not-holds
returns-then-not-holds c =
    let tree = c.args.page.now.tree in
    let nodes : length c.tree.result.now.nodes ≤ c.args.node.0 = not_less (c.args.node.0) (length c.tree.result.now.nodes) (sym c.if-not-holds.ensures.value) in
    let elements = ap (λ (page : PageElements). length page.tree.elements) c.tree.ensures.value in
    let past : length tree.elements ≤ c.args.node.0 = omega (arith, nodes, elements, length-map c.tree.result.now.nodes (element_of carried_in)) in
    sym (nowhere tree c.tree.ensures.framed (c.args.node.0) (c.args.document.0) past)
