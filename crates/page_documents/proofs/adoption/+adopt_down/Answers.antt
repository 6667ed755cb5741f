use Rattle.std.proofs.Common.{◌≡◌, ◌-◌, suc, [], length, Option, option_map, refl, ap, sym, ◌∙◌, arith}
use Rattle.element_tree.specs.declared.node.NodeId.{NodeId}
use Rattle.element_tree.specs.Forest.{children_of, rest_from, has}
use Rattle.element_tree.specs.Edits.{with_nodes, with_payload}
use Rattle.element_tree.specs.Links.{number}
use Rattle.element_tree.proofs.Facts.{child_in_range}
use Rattle.element_tree.proofs.Nodes.{length-changed}
use Rattle.page_model.specs.Lookups.{change_each}
use Rattle.page_model.specs.Documents.{order_down}
use Rattle.page_documents.specs.Seen.{seen_tree}
use Rattle.page_documents.specs.Adoption.{adopting}
use Rattle.page_documents.proofs.Adopting.{adopts_first, adopts_next, adopts_all, kids_after, kids_written, walk_begun, order_none, met}
use Rattle.page_documents.proofs.adoption.+adopt_down.Goals as goal

pub returns-then-high-eq0 : goal.returns-then-high-eq0
returns-then-high-eq0 g t c =
    ap (λ places. with_nodes (change_each (adopting (g.P.Owned.adopted) c.args.document.0) places) c.args.tree.now)
    (sym (order_none (seen_tree (g.P.Owned.carried) c.args.tree.now []) c.args.high (c.args.node.0) c.if-high-eq0.true))

pub loop-next-init : goal.loop-next-init
loop-next-init g t c =
    let same = kids_written (g.P.Owned.carried) (g.P.Owned.adopted) c.args.document.0 c.args.tree.now.nodes (c.args.node.0) c.payload_mut.result.now
    c.set_document.new.self c.payload_mut.ensures.value c.set_document.ensures in
    let begins = walk_begun c.first_child-next.ensures.forest (c.args.node.0) (children_of c.args.tree.now.nodes (c.args.node.0)) (same (c.args.node.0))
    c.first_child-next.result c.first_child-next.ensures.value in
    record {
      among = begins.1;
      adopts = adopts_first (g.P.Owned.carried) (g.P.Owned.adopted) c.args.document.0 c.args.tree.now (c.args.high - 1) (c.args.node.0)
          c.payload_mut.result.now c.set_document.new.self _ _ c.payload_mut.ensures.value c.set_document.ensures refl begins.0;
    }

pub adopt_down-requires : goal.adopt_down-requires
adopt_down-requires g t c κs within =
    let same = kids_written (g.P.Owned.carried) (g.P.Owned.adopted) c.args.document.0 c.args.tree.now.nodes (c.args.node.0) c.payload_mut.result.now
    c.set_document.new.self c.payload_mut.ensures.value c.set_document.ensures in
    let count = length-changed (with_payload c.set_document.new.self) (c.args.node.0) c.args.tree.now.nodes in
    let here = c.loop-next.invariant.among (c.in-Some.child.0) (ap (λ (o : Option NodeId). option_map number o) c.in-Some.is) in
    let inside = child_in_range c.first_child-next.ensures.forest (c.args.node.0) (c.in-Some.child.0)
    (ap (λ kids. has kids (c.in-Some.child.0)) (same (c.args.node.0)) ∙ here) in
    let all = c.loop-next.invariant.adopts.count in
    (omega arith, (within, omega arith))

pub loop-next-smaller : goal.loop-next-smaller
loop-next-smaller g t c =
    let so_far = c.loop-next.invariant.adopts in
    let same = kids_after (g.P.Owned.carried) (g.P.Owned.adopted) c.args.document.0 c.args.tree.now (c.args.high - 1) (c.args.node.0) c.loop-next.tree
    c.adopt_down.new.tree _ (order_down (c.args.high - 1) (seen_tree (g.P.Owned.carried) c.loop-next.tree []) (c.in-Some.child.0)) so_far
    c.adopt_down.ensures (c.args.node.0) in
    let kid = met c.next_sibling-next.ensures.forest (c.args.node.0) (children_of c.args.tree.now.nodes (c.args.node.0)) same c.loop-next.next
    c.next_sibling-next.result c.in-Some.child c.in-Some.is c.loop-next.invariant.among c.next_sibling-next.ensures.value in
    let shorter : length (rest_from (option_map number c.loop-next.next) (children_of c.args.tree.now.nodes (c.args.node.0)))
    ≡ suc (length (rest_from (option_map number c.next_sibling-next.result) (children_of c.args.tree.now.nodes (c.args.node.0)))) = ap length kid.step in
    omega arith

pub loop-next-preserved : goal.loop-next-preserved
loop-next-preserved g t c =
    let so_far = c.loop-next.invariant.adopts in
    let same = kids_after (g.P.Owned.carried) (g.P.Owned.adopted) c.args.document.0 c.args.tree.now (c.args.high - 1) (c.args.node.0) c.loop-next.tree
    c.adopt_down.new.tree _ (order_down (c.args.high - 1) (seen_tree (g.P.Owned.carried) c.loop-next.tree []) (c.in-Some.child.0)) so_far
    c.adopt_down.ensures (c.args.node.0) in
    let kid = met c.next_sibling-next.ensures.forest (c.args.node.0) (children_of c.args.tree.now.nodes (c.args.node.0)) same c.loop-next.next
    c.next_sibling-next.result c.in-Some.child c.in-Some.is c.loop-next.invariant.among c.next_sibling-next.ensures.value in
    record {
      among = kid.among;
      adopts = adopts_next (g.P.Owned.carried) (g.P.Owned.adopted) c.args.document.0 c.args.tree.now (c.args.high - 1) (c.args.node.0) (c.in-Some.child.0)
          c.loop-next.tree c.adopt_down.new.tree _ _ so_far kid.step c.adopt_down.ensures;
    }

pub returns : goal.returns
returns g t c =
    let more : c.args.high ≡ suc (c.args.high - 1) = omega arith in
    adopts_all (g.P.Owned.carried) (g.P.Owned.adopted) c.args.document.0 c.args.tree.now (c.args.high - 1) (c.args.node.0) c.loop-next.tree _ c.args.high
    c.loop-next.invariant.adopts
    (ap (λ (o : Option NodeId). rest_from (option_map number o) (children_of c.args.tree.now.nodes (c.args.node.0))) c.in_default.is) more
