use Rattle.std.proofs.Common.{◌≡◌, ◌-◌, suc, length, map, Option, option_map, option_to_list, ap, sym, ◌∙◌, arith}
use Rattle.std.proofs.lemmas.Result.{on_ok_weaker}
use Rattle.element_tree.specs.declared.node.NodeId.{NodeId}
use Rattle.element_tree.specs.Forest.{children_of, rest_from}
use Rattle.element_tree.specs.Links.{number}
use Rattle.element_tree.proofs.Walks.{walk_whole, walk_among, walk_step, walk_on}
use Rattle.page_model.specs.World.{Tree}
use Rattle.page_model.specs.Lookups.{element_at}
use Rattle.page_documents.proofs.Seen.{children_seen}
use Rattle.page_tree.specs.Items.{carried_in}
use Rattle.hit_test.specs.Painting.{painted_down}
use Rattle.hit_test.proofs.Kids.{begins, goes_on, ends}
use Rattle.hit_test.proofs.Painted.{painted_none, painted_bare, painted_full}
use Rattle.hit_test.proofs.painting.+paint_down.Goals as goal

pub returns-then-high-eq0 : goal.returns-then-high-eq0
returns-then-high-eq0 t c = painted_none c.args.page.now.tree (map number c.args.painted.now.items) c.args.high (c.args.node.0) c.if-high-eq0.true

pub loop-next-init : goal.loop-next-init
loop-next-init t c =
    let forest = c.first_child-next.ensures.forest in
    record {
      among = walk_among forest (c.args.node.0) c.first_child-next.result c.first_child-next.ensures.value;
      so_far = begins (painted_down (c.args.high - 1) c.args.page.now.tree) c.args.painted.now.items c.push.new.self.items c.args.node _ _ c.in_ok-push.ensures.items
          (walk_whole forest (c.args.node.0) c.first_child-next.result c.first_child-next.ensures.value);
    }

pub returns-in-None : goal.returns-in-None
returns-in-None t c =
    let tree = c.args.page.now.tree in
    let n = c.args.node.0 in
    let kids = children_of c.args.tree.now.nodes n in
    painted_bare tree c.args.high (c.args.high - 1) n (omega arith) (map number c.args.painted.now.items) (map number c.loop-next.painted.items) kids
    (ap (λ (tree : Tree). (element_at tree n).children) (sym c.requires) ∙ children_seen carried_in c.args.tree.now tree.documents n)
    (ends (painted_down (c.args.high - 1) tree) _ _ c.loop-next.next kids c.in_default.is c.loop-next.invariant.so_far)
    (ap (λ (o : Option NodeId). option_to_list (option_map number o)) (sym c.in-None.is) ∙ c.painted_inside.ensures.value)

pub returns-in-Some-painted_inside : goal.returns-in-Some-painted_inside
returns-in-Some-painted_inside t c =
    let tree = c.args.page.now.tree in
    let n = c.args.node.0 in
    let kids = children_of c.args.tree.now.nodes n in
    on_ok_weaker c.paint_down-in-Some-painted_inside.result
    (painted_full tree c.args.high (c.args.high - 1) n (omega arith) (map number c.args.painted.now.items) (map number c.loop-next.painted.items) kids
    (ap (λ (tree : Tree). (element_at tree n).children) (sym c.requires) ∙ children_seen carried_in c.args.tree.now tree.documents n)
    (ends (painted_down (c.args.high - 1) tree) _ _ c.loop-next.next kids c.in_default.is c.loop-next.invariant.so_far)
    (c.in-Some-painted_inside.root.0) (map number c.paint_down-in-Some-painted_inside.new.painted.items)
    (ap (λ (o : Option NodeId). option_to_list (option_map number o)) (sym c.in-Some-painted_inside.is) ∙ c.painted_inside.ensures.value))
    c.paint_down-in-Some-painted_inside.ensures

pub loop-next-smaller : goal.loop-next-smaller
loop-next-smaller t c =
    let step = walk_step c.first_child-next.ensures.forest (c.args.node.0) c.loop-next.next c.in-Some.child c.in-Some.is c.loop-next.invariant.among
    c.next_sibling-next.result c.next_sibling-next.ensures.value in
    let shorter : length (rest_from (option_map number c.loop-next.next) (children_of c.args.tree.now.nodes (c.args.node.0)))
    ≡ suc (length (rest_from (option_map number c.next_sibling-next.result) (children_of c.args.tree.now.nodes (c.args.node.0)))) = ap length step in
    omega arith

pub loop-next-preserved : goal.loop-next-preserved
loop-next-preserved t c =
    let forest = c.first_child-next.ensures.forest in
    let step = walk_step forest (c.args.node.0) c.loop-next.next c.in-Some.child c.in-Some.is c.loop-next.invariant.among c.next_sibling-next.result
    c.next_sibling-next.ensures.value in
    record {
      among = walk_on forest (c.args.node.0) c.loop-next.next c.in-Some.child c.in-Some.is c.loop-next.invariant.among c.next_sibling-next.result
          c.next_sibling-next.ensures.value;
      so_far = goes_on (painted_down (c.args.high - 1) c.args.page.now.tree) _ _ _ _ _ (c.in-Some.child.0) step c.in_ok-paint_down.ensures
          c.loop-next.invariant.so_far;
    }
