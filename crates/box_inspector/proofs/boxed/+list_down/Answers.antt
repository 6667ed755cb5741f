use Rattle.std.proofs.Common.{◌≡◌, ◌-◌, suc, length, map, option_map, ap, sym, ◌∙◌, arith}
use Rattle.element_tree.specs.Forest.{children_of, rest_from}
use Rattle.element_tree.specs.Links.{number}
use Rattle.element_tree.proofs.Walks.{walk_whole, walk_among, walk_step, walk_on}
use Rattle.page_model.specs.World.{Tree}
use Rattle.page_model.specs.Lookups.{element_at}
use Rattle.page_documents.proofs.Seen.{children_seen}
use Rattle.page_tree.specs.Items.{carried_in}
use Rattle.box_inspector.proofs.Kids.{begins, goes_on, ends}
use Rattle.box_inspector.proofs.Listed.{below, listed_none, listed_all}
use Rattle.box_inspector.proofs.boxed.+list_down.Goals as goal

pub returns-then-high-eq0 : goal.returns-then-high-eq0
returns-then-high-eq0 t c = listed_none c.args.shown.now (map number c.args.listed.now.items) c.args.high (c.args.node.0) c.if-high-eq0.true

pub loop-next-init : goal.loop-next-init
loop-next-init t c =
    let forest = c.first_child-next.ensures.forest in
    record {
      among = walk_among forest (c.args.node.0) c.first_child-next.result c.first_child-next.ensures.value;
      so_far = begins (below c.args.shown.now (c.args.high - 1)) _ _ _ _ c.in_ok-push_boxed.ensures
          (walk_whole forest (c.args.node.0) c.first_child-next.result c.first_child-next.ensures.value);
    }

pub loop-next-smaller : goal.loop-next-smaller
loop-next-smaller t c =
    let step = walk_step c.first_child-next.ensures.forest (c.args.node.0) c.loop-next.next c.in-Some.child c.in-Some.is c.loop-next.invariant.among
    c.next_sibling-next.result c.next_sibling-next.ensures.value in
    let shorter : length (rest_from (option_map number c.loop-next.next) (children_of c.args.tree.now.nodes (c.args.node.0)))
    ≡ suc (length (rest_from (option_map number c.next_sibling-next.result) (children_of c.args.tree.now.nodes (c.args.node.0)))) = ap length step in
    omega arith

pub loop-next-preserved : goal.loop-next-preserved
loop-next-preserved t c =
    let forest = c.first_child-next.ensures.forest in
    let step = walk_step forest (c.args.node.0) c.loop-next.next c.in-Some.child c.in-Some.is c.loop-next.invariant.among c.next_sibling-next.result
    c.next_sibling-next.ensures.value in
    record {
      among = walk_on forest (c.args.node.0) c.loop-next.next c.in-Some.child c.in-Some.is c.loop-next.invariant.among c.next_sibling-next.result
          c.next_sibling-next.ensures.value;
      so_far = goes_on (below c.args.shown.now (c.args.high - 1)) _ _ _ _ _ (c.in-Some.child.0) step c.in_ok-list_down.ensures
          c.loop-next.invariant.so_far;
    }

pub returns : goal.returns
returns t c =
    let n = c.args.node.0 in
    let kids = children_of c.args.tree.now.nodes n in
    listed_all c.args.shown.now c.args.high (c.args.high - 1) n (map number c.args.listed.now.items) (map number c.loop-next.listed.items) kids (omega arith)
    (ap (λ (tree : Tree). (element_at tree n).children) (sym c.requires) ∙ children_seen carried_in c.args.tree.now c.args.shown.now.tree.documents n)
    (ends (below c.args.shown.now (c.args.high - 1)) _ _ c.loop-next.next kids c.in_default.is c.loop-next.invariant.so_far)
