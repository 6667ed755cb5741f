use Rattle.std.proofs.Common.{◌≡◌, ◌-◌, suc, length, option_map, Option, ap, sym, ◌∙◌, arith}
use Rattle.element_tree.specs.declared.document.DocumentId.{DocumentId}
use Rattle.element_tree.specs.declared.node.NodeId.{NodeId}
use Rattle.element_tree.specs.Documents.{document_number}
use Rattle.element_tree.specs.Forest.{children_of, rest_from}
use Rattle.element_tree.specs.Links.{number}
use Rattle.element_tree.proofs.Facts.{child_in_range}
use Rattle.element_tree.proofs.Walks.{walk_whole, walk_among, walk_child, walk_step, walk_on}
use Rattle.page_documents.specs.States.{is_in}
use Rattle.page_documents.specs.Seen.{seen_tree}
use Rattle.page_documents.proofs.Seen.{children_seen, framed_seen}
use Rattle.page_documents.proofs.Leading.{then_ok, walk_begins, walk_goes_on, none_taken, late_taken, other_taken, bare_taken, full_taken, low_taken, root_there, root_nowhere}
use Rattle.page_documents.proofs.finding.+finding.Goals.{find_from-then-deep-eq0-via-then-deep-eq0, find_from-then-deep-eq0-via-else-deep-eq0+then-not-is_in}
use Rattle.page_documents.proofs.finding.+finding.Goals as goal

pub find_from-returns-in_default : goal.find_from-returns-in_default
find_from-returns-in_default g t c =
    none_taken (is_in c.args.state) (seen_tree (g.P.Owned.carried) c.args.tree.now c.args.entries.now) (g.F.Finder.with) c.args.deep 0 (option_map document_number c.args.document)
    c.args.finder.now (ap (λ (o : Option DocumentId). option_map document_number o) c.in_default.is)

pub find_from-returns-then-deep-eq0 : goal.find_from-returns-then-deep-eq0
find_from-returns-then-deep-eq0 g t c = elim c.then-deep-eq0.branch [
  | find_from-then-deep-eq0-via-then-deep-eq0 w ↦
      late_taken (is_in c.args.state) (seen_tree (g.P.Owned.carried) c.args.tree.now c.args.entries.now) (g.F.Finder.with) c.args.deep 0 _ c.args.finder.now
      (omega (arith, w.if-deep-eq0.true))
  | find_from-then-deep-eq0-via-else-deep-eq0+then-not-is_in w ↦
      other_taken (is_in c.args.state) (seen_tree (g.P.Owned.carried) c.args.tree.now c.args.entries.now) (g.F.Finder.with) c.args.deep 0
      (option_map document_number c.args.document) (c.in-Some.found.0) c.args.finder.now (ap (λ (o : Option DocumentId). option_map document_number o) c.in-Some.is)
      (sym w.is_in.ensures.value ∙ w.if-not-is_in.true)
]

pub find_from-returns-in-Some-root_in : goal.find_from-returns-in-Some-root_in
find_from-returns-in-Some-root_in g t c =
    let root = sym (ap (λ (o : Option NodeId). option_map number o) c.in-Some-root_in.is) ∙ c.root_in.ensures.value in
    then_ok c.find_in.result (full_taken (is_in c.args.state) (seen_tree (g.P.Owned.carried) c.args.tree.now c.args.entries.now) (g.F.Finder.with)
    c.args.deep 0 (option_map document_number c.args.document) (c.in-Some.found.0) (c.args.deep - 1) (c.in-Some-root_in.root.0) c.args.finder.now c.take.new.self c.find_in.new.finder
    (ap (λ (o : Option DocumentId). option_map document_number o) c.in-Some.is) (omega arith) (sym c.is_in.ensures.value
    ∙ c.if-not-is_in.false) c.in_ok-take.ensures (root_there (seen_tree (g.P.Owned.carried) c.args.tree.now c.args.entries.now) _ _ (sym root)))
    c.find_in.ensures

pub find_from-returns-in-None : goal.find_from-returns-in-None
find_from-returns-in-None g t c =
    let root = sym (ap (λ (o : Option NodeId). option_map number o) c.in-None.is) ∙ c.root_in.ensures.value in
    bare_taken (is_in c.args.state) (seen_tree (g.P.Owned.carried) c.args.tree.now c.args.entries.now) (g.F.Finder.with) c.args.deep 0 (option_map document_number c.args.document)
    (c.in-Some.found.0) (c.args.deep - 1) c.args.finder.now c.take.new.self
    (ap (λ (o : Option DocumentId). option_map document_number o) c.in-Some.is) (omega arith) (sym c.is_in.ensures.value
    ∙ c.if-not-is_in.false) c.in_ok-take.ensures (root_nowhere (seen_tree (g.P.Owned.carried) c.args.tree.now c.args.entries.now) _ (sym root))

pub find_in-returns-then-high-eq0 : goal.find_in-returns-then-high-eq0
find_in-returns-then-high-eq0 g t c =
    low_taken (is_in c.args.state) (seen_tree (g.P.Owned.carried) c.args.tree.now c.args.entries.now) (g.F.Finder.with) c.args.deep c.args.high
    (c.args.node.0) c.args.finder.now (omega arith)

pub find_in-loop-next-init : goal.find_in-loop-next-init
find_in-loop-next-init g t c =
    let framed = framed_seen (g.P.Owned.carried) c.args.tree.now c.args.entries.now (c.args.node.0) c.payload.result.now c.payload.ensures.value in
    let forest = c.first_child-next.ensures.forest in
    let more : c.args.high ≡ suc (c.args.high - 1) = omega arith in
    record {
      among = walk_among forest (c.args.node.0) c.first_child-next.result c.first_child-next.ensures.value;
      walk = walk_begins (is_in c.args.state) (seen_tree (g.P.Owned.carried) c.args.tree.now c.args.entries.now) (g.F.Finder.with) c.args.deep
          (c.args.high - 1) c.args.high (c.args.node.0) (option_map document_number c.framed.result) _ _ c.args.finder.now c.find_from.new.finder
          more (framed ∙ sym c.framed.ensures) (children_seen (g.P.Owned.carried) c.args.tree.now c.args.entries.now (c.args.node.0))
          (walk_whole forest (c.args.node.0) c.first_child-next.result c.first_child-next.ensures.value) c.in_ok-find_from.ensures;
    }

pub find_in-find_in-requires : goal.find_in-find_in-requires
find_in-find_in-requires g t c κs within =
    let forest = c.first_child-next.ensures.forest in
    let child = walk_child forest (c.args.node.0) c.loop-next.next c.in-Some.child c.in-Some.is c.loop-next.invariant.among in (
      omega arith,
      (
        within.0,
        (
          within.1.0,
          (
            within.1.1,
            (
              child_in_range forest (c.args.node.0) (c.in-Some.child.0) child,
              (c.requires.sought, c.requires.few),
            ),
          ),
        ),
      ),
    )

pub find_in-loop-next-smaller : goal.find_in-loop-next-smaller
find_in-loop-next-smaller g t c =
    let step = walk_step c.first_child-next.ensures.forest (c.args.node.0) c.loop-next.next c.in-Some.child c.in-Some.is c.loop-next.invariant.among
    c.next_sibling-next.result c.next_sibling-next.ensures.value in
    let shorter : length (rest_from (option_map number c.loop-next.next) (children_of c.args.tree.now.nodes (c.args.node.0)))
    ≡ suc (length (rest_from (option_map number c.next_sibling-next.result) (children_of c.args.tree.now.nodes (c.args.node.0)))) = ap length step in
    omega arith

pub find_in-loop-next-preserved : goal.find_in-loop-next-preserved
find_in-loop-next-preserved g t c =
    let forest = c.first_child-next.ensures.forest in
    let step = walk_step forest (c.args.node.0) c.loop-next.next c.in-Some.child c.in-Some.is c.loop-next.invariant.among c.next_sibling-next.result
    c.next_sibling-next.ensures.value in
    record {
      among = walk_on forest (c.args.node.0) c.loop-next.next c.in-Some.child c.in-Some.is c.loop-next.invariant.among c.next_sibling-next.result
          c.next_sibling-next.ensures.value;
      walk = walk_goes_on (is_in c.args.state) (seen_tree (g.P.Owned.carried) c.args.tree.now c.args.entries.now) (g.F.Finder.with) c.args.deep
          (c.args.high - 1) (c.in-Some.child.0) _ _ c.loop-next.finder c.find_in.new.finder step c.in_ok-find_in.ensures
          ∙ c.loop-next.invariant.walk;
    }
