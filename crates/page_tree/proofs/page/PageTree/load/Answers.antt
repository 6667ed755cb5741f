use Rattle.std.proofs.Common.{refl, sym, subst, unsigned_abs}
use Rattle.element_tree.specs.Edits.{change_at, with_nodes, with_payload}
use Rattle.page_tree.specs.Items.{sized_in}
use Rattle.page_tree.specs.Views.{PageElements, seen_page}
use Rattle.page_tree.proofs.Growing.{load_refused, load_done}
use Rattle.page_tree.proofs.Items.{IsPage-written, written_done, written_rest, written_count}
use Rattle.page_documents.specs.Frames.{AreFramed}
use Rattle.page_tree.specs.Changes.{ChangesAtElement}
use Rattle.page_tree.proofs.Differences.{written_only}
use Rattle.page_tree.proofs.page.PageTree.load.Goals as goal

pub returns-in_default : goal.returns-in_default
returns-in_default c = record {
  done = tt;
  rest = tt;
  count = refl;
  documents = refl;
  changes = tt;
  refused = load_refused (c.args.self.now.tree) (c.args.node.0) (unsigned_abs (c.args.size.width)) (unsigned_abs (c.args.size.height))
      c.kind.result (c.kind.ensures.value) c.in_default.not-Image;
  same = refl;
}

pub invariant_of-self : goal.invariant_of-self
invariant_of-self c =
    IsPage-written c.args.self.now c.self.inside.tree c.self.inside.documents c.self.view_is c.self.invariant
    (c.args.node.0) c.payload_mut.result.now c.set_natural_size.new.self c.payload_mut.ensures.value (sized_in c.args.size) c.set_natural_size.ensures

pub returns-clause-done : goal.returns-clause-done
returns-clause-done c = load_done (c.args.self.now.tree) (c.args.node.0) (unsigned_abs (c.args.size.width)) (unsigned_abs (c.args.size.height))
    c.kind.result c.in-Image.field-0 (c.kind.ensures.value) c.in-Image.is
    ((seen_page c.self.inside.version (with_nodes (change_at (with_payload c.set_natural_size.new.self) (c.args.node.0)) c.self.inside.tree) c.self.inside.documents).tree)
    (written_done c.args.self.now c.self.inside.tree c.self.inside.documents c.self.view_is c.self.invariant
    (c.args.node.0) c.payload_mut.result.now c.set_natural_size.new.self c.payload_mut.ensures.value (sized_in c.args.size) c.set_natural_size.ensures)

pub returns-clause-rest : goal.returns-clause-rest
returns-clause-rest c =
    written_rest c.args.self.now c.self.inside.tree c.self.inside.documents c.self.view_is c.self.invariant
    (c.args.node.0) c.payload_mut.result.now c.set_natural_size.new.self c.payload_mut.ensures.value (sized_in c.args.size) c.set_natural_size.ensures

pub returns-clause-count : goal.returns-clause-count
returns-clause-count c =
    written_count c.args.self.now c.self.inside.tree c.self.inside.documents c.self.view_is c.self.invariant
    (c.args.node.0) c.payload_mut.result.now c.set_natural_size.new.self c.payload_mut.ensures.value (sized_in c.args.size) c.set_natural_size.ensures

pub returns-clause-changes : goal.returns-clause-changes
returns-clause-changes c =
    subst (ChangesAtElement (c.args.node.0) c.args.self.now.tree)
    (sym (written_done c.args.self.now c.self.inside.tree c.self.inside.documents c.self.view_is c.self.invariant
    (c.args.node.0) c.payload_mut.result.now c.set_natural_size.new.self c.payload_mut.ensures.value (sized_in c.args.size) c.set_natural_size.ensures))
    (written_only c.args.self.now.tree (subst (λ (page : PageElements). AreFramed page.tree) c.self.view_is c.self.invariant.framed) (sized_in c.args.size) (c.args.node.0))
