-- A page stays ready for a tick once a list of what scrolled was taken; an empty one that was taken leaves all as it was.
use Rattle.std.proofs.Common.{◌≡◌, ◌∙◌, ◌==◌, true, List, length, rules, ap, sym, subst}
use Rattle.element_tree.specs.declared.container.Container.{Container}
use Rattle.container_model.specs.Seen.{seen_container}
use Rattle.page_model.specs.World.{Scrolls}
use Rattle.page_laws.proofs.Changes.{pending-next}
use Rattle.page_state.specs.Whole.{IsPage}
use Rattle.page_state.proofs.Quiet.{nothing_pending}
use Rattle.page_state.proofs.Ready.{ready_by}
use Rattle.page_state.proofs.page.Page.take_scrolled.Goals as goal

pub invariant_of-self : goal.invariant_of-self
invariant_of-self c =
    let none : (length c.take_pending-scrolled.result.items == 0) ≡ true =
    ap (λ (items : List Container). length items == 0) (sym c.as_slice.ensures.value) ∙ sym c.is_empty.ensures ∙ c.if-is_empty.true in
    let same : c.take_pending-scrolled.new.self ≡ c.self.inside.scrolls =
    c.take_pending-scrolled.ensures.taken
    ∙ nothing_pending seen_container c.args.document.0 c.self.inside.scrolls c.take_pending-scrolled.result.items c.take_pending-scrolled.ensures.value none in
    subst (λ (it : Scrolls). IsPage (record (c.self.inside) { scrolls = it })) (sym same) c.self.invariant

pub returns-then-is_empty-clause-taken : goal.returns-then-is_empty-clause-taken
returns-then-is_empty-clause-taken c = search rules

pub returns-then-is_empty-clause-ready : goal.returns-then-is_empty-clause-ready
returns-then-is_empty-clause-ready c = λ handlers. ready_by handlers c.args.self.now.world (returns-then-is_empty-clause-taken c) (pending-next c.args.self.now.world c.args.document.0)

pub returns-clause-taken : goal.returns-clause-taken
returns-clause-taken c = search rules

pub returns-clause-ready : goal.returns-clause-ready
returns-clause-ready c = λ handlers. ready_by handlers c.args.self.now.world (returns-clause-taken c) (pending-next c.args.self.now.world c.args.document.0)
