use Rattle.std.proofs.Common.{◌≡◌, ◌<◌, ◌∙◌, ap, sym, subst, length, length-set, List, cond, take, arith}
use Rattle.page_model.specs.World.{Document}
use Rattle.page_model.specs.Lookups.{change_at}
use Rattle.page_documents.specs.declared.documents.Documents.TheInside.{Inside}
use Rattle.page_documents.specs.States.{put_in}
use Rattle.page_documents.specs.Walks.{marked_in}
use Rattle.page_documents.specs.Held.{HeldDocuments, IsHeld}
use Rattle.page_documents.proofs.Held.{held_set}
use Rattle.page_documents.proofs.Changing.{changed_there, state_more, marked_all}
use Rattle.page_documents.proofs.documents.Documents.set_states.Goals.{then-has, else-has}
use Rattle.page_documents.proofs.documents.Documents.set_states.Goals as goal

pub loop-document-preserved : goal.loop-document-preserved
loop-document-preserved c =
    let first = c.self.inside.held.items in
    let now = c.loop-document.self-inside.held.items in
    let inside : c.loop-document.document < length now = omega (arith, c.loop-document.invariant.count, c.len-document-end.ensures) in
    let marked : c.loop-document.document < length c.args.found.now = omega
    (arith, c.self.invariant.held.within, c.self.invariant.held.bounded, c.len-document-end.ensures) in
    elim c.if-has.branch [
      | then-has w ↦
          let here = held_set c.loop-document.invariant.is_held c.loop-document.document w.index_mut.result.now w.set_state.new.self inside
          w.index_mut.ensures.value (ap (λ (it : Document). it.frame) w.set_state.ensures) in
          let items = ap (λ (it : Inside). it.held.items) w.self-inside-is in
          let most = ap (λ (it : Inside). it.most) w.self-inside-is in
          record {
            so_far = state_more (put_in c.args.state) c.args.found.now first now c.if-has.self-inside.held.items c.loop-document.document c.has.result
                marked c.has.ensures c.loop-document.invariant.so_far
                (items ∙ changed_there (put_in c.args.state) now c.loop-document.document w.index_mut.result.now w.set_state.new.self inside
                w.index_mut.ensures.value w.set_state.ensures
                ∙ sym (ap (λ b. cond b (change_at (put_in c.args.state) c.loop-document.document now) now) w.if-has.true));
            most = most ∙ c.loop-document.invariant.most;
            count = ap (λ xs. length xs) items ∙ length-set now c.loop-document.document w.set_state.new.self ∙ c.loop-document.invariant.count;
            is_held = subst (λ (it : Inside). IsHeld it.held.items it.most) (sym w.self-inside-is) here;
          }
      | else-has w ↦
          let items = ap (λ (it : Inside). it.held.items) w.self-inside-is in
          record {
            so_far = state_more (put_in c.args.state) c.args.found.now first now c.if-has.self-inside.held.items c.loop-document.document c.has.result
                marked c.has.ensures c.loop-document.invariant.so_far
                (items ∙ sym (ap (λ b. cond b (change_at (put_in c.args.state) c.loop-document.document now) now) w.if-has.false));
            most = ap (λ (it : Inside). it.most) w.self-inside-is ∙ c.loop-document.invariant.most;
            count = ap (λ xs. length xs) items ∙ c.loop-document.invariant.count;
            is_held = subst (λ (it : Inside). IsHeld it.held.items it.most) (sym w.self-inside-is) c.loop-document.invariant.is_held;
          }
    ]

pub returns : goal.returns
returns c =
    let whole : c.loop-document.document ≡ length c.self.inside.held.items = omega (arith, c.len-document-end.ensures, c.loop-document.auto.document-end) in
    ap (λ (held : List Document). let it : HeldDocuments = record { held = held; most = c.loop-document.self-inside.most } in it)
    (c.loop-document.invariant.so_far ∙ ap (λ n. marked_in (put_in c.args.state) (take n c.args.found.now) c.self.inside.held.items) whole
    ∙ marked_all (put_in c.args.state) c.args.found.now c.self.inside.held.items)
    ∙ ap (λ most. let it : HeldDocuments = record { held = marked_in (put_in c.args.state) c.args.found.now c.self.inside.held.items; most = most } in it)
    c.loop-document.invariant.most
    ∙ ap (λ (it : HeldDocuments). let next : HeldDocuments = record it { held = marked_in (put_in c.args.state) c.args.found.now it.held } in next)
    c.self.view_is
