use Rattle.std.proofs.Common.{◌≤◌, ◌∙◌, ap, length, List, refl, arith}
use Rattle.page_model.specs.World.{Document}
use Rattle.page_model.specs.Lookups.{change_each}
use Rattle.page_model.specs.Documents.{documents_inside, led_to}
use Rattle.page_documents.specs.States.{put_in, is_in}
use Rattle.page_documents.specs.Seen.{seen_tree}
use Rattle.page_documents.specs.Walks.{frames_down}
use Rattle.page_documents.specs.Held.{HeldDocuments}
use Rattle.page_documents.proofs.Changing.{marks_left}
use Rattle.page_documents.proofs.Inside.{inside_changed}
use Rattle.page_documents.proofs.documents.Documents.change_inside.Goals as goal

pub set_states-requires : goal.set_states-requires
set_states-requires g c =
    let walked = c.in-Ok.ensures in
    ap (λ xs. length xs) walked
    ∙ marks_left (led_to 65536 (is_in c.args.from) (seen_tree (g.P.Owned.carried) c.args.tree.now c.as_slice.result.now)
    (frames_down 65536 (seen_tree (g.P.Owned.carried) c.args.tree.now c.as_slice.result.now) (c.args.node.0))) c.new-found.result
    ∙ ap (λ xs. length xs) c.new-found.ensures

pub returns : goal.returns
returns g c =
    let held = c.as_slice.ensures.value ∙ ap (λ (it : HeldDocuments). it.held) c.self.view_is in
    let count = ap (λ (it : HeldDocuments). length it.held) c.self.view_is in
    let few : length c.args.self.now.held ≤ 64 = omega (arith, count, c.self.invariant.held.within, c.self.invariant.held.bounded) in
    c.set_states.ensures
    ∙ ap (λ (held : List Document). let it : HeldDocuments = record c.args.self.now { held = held } in it)
    (inside_changed (put_in c.args.to) (λ it. refl) (is_in c.args.from) (seen_tree (g.P.Owned.carried) c.args.tree.now c.as_slice.result.now)
    (c.args.node.0) c.new-found.result c.find_in.new.finder c.args.self.now.held few
    c.new-found.ensures c.in-Ok.ensures
    ∙ ap (λ documents. change_each (put_in c.args.to) (documents_inside (is_in c.args.from) (seen_tree (g.P.Owned.carried) c.args.tree.now documents)
    (c.args.node.0)) c.args.self.now.held) held)
