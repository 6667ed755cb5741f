-- A query list is made with its name.
use Rattle.std.proofs.Common.{◌≡◌, ◌<◌, ◌++◌, ◌∷◌, [], ℕ, List, length, ap, sym, subst, rules, arith, ◌∙◌}
use Rattle.page_state.specs.Views.{PageView}
use Rattle.page_model.specs.World.{QueryListThing, Name, InDocument}
use Rattle.page_model.specs.Operands.{document_named}
use Rattle.page_boxes.specs.Pages.{seen_size}
use Rattle.page_state.specs.declared.queries.QueryList.{QueryList}
use Rattle.page_boxes.specs.Around.{rests_on}
use Rattle.page_state.proofs.Laid.{view_refreshed, computed_in, computes_found}
use Rattle.page_state.proofs.Inside.{query_known, query_elements, query_asked}
use Rattle.page_state.proofs.QueryLists.{asks_page}
use Rattle.page_state.proofs.Doing.{keeps_since}
use Rattle.page_state.proofs.page.Page.make_query_list.Goals as goal

pub invariant_of-self-2 : goal.invariant_of-self-2
invariant_of-self-2 g c =
    let p = c.self.inside in
    let names = c.insert.new.self in
    let queries = c.push.new.self.items in
    let last : QueryList = record { document = c.in_ok-document.document; query = c.in_ok-query.query; matched = c.matches-matched.result } in
    let number : c.len-number.result ≡ length p.queries.items = c.len-number.ensures ∙ c.self.inside.queries.ok.0 in
    let most : c.most.result ≡ 4096 = c.most.ensures in
    let made : queries ≡ p.queries.items ++ last ∷ [] = c.in-Ok.ensures.items in
    let given : names.list ≡ p.names.list ++ record { text = c.args.name; thing = QueryListThing c.len-number.result } ∷ [] =
    c.in_ok-insert.ensures.given ∙ ap (λ (list : List Name). list ++ record { text = c.args.name; thing = QueryListThing c.len-number.result } ∷ []) c.in_ok-reserve.ensures.same in
    let there : c.in_ok-document.document.0 < length p.laid.elements.tree.documents = subst (λ (v : PageView). c.in_ok-document.document.0 < length v.world.tree.documents) (sym c.self.view_is) c.in_ok-document.ensures.there in
    let known = query_known p names queries c.args.name last c.len-number.result c.self.invariant given number made in
    let elements = query_elements p names queries c.args.name last c.len-number.result c.self.invariant given number made in
    let asked = query_asked p names queries c.args.name last c.len-number.result c.self.invariant given number made there (omega (arith, number, most, c.if-number-most.false)) in
    search rules

pub returns-clause-done : goal.returns-clause-done
returns-clause-done g c present =
    let p = record (c.self.inside) { laid = c.viewport_now-viewport.new.laid } in
    let view_is = view_refreshed c.self.inside c.viewport_now-viewport.new.laid c.viewport_now-viewport.ensures.same c.args.self.now c.self.view_is in
    let number : c.len-number.result ≡ length p.queries.items = c.len-number.ensures ∙ c.self.inside.queries.ok.0 in
    let most : c.most.result ≡ 4096 = c.most.ensures in
    keeps_since (asks_page p c.args.name c.args.query.now c.in_ok-document.document.0 c.insert.new.self.list c.push.new.self.items c.in_ok-query.query c.matches-matched.result (seen_size c.viewport_now-viewport.result)
    (c.in_ok-insert.ensures.given
    ∙ ap (λ (list : List Name). list ++ record { text = c.args.name; thing = QueryListThing c.len-number.result } ∷ []) c.in_ok-reserve.ensures.same
    ∙ ap (λ (n : ℕ). p.names.list ++ record { text = c.args.name; thing = QueryListThing n } ∷ []) number)
    c.in-Ok.ensures.items c.in_ok-query.ensures c.matches-matched.ensures c.viewport_now-viewport.ensures.value
    (record (c.args.self.now) { kept = c.viewport_now-viewport.new.laid.kept }) view_is present c.args.document c.in_ok-check_free.ensures.answer c.in_ok-document.ensures.answer (omega (arith, number, most, c.if-number-most.false)))

pub returns-in_default-clause-boxes : goal.returns-in_default-clause-boxes
returns-in_default-clause-boxes g c =
    let world = c.args.self.now.world in
    computes_found world c.args.self.now.kept c.viewport_now-viewport.new.laid.kept c.args.steps.now c.viewport_now-viewport.new.steps
    (document_named (world.names) c.args.document) c.in_ok-document.document.0 (λ document. rests_on (world.tree) (InDocument document)) c.in_ok-document.ensures.answer
    (computed_in c.self.inside c.viewport_now-viewport.new.laid c.viewport_now-viewport.ensures.same c.args.self.now c.self.view_is c.viewport_now-viewport.ensures.fills c.viewport_now-viewport.ensures.unboxed
    _ _ c.viewport_now-viewport.ensures.ticks (λ tree. rests_on tree (InDocument c.in_ok-document.document.0)) c.viewport_now-viewport.ensures.others)

pub returns-clause-boxes : goal.returns-clause-boxes
returns-clause-boxes g c =
    let world = c.args.self.now.world in
    computes_found world c.args.self.now.kept c.viewport_now-viewport.new.laid.kept c.args.steps.now c.viewport_now-viewport.new.steps
    (document_named (world.names) c.args.document) c.in_ok-document.document.0 (λ document. rests_on (world.tree) (InDocument document)) c.in_ok-document.ensures.answer
    (computed_in c.self.inside c.viewport_now-viewport.new.laid c.viewport_now-viewport.ensures.same c.args.self.now c.self.view_is c.viewport_now-viewport.ensures.fills c.viewport_now-viewport.ensures.unboxed
    _ _ c.viewport_now-viewport.ensures.ticks (λ tree. rests_on tree (InDocument c.in_ok-document.document.0)) c.viewport_now-viewport.ensures.others)
