-- What is found is the first from the place on.
use Rattle.std.proofs.Common.{◌≡◌, ◌+◌, option_map, drop, rules, tests, sym, ap, ◌∙◌}
use Rattle.std.specs.List.{position}
use Rattle.std.proofs.lemmas.List.{take_rest}
use Rattle.std.proofs.lemmas.Iterator.{YieldsList-from_slice}
use Rattle.std.proofs.lemmas.Iterator.Search.{position_from_yields_List}
use Rattle.page_boxes.specs.Pages.{seen_size}
use Rattle.page_state.specs.Queries.{seen_query_list, is_changed}
use Rattle.page_state.specs.declared.queries.QueryList.{QueryList}
use Rattle.page_state.proofs.QueryLists.{changed_found}
use Rattle.page_state.proofs.queries.changed_from.Goals as goal

pub returns-in_err-from-clause-value : goal.returns-in_err-from-clause-value
returns-in_err-from-clause-value c =
    let viewport = seen_size c.args.viewport in
    let found : c.position.result ≡ position (λ (it : QueryList). is_changed c.args.document.0 viewport (seen_query_list it)) (drop c.args.place c.args.queries.now) =
    position_from_yields_List (λ (it : QueryList). is_changed c.args.document.0 viewport (seen_query_list it)) _ _ c.position.result c.position.ensures.ran (YieldsList-from_slice (drop c.args.place c.args.queries.now) (c.iter.ensures.rest ∙ take_rest c.args.queries.now c.args.place)) (λ x b q k. search (rules, tests)) in
    c.from_residual.ensures ∙ ap (option_map (λ number. c.args.place + number)) (sym c.in_err-from.was) ∙ changed_found c.args.queries.now c.args.document.0 c.args.place viewport c.position.result found

pub returns-clause-value : goal.returns-clause-value
returns-clause-value c =
    let viewport = seen_size c.args.viewport in
    let found : c.position.result ≡ position (λ (it : QueryList). is_changed c.args.document.0 viewport (seen_query_list it)) (drop c.args.place c.args.queries.now) =
    position_from_yields_List (λ (it : QueryList). is_changed c.args.document.0 viewport (seen_query_list it)) _ _ c.position.result c.position.ensures.ran (YieldsList-from_slice (drop c.args.place c.args.queries.now) (c.iter.ensures.rest ∙ take_rest c.args.queries.now c.args.place)) (λ x b q k. search (rules, tests)) in
    ap (option_map (λ number. c.args.place + number)) (sym c.in_ok-from.was) ∙ changed_found c.args.queries.now c.args.document.0 c.args.place viewport c.position.result found
