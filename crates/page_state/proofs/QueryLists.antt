-- Query lists, one by one and by their places.
use Rattle.std.proofs.Common.{◌≡◌, ℕ, zero, suc, ◌+◌, ◌<◌, Bool, true, false, not, cond, ◌&&◌, List, [], ◌∷◌, ◌++◌, nat_lt, Ok, Option, Some, option_map, map, length, slice_index_or, slice_set, drop, refl, sym, ap, ◌∙◌, subst, rules, tests, arith, ◌==◌}
use Rattle.std.specs.List.{position, position_or_len}
use Rattle.std.proofs.lemmas.List.{drop-map, length-map, map_push}
use Rattle.text_io.specs.declared.kinds.LimitKind.TheVariants as limits
use Rattle.script_model.specs.Media.{matches}
use Rattle.script_model.specs.Queries.{MediaQuery}
use Rattle.script_model.specs.Syntax.{MakeQueryList}
use Rattle.page_model.specs.World.{Extent, Name, QueryList as ModelQueryList, QueryListThing, World}
use Rattle.page_model.specs.Commands.{does, matches_in, matches_now}
use Rattle.page_model.specs.Intersections.{is_same_bool}
use Rattle.page_model.specs.Names.{with_name}
use Rattle.page_model.specs.Operands.{Handlers, Present, new_name, document_named}
use Rattle.page_model.specs.Steps.{Did, ◌>>=◌, ◌>>◌, becomes, met_unless}
use Rattle.page_model.specs.PageBoxes.{viewport_of}
use Rattle.page_model.specs.Lookups.{query_list_at}
use Rattle.page_model.specs.QueryLists.{with_query_list, with_state}
use Rattle.page_boxes.specs.Pages.{seen_screen}
use Rattle.page_state.specs.Answers.{Keeps}
use Rattle.page_state.specs.Queries.{seen_query_list, is_changed, changed_from, next_changed, once_evaluated}
use Rattle.page_state.specs.Views.{PageView}
use Rattle.page_state.specs.Worlds.{world_of, view_of}
use Rattle.page_state.specs.declared.answers.Effect.TheVariants.{Nothing}
use Rattle.page_state.specs.declared.page.Page.TheInside.{Inside}
use Rattle.page_state.specs.declared.queries.QueryList.{QueryList}

query_list_seen : (queries : List QueryList) (n : ℕ) (other : QueryList) → n < length queries → query_list_at (map seen_query_list queries) n ≡ seen_query_list (slice_index_or queries n other)
query_list_seen [] n other below = search (rules, arith, below)
query_list_seen (first ∷ others) zero other below = refl
query_list_seen (first ∷ others) (suc n) other below = query_list_seen others n other (omega (arith, below))

state_written : (queries : List QueryList) (n : ℕ) (other : QueryList) (matched : Bool) → n < length queries
    → map seen_query_list (slice_set queries n (record (slice_index_or queries n other) { matched = matched })) ≡ with_state matched n (map seen_query_list queries)
state_written [] n other matched below = refl
state_written (first ∷ others) zero other matched below = refl
state_written (first ∷ others) (suc n) other matched below = ap (λ (rest : List ModelQueryList). seen_query_list first ∷ rest) (state_written others n other matched (omega (arith, below)))

-- the first place that passes a test, where the elements are seen as others

first_seen : {A B : Type 0} (test : B → Bool) (seen : A → B) (xs : List A) → position_or_len test (map seen xs) ≡ position_or_len (λ x. test (seen x)) xs
first_seen test seen [] = refl
first_seen test seen (x ∷ xs) = ap (λ n. cond (not (test (seen x))) (1 + n) 0) (first_seen test seen xs)

position_seen : {A B : Type 0} (test : B → Bool) (seen : A → B) (xs : List A) → position test (map seen xs) ≡ position (λ x. test (seen x)) xs
position_seen test seen xs = rw (first_seen test seen xs, length-map xs seen) refl

module _ (queries : List QueryList) (document place : ℕ) (viewport : Extent) (found : Option ℕ)
    (is : found ≡ position (λ (it : QueryList). is_changed document viewport (seen_query_list it)) (drop place queries)) where
  abbrev test : ModelQueryList → Bool
  test = is_changed document viewport

  place_found : found ≡ position test (drop place (map seen_query_list queries))
  place_found = is ∙ sym (position_seen test seen_query_list (drop place queries)) ∙ ap (λ it. position test it) (sym (drop-map seen_query_list place queries))

  pub changed_found : option_map (λ number. place + number) found ≡ changed_from document place viewport (map seen_query_list queries)
  changed_found = ap (option_map (λ number. place + number)) place_found

-- a query list with another state than at its last evaluation has the other one now

turned : (same matches matched : Bool) → same && not (is_same_bool matches matched) ≡ true → not matched ≡ matches
turned same true false changed = refl
turned same false true changed = refl
turned true true true changed = search (rules, tests)
turned false true true changed = search (rules, tests)
turned true false false changed = search (rules, tests)
turned false false false changed = search (rules, tests)

module _ (world : World) (query : ℕ) (list : ModelQueryList) (viewport : Extent) (at : query_list_at world.queries query ≡ list) where
  pub matches_here : (answer : Bool) → answer ≡ matches_in list.query viewport → viewport ≡ viewport_of world.tree world.viewports.screen list.document
      → answer ≡ matches_now world (query_list_at world.queries query).document (query_list_at world.queries query).query
  unfolding matches_now viewport_of matches
  matches_here answer is here = subst (λ (it : ModelQueryList). answer ≡ matches_now world it.document it.query) (sym at) (is ∙ ap (λ (size : Extent). matches_in list.query size) here)

  module _ (document : ℕ) (changed : is_changed document viewport list ≡ true) (here : viewport ≡ viewport_of world.tree world.viewports.screen document) where
    state_now : not list.matched ≡ matches_in list.query (viewport_of world.tree world.viewports.screen document)
    state_now = turned (list.document == document) (matches_in list.query viewport) list.matched changed ∙ ap (λ (size : Extent). matches_in list.query size) here

    changed_matches : not list.matched ≡ matches_now world document (query_list_at world.queries query).query
    unfolding matches_now viewport_of matches
    changed_matches = subst (λ (it : ModelQueryList). not list.matched ≡ matches_now world document it.query) (sym at) state_now

    evaluated : (place : ℕ) → Some query ≡ changed_from document place viewport world.queries
        → record world { queries = with_state (not list.matched) query (world.queries) } ≡ once_evaluated document (next_changed document place world) world
    evaluated place found =
        ap (λ (matched : Bool). record world { queries = with_state matched query (world.queries) })
        (subst (λ (it : ModelQueryList). not list.matched ≡ matches_in it.query (viewport_of world.tree world.viewports.screen document)) (sym at) state_now)
        ∙ ap (λ (number : Option ℕ). once_evaluated document number world) (found ∙ ap (λ (size : Extent). changed_from document place size world.queries) here)

module _ (inside : Inside) (query : ℕ) (list : QueryList) (below : query < length inside.queries.items) (is : list ≡ slice_index_or inside.queries.items query list) where
  pub list_here : query_list_at (map seen_query_list inside.queries.items) query ≡ seen_query_list list
  list_here = query_list_seen inside.queries.items query list below ∙ ap seen_query_list (sym is)

  list_written : (matched : Bool) → map seen_query_list (slice_set inside.queries.items query (record list { matched = matched })) ≡ with_state matched query (map seen_query_list inside.queries.items)
  list_written matched =
      ap (λ (it : QueryList). map seen_query_list (slice_set inside.queries.items query (record it { matched = matched }))) is
      ∙ state_written inside.queries.items query list matched below

-- the same seen from outside
module _ (inside : Inside) (now : PageView) (view_is : view_of inside ≡ now)
    (query : ℕ) (list : QueryList) (below : query < length inside.queries.items) (is : list ≡ slice_index_or inside.queries.items query list)
    (document : ℕ) (viewport : Extent) (changed : is_changed document viewport (query_list_at (map seen_query_list inside.queries.items) query) ≡ true)
    (here : viewport ≡ viewport_of now.world.tree now.world.viewports.screen document) where
  seen_list : query_list_at now.world.queries query ≡ seen_query_list list
  seen_list = subst (λ (v : PageView). query_list_at v.world.queries query ≡ seen_query_list list) view_is (list_here inside query list below is)

  turns : is_changed document viewport (seen_query_list list) ≡ true
  turns = subst (λ (it : ModelQueryList). is_changed document viewport it ≡ true) (list_here inside query list below is) changed

  pub page_changed : not list.matched ≡ matches_now now.world document (query_list_at now.world.queries query).query
  page_changed = changed_matches (now.world) query (seen_query_list list) viewport seen_list document turns here

  pub page_evaluated : (place : ℕ) → Some query ≡ changed_from document place viewport (map seen_query_list inside.queries.items)
      → record (view_of inside) { world = record (world_of inside) { queries = map seen_query_list (slice_set inside.queries.items query (record list { matched = not list.matched })) } }
      ≡ record now { world = once_evaluated document (next_changed document place (now.world)) (now.world) }
  page_evaluated place found =
      ap (λ (queries : List ModelQueryList). record (view_of inside) { world = record (world_of inside) { queries = queries } }) (list_written inside query list below is (not list.matched))
      ∙ ap (λ (v : PageView). record v { world = record (v.world) { queries = with_state (not list.matched) query (v.world.queries) } }) view_is
      ∙ ap (λ (world : World). record now { world = world })
      (evaluated (now.world) query (seen_query_list list) viewport seen_list document turns here place
      (subst (λ (v : PageView). Some query ≡ changed_from document place viewport v.world.queries) view_is found))

-- a query list is made

module _ (handlers : Handlers) (world : World) (present : Present) where
  asks : (text document : List ℕ) (query : List MediaQuery) (owner : ℕ) → new_name world.names text ≡ Did tt → document_named world.names document ≡ Did owner → nat_lt (length world.queries) 4096 ≡ true
      → does handlers world present (MakeQueryList text document query)
      ≡ becomes (record world { names = with_name text (QueryListThing (length world.queries)) (world.names); queries = with_query_list owner query (matches_now world owner query) (world.queries) })
  unfolding does ◌>>=◌ ◌>>◌
  asks text document query owner free there few =
      λ i. free i >> (there i >>= λ (made_in : ℕ). met_unless (few i) limits.Queries >>
      becomes (record world { names = with_name text (QueryListThing (length world.queries)) (world.names); queries = with_query_list made_in query (matches_now world made_in query) (world.queries) }))

module _ (inside : Inside) (text : List ℕ) (query : List MediaQuery) (owner : ℕ) (names : List Name) (queries : List QueryList) (copy : List MediaQuery) (matched : Bool) (viewport : Extent)
    (given : names ≡ inside.names.list ++ record { text = text; thing = QueryListThing (length inside.queries.items) } ∷ [])
    (made : queries ≡ inside.queries.items ++ record { document = record { 0 = owner }; query = copy; matched = matched } ∷ [])
    (copied : copy ≡ query) (is : matched ≡ matches_in copy viewport) (here : viewport ≡ viewport_of inside.laid.elements.tree (seen_screen inside.screen) owner) where
  name_given : names ≡ with_name text (QueryListThing (length (map seen_query_list inside.queries.items))) inside.names.list
  name_given = given ∙ ap (λ (n : ℕ). inside.names.list ++ record { text = text; thing = QueryListThing n } ∷ []) (sym (length-map inside.queries.items seen_query_list))

  matches_first : matched ≡ matches_now (world_of inside) owner query
  unfolding matches_now viewport_of matches
  matches_first = is ∙ ap (λ (asked : List MediaQuery). matches_in asked viewport) copied ∙ ap (λ (size : Extent). matches_in query size) here

  list_made : map seen_query_list queries ≡ with_query_list owner query (matches_now (world_of inside) owner query) (map seen_query_list inside.queries.items)
  list_made =
      ap (λ (lists : List QueryList). map seen_query_list lists) made
      ∙ map_push seen_query_list inside.queries.items (record { document = record { 0 = owner }; query = copy; matched = matched })
      ∙ ap (λ (asked : List MediaQuery). with_query_list owner asked matched (map seen_query_list inside.queries.items)) copied
      ∙ ap (λ (first : Bool). with_query_list owner query first (map seen_query_list inside.queries.items)) matches_first

  pub asks_page : (now : PageView) → view_of inside ≡ now → (present : Present) (document : List ℕ)
      → new_name inside.names.list text ≡ Did tt → document_named now.world.names document ≡ Did owner → length inside.queries.items < 4096
      → Keeps now (record (view_of inside) { world = record (world_of inside) { names = names; queries = map seen_query_list queries } }) (Ok Nothing)
      (λ handlers. does handlers now.world present (MakeQueryList text document query))
  asks_page now view_is present document free there few =
      let then_is : PageView = record (view_of inside) { world = record (world_of inside) { names = names; queries = map seen_query_list queries } } in
      let found : document_named inside.names.list document ≡ Did owner = subst (λ (v : PageView). document_named v.world.names document ≡ Did owner) (sym view_is) there in
      let room : nat_lt (length (map seen_query_list inside.queries.items)) 4096 ≡ true =
      subst (λ (count : ℕ). nat_lt count 4096 ≡ true) (sym (length-map inside.queries.items seen_query_list)) (search (rules, tests, few)) in
      subst (λ (v : PageView). Keeps v then_is (Ok Nothing) (λ handlers. does handlers v.world present (MakeQueryList text document query))) view_is
      (record {
        applied = λ handlers. asks handlers (world_of inside) present text document query owner free found room
            ∙ (λ i. becomes (record (world_of inside) { names = sym name_given i; queries = sym list_made i }));
        begun = refl;
        handed = tt;
      })
