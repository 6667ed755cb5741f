-- The media query lists of a page (CSSOM View, 4.2).
use Rattle.std.specs.Prelude.{ℕ, ◌+◌, Bool, ◌&&◌, not, ◌==◌, Option, Some, None, option_map, List, drop, position}
use Rattle.page_model.specs.World.{Extent, QueryList as ModelQueryList, World}
use Rattle.page_model.specs.Lookups.{query_list_at}
use Rattle.page_model.specs.Commands.{matches_in}
use Rattle.page_model.specs.Intersections.{is_same_bool}
use Rattle.page_model.specs.PageBoxes.{viewport_of}
use Rattle.page_model.specs.QueryLists.{with_state}
use Rattle.page_state.specs.declared.queries.QueryList.{QueryList}

abbrev pub seen_query_list : QueryList → ModelQueryList
seen_query_list it = record { document = it.document.0; query = it.query; matched = it.matched }

-- whether a query list belongs to a document and its matches state in this viewport differs from the one at its last evaluation
-- or at its creation
abbrev pub is_changed : ℕ → Extent → ModelQueryList → Bool
is_changed document viewport list = list.document == document && not (is_same_bool (matches_in (list.query) viewport) list.matched)

-- the number of the first such query list at or after a place
abbrev pub changed_from : ℕ → ℕ → Extent → List ModelQueryList → Option ℕ
changed_from document place viewport queries = option_map (λ number. place + number) (position (is_changed document viewport) (drop place queries))

-- the same by the viewport of the document as it is now
abbrev pub next_changed : ℕ → ℕ → World → Option ℕ
next_changed document place world = changed_from document place (viewport_of (world.tree) (world.viewports.screen) document) (world.queries)

-- the world after this query list, if any, was evaluated in the viewport of the document
abbrev pub once_evaluated : ℕ → Option ℕ → World → World
once_evaluated document None world = world
once_evaluated document (Some query) world =
    record world { queries = with_state (matches_in (query_list_at (world.queries) query).query (viewport_of (world.tree) (world.viewports.screen) document)) query (world.queries) }
