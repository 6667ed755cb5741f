-- Media query lists (CSSOM View, 4.2).
use Rattle.std.specs.Prelude.{ℕ, Bool, List, [], ◌∷◌, ◌++◌}
use Rattle.script_model.specs.Queries.{MediaQuery}
use Rattle.page_model.specs.World.{QueryList}
use Rattle.page_model.specs.Lookups.{change_at}

abbrev pub with_query_list : ℕ → List MediaQuery → Bool → List QueryList → List QueryList
with_query_list document query matched queries = queries ++ record { document = document; query = query; matched = matched } ∷ []

-- a query list with the state of its last evaluation
abbrev pub with_state : Bool → ℕ → List QueryList → List QueryList
with_state matched query queries = change_at (λ (it : QueryList). record it { matched = matched }) query queries
