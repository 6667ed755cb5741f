-- Query lists evaluated by place. One that is another document's, or has the state that it had, says nothing.
use Rattle.std.proofs.Common.{◌≡◌, ℕ, zero, suc, ◌+◌, ◌-◌, ◌<◌, ◌≤◌, Bool, true, false, refl, ap, sym, ◌∙◌, subst, arith, true≢false, get_or, drop, length-drop}
use Rattle.std.proofs.lemmas.Bool.{ltb-true, ltb-false}
use Rattle.std.proofs.lemmas.List.{drop_all, get_or-drop}
use Rattle.std.proofs.lemmas.List.Sums.{fails_before_first, passes_at_first}
use Rattle.std.proofs.lemmas.Option.{slice_get-get_or}
use Rattle.std.specs.Prelude.{List, [], ◌∷◌, length, cond, not, ◌&&◌, ◌==◌, nat_lt, Option, Some, None, option_map, unwrap_or, position}
use Rattle.std.specs.List.{position_or_len}
use Rattle.text_io.specs.declared.kinds.EventKind.TheVariants as events
use Rattle.script_model.specs.TraceLines.{FiredChange}
use Rattle.page_model.specs.World.{World, QueryList, QueryTarget}
use Rattle.page_model.specs.Callbacks.{Script, fire}
use Rattle.page_model.specs.Commands.{matches_in, matches_now}
use Rattle.page_model.specs.Documents.{is_active}
use Rattle.page_model.specs.Intersections.{is_same_bool}
use Rattle.page_model.specs.Lookups.{query_list_at, no_query_list}
use Rattle.page_model.specs.Names.{query_list_text}
use Rattle.page_model.specs.PageBoxes.{viewport_of}
use Rattle.page_model.specs.QueryLists.{with_state}
use Rattle.page_model.specs.Runs.{Said, silent, ◌followed_by◌, only_if}
use Rattle.page_model.specs.Ticks.{evaluate, evaluated, media_steps}
use Rattle.page_state.proofs.Ready.{list_evaluated}
use Rattle.page_state.specs.Queries.{is_changed, next_changed, once_evaluated}
use Rattle.trace_runs.proofs.Following.{followed_next}
use Rattle.trace_runs.proofs.Loops.{places, places_all, places_left, places_more, places_none}
use Rattle.trace_runs.proofs.Runs.{only_if_true, only_if_false}

-- the state of one list ----------------------------------------------------------------------------------------------------

same-bool : (a b : Bool) → is_same_bool a b ≡ true → a ≡ b
same-bool true true same = refl
same-bool true false same = sym same
same-bool false true same = same
same-bool false false same = refl

-- the state that it has
same-state : (matched : Bool) (query : ℕ) (queries : List QueryList) → is_same_bool matched (query_list_at queries query).matched ≡ true → with_state matched query queries ≡ queries
same-state matched query [] same = refl
same-state matched zero (list ∷ lists) same =
    ap (λ (state : Bool). record list { matched = state } ∷ lists) (same-bool matched (list.matched) same)
same-state matched (suc query) (list ∷ lists) same = ap (λ (others : List QueryList). list ∷ others) (same-state matched query lists same)

not-not : (test : Bool) → not test ≡ false → test ≡ true
not-not true is = refl
not-not false is = sym is

module _ (script : Script) (document : ℕ) where
  -- the turns from a place on
  abbrev pub turns_from : ℕ → World → Said World
  turns_from = places (λ now. length (now.queries)) (λ now. is_active (now.tree) document) (evaluate script document)

  -- the event of a list that has another state
  abbrev told : ℕ → Bool → World → Said World
  told query matched now = fire script (FiredChange (query_list_text (now.names) query) matched) (QueryTarget query) events.Change now

  -- all of them
  pub media_turns : (world : World) → media_steps script document world ≡ turns_from 0 world
  unfolding media_steps
  media_turns world = places_all (λ (now : World). length (now.queries)) (λ now. is_active (now.tree) document) (evaluate script document) world

  -- the document isn't Active any more
  pub turns_left : (place : ℕ) (world : World) → false ≡ is_active (world.tree) document → turns_from place world ≡ silent world
  turns_left place world left = places_left (λ (now : World). length (now.queries)) (λ now. is_active (now.tree) document) (evaluate script document) place world (sym left)

module _ (script : Script) (document : ℕ) (world : World) where
  abbrev changes : QueryList → Bool
  changes = is_changed document (viewport_of (world.tree) (world.viewports.screen) document)

  abbrev state_now : ℕ → Bool
  state_now query = matches_in (query_list_at (world.queries) query).query (viewport_of (world.tree) (world.viewports.screen) document)

  quiet-turn : (query : ℕ) → changes (query_list_at (world.queries) query) ≡ false → evaluate script document query world ≡ silent world
  unfolding matches_now
  quiet-turn query quiet = by ((query_list_at (world.queries) query).document == document) quiet
    where
      by : (own : Bool) → (own && not (is_same_bool (state_now query) (query_list_at (world.queries) query).matched)) ≡ false →
          only_if (λ (now : World). evaluated script query (matches_now now document (query_list_at (world.queries) query).query) now) world own ≡ silent world
      by false is = refl
      by true is =
          only_if_false (told script document query (state_now query)) (record world { queries = with_state (state_now query) query (world.queries) }) is
          ∙ ap (λ (queries : List QueryList). silent (record world { queries = queries })) (same-state (state_now query) query (world.queries) (not-not _ is))

  changed-turn : (query : ℕ) → changes (query_list_at (world.queries) query) ≡ true → evaluate script document query world ≡ told script document query (state_now query) (once_evaluated document (Some query) world)
  unfolding matches_now
  changed-turn query changed = by ((query_list_at (world.queries) query).document == document) changed
    where
      by : (own : Bool) → (own && not (is_same_bool (state_now query) (query_list_at (world.queries) query).matched)) ≡ true →
          only_if (λ (now : World). evaluated script query (matches_now now document (query_list_at (world.queries) query).query) now) world own
          ≡ told script document query (state_now query) (once_evaluated document (Some query) world)
      by false is = absurd (true≢false (sym is))
      by true is = only_if_true (told script document query (state_now query)) (record world { queries = with_state (state_now query) query (world.queries) }) is

  -- the lists from a place on --------------------------------------------------------------------------------------------------

  module _ (active : true ≡ is_active (world.tree) document) (few : length world.queries ≤ 4096) where
    skipped : (count place : ℕ) → place + count ≤ length world.queries → ((k : ℕ) → k < count → changes (query_list_at (world.queries) (place + k)) ≡ false) →
        turns_from script document place world ≡ turns_from script document (place + count) world
    skipped zero place fits quiet = let same : place ≡ place + 0 = omega arith in ap (λ n. turns_from script document n world) same
    skipped (suc count) place fits quiet =
        let first : place + 0 ≡ place = omega arith in
        let next : place + 1 + count ≡ place + suc count = omega arith in
        places_more _ _ _ place world (omega (arith, fits, few)) (sym active) (omega (arith, fits))
        ∙ ap (λ said. said followed_by turns_from script document (place + 1))
        (quiet-turn place (subst (λ n. changes (query_list_at (world.queries) n) ≡ false) first (quiet 0 (omega arith))))
        ∙ followed_next (silent world) (turns_from script document (place + 1)) refl refl
        ∙ skipped count (place + 1) (omega (arith, fits))
        (λ k within. let later : place + suc k ≡ place + 1 + k = omega arith in
        subst (λ n. changes (query_list_at (world.queries) n) ≡ false) later (quiet (suc k) (omega (arith, within))))
        ∙ ap (λ n. turns_from script document n world) next

    list-at : (place k : ℕ) → place + k < length world.queries → get_or (drop place (world.queries)) k no_query_list ≡ query_list_at (world.queries) (place + k)
    list-at place k within =
        get_or-drop place (world.queries) k no_query_list ∙ ap (λ found. unwrap_or found no_query_list) (sym (slice_get-get_or (world.queries) (place + k) no_query_list within))

    abbrev rest_of : Option ℕ → Said World
    rest_of None = silent world
    rest_of (Some query) = told script document query (state_now query) (once_evaluated document (Some query) world) followed_by turns_from script document (query + 1)

    abbrev ahead : ℕ → ℕ
    ahead place = position_or_len changes (drop place (world.queries))

    found-next : (place : ℕ) → place ≤ length world.queries → ahead place < length (drop place (world.queries)) → turns_from script document place world ≡ rest_of (Some (place + ahead place))
    found-next place fits within =
        let left : length (drop place (world.queries)) ≡ length world.queries - place = length-drop place (world.queries) in
        let there : place + ahead place < length world.queries = omega (arith, left, within, fits) in
        skipped (ahead place) place (omega (arith, there))
        (λ k before. ap changes (sym (list-at place k (omega (arith, there, before)))) ∙ fails_before_first changes (drop place (world.queries)) k no_query_list before)
        ∙ places_more _ _ _ (place + ahead place) world (omega (arith, there, few)) (sym active) there
        ∙ ap (λ said. said followed_by turns_from script document (place + ahead place + 1))
        (changed-turn (place + ahead place)
        (ap changes (sym (list-at place (ahead place) there)) ∙ passes_at_first changes (drop place (world.queries)) no_query_list within))

    found-none : (place : ℕ) → place ≤ length world.queries → length (drop place (world.queries)) ≤ ahead place → turns_from script document place world ≡ rest_of None
    found-none place fits past =
        let left : length (drop place (world.queries)) ≡ length world.queries - place = length-drop place (world.queries) in
        let all : place + (length world.queries - place) ≡ length world.queries = omega (arith, fits) in
        skipped (length world.queries - place) place (omega (arith, all))
        (λ k before. ap changes (sym (list-at place k (omega (arith, before)))) ∙ fails_before_first changes (drop place (world.queries)) k no_query_list (omega (arith, before, left, past)))
        ∙ places_none _ _ _ (place + (length world.queries - place)) world (omega (arith, all))

    found-by : (place : ℕ) → place ≤ length world.queries → (found : Bool) → nat_lt (ahead place) (length (drop place (world.queries))) ≡ found →
        turns_from script document place world ≡ rest_of (option_map (λ (n : ℕ). place + n) (cond found (Some (ahead place)) None))
    found-by place fits true is = found-next place fits (ltb-true _ _ is)
    found-by place fits false is = found-none place fits (ltb-false _ _ is)

    found-past : (place : ℕ) → length world.queries ≤ place → turns_from script document place world ≡ rest_of (next_changed document place world)
    found-past place past =
        places_none _ _ _ place world past
        ∙ ap (λ (lists : List QueryList). rest_of (option_map (λ (n : ℕ). place + n) (position changes lists))) (sym (drop_all place (world.queries) past))

    turns-next : (place : ℕ) → turns_from script document place world ≡ rest_of (next_changed document place world)
    turns-next place = by (nat_lt (length world.queries) place) refl
      where
        by : (past : Bool) → nat_lt (length world.queries) place ≡ past → turns_from script document place world ≡ rest_of (next_changed document place world)
        by true is = let over : length world.queries < place = ltb-true _ _ is in found-past place (omega (arith, over))
        by false is = found-by place (ltb-false _ _ is) (nat_lt (ahead place) (length (drop place (world.queries)))) refl

    -- no list has another state
    pub none_told : (place : ℕ) (now : World) → None ≡ next_changed document place world → now ≡ once_evaluated document (next_changed document place world) world →
        turns_from script document place world ≡ silent now
    none_told place now none is =
        turns-next place
        ∙ ap rest_of (sym none)
        ∙ ap (λ (found : Option ℕ). silent (once_evaluated document found world)) none
        ∙ ap (λ (state : World). silent state) (sym is)

    -- the first that has, and then those behind it
    pub next_told : (place query next : ℕ) (matched : Bool) (now : World) → Some query ≡ next_changed document place world →
        matched ≡ matches_now world document (query_list_at (world.queries) query).query → next ≡ suc query →
        now ≡ once_evaluated document (next_changed document place world) world →
        turns_from script document place world ≡ told script document query matched now followed_by turns_from script document next
    unfolding matches_now
    next_told place query next matched now found state behind is =
        let evaluated_is : once_evaluated document (Some query) world ≡ now = ap (λ (it : Option ℕ). once_evaluated document it world) found ∙ sym is in
        let next_is : query + 1 ≡ next = omega (arith, behind) in
        turns-next place
        ∙ ap rest_of (sym found)
        ∙ ap (λ (it : Bool). told script document query it (once_evaluated document (Some query) world) followed_by turns_from script document (query + 1)) (sym state)
        ∙ ap (λ (it : World). told script document query matched it followed_by turns_from script document (query + 1)) evaluated_is
        ∙ ap (λ n. told script document query matched now followed_by turns_from script document n) next_is

-- the first is at the place or behind it
at-or-behind : (place query : ℕ) (found : Option ℕ) → Some query ≡ option_map (λ (n : ℕ). place + n) found → place ≤ query
at-or-behind place query None is = absurd cc
at-or-behind place query (Some n) is = let same : query ≡ place + n = some-is is in omega arith
  where
    some-is : {a b : ℕ} → Some a ≡ Some b → a ≡ b
    some-is both = cc

module _ (document : ℕ) (found : Option ℕ) (world now : World) (is : now ≡ once_evaluated document found world) where
  -- no list is taken away
  pub evaluated_there : (query : ℕ) → query < length world.queries → query < length now.queries
  evaluated_there query there =
      let same : length now.queries ≡ length world.queries = ap (λ (state : World). length state.queries) is ∙ (list_evaluated world document found).queries in omega (arith, there)

-- fewer places are left
pub fewer_places : (place query next count : ℕ) (found : Option ℕ) → Some query ≡ option_map (λ (n : ℕ). place + n) found → next ≡ suc query → query < count → count ≤ 4096 →
    4096 - next < 4096 - place
fewer_places place query next count found is behind there few = let onward : place ≤ query = at-or-behind place query found is in omega (arith, behind, there, few)
