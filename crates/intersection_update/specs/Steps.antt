-- The steps that an update takes for registrations: one for each clip that is computed at a spot, and one for each finding that
-- is. That these are kept, and when they are computed, is this project's own.
use Rattle.std.specs.Prelude.{ℕ, ◌+◌, ◌*◌, cond, nat_lt, List, sum_by, count_by}
use Rattle.std.specs.List.{flat_map}
use Rattle.script_model.specs.Margins.{Margins}
use Rattle.page_model.specs.Shown.{Shown}
use Rattle.page_model.specs.World.{Tree, IntersectionObservers}
use Rattle.page_model.specs.Intersections.{watchers}
use Rattle.clip_chain.specs.Worlds.{scene_of}
use Rattle.kept_clips.specs.Touches.{Touched, last_number}
use Rattle.candidate_index.specs.Registrations.{serials_at}
use Rattle.candidate_index.specs.Asked.{steps_for}
use Rattle.kept_findings.specs.Held.{HeldFindings}
use Rattle.kept_findings.specs.Walks.{spots_between}
use Rattle.page_geometry.specs.Scenes.{standings_of}
use Rattle.intersection_update.specs.Keeping.{HaveChains, is_stale_in}

-- the serial numbers of the registrations that an update of a document looks at
abbrev pub serials_looked_at : Tree → ℕ → IntersectionObservers → List ℕ
serials_looked_at tree document it = flat_map (serials_at it) (watchers tree document it)

-- how many of these registrations are stale before an update
abbrev pub stale_count : (shown : Shown) → List Margins → HaveChains shown → IntersectionObservers → HeldFindings → List ℕ → ℕ
stale_count shown margins chained it before serials = count_by (is_stale_in shown margins chained it before.kept) serials

-- the number of spots strictly between a registration's target and its root, if a chain leads from one to the other and the clip
-- that was held before the update isn't valid: there was none, or a spot on its chain was touched since, up to the end of the
-- update. Else 0. Scroll margins make no difference to these spots
abbrev pub spots_anew : (shown : Shown) → HaveChains shown → IntersectionObservers → (before now : HeldFindings) → ℕ → ℕ
spots_anew shown chained it before now serial =
    steps_for (scene_of shown) (standings_of shown) it (spots_between (scene_of shown) (standings_of shown) chained it) serial (record (before.clips) { touches = now.clips.touches })

-- how often a clip is computed: once, but twice if the count of touches has reached the last number, since it can't be told then
-- whether the clip is still valid
abbrev pub times_computed : Touched → ℕ
times_computed touches = cond (nat_lt touches.count last_number) 1 2

-- one step for each stale registration among these, and one for each spot whenever a clip is computed there
abbrev pub steps_at : (shown : Shown) → List Margins → HaveChains shown → IntersectionObservers → List ℕ → (before now : HeldFindings) → ℕ
steps_at shown margins chained it serials before now =
    stale_count shown margins chained it before serials + times_computed now.clips.touches * sum_by (spots_anew shown chained it before now) serials

-- the most steps that an update of a document takes for registrations
abbrev pub most_steps : (shown : Shown) → List Margins → HaveChains shown → ℕ → IntersectionObservers → (before now : HeldFindings) → ℕ
most_steps shown margins chained document it before now = steps_at shown margins chained it (serials_looked_at shown.tree document it) before now
