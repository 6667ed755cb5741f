-- The resize loop of a document (Resize Observer, 3.4; HTML, update the rendering).
use Rattle.std.specs.Prelude.{ℕ, min, cond, ◌&&◌, List, [], ◌∷◌, map, fold, length, Option, Some, None, unwrap_or}
use Rattle.text_io.specs.declared.kinds.EventKind.TheVariants as events
use Rattle.script_model.specs.TraceLines.{RoundLine, FiredError}
use Rattle.page_model.specs.World.{World, Observation, WindowTarget}
use Rattle.page_model.specs.Lookups.{resize_observer_at}
use Rattle.page_model.specs.Documents.{is_active, element_depth}
use Rattle.page_model.specs.Names.{document_text}
use Rattle.page_model.specs.PageBoxes.{size_of, corner_of}
use Rattle.page_model.specs.Gathering.{SizeEntry, sight_of, gathering, has_active, has_skipped, size_entry, with_reported, without_active, due_at}
use Rattle.page_model.specs.Runs.{Said, silent, say, ◌followed_by◌, lifted, only_if, repeat, by_place, most_steps}
use Rattle.page_model.specs.Callbacks.{Script, SizeEntries, call, fire}

-- gather active resize observations at a depth
unfoldable pub gather : ℕ → ℕ → World → World
unfolding size_of element_depth
gather document depth world = record world { resize_observers = gathering (sight_of world) document depth (world.resize_observers) }

-- a broadcast in progress, with the smallest depth of its entries so far
pub record Broadcast : Type 0 where
  pub world : World
  pub shallowest : Option ℕ

abbrev pub shallower : Option ℕ → SizeEntry → Option ℕ
shallower None entry = Some (entry.depth)
shallower (Some depth) entry = Some (min depth entry.depth)

-- after its callback, an observer's list of active targets is cleared, if the document is still Active
abbrev pub emptied : ℕ → ℕ → World → World
emptied document observer world =
    cond (is_active (world.tree) document) (record world { resize_observers = without_active observer (world.resize_observers) }) world

-- creates an observer's entries, sets the last reported sizes, and invokes the callback
abbrev pub deliver : Script → ℕ → ℕ → Broadcast → List Observation → Said Broadcast
deliver script document observer so_far delivered =
    let before = so_far.world in
    let entries = map (size_entry (sight_of before)) delivered in
    lifted
    (λ now. record { world = emptied document observer now; shallowest = fold shallower (so_far.shallowest) entries })
    (call script document (resize_observer_at (before.resize_observers) observer).handler (SizeEntries observer entries)
    (record before { resize_observers = with_reported (sight_of before) observer delivered (before.resize_observers) }))

-- an observer's turn: it is skipped if it has no active targets
abbrev pub deliver_some : Script → ℕ → ℕ → Broadcast → List Observation → Said Broadcast
deliver_some script document observer so_far [] = silent so_far
deliver_some script document observer so_far (first ∷ others) = deliver script document observer so_far (first ∷ others)

-- broadcast active resize observations, by index, since a callback may create observers. That it stops as soon as the document isn't
-- Active any more is this project's own
unfoldable pub broadcast : Script → ℕ → World → Said Broadcast
unfolding by_place call size_of corner_of element_depth
broadcast script document world =
    by_place
    (λ so_far. length (so_far.world.resize_observers.made))
    (λ so_far. is_active (so_far.world.tree) document)
    (λ observer so_far. deliver_some script document observer so_far (due_at document observer (so_far.world.resize_observers)))
    (record { world = world; shallowest = None })

-- the end of a round: its line, and gathering at its smallest depth. (Every round has an entry, so there is a smallest depth.)
abbrev pub round_ended : ℕ → Broadcast → Said Broadcast
round_ended document so_far =
    let depth = unwrap_or (so_far.shallowest) 0 in
    say (RoundLine (document_text (so_far.world.names) document) depth ∷ [])
    (record so_far { world = gather document depth (so_far.world) })

abbrev pub round : Script → ℕ → World → Said World
round script document world =
    lifted (λ (so_far : Broadcast). so_far.world)
    (broadcast script document world followed_by (λ so_far. only_if (round_ended document) so_far (is_active (so_far.world.tree) document)))

-- deliver resize loop error
abbrev pub report_skipped : Script → ℕ → World → Said World
report_skipped script document world =
    only_if
    (fire script (FiredError (document_text (world.names) document)) (WindowTarget document) events.Error)
    world
    (is_active (world.tree) document && has_skipped document (world.resize_observers))

-- gathers at depth 0, then broadcasts and gathers in turn as long as there are active observations, and then reports skipped ones
unfoldable pub resize_loop : Script → ℕ → World → Said World
unfolding ◌followed_by◌ repeat broadcast gather fire
resize_loop script document world =
    repeat
    (λ now. is_active (now.tree) document && has_active document (now.resize_observers))
    (round script document)
    most_steps
    (gather document 0 world)
    followed_by report_skipped script document
