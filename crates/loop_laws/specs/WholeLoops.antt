-- All rounds of a resize loop, with what they deliver, and the error after them (Resize Observer, 3.4).
use Rattle.std.specs.Prelude.{◌≡◌, ◌<◌, ◌≤◌, ◌*◌, ℕ, suc, Bool, cond, ◌&&◌, List, [], ◌∷◌, map, fold, max, length, sum_by, flat_map, None, ⊤}
use Rattle.std.specs.List.{list_any}
use Rattle.text_io.specs.declared.kinds.EventKind.TheVariants as events
use Rattle.script_model.specs.TraceLines.{TraceLine, RoundLine, FiredError}
use Rattle.page_model.specs.World.{World, Observation, ResizeObserver, WindowTarget}
use Rattle.page_model.specs.Documents.{is_active, element_depth}
use Rattle.page_model.specs.Names.{document_text}
use Rattle.page_model.specs.Gathering.{sight_of, is_of, has_changed, due_at}
use Rattle.page_model.specs.Runs.{Said, most_steps}
use Rattle.page_model.specs.Callbacks.{Script, call, fire}
use Rattle.page_model.specs.Loop.{Broadcast, gather, broadcast, round, deliver_some}
use Rattle.loop_laws.specs.Moments.{onward, following, along_repeat, along_places}
use Rattle.loop_laws.specs.Rounds.{goes_on, rounds_up_to, round_depth}
use Rattle.loop_laws.specs.Uprooting.{uprootings}

-- the rounds of a loop, without the error after them
unfoldable pub resize_rounds : Script → ℕ → World → Said World
unfolding rounds_up_to gather
resize_rounds script document world = rounds_up_to most_steps script document (gather document 0 world)

-- the worlds in which the rounds of a loop begin, after gathering. The last round may be cut short, and then writes no line
unfoldable pub round_starts : Script → ℕ → World → List World
unfolding along_repeat broadcast gather
round_starts script document world =
    along_repeat (goes_on document) (λ now. now ∷ []) (round script document) most_steps (gather document 0 world)

-- the line of a round, with its depth; none if the round was cut short, by a limit or because its document wasn't Active any more
unfoldable pub line_of_round : Script → ℕ → World → List TraceLine
unfolding onward broadcast round_depth
line_of_round script document start =
    following (broadcast script document start) (λ (so_far : Broadcast).
    cond (is_active (so_far.world.tree) document) (RoundLine (document_text (so_far.world.names) document) (round_depth script document start) ∷ []) [])

-- the depths of the targets that a round delivers, each at the moment of its delivery
unfoldable pub delivered_depths : Script → ℕ → World → List ℕ
unfolding along_places call element_depth
delivered_depths script document world =
    along_places
    (λ so_far. length (so_far.world.resize_observers.made))
    (λ so_far. is_active (so_far.world.tree) document)
    (λ observer (so_far : Broadcast).
    map (λ (it : Observation). element_depth (so_far.world.tree) (it.target)) (due_at document observer (so_far.world.resize_observers)))
    (λ observer so_far. deliver_some script document observer so_far (due_at document observer (so_far.world.resize_observers)))
    (record { world = world; shallowest = None })

abbrev pub greatest : List ℕ → ℕ
greatest depths = fold max 0 depths

-- each round is deeper than the one before, or one of its commands uproots a target gathered for it
abbrev pub GoesDeeper : Script → ℕ → ℕ → List World → Type 0
GoesDeeper script document before [] = ⊤
GoesDeeper script document before (start ∷ others) =
    (uprootings script document start ≡ 0 → before < round_depth script document start)
    × GoesDeeper script document (round_depth script document start) others

-- with m uprooting commands in all its rounds, and H the greatest depth of what is delivered, a loop has at most (m + 1) * H rounds,
-- including one that is cut short
abbrev pub HasFewRounds : Script → ℕ → World → Type 0
HasFewRounds script document world =
    length (round_starts script document world)
    ≤ suc (sum_by (uprootings script document) (round_starts script document world))
    * greatest (flat_map (delivered_depths script document) (round_starts script document world))

-- whether an observer of a document has a target whose size differs from its last reported one
abbrev pub has_undelivered : ℕ → World → Bool
has_undelivered document world =
    list_any
    (λ (observer : ResizeObserver). is_of document observer && list_any (has_changed (sight_of world)) (observer.targets))
    (world.resize_observers.made)

abbrev pub fire_error : Script → ℕ → World → Said World
fire_error script document world = fire script (FiredError (document_text (world.names) document)) (WindowTarget document) events.Error world
