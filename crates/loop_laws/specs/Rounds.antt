-- The rounds of a resize loop, and how many more of them there can be (Resize Observer, 3.4).
use Rattle.std.specs.Prelude.{ℕ, suc, ◌+◌, ◌-◌, ◌*◌, ◌<◌, Bool, ◌&&◌, unwrap_or}
use Rattle.std.specs.List.{AllByRecursion}
use Rattle.text_io.specs.declared.kinds.Version.TheVariants.{Second}
use Rattle.text_io.specs.Limits.{limit_number}
use Rattle.text_io.specs.declared.kinds.LimitKind.TheVariants as limits
use Rattle.layout_model.specs.Nodes.{levels}
use Rattle.page_model.specs.World.{Observation, World}
use Rattle.page_model.specs.Documents.{is_active, element_depth}
use Rattle.page_model.specs.Gathering.{has_active, due_at}
use Rattle.page_model.specs.Runs.{Said, repeat}
use Rattle.page_model.specs.Callbacks.{Script}
use Rattle.page_model.specs.Loop.{broadcast, round}

-- whether a loop has another round: the document is Active, and one of its observers has active targets
abbrev pub goes_on : ℕ → World → Bool
goes_on document world = is_active (world.tree) document && has_active document (world.resize_observers)

-- the rounds of a loop, at most `most` of them, from a world in which observations have been gathered
unfoldable pub rounds_up_to : ℕ → Script → ℕ → World → Said World
unfolding repeat broadcast
rounds_up_to most script document world = repeat (goes_on document) (round script document) most world

-- the smallest depth of the entries of a round, which is on its line
unfoldable pub round_depth : Script → ℕ → World → ℕ
unfolding broadcast
round_depth script document world = unwrap_or (broadcast script document world).state.shallowest 0

-- everything to be delivered in a document is deeper than this depth, as it is after gathering at this depth
pub record IsDeeper (document depth : ℕ) (world : World) : Type 0 where
  pub each : (observer : ℕ) →
      AllByRecursion (λ (it : Observation). depth < element_depth (world.tree) (it.target)) (due_at document observer (world.resize_observers))

-- the greatest depth that an element can have, by the bound on its path
abbrev pub deepest : ℕ
deepest = suc levels

-- the maximum number of commands that a run of any version begins
abbrev pub most_commands : ℕ
most_commands = limit_number Second limits.Commands

-- an upper bound on the rounds that a loop can still have in a world in which observations were gathered at a depth: in each round a
-- command begins or the depth is greater than before
abbrev pub rounds_left : World → ℕ → ℕ
rounds_left world depth = (most_commands - world.begun) * suc deepest + (deepest - depth)
