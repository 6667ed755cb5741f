-- Which commands of a round uproot a target gathered for it: those that take an inclusive ancestor of the target out of its parent.
use Rattle.std.specs.Prelude.{ℕ, Bool, false, ◌&&◌, cond, List, [], map, flat_map, count_by, Option, Some, None, is_some}
use Rattle.std.specs.List.{list_any}
use Rattle.script_model.specs.Syntax.{Action, Append, Before, Remove, Operand, Command, Simple, Each, When}
use Rattle.page_model.specs.World.{World, Tree, Observation, ResizeObserver}
use Rattle.page_model.specs.Lookups.{element_at}
use Rattle.page_model.specs.Documents.{is_inclusive_ancestor}
use Rattle.page_model.specs.Gathering.{is_of}
use Rattle.page_model.specs.Steps.{Step, Did, Threw, Met, is_did}
use Rattle.page_model.specs.Operands.{element_meant}
use Rattle.page_model.specs.Commands.{does}
use Rattle.page_model.specs.Callbacks.{Script, handler_names}
use Rattle.loop_laws.specs.Moments.{Moment, broadcast_moments}

-- the element that `append`, `before` and `remove` move; no other command moves one
abbrev pub moved_operand : Action → Option Operand
moved_operand (Append parent node) = Some node
moved_operand (Before parent node sibling) = Some node
moved_operand (Remove node) = Some node
moved_operand action = None

abbrev pub comes_to : Step ℕ → (ℕ → Bool) → Bool
comes_to (Did n) test = test n
comes_to (Threw exception) test = false
comes_to (Met limit) test = false

-- whether an element has a parent, and is an inclusive ancestor of one of these targets
abbrev pub stands_above : Tree → List ℕ → ℕ → Bool
stands_above tree targets n = is_some (element_at tree n).parent && list_any (is_inclusive_ancestor tree n) targets

-- whether an action takes effect and takes an inclusive ancestor of one of these targets, in the tree as it is before, out of its parent.
-- Moving an element without a parent, whether it is a root element or in no document's tree, decreases no depth, and so doesn't count
abbrev pub lifts : Script → List ℕ → Moment → Action → Option Operand → Bool
lifts script targets now action None = false
lifts script targets now action (Some node) =
    is_did (does (handler_names script) (now.world) (now.present) action)
    && comes_to (element_meant (now.world.names) (now.present) node) (stands_above (now.world.tree) targets)

abbrev pub uproots_by : Script → List ℕ → Moment → Command → Bool
uproots_by script targets now (Simple line action) = lifts script targets now action (moved_operand action)
uproots_by script targets now (Each line block end_line) = false
uproots_by script targets now (When line condition block end_line) = false

unfoldable pub uproots : Script → List ℕ → Moment → Bool
unfolding does is_inclusive_ancestor
uproots script targets now = uproots_by script targets now (now.command)

-- the active targets of a document's observers
abbrev pub targets_of : ℕ → List ResizeObserver → List ℕ
targets_of document made =
    flat_map (λ (observer : ResizeObserver). cond (is_of document observer) (map (λ (it : Observation). it.target) (observer.active)) []) made

abbrev pub gathered_targets : ℕ → World → List ℕ
gathered_targets document world = targets_of document (world.resize_observers.made)

-- how many commands of the round that begins in this world uproot a target gathered for it
unfoldable pub uprootings : Script → ℕ → World → ℕ
unfolding uproots broadcast_moments
uprootings script document world = count_by (uproots script (gathered_targets document world)) (broadcast_moments script document world)
