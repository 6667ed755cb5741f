-- Over a whole run trees stay within their levels.
use Rattle.std.proofs.Common.{refl, sym, subst, arith, ◌≤◌}
use Rattle.std.specs.Prelude.{ℕ, List, length, Option, Ok, Err}
use Rattle.std.specs.List.{AllByRecursion}
use Rattle.script_model.specs.Syntax.{Command, Item}
use Rattle.script_model.specs.Scripts.{handlers_in}
use Rattle.script_model.specs.Reading.{Reading, reading}
use Rattle.text_io.specs.declared.kinds.Version.{Version}
use Rattle.text_io.specs.declared.kinds.Version.TheVariants.{First}
use Rattle.page_model.specs.World.{World}
use Rattle.page_model.specs.Operands.{Present}
use Rattle.page_model.specs.Callbacks.{Script, Entries, handler_names, presents, run_command, call}
use Rattle.page_model.specs.Ticks.{tick}
use Rattle.page_model.specs.Outcome.{opening_world, outcome_read, outcome, run_item, run_items}
use Rattle.page_model.specs.Ranges.{IsInRange, IsPresentIn}
use Rattle.page_laws.proofs.RunsInRange.{IsKeptInRange, command-runs, call-runs, tick-runs, item-runs, items-run, opening-in}
use Rattle.page_documents.proofs.Making.{opening_framed}
use Rattle.page_documents.proofs.Shape.{depth_top}
use Rattle.document_laws.specs.Levels.{IsWithinLevels}
use Rattle.document_laws.proofs.Depths.{deep}
use Rattle.document_laws.proofs.Steps.{does_levels}

abbrev Levels : World → Type 0
Levels world = IsWithinLevels world.tree

levels_kept : (script : Script) → IsKeptInRange script Levels
levels_kept script = record {
  next = λ before now next levels. subst IsWithinLevels (sym (next.tree)) levels;
  begun = λ world levels. levels;
  timed = λ time world levels. levels;
  does = λ world present action within is levels. does_levels (handler_names script) world within levels present action is;
}

module _ (script : Script) (world : World) (within : IsInRange (length script) world) (levels : IsWithinLevels world.tree) where
  pub command_levels : (entries : List Present) (command : Command) (present : Present) → AllByRecursion (IsPresentIn world) entries →
      IsPresentIn world present → IsWithinLevels (run_command script entries command present world).state.tree
  command_levels entries command present are is =
      (command-runs script Levels (levels_kept script) world within levels entries command present are is).beside

  pub call_levels : (document : ℕ) (handler : Option ℕ) (handed : Entries) → AllByRecursion (IsPresentIn world) (presents handed) →
      IsWithinLevels (call script document handler handed world).state.tree
  call_levels document handler handed are = (call-runs script Levels (levels_kept script) world within levels document handler handed are).beside

  pub tick_levels : IsWithinLevels (tick script world).state.tree
  tick_levels = (tick-runs script Levels (levels_kept script) world within levels).beside

  pub item_levels : (item : Item) → IsWithinLevels (run_item script item world).state.tree
  item_levels item = (item-runs script Levels (levels_kept script) world within levels item).beside

-- from the opening world ---------------------------------------------------------------------------------------------------------------

pub opening_levels : (version : Version) → IsWithinLevels (opening_world version).tree
opening_levels version = record {
  framed = opening_framed version;
  low = λ n. subst (λ d. d ≤ 256) (sym (deep (opening_world version).tree n)) (let one = depth_top (opening_world version).tree n refl in omega arith);
  few = omega arith;
}

pub items_levels : (items : List Item) (version : Version) → IsWithinLevels (run_items items (opening_world version)).state.tree
items_levels items version =
    (items-run items Levels (levels_kept (handlers_in items)) (opening_world version) (opening-in (length (handlers_in items)) version)
    (opening_levels version)).beside

read_levels : (read : Reading) → IsWithinLevels (outcome_read read).world.tree
unfolding outcome_read
read_levels (Ok script) = items_levels (script.items) (script.version)
read_levels (Err refusal) = opening_levels First

pub outcome_levels : (text : List ℕ) → IsWithinLevels (outcome text).world.tree
unfolding outcome
outcome_levels text = read_levels (reading text)
