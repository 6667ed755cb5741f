-- The entries that a callback is given, and the one for which a command runs.
use Rattle.std.specs.Prelude.{ℕ, ◌<◌, List, length, map, Option, Some, None, slice_get, unwrap_or, ⊤}
use Rattle.std.specs.List.{AllByRecursion}
use Rattle.trace_text.specs.Ranges.{HasReach}
use Rattle.page_model.specs.World.{World}
use Rattle.page_model.specs.Callbacks as model
use Rattle.page_model.specs.Callbacks.{NoEntries, SizeEntries, CutEntries, presents, entry_lines}
use Rattle.page_model.specs.Operands.{Present, NoEntry}
use Rattle.page_model.specs.Ranges.{IsPresentIn}
use Rattle.depth_gather.specs.Entries.{seen_entry}
use Rattle.page_state.specs.Things.{present_with}
use Rattle.handlers.specs.declared.entries.Entries.{Entries}
use Rattle.handlers.specs.declared.entries.Entries.TheVariants.{Nothing, Resize, Intersection}
use Rattle.handlers.specs.declared.entries.Subject.{Subject}

abbrev pub entries_of : Entries → model.Entries
entries_of Nothing = NoEntries
entries_of (Resize observer entries) = SizeEntries observer.0 (map seen_entry entries)
entries_of (Intersection observer entries) = CutEntries observer.0 entries

-- the entry at a place, none if there is no place or no entry there
abbrev pub present_at : List Present → Option ℕ → Present
present_at entries None = NoEntry
present_at entries (Some place) = unwrap_or (slice_get entries place) NoEntry

abbrev pub subject_of : Subject → Present
subject_of subject = present_with subject.target subject.meets

-- the elements of the entries exist
abbrev pub AreIn : World → List Present → Type 0
AreIn world entries = AllByRecursion (IsPresentIn world) entries

-- the observer of the entries, if there is one, exists
abbrev pub IsCallerIn : World → model.Entries → Type 0
IsCallerIn world NoEntries = ⊤
IsCallerIn world (SizeEntries observer entries) = observer < length world.resize_observers.made
IsCallerIn world (CutEntries observer entries) = observer < length world.intersection_observers.made

-- entries that can be passed to a callback: their observer and their elements exist, and their lines are in the range that can be
-- written
pub record AreHanded (world : World) (handed : model.Entries) : Type 0 where
  pub caller : IsCallerIn world handed
  pub targets : AreIn world (presents handed)
  pub reach : AllByRecursion HasReach (entry_lines world.version world.names handed)
