-- The lines that commands and callbacks write are none of a resize loop.
use Rattle.std.proofs.Common.{◌≡◌, refl}
use Rattle.std.specs.Prelude.{ℕ, false, map, List, [], ◌∷◌}
use Rattle.std.specs.List.{AllByRecursion}
use Rattle.text_io.specs.declared.kinds.Version.{Version}
use Rattle.script_model.specs.Syntax.{Action, Say, Read, TakeIntersections}
use Rattle.script_model.specs.TraceLines.{TraceLine}
use Rattle.page_model.specs.World.{Name, Entry, World, Container, InElement, InDocument}
use Rattle.page_model.specs.Gathering.{SizeEntry}
use Rattle.page_model.specs.EntryLines.{intersection_line, intersection_lines}
use Rattle.page_model.specs.Steps.{Effect}
use Rattle.page_model.specs.Operands.{Present, Handlers}
use Rattle.page_model.specs.Commands.{does, with_tree, with_intersections, with_listeners, making, taking}
use Rattle.page_model.specs.Readings.{reading_of}
use Rattle.page_model.specs.Callbacks.{Entries, NoEntries, SizeEntries, CutEntries, resize_line, entry_lines}
use Rattle.page_laws.specs.Successors.{OnDid}
use Rattle.page_laws.proofs.Steps.{bind, both, did}
use Rattle.loop_laws.specs.RunLoops.{is_loop_line}

abbrev pub IsPlain : TraceLine → Type 0
IsPlain line = is_loop_line line ≡ false

-- entries

intersections-plain : (names : List Name) (observer : ℕ) (entries : List Entry) → AllByRecursion IsPlain (intersection_lines names observer entries)
unfolding intersection_lines intersection_line
intersections-plain names observer [] = tt
intersections-plain names observer (entry ∷ entries) = (refl, intersections-plain names observer entries)

resizes-plain : (version : Version) (names : List Name) (observer : ℕ) (entries : List SizeEntry) → AllByRecursion IsPlain (map (resize_line version names observer) entries)
resizes-plain version names observer [] = tt
resizes-plain version names observer (entry ∷ entries) = (refl, resizes-plain version names observer entries)

pub entries-plain : (version : Version) (names : List Name) (handed : Entries) → AllByRecursion IsPlain (entry_lines version names handed)
entries-plain version names NoEntries = tt
entries-plain version names (SizeEntries observer entries) = resizes-plain version names observer entries
entries-plain version names (CutEntries observer entries) = intersections-plain names observer entries

-- commands

module _ (handlers : Handlers) (world : World) where
  abbrev Plainly : Effect → Type 0
  Plainly effect = AllByRecursion IsPlain (effect.lines)

  nothing-said : (now : World) → Plainly (record { world = now; lines = [] })
  nothing-said now = tt

  taking-plain : (observer : ℕ) (queue : List Entry) → OnDid (taking world observer queue) Plainly
  taking-plain observer queue = did _ Plainly (refl, intersections-plain (world.names) observer queue)

  reading-plain : (container : Container) → Plainly (record {
    world = world;
    lines = reading_of (world.names) (world.tree) (world.viewports.screen) (world.scrolls) container ∷ [];
  })
  reading-plain (InElement n) = (refl, tt)
  reading-plain (InDocument document) = (refl, tt)

  pub does-plain : (present : Present) (action : Action) → OnDid (does handlers world present action) Plainly
  unfolding does with_tree with_intersections with_listeners making
  does-plain present (TakeIntersections observer) = search (bind, taking-plain) depth 9
  does-plain present (Say word) = did _ Plainly (refl, tt)
  does-plain present (Read shown) = search (bind, did, reading-plain) depth 9
  does-plain present action = search (both, bind, did, nothing-said) depth 14
