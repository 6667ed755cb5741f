-- The page's fault for each refusal by one of its parts.
use Rattle.page_tree.specs.declared.faults.PlaceFault.{PlaceFault}
use Rattle.page_tree.specs.declared.faults.PlaceFault.TheVariants as place
use Rattle.page_tree.specs.declared.faults.MakeFault.{MakeFault}
use Rattle.page_tree.specs.declared.faults.MakeFault.TheVariants as make
use Rattle.text_io.specs.declared.kinds.LimitKind.{LimitKind}
use Rattle.text_io.specs.declared.kinds.LimitKind.TheVariants.{IntersectionObservations}
use Rattle.text_io.specs.declared.kinds.ThrowKind.TheVariants.{TypeError}
use Rattle.event_tables.specs.declared.answers.TableFault.{TableFault}
use Rattle.event_tables.specs.declared.answers.TableFault.TheVariants as table
use Rattle.intersection_observer.specs.declared.watchers.WatchFault.{WatchFault}
use Rattle.intersection_observer.specs.declared.watchers.WatchFault.TheVariants as watch
use Rattle.page_state.specs.declared.answers.PageFault.{PageFault}
use Rattle.page_state.specs.declared.answers.PageFault.TheVariants.{Throw, Limit, Memory}

abbrev pub misplaced : PlaceFault → PageFault
misplaced (place.Throw kind) = Throw kind
misplaced (place.Limit kind) = Limit kind

abbrev pub unmade : MakeFault → PageFault
unmade (make.Limit kind) = Limit kind
unmade make.Memory = Memory

-- for a table with this limit
abbrev pub untabled : LimitKind → TableFault → PageFault
untabled limit table.Taken = Throw TypeError
untabled limit table.Limit = Limit limit
untabled limit table.Memory = Memory

-- for one more registration
abbrev pub unwatched : WatchFault → PageFault
unwatched watch.Limit = Limit IntersectionObservations
unwatched watch.Memory = Memory
