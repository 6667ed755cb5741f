use Rattle.std.proofs.Common.{map}
use Rattle.std.specs.Prelude.{bytes_eq}
use Rattle.indexmap.specs.IndexMap.{get}
use Rattle.script_syntax.specs.Indexes.{IndexedTo}
use Rattle.script_syntax.specs.Seen.{item_of}
use Rattle.script_syntax.proofs.index.index_of.Given as goal

abbrev pub invariant-loop-place : goal.invariant-loop-place
invariant-loop-place l = IndexedTo (map item_of l.items) l.place l.index.places.items (get bytes_eq l.index.numbers)
