-- What the lists of pending targets stand for.
use Rattle.std.specs.Prelude.{List, map}
use Rattle.std.specs.Global.{Vec}
use Rattle.page_model.specs.World.{Container as ModelContainer}
use Rattle.element_tree.specs.declared.container.Container.{Container}
use Rattle.container_model.specs.Seen.{seen_containers}

abbrev pub seen_lists : List (Vec Container) → List (List ModelContainer)
seen_lists lists = map (λ list. seen_containers list.items) lists
