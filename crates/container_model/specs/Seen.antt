-- The containers of the definitions, which have numbers, for those of the code, which have ids.
use Rattle.std.specs.Prelude.{List, map}
use Rattle.page_model.specs.World.{Container as ModelContainer, InElement, InDocument}
use Rattle.element_tree.specs.declared.container.Container.{Container}
use Rattle.element_tree.specs.declared.container.Container.TheVariants.{Element, Document}

abbrev pub seen_container : Container → ModelContainer
seen_container (Element node) = InElement node.0
seen_container (Document document) = InDocument document.0

abbrev pub seen_containers : List Container → List ModelContainer
seen_containers containers = map seen_container containers
