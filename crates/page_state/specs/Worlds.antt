-- The world that the parts of a page make up, and the view of a page that its contracts use.
use Rattle.std.specs.Prelude.{map, length, option_map}
use Rattle.page_model.specs.World.{World}
use Rattle.page_model.specs.Ranges.{Counts}
use Rattle.page_boxes.specs.Pages.{seen_size, seen_screen}
use Rattle.page_state.specs.Queries.{seen_query_list}
use Rattle.page_state.specs.Views.{PageView}
use Rattle.page_state.specs.declared.page.Page.TheInside.{Inside}

abbrev pub world_of : Inside → World
world_of p = record {
  tree = p.laid.elements.tree;
  names = p.names.list;
  viewports = record { screen = seen_screen p.screen; noted = map (option_map seen_size) p.noted };
  scrolls = p.scrolls;
  resize_observers = p.observers.part;
  intersection_observers = p.watchers.part;
  scroll_margins = p.scroll_margins.items;
  notifying = p.notifying;
  queries = map seen_query_list p.queries.items;
  listeners = p.listeners.part;
  frame_callbacks = p.frame_callbacks.part;
  timers = p.timers.part;
  tasks = p.tasks.part;
  version = p.version;
  clock = p.clock;
  begun = p.count;
}

abbrev pub view_of : Inside → PageView
view_of p = record { world = world_of p; begun = p.begun; kept = p.laid.kept; found = p.findings }

-- how many things there are of each kind that has names; handlers aren't kept in a page
abbrev pub counts_in : Inside → Counts
counts_in p = record {
  elements = length p.laid.elements.tree.elements;
  documents = length p.laid.elements.tree.documents;
  resize_observers = length p.observers.part.made;
  intersection_observers = length p.watchers.part.made;
  queries = length p.queries.items;
  handlers = 0;
}
