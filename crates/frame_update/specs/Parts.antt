-- The parts of an update (HTML, event loops: update the rendering).
use Rattle.std.specs.Prelude.{ℕ}
use Rattle.page_model.specs.World.{World}
use Rattle.page_model.specs.Callbacks.{Script}
use Rattle.page_model.specs.Loop.{resize_loop}
use Rattle.page_model.specs.Runs.{Said}
use Rattle.page_model.specs.Ticks.{resize_steps, scroll_steps, media_steps, frame_steps, intersection_steps}
use Rattle.frame_update.specs.declared.update.Part.{Part}
use Rattle.frame_update.specs.declared.update.Part.TheVariants.{Resizes, Scrolls, Media, Frames, ResizeLoop, Intersections}

-- the steps of each part for one document
abbrev pub part_of : Script → Part → ℕ → World → Said World
part_of script Resizes = resize_steps script
part_of script Scrolls = scroll_steps script
part_of script Media = media_steps script
part_of script Frames = frame_steps script
part_of script ResizeLoop = resize_loop script
part_of script Intersections = intersection_steps
