-- A page in which a tick has nothing to do.
use Rattle.std.specs.Prelude.{◌≡◌, false, [], ◌∷◌, None}
use Rattle.page_model.specs.World.{Document, World}
use Rattle.page_model.specs.Viewports.{differs_from, noted_size}
use Rattle.page_model.specs.Scrolls.{pending_of}

-- there is only the top document, without pending scroll events; the resize steps have noted the size that its viewport has now, or none
-- yet; and there are no observers, query lists, frame callbacks, timers and tasks. There may be elements and listeners
pub record IsQuiet (world : World) : Type 0 where
  pub top : Document
  pub alone : world.tree.documents ≡ top ∷ []
  pub frame : top.frame ≡ None
  pub pending : pending_of 0 world.scrolls ≡ []
  pub noted : differs_from (world.viewports.screen.size) (noted_size 0 world.viewports) ≡ false
  pub resize_observers : world.resize_observers.made ≡ []
  pub intersection_observers : world.intersection_observers.made ≡ []
  pub queries : world.queries ≡ []
  pub frame_callbacks : world.frame_callbacks.held ≡ []
  pub timers : world.timers.held ≡ []
  pub tasks : world.tasks ≡ []
