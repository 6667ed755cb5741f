-- What a page that is handed out after a run is ready for.
use Rattle.std.specs.Prelude.{ℕ, Ok, Err}
use Rattle.script_model.specs.Reading.{Reading}
use Rattle.page_model.specs.World.{World}
use Rattle.page_laws.specs.Ready.{IsReadyFor}
use Rattle.frame_update.specs.Ready.{IsReady}

-- a tick of the script that a text is read as
abbrev pub IsReadyOf : Reading → World → Type 0
IsReadyOf (Ok script) world = IsReady (script.items) world
IsReadyOf (Err refusal) world = ⊥

-- a tick of some script
abbrev pub IsReadyOfSome : World → Type 0
IsReadyOfSome world = (handlers : ℕ) × IsReadyFor handlers world
