-- Frame callbacks that are handed out (HTML, animation frames).
use Rattle.std.specs.Prelude.{ℕ, List, Option, Some, None}
use Rattle.page_model.specs.World.{FrameCallback, Table}
use Rattle.page_model.specs.FrameCallbacks.{frame_callback_taken}

-- the frame callbacks after this one, if any, was handed out
abbrev pub once_handed : Option FrameCallback → Table FrameCallback → Table FrameCallback
once_handed None callbacks = callbacks
once_handed (Some callback) callbacks = frame_callback_taken (callback.serial) callbacks

-- what is returned of a frame callback that is handed out: its key and its handler
abbrev pub told : FrameCallback → List ℕ × ℕ
told callback = (callback.key, callback.handler)
