-- Animation frame callbacks (HTML, animation frames): the map of each document, by key, in the order in which they were requested.
use Rattle.std.specs.Prelude.{ℕ, Bool, ◌&&◌, not, ◌==◌, List, filter, bytes_eq}
use Rattle.std.specs.List.{list_any}
use Rattle.page_model.specs.World.{FrameCallback, Table}
use Rattle.page_model.specs.Lookups.{entered, kept}

abbrev pub is_frame_callback : ℕ → List ℕ → FrameCallback → Bool
is_frame_callback document key callback = document == callback.document && bytes_eq key callback.key

abbrev pub is_frame_requested : ℕ → List ℕ → Table FrameCallback → Bool
is_frame_requested document key callbacks = list_any (is_frame_callback document key) callbacks.held

abbrev pub with_frame_callback : ℕ → List ℕ → ℕ → Table FrameCallback → Table FrameCallback
with_frame_callback document key handler callbacks =
    entered (λ serial. record { serial = serial; document = document; key = key; handler = handler }) callbacks

abbrev pub without_frame_callback : ℕ → List ℕ → Table FrameCallback → Table FrameCallback
without_frame_callback document key callbacks = kept (λ each. not (is_frame_callback document key each)) callbacks

abbrev pub frame_callbacks_of : ℕ → Table FrameCallback → List FrameCallback
frame_callbacks_of document callbacks = filter (λ (callback : FrameCallback). callback.document == document) (callbacks.held)

-- whether a frame callback that was copied is still in the map: one that was cancelled and requested again is a different one
abbrev pub frame_callback_stands : FrameCallback → Table FrameCallback → Bool
frame_callback_stands callback callbacks = list_any (λ (each : FrameCallback). each.serial == callback.serial) (callbacks.held)

-- without the frame callback that is about to run, given by its serial number
abbrev pub frame_callback_taken : ℕ → Table FrameCallback → Table FrameCallback
frame_callback_taken serial callbacks = kept (λ (each : FrameCallback). not (each.serial == serial)) callbacks
