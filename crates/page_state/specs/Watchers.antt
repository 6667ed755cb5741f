-- The intersection observers of a page (Intersection Observer, 2.2).
use Rattle.std.specs.Prelude.{ℕ, ℤ, List, length}
use Rattle.text_io.specs.declared.kinds.Version.{Version}
use Rattle.text_io.specs.declared.kinds.LimitKind.TheVariants as limits
use Rattle.text_io.specs.declared.kinds.ThrowKind.TheVariants.{RangeError}
use Rattle.script_model.specs.MarginText.{thresholds_of}
use Rattle.page_model.specs.World.{IntersectionObservers}
use Rattle.page_model.specs.Steps.{Step, Did, ◌>>=◌, ◌>>◌, required, room}

-- the thresholds of one more observer: values out of range throw before the limit on observers is considered
abbrev pub new_thresholds : Version → List ℤ → IntersectionObservers → Step (List ℕ)
new_thresholds version values it = do
  thresholds ← required RangeError (thresholds_of values)
  room version limits.IntersectionObservers (length it.made)
  Did thresholds
