-- Limits are numbers of 32 bits.
use Rattle.std.proofs.Common.{◌<◌, ◌^◌, lit<}
use Rattle.text_io.specs.declared.kinds.LimitKind.{LimitKind}
use Rattle.text_io.specs.declared.kinds.LimitKind.TheVariants as limits
use Rattle.text_io.specs.declared.kinds.Version.{Version}
use Rattle.text_io.specs.declared.kinds.Version.TheVariants.{First, Second}
use Rattle.text_io.specs.Limits.{limit_number}

pub fits : (version : Version) (kind : LimitKind) → limit_number version kind < 2 ^ 32
fits First limits.Commands = lit< tt
fits Second limits.Commands = lit< tt
fits First limits.Nodes = lit< tt
fits Second limits.Nodes = lit< tt
fits First limits.ResizeObservations = lit< tt
fits Second limits.ResizeObservations = lit< tt
fits First limits.IntersectionObservations = lit< tt
fits Second limits.IntersectionObservations = lit< tt
fits version limits.Script = lit< tt
fits version limits.Line = lit< tt
fits version limits.Handlers = lit< tt
fits version limits.Nesting = lit< tt
fits version limits.Depth = lit< tt
fits version limits.Documents = lit< tt
fits version limits.ResizeObservers = lit< tt
fits version limits.IntersectionObservers = lit< tt
fits version limits.Listeners = lit< tt
fits version limits.Timers = lit< tt
fits version limits.FrameCallbacks = lit< tt
fits version limits.Tasks = lit< tt
fits version limits.Queries = lit< tt
fits version limits.Recorded = lit< tt
fits version limits.Pages = lit< tt
