-- Setting the last reported sizes (Resize Observer, 3.4: broadcast active observations).
use Rattle.std.specs.Prelude.{ℕ, cond, ◌==◌}
use Rattle.page_model.specs.World.{Extent, Observation}

-- the observation, with this last reported size if it has this serial number
abbrev pub with_last : ℕ → Extent → Observation → Observation
with_last serial last it = cond (serial == it.serial) (record it { last = last }) it
