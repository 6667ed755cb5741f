-- A slice as a source.
use Rattle.std.specs.Prelude.{ℕ}

-- how many of its reads have failed
abbrev pub no_faults : ℕ
no_faults = 0
