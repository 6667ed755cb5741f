-- A source and a sink in memory, of which given calls fail. This project's own choice.
use Rattle.std.specs.Prelude.{ℕ, ◌+◌, ◌-◌, ◌^◌, ◌==◌, ◌||◌, nat_le, min, Bool, if◌then◌else◌, List, ◌++◌, length, take, drop}
use Rattle.std.specs.List.{list_any}

-- the bytes left, the most that a call gives, the numbers of the calls that fail, and how many calls were made and how many failed
pub record SourceInMemory : Type 0 where
  pub left : List ℕ
  pub piece : ℕ
  pub failing : List ℕ
  pub calls : ℕ
  pub faults : ℕ

-- the bytes taken, how many there is room for in all, the most that a call takes, the numbers of the calls that fail, and how many calls
-- were made and how many failed
pub record SinkInMemory : Type 0 where
  pub taken : List ℕ
  pub room : ℕ
  pub piece : ℕ
  pub failing : List ℕ
  pub calls : ℕ
  pub faults : ℕ

-- one more, saturating at the greatest 64-bit number
abbrev pub next_count : ℕ → ℕ
next_count n = min (n + 1) (2 ^ 64 - 1)

-- whether the call with this number is one of those that fail
abbrev pub is_failing : List ℕ → ℕ → Bool
is_failing failing call = list_any (λ number. number == call) failing

-- whether the next read fails
abbrev pub read_fails : SourceInMemory → Bool
read_fails s = is_failing s.failing s.calls

-- how many bytes a read that doesn't fail gives into a buffer of this length
abbrev pub bytes_given : SourceInMemory → ℕ → ℕ
bytes_given s room = min (min room s.piece) (length s.left)

-- the source after a read into a buffer of this length
abbrev pub after_read : SourceInMemory → ℕ → SourceInMemory
after_read s room = if read_fails s then record s { calls = next_count s.calls; faults = next_count s.faults } else record s { left = drop (bytes_given s room) s.left; calls = next_count s.calls }

-- whether the next write fails: because of its number, or because no room is left
abbrev pub write_fails : SinkInMemory → Bool
write_fails s = is_failing s.failing s.calls || nat_le s.room (length s.taken)

-- how many bytes a write that doesn't fail takes of a piece of this length
abbrev pub bytes_accepted : SinkInMemory → ℕ → ℕ
bytes_accepted s len = min (min len s.piece) (s.room - length s.taken)

-- the sink after a write of this piece
abbrev pub after_write : SinkInMemory → List ℕ → SinkInMemory
after_write s piece = if write_fails s then record s { calls = next_count s.calls; faults = next_count s.faults } else record s { taken = s.taken ++ take (bytes_accepted s (length piece)) piece; calls = next_count s.calls }
