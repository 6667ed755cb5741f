-- A source with a recorded trace that is read in pieces: what was made of the bytes so far, and what further bytes add to it.
use Rattle.std.specs.Prelude.{◌≡◌, ℕ, ◌==◌, Bool, List, [], ◌++◌, count_by, length, take}
use Rattle.std.specs.List.{list_any}
use Rattle.text_lines.specs.Lines.{first_line, behind_line}
use Rattle.trace_judge.specs.Recordings.{script_of, trace_of}
use Rattle.recorded_source.specs.declared.recorded.Place.{Place}
use Rattle.recorded_source.specs.declared.recorded.Place.TheVariants.{Line, WithinLine, Trace}

-- the script's bytes that are looked at; the first bytes of a line that isn't complete; where the next byte is; and the recorded
-- trace so far
pub record Divided : Type 0 where
  pub script : List ℕ
  pub begun : List ℕ
  pub place : Place
  pub trace : List ℕ

abbrev pub opened : Divided
opened = record { script = []; begun = []; place = Line; trace = [] }

abbrev pub has_feed : List ℕ → Bool
has_feed bytes = list_any (λ byte. byte == 10) bytes

-- the part of the bytes from a place on that belongs to the script
abbrev pub script_at : Place → List ℕ → List ℕ
script_at Line bytes = script_of bytes
script_at WithinLine bytes = first_line bytes ++ script_of (behind_line bytes)
script_at Trace bytes = []

-- the part of them that belongs to the recorded trace
abbrev pub trace_at : Place → List ℕ → List ℕ
trace_at Line bytes = trace_of bytes
trace_at WithinLine bytes = trace_of (behind_line bytes)
trace_at Trace bytes = bytes

-- what was made of the bytes so far, whatever follows them
pub record Divides (bytes : List ℕ) (it : Divided) : Type 0 where
  pub script_bytes : List ℕ
  pub looked_at : it.script ≡ take 16777217 script_bytes
  pub script : (others : List ℕ) → script_of (bytes ++ others) ≡ script_bytes ++ script_at it.place (it.begun ++ others)
  pub trace : (others : List ℕ) → trace_of (bytes ++ others) ≡ it.trace ++ trace_at it.place (it.begun ++ others)

-- the same if nothing follows
abbrev pub IsDivided : List ℕ → Divided → Type 0
IsDivided bytes it = (it.script ≡ take 16777217 (script_of bytes)) × (it.trace ≡ trace_of bytes)

-- the line feeds among so many bytes
unfoldable pub feeds_within : ℕ → List ℕ → ℕ
feeds_within limit text = count_by (λ b. b == 10) (take limit text)

-- what was made of a source's bytes, their number, and that of the line feeds within the limit
pub record TakenBytes : Type 0 where
  pub divided : Divided
  pub bytes : ℕ
  pub feeds : ℕ

-- these bytes were taken
pub record IsFed (bytes : List ℕ) (it : TakenBytes) : Type 0 where
  pub counted : it.bytes ≡ length bytes
  pub feeds_counted : it.feeds ≡ feeds_within 67108864 bytes
  pub divides : Divides bytes it.divided
