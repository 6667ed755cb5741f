-- The result of a step: a value, an exception that it throws, or a limit that it meets. A step that throws or meets a limit has no
-- other effect.
use Rattle.std.specs.Prelude.{ℕ, Bool, true, false, ◌||◌, nat_lt, Option, Some, None, List, []}
use Rattle.text_io.specs.declared.kinds.ThrowKind.{ThrowKind}
use Rattle.text_io.specs.declared.kinds.LimitKind.{LimitKind}
use Rattle.text_io.specs.declared.kinds.Version.{Version}
use Rattle.script_model.specs.TraceLines.{TraceLine}
use Rattle.page_model.specs.World.{World}
use Rattle.text_io.specs.Limits.{limit_number}

pub data Step (A : Type 0) : Type 0 where
  Did : (value : A) → Step A
  Threw : (exception : ThrowKind) → Step A
  Met : (limit : LimitKind) → Step A

infixl 10 ◌>>=◌
infixl 10 ◌>>◌
-- the first step and then the next, unless the first one threw or met a limit
unfoldable pub ◌>>=◌ : {A B : Type 0} → Step A → (A → Step B) → Step B
◌>>=◌ (Did value) next = next value
◌>>=◌ (Threw exception) next = Threw exception
◌>>=◌ (Met limit) next = Met limit

unfoldable pub ◌>>◌ : {A B : Type 0} → Step A → Step B → Step B
◌>>◌ (Did value) next = next
◌>>◌ (Threw exception) next = Threw exception
◌>>◌ (Met limit) next = Met limit

-- what a command does: the world after it, and the lines that it writes
pub record Effect : Type 0 where
  pub world : World
  pub lines : List TraceLine

abbrev pub becomes : World → Step Effect
becomes world = Did (record { world = world; lines = [] })

abbrev pub writes : List TraceLine → World → Step Effect
writes lines world = Did (record { world = world; lines = lines })

-- the value of an option; without one, the exception is thrown
abbrev pub required : {A : Type 0} → ThrowKind → Option A → Step A
required exception None = Threw exception
required exception (Some value) = Did value

abbrev pub throw_if : Bool → ThrowKind → Step (Unit {0})
throw_if true exception = Threw exception
throw_if false exception = Did tt

abbrev pub met_unless : Bool → LimitKind → Step (Unit {0})
met_unless true limit = Did tt
met_unless false limit = Met limit

-- meets the limit unless there is room for one more: unless `count` is below the limit of this version
abbrev pub room : Version → LimitKind → ℕ → Step (Unit {0})
room version limit count = met_unless (nat_lt count (limit_number version limit)) limit

-- the same, but no room is needed if what is asked for exists already
abbrev pub room_unless : Version → Bool → LimitKind → ℕ → Step (Unit {0})
room_unless version already limit count = met_unless (already || nat_lt count (limit_number version limit)) limit

-- whether a step neither throws nor meets a limit
abbrev pub is_did : {A : Type 0} → Step A → Bool
is_did (Did value) = true
is_did step = false
