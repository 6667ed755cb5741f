-- What reads and writes do to the bytes of a source and a sink. This project's own choice.
use Rattle.std.specs.Prelude.{◌≡◌, ◌≢◌, ℕ, ◌+◌, ◌-◌, ◌^◌, ◌<◌, ◌≤◌, List, length, take, drop, count_by, ◌==◌, IfSome, Option, Some}
use Rattle.std.specs.Io.KnownBytes.{Consumes, Appends}
use Rattle.text_io.specs.declared.streams.TextFault.{TextFault}
use Rattle.text_io.specs.declared.streams.TextFault.TheVariants.{ReadFault, WriteFault, TooLong, Memory}

-- a count of faults has increased, or is saturated at the greatest number of its type
abbrev pub Rose : ℕ → ℕ → Type 0
Rose before after = after ≢ 2 ^ 64 - 1 → before < after

-- a text exceeds a limit: the bytes within the limit and one more were taken, and `feeds` of those within it are line feeds
pub record PassesLimit (text : List ℕ) (after : Option (List ℕ)) (limit feeds : ℕ) : Type 0 where
  pub longer : limit < length text
  pub taken : after ≡ Some (drop (limit + 1) text)
  pub feeds_counted : feeds ≡ count_by (λ b. b == 10) (take limit text)

-- why reading a whole text failed, given the bytes left and the count of faults, each before and after; a lack of memory needs no cause
abbrev pub IsCauseOfReading : TextFault → Option (List ℕ) → Option (List ℕ) → ℕ → ℕ → ℕ → Type 0
IsCauseOfReading ReadFault left after limit before faults = Rose before faults
IsCauseOfReading WriteFault left after limit before faults = ⊥
IsCauseOfReading (TooLong feeds) left after limit before faults = (feeds ≤ limit) × (faults ≡ before) × IfSome left (λ text. PassesLimit text after limit feeds)
IsCauseOfReading Memory left after limit before faults = faults ≡ before

-- at most `most` bytes were taken from a source
abbrev pub TakesAtMost : Option (List ℕ) → Option (List ℕ) → ℕ → Type 0
TakesAtMost left after most = (given : List ℕ) × Consumes left after given × (length given ≤ most)

-- a sink took the first bytes of a piece, maybe none, but not all of them
abbrev pub TakesPart : Option (List ℕ) → Option (List ℕ) → List ℕ → Type 0
TakesPart taken after bytes = (n : ℕ) × (n < length bytes) × Appends taken after (take n bytes)
