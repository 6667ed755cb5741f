-- How much of a text, or of lines, is written to a sink that may fail. This project's own choice.
use Rattle.std.specs.Prelude.{◌≡◌, ℕ, List, [], ◌∷◌, ◌++◌, Option, Result, Ok, Err}
use Rattle.std.specs.List.{All}
use Rattle.std.specs.Io.KnownBytes.{Appends}
use Rattle.text_io.specs.Streams.{Rose}
use Rattle.script_model.specs.TraceLines.{TraceLine}
use Rattle.page_model.specs.Outcome.{bytes_of}
use Rattle.trace_text.specs.Ranges.{IsLine}
use Rattle.trace_runs.specs.declared.faults.RunFault.{RunFault}
use Rattle.trace_runs.specs.declared.faults.RunFault.TheVariants.{Limit, Memory, WriteFault}

-- a first part of a text was appended to the bytes, if these are known
pub record AppendsPart (before after : Option (List ℕ)) (text : List ℕ) : Type 0 where
  pub part : List ℕ
  pub rest : List ℕ
  pub whole : text ≡ part ++ rest
  pub written : Appends before after part

-- a text consists of whole lines: it is empty, or its last byte is a line feed
abbrev pub EndsLine : List ℕ → Type 0
EndsLine [] = Unit {0}
EndsLine (byte ∷ []) = byte ≡ 10
EndsLine (byte ∷ next ∷ rest) = EndsLine (next ∷ rest)

-- the first lines of a text were appended, each of them whole
pub record AppendsLines (before after : Option (List ℕ)) (text : List ℕ) : Type 0 where
  pub part : List ℕ
  pub rest : List ℕ
  pub whole : text ≡ part ++ rest
  pub ends : EndsLine part
  pub written : Appends before after part

-- a first part was appended, and a write failed
pub record FailsWithin (before after : Option (List ℕ)) (faults faults_after : ℕ) (text : List ℕ) : Type 0 where
  pub part : AppendsPart before after text
  pub rose : Rose faults faults_after

-- a text was written, and no write failed; or its first lines were written for want of memory; or a first part of it, since a write failed
abbrev pub Wrote : {A : Type 0} → Result A RunFault → Option (List ℕ) → Option (List ℕ) → ℕ → ℕ → List ℕ → Type 0
Wrote (Ok value) before after faults faults_after text = Appends before after text × (faults_after ≡ faults)
Wrote (Err (Limit kind line number)) before after faults faults_after text = ⊥
Wrote (Err Memory) before after faults faults_after text = AppendsLines before after text × (faults_after ≡ faults)
Wrote (Err WriteFault) before after faults faults_after text = FailsWithin before after faults faults_after text

-- lines were written, each of which can be read back
pub record Says (before after : Option (List ℕ)) (lines : List TraceLine) : Type 0 where
  pub written : Appends before after (bytes_of lines)
  pub fit : All IsLine lines

-- the same for lines: they were written, and no write failed; or the first of them were written, each whole, for want of memory; or a first
-- part of their text, since a write failed
abbrev pub Told : {A : Type 0} → Result A RunFault → Option (List ℕ) → Option (List ℕ) → ℕ → ℕ → List TraceLine → Type 0
Told (Ok value) before after faults faults_after lines = Says before after lines × (faults_after ≡ faults)
Told (Err (Limit kind line number)) before after faults faults_after lines = ⊥
Told (Err Memory) before after faults faults_after lines = AppendsLines before after (bytes_of lines) × (faults_after ≡ faults)
Told (Err WriteFault) before after faults faults_after lines = FailsWithin before after faults faults_after (bytes_of lines)
