-- What was read of a source, and why one can't be read.
use Rattle.std.specs.Prelude.{◌≡◌, ℕ, List, drop, take, IfSome, Option, Some}
use Rattle.text_io.specs.Streams.{Rose}
use Rattle.script_source.specs.declared.faults.SourceFault.{SourceFault}
use Rattle.script_source.specs.declared.faults.SourceFault.TheVariants.{ReadFault, Memory}

-- a source was read up to a limit: these are its first bytes, and the rest is left
abbrev pub ReadTo : ℕ → (before after : Option (List ℕ)) → List ℕ → Type 0
ReadTo limit before after bytes = IfSome before (λ source. (bytes ≡ take limit source) × (after ≡ Some (drop limit source)))

-- why a source can't be read: a read failed; or memory was refused, for which no reason is given, and no read failed
abbrev pub IsUnread : SourceFault → (faults faults_after : ℕ) → Type 0
IsUnread ReadFault faults faults_after = Rose faults faults_after
IsUnread Memory faults faults_after = faults_after ≡ faults
