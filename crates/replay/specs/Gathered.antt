-- What a sink that gathers holds. This project's own choice.
use Rattle.std.specs.Prelude.{◌≡◌, ◌⊎◌, ℕ, Bool, true, false, List, length, take, option_map, Option, Some, IfSome}
use Rattle.std.specs.Io.KnownBytes.{Appends}
use Rattle.trace_runs.specs.Writes.{FailsWithin}
use Rattle.run_replies.specs.declared.status.Status.{Status}
use Rattle.run_replies.specs.declared.status.Status.TheVariants.{WriteFault}

-- the sink that is written to, and the bytes that it hasn't been given yet
pub record Gathered (K : Type 0) : Type 0 where
  pub inner : K
  pub gathered : List ℕ

-- where the bytes taken before are known, those taken now are known and begin with them
abbrev pub BeginsWith : Option (List ℕ) → Option (List ℕ) → Type 0
BeginsWith now before = IfSome before (λ first. option_map (take (length first)) now ≡ Some first)

abbrev pub is_write_fault : Status → Bool
is_write_fault WriteFault = true
is_write_fault status = false

-- how a call ended with that status ends: what is gathered is passed on, and where a write fails, a first part of it; nothing more is
-- written after a write that failed
abbrev pub PassesOn : Bool → Status → Status → List ℕ → Option (List ℕ) → Option (List ℕ) → ℕ → ℕ → Type 0
PassesOn true status ended gathered before after faults faults_after = (ended ≡ status) × (after ≡ before) × (faults_after ≡ faults)
PassesOn false status ended gathered before after faults faults_after =
    ((ended ≡ status) × Appends before after gathered × (faults_after ≡ faults)) ⊎ ((ended ≡ WriteFault) × FailsWithin before after faults faults_after gathered)
