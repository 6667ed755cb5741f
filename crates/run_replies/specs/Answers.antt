-- What each status says of a call: whether its reply was written whole, in part, or not at all.
use Rattle.std.specs.Prelude.{◌≡◌, ℕ, List, [], drop, Option, Some}
use Rattle.std.specs.Io.KnownBytes.{Appends}
use Rattle.text_io.specs.Streams.{TakesAtMost}
use Rattle.trace_runs.specs.Writes.{AppendsLines, FailsWithin}
use Rattle.run_replies.specs.Replies.{Reply}
use Rattle.run_replies.specs.declared.status.Status.{Status}
use Rattle.run_replies.specs.declared.status.Status.TheVariants.{NoMemory, ReadFault, WriteFault, Usage}

-- what each status says of a reply, and of what was written of it: for want of memory its first lines, each whole; where a write failed, a
-- first part. A read that failed comes before this, and `Usage` doesn't come up
abbrev pub Tells : Status → Reply → Option (List ℕ) → Option (List ℕ) → ℕ → ℕ → Type 0
Tells NoMemory reply before after faults faults_after = AppendsLines before after reply.text × (faults_after ≡ faults)
Tells WriteFault reply before after faults faults_after = FailsWithin before after faults faults_after reply.text
Tells ReadFault reply before after faults faults_after = ⊥
Tells Usage reply before after faults faults_after = ⊥
Tells status reply before after faults faults_after = (reply.status ≡ status) × Appends before after reply.text × (faults_after ≡ faults)

-- the same for the whole call: after a read that failed, nothing was written
abbrev pub Ends : Status → Reply → Option (List ℕ) → Option (List ℕ) → ℕ → ℕ → Type 0
Ends ReadFault reply before after faults faults_after = Appends before after []
Ends status reply before after faults faults_after = Tells status reply before after faults faults_after

-- how many bytes were taken of a source of which at most `most` are looked at: so many, or all if it has fewer; where memory ran out or
-- a read failed, maybe less than that
abbrev pub IsTaken : Status → ℕ → List ℕ → Option (List ℕ) → Type 0
IsTaken NoMemory most source left = TakesAtMost (Some source) left most
IsTaken ReadFault most source left = TakesAtMost (Some source) left most
IsTaken Usage most source left = Unit {0}
IsTaken status most source left = left ≡ Some (drop most source)
