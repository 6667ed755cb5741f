-- The bytes of a source that are looked at, and what was taken.
use Rattle.std.proofs.Common.{◌≡◌, ◌+◌, sym, subst, arith, ℕ, List, take, drop, Option}
use Rattle.std.proofs.lemmas.List.{length-take, take-append-drop}
use Rattle.std.specs.Prelude.{Some, None, IfSome}
use Rattle.text_io.specs.Streams.{PassesLimit, TakesAtMost}
use Rattle.run_replies.specs.Answers.{IsTaken}
use Rattle.run_replies.specs.declared.status.Status.{Status}
use Rattle.run_replies.specs.declared.status.Status.TheVariants.{NoMemory, ReadFault, Usage}

-- all that is looked at
all-taken : (most : ℕ) (source : List ℕ) (after : Option (List ℕ)) → after ≡ Some (drop most source) → TakesAtMost (Some source) after most
all-taken most source after is =
    subst (λ (left : Option (List ℕ)). TakesAtMost (Some source) left most) (sym is) (take most source, sym (take-append-drop most source), omega (arith, length-take most source))

pub taken : (status : Status) (most : ℕ) (source : List ℕ) (after : Option (List ℕ)) → after ≡ Some (drop most source) → IsTaken status most source after
taken NoMemory most source after is = all-taken most source after is
taken ReadFault most source after is = all-taken most source after is
taken Usage most source after is = tt
taken status most source after is = is

-- a source that exceeds its limit
pub taken_past : (status : Status) (limit feeds : ℕ) (left after : Option (List ℕ)) → IfSome left (λ text. PassesLimit text after limit feeds)
    → IfSome left (λ text. IsTaken status (limit + 1) text after)
taken_past status limit feeds None after passes = tt
taken_past status limit feeds (Some text) after passes = taken status (limit + 1) text after passes.taken

-- maybe less, where the source can't be read
pub failed_taken : (most : ℕ) (left after : Option (List ℕ)) → TakesAtMost left after most → IfSome left (λ text. TakesAtMost (Some text) after most)
failed_taken most None after took = tt
failed_taken most (Some text) after took = took
