use Rattle.std.proofs.Common.{◌≡◌, ◌-◌, ◌++◌, [], replicate}
use Rattle.std.specs.Prelude.{vec_len, vec_capacity}
use Rattle.scrolling.specs.Pending.{seen_lists}
use Rattle.scrolling.proofs.pending.fill.Given as goal

abbrev pub invariant-loop-lists : goal.invariant-loop-lists
invariant-loop-lists l =
    (seen_lists l.lists.items ++ replicate (l.count - vec_len l.lists) [] ≡ seen_lists l.fn.lists.items ++ replicate (l.count - vec_len l.fn.lists) [])
    × (vec_capacity l.lists ≡ vec_capacity l.fn.lists)

abbrev pub decreases-loop-lists : goal.decreases-loop-lists
decreases-loop-lists l = l.count - vec_len l.lists
