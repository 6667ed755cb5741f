use Rattle.std.proofs.Common.{subst}
use Rattle.depth_gather.proofs.Passing.{passed, Passed}
use Rattle.depth_gather.proofs.laws.turns_are_those_of_a_broadcast.Goals as goal

pub returns-clause-found : goal.returns-clause-found
returns-clause-found c it document place number turn next found =
    let reached = subst (Passed document it number) found (passed document it place number next) in
    (reached.ahead, reached.between, reached.due, reached.next)

pub returns-clause-none : goal.returns-clause-none
returns-clause-none c it document place number next last = subst (Passed document it number) last (passed document it place number next)
