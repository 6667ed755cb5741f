-- The steps of the standards, run one after another: the trace lines that they write and the state that they leave. How they are
-- combined is this project's own choice.
use Rattle.std.specs.Prelude.{ℕ, suc, zero, Bool, true, false, ◌&&◌, nat_lt, List, [], ◌∷◌, ◌++◌}
use Rattle.script_model.specs.TraceLines.{TraceLine}

-- whether the next step is run: a throw ends a handler, or a command outside handlers; a limit ends the run
pub data Flow : Type 0 where
  Next : Flow
  Thrown : Flow
  Limited : Flow

-- the lines written, how the run goes on, and the state afterwards, which is mostly the world
pub record Said (S : Type 0) : Type 0 where
  pub lines : List TraceLine
  pub flow : Flow
  pub state : S

-- writes these lines
abbrev pub say : {S : Type 0} → List TraceLine → S → Said S
say lines state = record { lines = lines; flow = Next; state = state }

-- writes nothing
abbrev pub silent : {S : Type 0} → S → Said S
silent state = say [] state

abbrev pub behind : {S : Type 0} → List TraceLine → Said S → Said S
behind lines said = record said { lines = lines ++ said.lines }

unfoldable pub follow : {S : Type 0} → Flow → (S → Said S) → Said S → Said S
follow Next rest said = behind (said.lines) (rest (said.state))
follow Thrown rest said = said
follow Limited rest said = said

infixl 10 ◌followed_by◌
-- what was run so far, and then the rest from the state that it left, unless it threw or met a limit
unfoldable pub ◌followed_by◌ : {S : Type 0} → Said S → (S → Said S) → Said S
unfolding follow
◌followed_by◌ said rest = follow (said.flow) rest said

unfoldable pub caught_flow : Flow → Flow
caught_flow Next = Next
caught_flow Thrown = Next
caught_flow Limited = Limited

-- a throw ends only what is inside; the run goes on after it
unfoldable pub caught : {S : Type 0} → Said S → Said S
unfolding caught_flow
caught said = record said { flow = caught_flow (said.flow) }

-- the same lines and flow, with the state mapped by a function
abbrev pub lifted : {S R : Type 0} → (S → R) → Said S → Said R
lifted change said = record { lines = said.lines; flow = said.flow; state = change (said.state) }

abbrev pub only_if : {S : Type 0} → (S → Said S) → S → Bool → Said S
only_if step state true = step state
only_if step state false = silent state

-- runs the step for each item, in order
unfoldable pub for_each : {A S : Type 0} → (A → S → Said S) → List A → S → Said S
unfolding ◌followed_by◌
for_each step [] state = silent state
for_each step (item ∷ others) state = step item state followed_by for_each step others

-- repeats a step while a test holds, at most a given number of times
unfoldable pub repeat : {S : Type 0} → (S → Bool) → (S → Said S) → ℕ → S → Said S
unfolding ◌followed_by◌
repeat goes_on step zero state = silent state
repeat goes_on step (suc most) state =
    only_if (λ now. step now followed_by repeat goes_on step most) state (goes_on state)

-- More steps than any loop of a tick takes, so that none is cut off. A run begins at most 2,000,000 commands. Each posted task, observer
-- and query list is made by one of them, and at most 64 notify tasks are queued at a time. Between two commands of a resize loop the
-- depth of each round is greater than that of the round before, and a depth is at most 65,537, the bound on the recursion that computes
-- it: 65,538 times 2,000,001 is less than this number.
abbrev pub most_steps : ℕ
most_steps = 1000000000000

-- an index into a list that may grow during the iteration
pub record Turn (S : Type 0) : Type 0 where
  pub place : ℕ
  pub state : S

abbrev pub at_place : {S : Type 0} → ℕ → S → Turn S
at_place place state = record { place = place; state = state }

-- runs the step at each index of a list while a test holds; `count` gives the length of the list, which is read again at each turn
unfoldable pub by_place : {S : Type 0} → (S → ℕ) → (S → Bool) → (ℕ → S → Said S) → S → Said S
unfolding repeat
by_place count goes_on step state =
    lifted (λ turn. turn.state)
    (repeat
    (λ turn. goes_on (turn.state) && nat_lt (turn.place) (count (turn.state)))
    (λ turn. lifted (at_place (suc turn.place)) (step (turn.place) (turn.state)))
    most_steps
    (at_place 0 state))
