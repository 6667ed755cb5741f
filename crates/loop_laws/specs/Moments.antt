-- The moments of a run: each command that begins, with the world in which it is run. They are taken from the runs of page_model, whose
-- steps give each world; what a command does isn't defined again here.
use Rattle.std.specs.Prelude.{ℕ, suc, zero, Bool, true, false, ◌&&◌, nat_lt, List, [], ◌∷◌, ◌++◌, map, length, Option, Some, None}
use Rattle.script_model.specs.Syntax.{Command, Simple, Each, When, Block, NoMore, Then}
use Rattle.page_model.specs.World.{World, Observation}
use Rattle.page_model.specs.Lookups.{resize_observer_at}
use Rattle.page_model.specs.Documents.{is_active}
use Rattle.page_model.specs.Gathering.{sight_of, size_entry, with_reported, due_at}
use Rattle.page_model.specs.Steps.{Step, Did, Threw, Met}
use Rattle.page_model.specs.Operands.{Present, NoEntry}
use Rattle.page_model.specs.Commands.{holds, begun_in}
use Rattle.page_model.specs.Runs.{Flow, Next, Thrown, Limited, Said, Turn, lifted, at_place, most_steps}
use Rattle.page_model.specs.Callbacks.{Script, Entries, SizeEntries, run_command, run_block, call, presents, handler_block}
use Rattle.page_model.specs.Loop.{Broadcast, deliver_some}

-- a command that is run, the current entry, and the world at that moment, in which the command is already counted
pub record Moment : Type 0 where
  pub world : World
  pub present : Present
  pub command : Command

-- what is listed for the rest of a run: nothing after a throw or a limit
unfoldable pub onward : {A S : Type 0} → Flow → (S → List A) → S → List A
onward Next rest state = rest state
onward Thrown rest state = []
onward Limited rest state = []

abbrev pub following : {A S : Type 0} → Said S → (S → List A) → List A
following said rest = onward (said.flow) rest (said.state)

abbrev pub where_did : {A B : Type 0} → Step A → (A → List B) → List B
where_did (Did value) list = list value
where_did (Threw exception) list = []
where_did (Met limit) list = []

abbrev pub listed_if : {A S : Type 0} → (S → List A) → S → Bool → List A
listed_if list state true = list state
listed_if list state false = []

-- what is listed along `for_each`, `repeat` and `by_place`
unfoldable pub along_each : {A B S : Type 0} → (A → S → List B) → (A → S → Said S) → List A → S → List B
unfolding onward
along_each list step [] state = []
along_each list step (item ∷ others) state = list item state ++ following (step item state) (along_each list step others)

unfoldable pub along_repeat : {B S : Type 0} → (S → Bool) → (S → List B) → (S → Said S) → ℕ → S → List B
unfolding onward
along_repeat goes_on list step zero state = []
along_repeat goes_on list step (suc most) state =
    listed_if (λ now. list now ++ following (step now) (along_repeat goes_on list step most)) state (goes_on state)

unfoldable pub along_places : {B S : Type 0} → (S → ℕ) → (S → Bool) → (ℕ → S → List B) → (ℕ → S → Said S) → S → List B
unfolding along_repeat
along_places count goes_on list step state =
    along_repeat
    (λ turn. goes_on (turn.state) && nat_lt (turn.place) (count (turn.state)))
    (λ turn. list (turn.place) (turn.state))
    (λ (turn : Turn _). lifted (at_place (suc turn.place)) (step (turn.place) (turn.state)))
    most_steps
    (at_place 0 state)

unfoldable mutual
  unfolding onward along_each run_command holds begun_in

  -- the moments of a command and of those in its block
  pub command_moments : Script → List Present → Command → Present → World → List Moment
  command_moments script entries (Simple line action) present world =
      where_did (begun_in world) λ begun. record { world = begun; present = present; command = Simple line action } ∷ []
  command_moments script entries (Each line block end_line) present world =
      where_did (begun_in world) λ begun.
      record { world = begun; present = present; command = Each line block end_line }
      ∷ along_each (block_moments script entries block) (run_block script entries block) entries begun
  command_moments script entries (When line condition block end_line) present world =
      where_did (begun_in world) λ begun.
      record { world = begun; present = present; command = When line condition block end_line }
      ∷ where_did (holds begun present condition) (listed_if (block_moments script entries block present) begun)

  pub block_moments : Script → List Present → Block → Present → World → List Moment
  block_moments script entries NoMore present world = []
  block_moments script entries (Then command others) present world =
      command_moments script entries command present world
      ++ following (run_command script entries command present world) (block_moments script entries others present)

abbrev pub handler_moments : Script → Entries → Option ℕ → World → List Moment
handler_moments script handed None world = []
handler_moments script handed (Some handler) world = block_moments script (presents handed) (handler_block script handler) NoEntry world

-- the commands that a callback runs
unfoldable pub call_moments : Script → ℕ → Option ℕ → Entries → World → List Moment
unfolding command_moments
call_moments script document handler handed world = listed_if (handler_moments script handed handler) world (is_active (world.tree) document)

abbrev pub delivery_moments : Script → ℕ → ℕ → Broadcast → List Observation → List Moment
delivery_moments script document observer so_far [] = []
delivery_moments script document observer so_far (first ∷ others) =
    let before = so_far.world in
    call_moments script document (resize_observer_at (before.resize_observers) observer).handler
    (SizeEntries observer (map (size_entry (sight_of before)) (first ∷ others)))
    (record before { resize_observers = with_reported (sight_of before) observer (first ∷ others) (before.resize_observers) })

-- the commands that the callbacks of a broadcast run
unfoldable pub broadcast_moments : Script → ℕ → World → List Moment
unfolding along_places call_moments call
broadcast_moments script document world =
    along_places
    (λ so_far. length (so_far.world.resize_observers.made))
    (λ so_far. is_active (so_far.world.tree) document)
    (λ observer so_far. delivery_moments script document observer so_far (due_at document observer (so_far.world.resize_observers)))
    (λ observer so_far. deliver_some script document observer so_far (due_at document observer (so_far.world.resize_observers)))
    (record { world = world; shallowest = None })
