-- The first entry that stands is run and then those behind it.
use Rattle.std.proofs.Common.{◌≡◌, ◌∙◌, ap, refl}
use Rattle.std.specs.Prelude.{Bool, true, false, cond, List, [], ◌∷◌, find, map, Some}
use Rattle.script_model.specs.TraceLines.{TraceLine}
use Rattle.page_model.specs.World.{World, Timer}
use Rattle.page_model.specs.Runs.{Said, Flow, Next, Thrown, Limited, behind, follow, ◌followed_by◌, for_each, only_if}
use Rattle.page_model.specs.Callbacks.{Script}
use Rattle.page_model.specs.Ticks.{run_timer}
use Rattle.page_model.specs.Timers.{timer_stands}
use Rattle.event_tables.specs.Handed.{behind_first, one_by_one, run_and_then}
use Rattle.event_tables.specs.Timers.{callback_of, copied_stands, timer_of}

-- the first entry is run where it stands, else it is passed over
first_by : {A S : Type 0} (stands : A → S → Bool) (run : A → S → Said S) (entry : A) (others : List A) (state : S) (answer : Bool) → one_by_one stands run others state ≡ run_and_then stands run (find (λ it. stands it state) others) (behind_first (λ it. stands it state) others) state → (only_if (run entry) state answer followed_by one_by_one stands run others) ≡ run_and_then stands run (cond answer (Some entry) (find (λ it. stands it state) others)) (cond answer others (behind_first (λ it. stands it state) others)) state
unfolding ◌followed_by◌ follow
first_by stands run entry others state true so = refl
first_by stands run entry others state false so = so

pub first_runs : {A S : Type 0} (stands : A → S → Bool) (run : A → S → Said S) (entries : List A) (state : S) → one_by_one stands run entries state ≡ run_and_then stands run (find (λ it. stands it state) entries) (behind_first (λ it. stands it state) entries) state
unfolding for_each
first_runs stands run [] state = refl
first_runs stands run (entry ∷ others) state = first_by stands run entry others state (stands entry state) (first_runs stands run others state)

-- what follows says the same where it does at each state
follow_same : {S : Type 0} (one other : S → Said S) → ((state : S) → one state ≡ other state) → (lines : List TraceLine) (flow : Flow) (state : S) → follow flow one (record { lines = lines; flow = flow; state = state }) ≡ follow flow other (record { lines = lines; flow = flow; state = state })
unfolding follow
follow_same one other same lines Next state = ap (behind lines) (same state)
follow_same one other same lines Thrown state = refl
follow_same one other same lines Limited state = refl

after_same : {S : Type 0} (one other : S → Said S) → ((state : S) → one state ≡ other state) → (said : Said S) → (said followed_by one) ≡ (said followed_by other)
unfolding ◌followed_by◌
after_same one other same said = follow_same one other same (said.lines) (said.flow) (said.state)

-- the steps for each item are those for what the items are copied to
for_copies : {A B S : Type 0} (step : A → S → Said S) (copy : A → B) (step_of_copy : B → S → Said S) → ((item : A) (state : S) → step item state ≡ step_of_copy (copy item) state) → (items : List A) (state : S) → for_each step items state ≡ for_each step_of_copy (map copy items) state
unfolding for_each
for_copies step copy step_of_copy same [] state = refl
for_copies step copy step_of_copy same (item ∷ others) state =
    ap (λ said. said followed_by for_each step others) (same item state)
    ∙ after_same (for_each step others) (for_each step_of_copy (map copy others)) (for_copies step copy step_of_copy same others) (step_of_copy (copy item) state)

pub timers_run : (script : Script) (timers : List Timer) (world : World) → one_by_one (λ timer now. timer_stands timer now.timers) (run_timer script) timers world ≡ one_by_one (λ it now. copied_stands now.timers it) (λ it. run_timer script (timer_of it)) (map callback_of timers) world
timers_run script timers world =
    for_copies (λ timer now. only_if (run_timer script timer) now (timer_stands timer now.timers)) callback_of
    (λ it now. only_if (run_timer script (timer_of it)) now (copied_stands now.timers it)) (λ timer now. refl) timers world
