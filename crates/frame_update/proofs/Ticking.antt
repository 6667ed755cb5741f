-- A tick that is begun, its time and its parts.
use Rattle.std.proofs.Common.{◌≡◌, ◌∙◌, ℕ, Bool, true, false, List, [], ◌∷◌, Option, refl, ap, sym, subst}
use Rattle.std.specs.Prelude.{nat_lt, cond, Result, Ok, Err}
use Rattle.text_io.specs.declared.kinds.Version.{Version}
use Rattle.text_io.specs.Limits.{limit_number}
use Rattle.text_io.specs.declared.kinds.ThrowKind.{ThrowKind}
use Rattle.text_io.specs.declared.kinds.ThrowKind.TheVariants.{RangeError}
use Rattle.script_model.specs.TraceLines.{TickLine, ThrowLine}
use Rattle.page_model.specs.Callbacks.{Script, answered}
use Rattle.page_model.specs.Commands.{begun_in}
use Rattle.page_model.specs.Outcome.{run_tick}
use Rattle.page_model.specs.Runs.{Said, Next, say, ◌followed_by◌, caught, caught_flow}
use Rattle.page_model.specs.Steps.{Step, Did, Threw}
use Rattle.page_model.specs.Ticks.{run_tasks, run_timers, tick, time_set, update_rendering}
use Rattle.page_model.specs.World.{World}
use Rattle.page_state.specs.Answers.{Moved}
use Rattle.page_state.specs.declared.answers.PageFault.{PageFault}
use Rattle.page_state.specs.declared.answers.PageFault.TheVariants.{Throw, Limit, Memory}
use Rattle.trace_runs.specs.declared.faults.RunFault.{RunFault}
use Rattle.trace_runs.specs.declared.faults.RunFault.TheVariants as faults
use Rattle.trace_runs.specs.Flows.{goes_on}
use Rattle.trace_runs.specs.Runs.{Runs}
use Rattle.trace_runs.specs.Writes.{Told}
use Rattle.trace_runs.proofs.Answered.{answered_did, answered_threw, met_run, once_begun_is}
use Rattle.trace_runs.proofs.Following.{cut_run, cut_saying, then_run}
use Rattle.trace_runs.proofs.Runs.{caught_cut, lines_run, run_same, say_run}
use Rattle.frame_update.specs.Answers.{Refused, IsLeft}

-- once the clock was set ------------------------------------------------------------------------------------------------------------

timed-did : (time : ℕ) (old new : World) (early : Bool) → cond early (Threw RangeError) (Did (record old { clock = time })) ≡ Did new → record old { clock = time } ≡ new
timed-did time old new true is = absurd (cc)
timed-did time old new false is = cc

timed_did : (time : ℕ) (old new : World) → time_set time old ≡ Did new → record old { clock = time } ≡ new
timed_did time old new is = timed-did time old new (nat_lt time old.clock) is

pub clock_is : (time : ℕ) (old new : World) → time_set time old ≡ Did new → new.clock ≡ time
clock_is time old new is = sym (ap (λ (world : World). world.clock) (timed_did time old new is))

-- what is said ---------------------------------------------------------------------------------------------------------------------

-- nothing is thrown out of a run that goes on
pub caught_run : {A S : Type 0} {state : S} (result : Result A RunFault) {before after : Option (List ℕ)} {f g : ℕ} {said : Said S}
    → Runs goes_on state result before after f g said → Runs goes_on state result before after f g (caught said)
unfolding caught caught_flow
caught_run (Ok value) run = record {
  ended = record { written = run.ended.written; unfailed = run.ended.unfailed; flow_is = ap caught_flow run.ended.flow_is; state_is = run.ended.state_is };
  cut_off = tt;
}
caught_run (Err fault) run = caught_cut fault run

caught-throw : (line : ℕ) (kind : ThrowKind) (old : World) (next : World → Said World) (step : Step World) → step ≡ Threw kind
    → say (ThrowLine line kind ∷ []) old ≡ caught (answered line old next step)
unfolding caught caught_flow
caught-throw line kind old next step is = sym (ap caught (answered_threw line old next is))

left-run : {A : Type 0} {state : World} (fault : RunFault) (result : Result A RunFault) (before after : Option (List ℕ)) (f g : ℕ) (said : Said World)
    → IsLeft fault result before after f g → Runs {A = A} goes_on state (Err fault) before before f f said → Runs goes_on state result before after f g said
left-run {A = A} {state} fault result before after f g said left run =
    subst (λ (it : Result _ RunFault). Runs goes_on state it before after f g said) (sym left.0)
    (subst (λ (now : Option (List ℕ)). Runs {A = A} goes_on state (Err fault) before now f g said) (sym left.1)
    (subst (λ (now : ℕ). Runs {A = A} goes_on state (Err fault) before before f now said) (sym left.2) run))

-- a call that was refused
pub refused_run : {A : Type 0} {version : Version} (fault : PageFault) (line : ℕ) (result : Result A RunFault) (before after : Option (List ℕ)) (f g : ℕ) (old new : World) (step : Step World)
    (next : World → Said World) → version ≡ new.version → Moved (Err fault) old new step → Refused version fault line result before after f g
    → Runs goes_on new result before after f g (caught (answered line old next step))
refused_run (Throw kind) line result before after f g old new step next same moved refused =
    run_same (caught-throw line kind old next step moved.0)
    (lines_run result {said = say (ThrowLine line kind ∷ []) old} refused (λ value. refl) (sym moved.1))
refused_run (Limit kind) line result before after f g old new step next same moved refused =
    let most : ℕ = limit_number (old.version) kind in
    left-run (faults.Limit kind line most) result before after f g _
    (subst (λ (it : Version). IsLeft (faults.Limit kind line (limit_number it kind)) result before after f g) (same ∙ ap (λ (world : World). world.version) moved.1) refused)
    (caught_cut {flow = λ (_ : Unit {0}). Next} (faults.Limit kind line most) (met_run line old next moved.0 moved.1))
refused_run Memory line result before after f g old new step next same moved refused = absurd moved

module _ (script : Script) (line time : ℕ) (old : World) where
  abbrev pub begun_run : World → Said World
  begun_run begun = answered line begun (tick script) (time_set time begun)

  -- it isn't begun
  pub unbegun_is : caught (answered line old begun_run (begun_in old)) ≡ caught (run_tick script line time old)
  unbegun_is = ap caught (once_begun_is line old begun_run)

  module _ (begun : World) (is : begun_in old ≡ Did begun) where
    -- it is begun
    pub begun_is : caught (begun_run begun) ≡ caught (run_tick script line time old)
    begun_is = ap caught (sym (answered_did line old begun_run is)) ∙ unbegun_is

    -- its time is set
    pub timed_is : (timed : World) → time_set time begun ≡ Did timed → caught (tick script timed) ≡ caught (run_tick script line time old)
    timed_is timed set = ap caught (sym (answered_did line begun (tick script) set)) ∙ begun_is

-- the parts of a tick --------------------------------------------------------------------------------------------------------------

module _ (script : Script) (time : ℕ) (world : World) (clock : world.clock ≡ time) where
  tick-is : (say (TickLine time ∷ []) world followed_by run_timers script followed_by update_rendering script followed_by run_tasks script) ≡ tick script world
  unfolding tick
  tick-is = ap (λ (now : ℕ). say (TickLine now ∷ []) world followed_by run_timers script followed_by update_rendering script followed_by run_tasks script) (sym clock)

  module _ {before : Option (List ℕ)} {f : ℕ} where
    -- the writing of its line was cut off
    pub tick_unsaid : {B : Type 0} {state : World} (fault : RunFault) {after : Option (List ℕ)} {g : ℕ} → Told {A = Unit {0}} (Err fault) before after f g (TickLine time ∷ [])
        → Runs {A = B} goes_on state (Err fault) before after f g (tick script world)
    tick_unsaid fault wrote =
        run_same tick-is
        (cut_run {flow = λ (_ : Unit {0}). Next} fault (run_tasks script)
        (cut_run {flow = λ (_ : Unit {0}). Next} fault (update_rendering script)
        (cut_saying {flow = λ (_ : Unit {0}). Next} fault (TickLine time ∷ []) world (run_timers script) wrote)))

    module _ {said : Option (List ℕ)} {fs : ℕ} (wrote : Told {A = Unit {0}} (Ok tt) before said f fs (TickLine time ∷ [])) where
      timers-run : {A : Type 0} {state : World} (result : Result A RunFault) {after : Option (List ℕ)} {g : ℕ} → Runs goes_on state result said after fs g (run_timers script world)
          → Runs goes_on state result before after f g (say (TickLine time ∷ []) world followed_by run_timers script)
      timers-run result run = then_run result (run_timers script) refl (say_run (Ok (tt {0})) wrote) run

      -- the timers were cut off
      pub tick_timers_cut : {A B : Type 0} {state : World} (fault : RunFault) {after : Option (List ℕ)} {g : ℕ}
          → Runs {A = A} goes_on state (Err fault) said after fs g (run_timers script world) → Runs {A = B} goes_on state (Err fault) before after f g (tick script world)
      tick_timers_cut {A = A} fault run =
          run_same tick-is
          (cut_run {flow = λ (_ : A). Next} fault (run_tasks script) (cut_run fault (update_rendering script) (timers-run (Err fault) run)))

      module _ {A : Type 0} {value : A} {timed : World} {ran : Option (List ℕ)} {fr : ℕ} (timers : Runs goes_on timed (Ok value) said ran fs fr (run_timers script world)) where
        update-run : {B : Type 0} {state : World} (result : Result B RunFault) {after : Option (List ℕ)} {g : ℕ} → Runs goes_on state result ran after fr g (update_rendering script timed)
            → Runs goes_on state result before after f g (say (TickLine time ∷ []) world followed_by run_timers script followed_by update_rendering script)
        update-run result run = then_run result (update_rendering script) refl (timers-run (Ok value) timers) run

        -- the update was cut off
        pub tick_update_cut : {B C : Type 0} {state : World} (fault : RunFault) {after : Option (List ℕ)} {g : ℕ}
            → Runs {A = B} goes_on state (Err fault) ran after fr g (update_rendering script timed) → Runs {A = C} goes_on state (Err fault) before after f g (tick script world)
        tick_update_cut fault run = run_same tick-is (cut_run fault (run_tasks script) (update-run (Err fault) run))

        -- all were run
        pub tick_run : {B C : Type 0} {shown : B} {updated state : World} (result : Result C RunFault) {mid after : Option (List ℕ)} {fm g : ℕ}
            → Runs goes_on updated (Ok shown) ran mid fr fm (update_rendering script timed) → Runs goes_on state result mid after fm g (run_tasks script updated)
            → Runs goes_on state result before after f g (tick script world)
        tick_run {shown = shown} result update tasks = run_same tick-is (then_run result (run_tasks script) refl (update-run (Ok shown) update) tasks)
