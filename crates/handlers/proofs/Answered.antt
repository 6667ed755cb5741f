-- What is written of a page's calls is what their definitions say.
use Rattle.std.proofs.Common.{◌≡◌, ℕ, List, [], ◌∷◌, Bool, true, false, Option, Some, None, refl, ap, sym, subst, ◌∙◌}
use Rattle.std.specs.Prelude.{Result, Ok, Err}
use Rattle.text_io.specs.declared.kinds.Version.{Version}
use Rattle.text_io.specs.Limits.{limit_number}
use Rattle.text_io.specs.declared.kinds.LimitKind.{LimitKind}
use Rattle.element_tree.specs.declared.node.NodeId.{NodeId}
use Rattle.script_model.specs.TraceLines.{TraceLine, LimitLine}
use Rattle.page_model.specs.Callbacks.{answered, once_begun, said_by}
use Rattle.page_model.specs.Commands.{begun_in, does, holds}
use Rattle.page_model.specs.Operands.{Handlers, Present, present_target}
use Rattle.script_model.specs.Syntax.{Action, Condition}
use Rattle.page_model.specs.Runs as runs
use Rattle.page_model.specs.Runs.{Said, silent, only_if}
use Rattle.page_model.specs.Steps.{Step, Did, Threw, Met, Effect as ModelEffect}
use Rattle.page_model.specs.World.{World}
use Rattle.trace_runs.specs.declared.faults.Flow.{Flow}
use Rattle.trace_runs.specs.declared.faults.Flow.TheVariants.{Next}
use Rattle.trace_runs.specs.declared.faults.RunFault.{RunFault}
use Rattle.trace_runs.specs.declared.faults.RunFault.TheVariants as faults
use Rattle.trace_runs.specs.Flows.{flow_of}
use Rattle.trace_runs.specs.Runs.{Runs}
use Rattle.trace_runs.specs.Writes.{Told}
use Rattle.trace_runs.proofs.Answered.{answered_did, answered_met, threw_run, once_begun_is}
use Rattle.trace_runs.proofs.Lines.{says_none}
use Rattle.trace_runs.proofs.Runs.{run_same, ended_as, only_if_true, only_if_false, say_run, unsaid_run}
use Rattle.page_state.specs.Answers.{Applied, Moved}
use Rattle.page_names.specs.Things.{present_of}
use Rattle.page_state.specs.Things.{present_with}
use Rattle.page_state.specs.declared.answers.PageFault.{PageFault}
use Rattle.page_state.specs.declared.answers.PageFault.TheVariants.{Throw, Limit, Memory}
use Rattle.handlers.specs.Answers.{Refused}

-- what a refused call is of its step, in the world as it was
abbrev pub Failed : {A : Type 0} → PageFault → World → World → Step A → Type 0
Failed (Throw kind) old new step = (step ≡ Threw kind) × (new ≡ old)
Failed (Limit kind) old new step = (step ≡ Met kind) × (new ≡ old)
Failed Memory old new step = Unit {0}

pub moved_failed : (fault : PageFault) (old new : World) (step : Step World) → Moved (Err fault) old new step → Failed fault old new step
moved_failed (Throw kind) old new step moved = moved
moved_failed (Limit kind) old new step moved = moved
moved_failed Memory old new step moved = tt

pub applied_failed : (fault : PageFault) (old new : World) (step : Step ModelEffect) → Applied (Err fault) old new step → Failed fault old new step
applied_failed (Throw kind) old new step applied = applied
applied_failed (Limit kind) old new step applied = applied
applied_failed Memory old new step applied = tt

abbrev limit_said : LimitKind → ℕ → Version → World → Said World
limit_said kind line version state = record { lines = LimitLine kind line (limit_number version kind) ∷ []; flow = runs.Limited; state = state }

pub refused_run : {A : Type 0} {version : Version} (fault : PageFault) (line : ℕ) (result : Result Flow RunFault) (before after : Option (List ℕ)) (f g : ℕ) (old new : World) (step : Step A)
    (next : A → Said World) → version ≡ new.version → Failed fault old new step → Refused version fault line result before after f g
    → Runs flow_of new result before after f g (answered line old next step)
refused_run (Throw kind) line result before after f g old new step next same failed refused = threw_run line old next failed.0 failed.1 (refused new)
refused_run (Limit kind) line result before after f g old new step next same failed refused =
    run_same
    (ap (λ (it : Version). limit_said kind line it new) same
    ∙ ap (λ (state : World). limit_said kind line (state.version) state) failed.1
    ∙ sym (answered_met line old next failed.0))
    (refused new)
refused_run Memory line result before after f g old new step next same failed refused = refused new (answered line old next step)

-- a command that isn't begun
pub unbegun_run : {version : Version} (fault : PageFault) (line : ℕ) (result : Result Flow RunFault) (before after : Option (List ℕ)) (f g : ℕ) (old new : World) (run : World → Said World)
    → version ≡ new.version → Moved (Err fault) old new (begun_in old) → Refused version fault line result before after f g → Runs flow_of new result before after f g (once_begun line old run)
unbegun_run fault line result before after f g old new run same moved refused =
    run_same (once_begun_is line old run) (refused_run fault line result before after f g old new (begun_in old) run same (moved_failed fault old new (begun_in old) moved) refused)

-- one that is begun
pub begun_is : (line : ℕ) (old begun : World) (run : World → Said World) → begun_in old ≡ Did begun → run begun ≡ once_begun line old run
begun_is line old begun run is = sym (answered_did line old run is) ∙ once_begun_is line old run

-- a command that was done, with its lines
pub told_run : (line : ℕ) (old : World) {new : World} {step : Step ModelEffect} {before after : Option (List ℕ)} {f g : ℕ} {lines : List TraceLine} → step ≡ Did (record { world = new; lines = lines })
    → Told {A = Unit {0}} (Ok tt) before after f g lines → Runs flow_of new (Ok Next) before after f g (answered line old said_by step)
told_run line old {new} {lines = lines} is wrote = run_same (sym (answered_did line old said_by is)) (ended_as refl refl (say_run (Ok (tt {0})) {lines = lines} {state = new} wrote))

pub untold_run : (fault : RunFault) (line : ℕ) (old : World) {new : World} {step : Step ModelEffect} {before after : Option (List ℕ)} {f g : ℕ} {lines : List TraceLine}
    → step ≡ Did (record { world = new; lines = lines }) → Told {A = Unit {0}} (Err fault) before after f g lines
    → Runs flow_of new (Err fault) before after f g (answered line old said_by step)
untold_run fault line old {new} {lines = lines} is wrote =
    run_same (sym (answered_did line old said_by is)) (unsaid_run fault {lines = lines} wrote)

-- the target of an entry is that of the entry with whether it is intersecting
pub target_same : (target : Option NodeId) (meets : Option Bool) → present_target (present_of target) ≡ present_target (present_with target meets)
target_same None meets = refl
target_same (Some node) None = refl
target_same (Some node) (Some meets) = refl

-- the line of a limit is left to the top call
pub limit_refused : (version : Version) (fault : PageFault) (kind : LimitKind) (line number : ℕ) (now : Option (List ℕ)) (f : ℕ) → fault ≡ Limit kind → number ≡ limit_number version kind
    → Refused version fault line (Err (faults.Limit kind line number)) now now f f
limit_refused version fault kind line number now f is most =
    subst (λ (it : PageFault). Refused version it line (Err (faults.Limit kind line number)) now now f f) (sym is)
    (λ world. record {
      ended = tt;
      cut_off = record {
        lines = [];
        last = ap (λ (it : ℕ). LimitLine kind line it ∷ []) (sym most);
        written = says_none now;
        unfailed = refl;
        flow_is = refl;
        state_is = refl;
      };
    })

pub same_failed : {A : Type 0} (fault : PageFault) (old new : World) {step other : Step A} → step ≡ other → Failed fault old new step → Failed fault old new other
same_failed fault old new same failed = subst (Failed fault old new) same failed

-- the same for an entry in other words
pub apply_same : {result : Result Flow RunFault} {before after : Option (List ℕ)} {f g : ℕ} {new : World} (line : ℕ) (world : World) (handlers : Handlers) (action : Action) {present other : Present}
    → present ≡ other → Runs flow_of new result before after f g (answered line world said_by (does handlers world present action))
    → Runs flow_of new result before after f g (answered line world said_by (does handlers world other action))
apply_same line world handlers action same run = run_same (ap (λ it. answered line world said_by (does handlers world it action)) same) run

-- a `when` whose condition holds, and one whose condition doesn't
pub held_is : (line : ℕ) (old new : World) (run : World → Said World) (step : Step Bool) → step ≡ Did true → new ≡ old → run new ≡ answered line old (only_if run old) step
held_is line old new run step is same = ap run same ∙ sym (only_if_true run old refl) ∙ sym (answered_did line old (only_if run old) is)

pub unheld_is : (line : ℕ) (old new : World) (run : World → Said World) (step : Step Bool) → step ≡ Did false → new ≡ old → silent new ≡ answered line old (only_if run old) step
unheld_is line old new run step is same = ap silent same ∙ sym (only_if_false run old refl) ∙ sym (answered_did line old (only_if run old) is)

-- what a condition finds for an entry in other words
pub found_same : {found : Step Bool} (world : World) (condition : Condition) {present other : Present} → present ≡ other → holds world present condition ≡ found → holds world other condition ≡ found
found_same world condition same is = ap (λ it. holds world it condition) (sym same) ∙ is
